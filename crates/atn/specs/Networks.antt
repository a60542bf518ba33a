-- The states and the edges of a network that is lent, and scratch words between two searches of it.
use Rattle.std.specs.Prelude.{List, ℤ}
use Rattle.format.specs.Sections.{State, Edge}
use Rattle.atn.specs.Records.{states_of, edges_of}
use Rattle.atn.specs.Search.{Idle}
use Rattle.atn.specs.declared.network.Network.{Network}

abbrev pub states_in : Network → List State
states_in w = states_of w.state_count w.states.now

abbrev pub edges_in : Network → List Edge
edges_in w = edges_of w.edge_count w.edges.now

-- Nothing is on the stack, and what was met is known.
abbrev pub IdleIn : Network → List ℤ → Type 0
IdleIn w scratch = Idle (states_in w) w.rule_count (edges_in w) scratch
