-- `mark_tail_calls` meets its contract: its loop is the fold that `marked` is, between searches. Assumes nothing.
use Rattle.std.proofs.Common.{◌≡◌, length}
use Rattle.atn.specs.Records.{states_of, edges_of}
use Rattle.atn.specs.Search.{Idle}
use Rattle.atn.specs.Marks.{Marking}
use Rattle.atn.proofs.mark_tail_calls.Given as goal

abbrev pub invariant-loop-e : goal.invariant-loop-e
invariant-loop-e l = Marking l.n l.m l.k l.states l.initial.edges l.edges l.e × Idle (states_of l.n l.states) l.k (edges_of l.m l.initial.edges) l.scratch × (length l.scratch ≡ length l.initial.scratch)
