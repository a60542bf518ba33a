use Rattle.std.proofs.Common.{◌≡◌, ℕ, ◌-◌}
use Rattle.format.specs.Reading.{Table, run}
use Rattle.laws.specs.Running.{turns}
use Rattle.inplace.specs.Links.{net, edge_one}
use Rattle.edges.proofs.filling.fill_edges.Given as goal

abbrev pub invariant-loop-i : goal.invariant-loop-i
invariant-loop-i l = (rooms : Table → ℕ) → run (turns l.n 0 (edge_one l.counts.states l.counts.sets) (net l.initial.states l.initial.edges)) l.words rooms l.first ≡ run (turns (l.n - l.i) l.i (edge_one l.counts.states l.counts.sets) (net l.states l.edges)) l.words rooms l.at
