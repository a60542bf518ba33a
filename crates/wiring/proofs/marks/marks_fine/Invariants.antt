-- `marks::marks_fine` meets its contract: the edges before have their marks, and the search is idle. Assumes nothing.
use Rattle.std.proofs.Common.{◌≡◌, true, eqb}
use Rattle.atn.specs.Networks.{IdleIn}
use Rattle.rewriting.specs.Passes.{all}
use Rattle.wiring.specs.Marks.{mark_in, mark_for}
use Rattle.wiring.proofs.marks.marks_fine.Given as goal

abbrev pub invariant-loop-i : goal.invariant-loop-i
invariant-loop-i l = record {
  right : all l.i (λ i. eqb (mark_in l.network.edges.now i) (mark_for l.network.state_count l.network.edge_count l.network.rule_count l.network.states.now l.network.edges.now l.o i)) ≡ true;
  idle : IdleIn l.network l.scratch;
}
