-- `marks::marks_fine` meets its contract: the edges before have their marks, and the search is idle. Assumes nothing.
use Rattle.std.proofs.Common.{sym, ◌∙◌, ne_eqb, eqb}
use Rattle.rewriting.specs.All.{all_fails}
use Rattle.wiring.specs.Marks.{mark_in, mark_for}
use Rattle.wiring.proofs.marks.marks_fine.Goals as goal

pub returns-then-number_at-mark : goal.returns-then-number_at-mark
returns-then-number_at-mark c =
    let net = c.args.network.now in
    let l = c.loop-i in
    sym (all_fails (λ i. eqb (mark_in net.edges.now i) (mark_for net.state_count net.edge_count net.rule_count net.states.now net.edges.now c.args.o i)) net.edge_count l.i c.loop-i-test.true (ne_eqb (mark_in net.edges.now l.i) _ (λ e. c.if-number_at-mark.true (c.number_at.ensures ∙ e ∙ sym c.mark_for.ensures.value ∙ sym c.number-mark.ensures))))
