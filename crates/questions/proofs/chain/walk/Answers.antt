-- `chain::walk` meets its contract: what is left to walk from the present edge gives what was asked from the first. Assumes nothing.
use Rattle.std.specs.Prelude.{Err}
use Rattle.std.proofs.Common.{◌≡◌, ap, sym, ◌∙◌, ◌+◌, ◌-◌, arith, w32, to_z}
use Rattle.format.specs.Questions.{walk}
use Rattle.words.proofs.Signs.{back32}
use Rattle.questions.proofs.Signs.{refused, passed}
use Rattle.questions.proofs.Walking.{walk_on, walk_off, walk_end}
use Rattle.questions.proofs.chain.walk.Goals as goal

pub returns-then-not-listed : goal.returns-then-not-listed
returns-then-not-listed c =
    let a = c.args in
    let l = c.loop in
    ap Err c.contradiction.ensures ∙ sym ((rw (back32 a.first c.ranges.first.sfits) at l.invariant) ∙ walk_off a.edges.now a.edge_count (a.steps - l.counter) (to_z w32 l.edge-bits) (refused c.listed.ensures c.if-not-listed.true))

pub loop-preserved : goal.loop-preserved
loop-preserved c =
    let a = c.args in
    let l = c.loop in
    let w = c.word-edge in
    let e : a.steps - l.counter - 1 ≡ a.steps - (l.counter + 1) = omega arith in
    l.invariant ∙ walk_on a.edges.now a.edge_count (a.steps - l.counter) (to_z w32 l.edge-bits) (omega arith) (passed c.listed.ensures c.if-not-listed.false)
    ∙ (λ i. walk a.edges.now a.edge_count (e i) (sym (back32 w.result w.type_inv ∙ w.ensures) i))

pub returns-then-not-listed-2 : goal.returns-then-not-listed-2
returns-then-not-listed-2 c =
    let a = c.args in
    let l = c.loop in
    ap Err c.contradiction-then-not-listed-2.ensures ∙ sym ((rw (back32 a.first c.ranges.first.sfits) at l.invariant) ∙ walk_off a.edges.now a.edge_count (a.steps - l.counter) (to_z w32 l.edge-bits) (refused c.listed-2.ensures c.if-not-listed-2.true))

pub returns : goal.returns
returns c =
    let a = c.args in
    let l = c.loop in
    sym ((rw (back32 a.first c.ranges.first.sfits) at l.invariant) ∙ walk_end a.edges.now a.edge_count (a.steps - l.counter) (to_z w32 l.edge-bits) (omega arith) (passed c.listed-2.ensures c.if-not-listed-2.false))
