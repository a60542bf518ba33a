-- `fill` meets its contract. The loop's invariant: the run goes on from here after i sets, and the ranges kept have room. Assumes nothing.
use Rattle.std.proofs.Common.{sym, ◌∙◌, arith}
use Rattle.laws.specs.Running.{turn_ok, turn_no, turns-over}
use Rattle.inplace.specs.Sets.{set_one}
use Rattle.words.specs.Laws.{handed_on}
use Rattle.sets.specs.Answers.{keeping_of}
use Rattle.sets.proofs.fill.Goals as goal

pub returns-in_err-kept : goal.returns-in_err-kept
returns-in_err-kept c =
    let a = c.args in
    let l = c.loop-i in
    λ rooms q. rw (handed_on c.from_residual.result c.in_err-kept.field-0.0 c.from_residual.ensures.1)
    (sym (l.invariant.1 rooms q ∙ turn_no set_one a.words.now rooms a.n l.i (keeping_of l.ranges l.sets l.kept) l.at c.loop-i-test.true (c.in_err-kept.ensures.says rooms q)))

pub loop-i-preserved : goal.loop-i-preserved
loop-i-preserved c =
    let a = c.args in
    let l = c.loop-i in (
      omega (arith, c.in_ok-kept.ensures.bounded),
      λ rooms q. l.invariant.1 rooms q ∙ turn_ok set_one a.words.now rooms a.n l.i (keeping_of l.ranges l.sets l.kept) l.at c.loop-i-test.true (c.in_ok-kept.ensures.says rooms q),
    )

pub returns : goal.returns
returns c =
    let a = c.args in
    let l = c.loop-i in
    λ rooms q. sym (l.invariant.1 rooms q ∙ turns-over set_one a.words.now rooms a.n l.i (keeping_of l.ranges l.sets l.kept) l.at c.loop-i-test.false)
