-- `sections::flags::flag_all` meets its contract. The loop's invariant: after i turns the run goes on from here. Assumes nothing.
use Rattle.inplace.specs.Sections.{flag_one}
use Rattle.words.specs.Laws.{handed_on}
use Rattle.sections.specs.Turning.{turned_more, turned_no, turned_all}
use Rattle.sections.proofs.flags.flag_all.Goals as goal

pub returns-in_err-at : goal.returns-in_err-at
returns-in_err-at c = λ rooms.
    let a = c.args in
    let l = c.loop-i in
    rw (handed_on c.from_residual.result c.in_err-at.field-0.0 c.from_residual.ensures.1)
    (turned_no (flag_one a.bit a.n a.field) a.k a.words.now a.states.now a.first l.i l.states l.at l.invariant c.loop-i-test.true c.in_err-at.ensures rooms)

pub loop-i-preserved : goal.loop-i-preserved
loop-i-preserved c =
    let a = c.args in
    let l = c.loop-i in
    turned_more (flag_one a.bit a.n a.field) a.k a.words.now a.states.now a.first l.i l.states l.at l.invariant c.loop-i-test.true c.in_ok-at.ensures

pub returns : goal.returns
returns c =
    let a = c.args in
    let l = c.loop-i in
    turned_all (flag_one a.bit a.n a.field) a.k a.words.now a.states.now a.first l.i l.states l.at l.invariant c.loop-i-test.false
