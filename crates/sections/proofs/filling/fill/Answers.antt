-- `sections::filling::fill` meets its contract. The loop's invariant: after i turns the run goes on from here. Assumes nothing.
use Rattle.format.specs.Tables.{width}
use Rattle.laws.specs.Collect.{puts}
use Rattle.inplace.specs.Sections.{row_of}
use Rattle.words.specs.Laws.{handed_on}
use Rattle.sections.specs.Turning.{turned_more, turned_no, turned_all}
use Rattle.sections.proofs.filling.fill.Goals as goal

pub returns-in_err-at : goal.returns-in_err-at
returns-in_err-at g c = λ rooms.
    let a = c.args in
    let l = c.loop-i in
    let t = g.S.Section.fills in
    rw (handed_on c.from_residual.result c.in_err-at.field-0.0 c.from_residual.ensures.1)
    (turned_no (puts (width t) (row_of t)) a.n a.words.now a.table.now a.first l.i l.table l.at l.invariant c.loop-i-test.true c.in_err-at.ensures rooms)

pub loop-i-preserved : goal.loop-i-preserved
loop-i-preserved g c =
    let a = c.args in
    let l = c.loop-i in
    let t = g.S.Section.fills in
    turned_more (puts (width t) (row_of t)) a.n a.words.now a.table.now a.first l.i l.table l.at l.invariant c.loop-i-test.true c.in_ok-at.ensures

pub returns : goal.returns
returns g c =
    let a = c.args in
    let l = c.loop-i in
    let t = g.S.Section.fills in
    turned_all (puts (width t) (row_of t)) a.n a.words.now a.table.now a.first l.i l.table l.at l.invariant c.loop-i-test.false
