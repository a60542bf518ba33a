-- `sections::filling::fill_counted` meets its contract: a count, then so many records. Assumes nothing.
use Rattle.std.specs.Prelude.{Ok}
use Rattle.std.proofs.Common.{ap, ◌∙◌}
use Rattle.format.specs.declared.Counts.{Counts}
use Rattle.inplace.specs.Held.{with, held}
use Rattle.words.specs.Laws.{handed_on}
use Rattle.sections.specs.Tables.{held-counted}
use Rattle.sections.specs.Filling.{section_ok, section-stops, section-uncounted}
use Rattle.sections.proofs.filling.fill_counted.Goals as goal

pub returns-in_err-n : goal.returns-in_err-n
returns-in_err-n g c = λ rooms q.
    let a = c.args in
    let t = g.S.Section.fills in
    rw (handed_on c.from_residual.result c.in_err-n.field-0.0 c.from_residual.ensures.1)
    (section-uncounted t (with a.counts a.table.now) a.words.now rooms a.counts.words (rw c.field.ensures at (c.in_err-n.ensures.says rooms t q)))

pub returns-in_err-end : goal.returns-in_err-end
returns-in_err-end g c = λ rooms q.
    let a = c.args in
    let t = g.S.Section.fills in
    let f = c.from_residual-in_err-end in
    rw (handed_on f.result c.in_err-end.field-0.0 f.ensures.1)
    (section-stops t (with a.counts a.table.now) a.words.now rooms a.counts.words (rw c.field.ensures at (c.in_ok-n.ensures.says rooms t q)) (c.in_err-end.ensures rooms))

pub returns : goal.returns
returns g c = λ rooms q.
    let a = c.args in
    let t = g.S.Section.fills in
    let u = c.fill.new.table in
    ap (λ (k : Counts). held (Ok k) u) c.counted.ensures
    ∙ held-counted t a.counts c.in_ok-n.n c.in_ok-end.end u
    ∙ section_ok t (with a.counts a.table.now) a.words.now rooms a.counts.words (rw c.field.ensures at (c.in_ok-n.ensures.says rooms t q)) (c.in_ok-end.ensures rooms)
