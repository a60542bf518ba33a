-- `sections::filling::put_record` meets its contract: a record is lent, and put back. Assumes nothing.
use Rattle.std.proofs.Common.{sym, ap, ◌∙◌, ◌+◌, ◌*◌, arith}
use borrow.Rule.Slice.PartMut.{Post-is}
use Rattle.format.specs.Reading.{ok, done, run}
use Rattle.format.specs.Tables.{width}
use Rattle.laws.specs.Running.{after, run_bind}
use Rattle.laws.specs.Collect.{put}
use Rattle.inplace.specs.Sections.{row_of}
use Rattle.sections.specs.Through.{told_map}
use Rattle.sections.proofs.filling.put_record.Goals as goal

pub returns : goal.returns
unfolding run
returns g c = λ rooms.
    let a = c.args in
    let t = g.S.Section.fills in
    let w = width t in
    let p = row_of t a.i in
    rw (c.width-width.ensures, Post-is (w * a.i) (w * a.i + w) a.table.now (omega arith))
    (told_map c.deserialize_record.result c.deserialize_record.new.part (λ r. put w a.i r a.table.now)
    ∙ ap (λ o. after o (λ r n. ok (put w a.i r a.table.now) n)) (c.deserialize_record.ensures rooms)
    ∙ sym (run_bind p (λ r. done (put w a.i r a.table.now)) a.words.now rooms a.at))
