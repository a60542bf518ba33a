-- The `deserialize_record` of `sections::records::States` meets its contract: a record is read, and stored. Assumes nothing.
use Rattle.std.proofs.Common.{rules, ◌≡◌}
use Rattle.inplace.specs.Sections.{row_of}
use Rattle.words.specs.Laws.{handed_on}
use Rattle.sections.proofs.records.StatesSection.deserialize_record.Goals as goal

pub returns-in_err-row : goal.returns-in_err-row
unfolding row_of
returns-in_err-row c = λ rooms. rw (handed_on c.from_residual.result c.in_err-row.field-0.0 c.from_residual.ensures.1) (c.in_err-row.ensures rooms)

pub returns : goal.returns
unfolding row_of
returns c = λ rooms.
    let e : c.copy_from_slice.new.self ≡ c.in_ok-row.row = search rules in
    rw e (c.in_ok-row.ensures rooms)
