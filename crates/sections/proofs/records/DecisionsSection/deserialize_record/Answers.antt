-- The `deserialize_record` of `sections::records::Decisions` meets its contract. Assumes nothing.
use Rattle.inplace.specs.Sections.{row_of}
use Rattle.sections.proofs.records.DecisionsSection.deserialize_record.Goals as goal

pub returns : goal.returns
unfolding row_of
returns c = c.deserialize_number.ensures
