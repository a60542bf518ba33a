-- The `deserialize_record` of `sections::records::Modes` meets its contract. Assumes nothing.
use Rattle.inplace.specs.Sections.{row_of}
use Rattle.sections.proofs.records.ModesSection.deserialize_record.Goals as goal

pub returns : goal.returns
unfolding row_of
returns c = c.deserialize_number.ensures
