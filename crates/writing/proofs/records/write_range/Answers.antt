-- `write_range` meets its contract. Assumes nothing.
use Rattle.std.proofs.Common.{rules}
use Rattle.writing.specs.Laid.{lays_then}
use Rattle.writing.proofs.Words.{word}
use Rattle.writing.proofs.records.write_range.Goals as goal

pub returns : goal.returns
returns c =
    lays_then (word c.put-stop.ensures (search rules))
    (word c.put.ensures (search rules))
