-- The words of a rule are put. Assumes nothing.
use Rattle.std.proofs.Common.{arith, rules}
use Rattle.format.specs.Places.{ru_start}
use Rattle.format.specs.Writing.{cell}
use Rattle.writing.specs.Laid.{lays_more, lays_then}
use Rattle.writing.proofs.Words.{word, number}
use Rattle.writing.proofs.records.RulesRecord3.write.Goals as goal

pub returns : goal.returns
returns c =
    lays_more (omega arith)
    (lays_then (number (cell c.args.row.now ru_start) c.put_size-token.ensures (search rules))
    (word c.put.ensures (search rules)))
