-- The words of an action are put. Assumes nothing.
use Rattle.std.proofs.Common.{arith, rules}
use Rattle.format.specs.Places.{ac_kind}
use Rattle.format.specs.Writing.{cell}
use Rattle.writing.specs.Laid.{lays_more, lays_then}
use Rattle.writing.proofs.Words.{word, number}
use Rattle.writing.proofs.records.ActionsRecord3.write.Goals as goal

pub returns : goal.returns
returns c =
    lays_more (omega arith)
    (lays_then (number (cell c.args.row.now ac_kind) c.put_size-d1.ensures (search rules))
    (lays_then (word c.put-d2.ensures (search rules))
    (word c.put.ensures (search rules))))
