-- `write_plain` meets its contract. Assumes nothing.
use Rattle.std.proofs.Common.{rules}
use Rattle.format.specs.Places.{ed_kind, ed_source, ed_target}
use Rattle.format.specs.Writing.{cell}
use Rattle.writing.specs.Laid.{lays_then}
use Rattle.writing.proofs.Words.{word, number}
use Rattle.writing.proofs.records.write_plain.Goals as goal

pub returns : goal.returns
returns c =
    lays_then (number (cell c.args.row.now ed_source) c.put_size-target.ensures (search rules))
    (lays_then (number (cell c.args.row.now ed_target) c.put_size-kind.ensures (search rules))
    (lays_then (number (cell c.args.row.now ed_kind) c.put_size-p.ensures (search rules))
    (lays_then (word c.put-q.ensures (search rules))
    (lays_then (word c.put-r.ensures (search rules))
    (word c.put.ensures (search rules))))))
