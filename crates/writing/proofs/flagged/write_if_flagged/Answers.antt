-- `write_if_flagged` meets its contract. Assumes nothing.
use Rattle.std.proofs.Common.{sym, ◌∙◌, arith}
use Rattle.writing.specs.Laid.{lays_none, lays_more}
use Rattle.writing.proofs.flagged.write_if_flagged.Goals as goal

pub returns : goal.returns
returns c = rw (sym c.flagged.ensures ∙ c.if-flagged.false) (lays_more (omega arith) lays_none)
