-- `put` meets its contract: a store behind the output's end is none. Assumes nothing.
use Rattle.std.proofs.Common.{refl, sym, arith, rules}
use lib.Seq.{set_out}
use Rattle.writing.specs.Laid.{laid}
use Rattle.writing.proofs.putting.put.Goals as goal

pub returns-then-at-out : goal.returns-then-at-out
unfolding laid
returns-then-at-out c = search rules

pub returns-else-at-out : goal.returns-else-at-out
unfolding laid
returns-else-at-out c = record { words = sym (set_out _ _ _ c.if-at-out.false); next = refl; few = omega arith }
