-- `with_bit` meets its contract: two numbers below 2^31 have a union below it. Assumes nothing.
use Rattle.std.proofs.Common.{sym, ◌∙◌, ◌^◌}
use lib.Bits.{or_lt}
use Rattle.words.specs.Laws.{natural-small}
use Rattle.words.proofs.Signs.{back32}
use Rattle.bits.proofs.with_bit.Goals as goal

pub word_of-requires : goal.word_of-requires
word_of-requires c =
    let a = c.args in
    let f = c.ranges.x.sfits in
    let s = sym (rw (back32 a.x f) at c.index_of.ensures) ∙ c.in-Some.is in
    or_lt 31 c.in-Some.flags a.bit (natural-small a.x c.in-Some.flags (2 ^ 31) s f) c.requires
