-- `gatehazel_set` meets its contract: the part that is asked for lies inside the ranges, so its bounds are small. Assumes nothing.
use Rattle.std.proofs.Common.{◌≡◌, sym, arith}
use Rattle.format.specs.Questions.{set_part}
use Rattle.questions.proofs.Signs.{plain1}
use Rattle.capi.proofs.Hand.{small-part}
use Rattle.questions.proofs.Inside.{set-within}
use Rattle.capi.proofs.gatehazel_set.Goals as goal

pub set_part-requires : goal.set_part-requires
set_part-requires c =
    let answered : let a = c.args in c.set_part-found.result ≡ set_part a.sets.now a.set_count a.ranges.now a.range_count a.set = let a = c.args in
    plain1 (set_part a.sets.now a.set_count a.ranges.now a.range_count) c.ranges.set c.set_part-found.ensures in
    let a = c.args in rw (sym answered) at (small-part a.ranges.now (set_part a.sets.now a.set_count a.ranges.now a.range_count a.set) (omega (arith, c.well_formed.1.0.1)) (set-within a.sets.now a.set_count a.ranges.now a.range_count a.set))
