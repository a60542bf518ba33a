-- `write_set` meets its contract: after i turns the words of the first i ranges are laid behind the count and 0. Assumes nothing.
use Rattle.std.proofs.Common.{◌<◌, refl, arith}
use Rattle.format.specs.Tables.{range_words}
use Rattle.format.specs.Writing.{range_back}
use Rattle.writing.specs.Laid.{lays_then}
use Rattle.writing.proofs.Rows.{handed, handed_long, turned_none, turned_more, turned_each, back_long}
use Rattle.writing.proofs.set_words.write_set.Goals as goal

pub loop-range-preserved : goal.loop-range-preserved
loop-range-preserved c =
    let i = c.loop-range.range-index in
    let inside : i < c.args.ranges.now.count = omega (arith, handed_long 2 c.args.ranges.now.count c.args.ranges.now.words.now c.counted-range-items.ensures, c.loop-range-test.true) in
    turned_more (λ x. range_words (range_back x)) c.loop-range.invariant inside (handed 2 c.args.ranges.now.count i c.args.ranges.now.words.now c.counted-range-items.ensures inside) c.write_range-next.ensures

pub returns : goal.returns
returns c =
    let r = c.args.ranges.now in
    rw (back_long range_back 2 r.count r.words.now)
    (turned_each range_words range_back (lays_then c.put_number-flag.ensures c.put_number-next.ensures) c.loop-range.invariant
    (omega (arith, handed_long 2 c.args.ranges.now.count c.args.ranges.now.words.now c.counted-range-items.ensures, c.loop-range-test.false)) (omega arith))

pub loop-range-init : goal.loop-range-init
loop-range-init c = turned_none refl
