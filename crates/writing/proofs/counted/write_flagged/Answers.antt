-- `write_flagged` meets its contract: after i turns those of the first i states are laid that have the flag. Assumes nothing.
use Rattle.std.proofs.Common.{◌<◌, refl, arith}
use Rattle.writing.specs.Parts.{has_flag}
use Rattle.writing.proofs.Rows.{handed, handed_long, turned_none, turned_on, numbers_more, turned_numbers}
use Rattle.writing.proofs.counted.write_flagged.Goals as goal

pub loop-i-init : goal.loop-i-init
loop-i-init c = turned_none refl

pub loop-i-preserved : goal.loop-i-preserved
loop-i-preserved c =
    let i = c.loop-i.i in
    let inside : i < c.args.states.now.count = omega (arith, handed_long 8 c.args.states.now.count c.args.states.now.words.now c.counted-state-items.ensures, c.loop-i-test.true) in
    turned_on c.loop-i.invariant inside (handed 8 c.args.states.now.count i c.args.states.now.words.now c.counted-state-items.ensures inside) (numbers_more (has_flag c.args.flag) 8 i c.args.states.now.words.now _)
    c.write_if_flagged-next.ensures

pub returns : goal.returns
returns c =
    turned_numbers c.loop-i.invariant (omega (arith, handed_long 8 c.args.states.now.count c.args.states.now.words.now c.counted-state-items.ensures, c.loop-i-test.false)) c.put_number.ensures (omega arith)

pub write_if_flagged-next-requires : goal.write_if_flagged-next-requires
write_if_flagged-next-requires c =
    let s = c.args.states.now in
    let inside : c.loop-i.i < s.count = omega (arith, handed_long 8 s.count s.words.now c.counted-state-items.ensures, c.loop-i-test.true) in
    (c.requires.0, omega (arith, s.few), omega (arith, c.requires.1, s.few, c.loop-i.invariant.lays.next, c.loop-i.invariant.lays.few))
