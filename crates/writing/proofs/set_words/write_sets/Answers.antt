-- `write_sets` meets its contract: after i turns the words of the first i sets are laid behind the count. Assumes nothing.
use Rattle.std.proofs.Common.{◌≡◌, ap, ◌<◌, List, ℕ, ◌+◌, ◌-◌, ◌*◌, ◌≤◌, arith, ℤ, length, take, drop, length-drop, take_all}
use Rattle.writing.proofs.Rows.{handed, handed_long}
use Rattle.writing.proofs.Cuts.{cut-none, cut-room, cut-more, cut_all}
use Rattle.writing.proofs.set_words.write_sets.Goals as goal

-- the part of the ranges from a place on
rest : (l : List ℤ) (k : ℕ) → take (length l - k) (drop k l) ≡ drop k l
rest l k = take_all (length l - k) (drop k l) (omega (arith, length-drop k l))

pub invariant_of-own : goal.invariant_of-own
invariant_of-own c =
    let r = c.args.ranges.now in
    let k = 2 * c.loop-set.first in
    let i = c.loop-set.set-index in
    let inside : i < c.args.sets.now.count = omega (arith, handed_long 2 c.args.sets.now.count c.args.sets.now.words.now c.counted-set-items.ensures, c.loop-set-test.true) in
    let room : c.loop-set.first + c.size_at-count.result ≤ r.count =
    cut-room c.loop-set.invariant inside c.requires.0 (handed 2 c.args.sets.now.count i c.args.sets.now.words.now c.counted-set-items.ensures inside) c.size_at-count.ensures.0 in
    record { lie = omega (arith, ap length (rest r.words.now k), length-drop k r.words.now, r.lie); few = omega (arith, r.few) }

pub loop-set-preserved : goal.loop-set-preserved
loop-set-preserved c =
    let i = c.loop-set.set-index in
    let inside : i < c.args.sets.now.count = omega (arith, handed_long 2 c.args.sets.now.count c.args.sets.now.words.now c.counted-set-items.ensures, c.loop-set-test.true) in
    cut-more c.loop-set.invariant inside c.requires.0 (handed 2 c.args.sets.now.count i c.args.sets.now.words.now c.counted-set-items.ensures inside) c.size_at-count.ensures.0
    (rest c.args.ranges.now.words.now (2 * c.loop-set.first)) c.write_set-next.ensures

pub returns : goal.returns
returns c =
    cut_all c.put_number-next.ensures c.loop-set.invariant (omega (arith, handed_long 2 c.args.sets.now.count c.args.sets.now.words.now c.counted-set-items.ensures, c.loop-set-test.false)) (omega arith)

pub loop-set-init : goal.loop-set-init
loop-set-init c = cut-none
