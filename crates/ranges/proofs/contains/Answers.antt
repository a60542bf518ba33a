-- `contains` meets its contract: its loop takes the steps of `halve`. Assumes nothing.
use Rattle.std.proofs.Common.{rules, sym, ◌∙◌, ◌-◌, ◌+◌, ◌*◌, ◌/◌, arith, pos, get_or, w32, to_z, of_z}
use mir.ValLaws.{to_z-of_z}
use Rattle.laws.specs.Order.{le_z_key}
use Rattle.ranges.proofs.Halving.{halving, turn_up, turn_down, met-none, met_some, tested}
use Rattle.ranges.proofs.contains.Goals as goal

pub loop-low-init : goal.loop-low-init
loop-low-init c = halving c.args.ranges.now (to_z w32 (of_z w32 c.args.value))

pub loop-low-preserved-then-ranges-middle : goal.loop-low-preserved-then-ranges-middle
loop-low-preserved-then-ranges-middle c = turn_up c.loop-low.invariant c.loop-low-test.true (tested (get_or c.args.ranges.now (2 * (c.loop-low.low + (c.loop-low.high - c.loop-low.low) / 2)) (pos 0)) c.args.value (search rules) c.ranges.value c.if-ranges-middle.true)

pub loop-low-preserved : goal.loop-low-preserved
loop-low-preserved c = turn_down c.loop-low.invariant c.loop-low-test.true (tested (get_or c.args.ranges.now (2 * (c.loop-low.low + (c.loop-low.high - c.loop-low.low) / 2)) (pos 0)) c.args.value (search rules) c.ranges.value c.if-ranges-middle.false)

pub returns-then-low-eq0 : goal.returns-then-low-eq0
returns-then-low-eq0 c =
    rw (to_z-of_z w32 c.args.value c.ranges.value) at (sym (met-none c.loop-low.invariant c.loop-low-test.false (omega arith)))

pub returns : goal.returns
returns c =
    let stop = get_or c.args.ranges.now (2 * (c.loop-low.low - 1) + 1) (pos 0) in
    let e = rw (to_z-of_z w32 c.args.value c.ranges.value) at (met_some c.loop-low.invariant c.loop-low-test.false (omega arith)) in
    rw (to_z-of_z w32 c.args.value c.ranges.value, to_z-of_z w32 stop (search rules)) (le_z_key c.args.value stop c.ranges.value (search rules) ∙ sym e)
