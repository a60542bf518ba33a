-- `contains` meets its contract: its loop takes the steps of `halve`. Assumes nothing.
use Rattle.std.proofs.Common.{◌-◌}
use Rattle.ranges.proofs.Halving.{Halving}
use Rattle.ranges.proofs.contains.Given as goal

abbrev pub invariant-loop-low : goal.invariant-loop-low
invariant-loop-low l = Halving l.ranges l.value l.low l.high

abbrev pub decreases-loop-low : goal.decreases-loop-low
decreases-loop-low l = l.high - l.low
