-- `joining::join` meets its contract: its loop takes the turns of `join_on`. Assumes nothing.
use Rattle.format.specs.Sets.{range}
use Rattle.ranges.proofs.Sweep.{Going}
use Rattle.ranges.proofs.joining.join.Given as goal

abbrev pub invariant-loop-i : goal.invariant-loop-i
invariant-loop-i l = Going l.initial.part l.part l.n (range l.last.low l.last.high) l.rising l.out l.i
