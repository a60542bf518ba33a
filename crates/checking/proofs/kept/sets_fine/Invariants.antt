-- `kept::sets_fine` meets its contract: the first sets are fine, with `before` ranges in them. Assumes nothing.
use Rattle.checking.specs.Kept.{Counted}
use Rattle.checking.proofs.kept.sets_fine.Given as goal

abbrev pub invariant-loop-row : goal.invariant-loop-row
invariant-loop-row l = Counted l.ranges.count l.ranges.words.now l.sets.count l.sets.words.now l.before l.row-index
