-- `fill` meets its contract. The loop's invariant: the run goes on from here after i sets, and the ranges kept have room. Assumes nothing.
use Rattle.std.proofs.Common.{◌≡◌, ℕ, ◌-◌, ◌≤◌}
use Rattle.format.specs.Reading.{Table, Ranges, run}
use Rattle.laws.specs.Running.{turns}
use Rattle.inplace.specs.Sets.{set_one}
use Rattle.sets.specs.Answers.{keeping_of}
use Rattle.sets.proofs.fill.Given as goal

abbrev pub invariant-loop-i : goal.invariant-loop-i
invariant-loop-i l = (l.kept ≤ l.room)
    × ((rooms : Table → ℕ) → rooms Ranges ≡ l.room → run (turns l.n 0 set_one (keeping_of l.initial.ranges l.initial.sets 0)) l.words rooms l.first ≡ run (turns (l.n - l.i) l.i set_one (keeping_of l.ranges l.sets l.kept)) l.words rooms l.at)
