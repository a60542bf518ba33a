use Rattle.std.proofs.Common.{◌≡◌, ℕ, ◌+◌, ◌-◌}
use Rattle.format.specs.Reading.{Table, run}
use Rattle.laws.specs.Running.{turns}
use Rattle.sets.specs.Merging.{gather_one}
use Rattle.sets.proofs.merging.gather.Given as goal

abbrev pub invariant-loop-i : goal.invariant-loop-i
invariant-loop-i l = (rooms : Table → ℕ) → run (turns l.n l.first (gather_one l.record) l.initial.part) l.words rooms l.start ≡ run (turns (l.n + l.first - l.i) l.i (gather_one l.record) l.part) l.words rooms l.at
