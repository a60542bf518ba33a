-- `returns::returns_fine` meets its contract: j is behind the return edges of the states before. Assumes nothing.
use Rattle.std.proofs.Common.{◌≡◌}
use Rattle.wiring.specs.Returns.{met_from}
use Rattle.wiring.proofs.returns.returns_fine.Given as goal

abbrev pub invariant-loop-s : goal.invariant-loop-s
invariant-loop-s l = l.j ≡ met_from l.net.states.count l.net.edges.count l.net.rules.count l.net.states.words.now l.net.edges.words.now l.net.rules.words.now l.o l.s
