-- `returns::meet_along` meets its contract: what is left of the chain from the present edge gives what was asked from the first. Assumes nothing.
use Rattle.std.proofs.Common.{◌≡◌, ◌-◌}
use Rattle.wiring.specs.Returns.{met_on, met_along}
use Rattle.wiring.proofs.returns.meet_along.Given as goal

abbrev pub invariant-loop : goal.invariant-loop
invariant-loop l =
    met_along l.net.states.count l.net.edges.count l.net.rules.count l.net.states.words.now l.net.edges.words.now l.net.rules.words.now l.o l.s l.from
    ≡ met_on l.net.states.count l.net.edges.count l.net.rules.count l.net.states.words.now l.net.edges.words.now l.net.rules.words.now l.o (l.count - l.counter) l.e l.j
