-- `chains::climbs` meets its contract: what is left of the chain from the present edge gives what was asked from the first. Assumes nothing.
use Rattle.std.proofs.Common.{◌≡◌, ◌-◌}
use Rattle.format.specs.Sections.{none}
use Rattle.rewriting.specs.Climbs.{climbs}
use Rattle.wiring.specs.Chains.{source_in, next_in}
use Rattle.wiring.proofs.chains.climbs.Given as goal

abbrev pub invariant-loop : goal.invariant-loop
invariant-loop l = climbs l.net.edges.count (source_in l.net.edges.words.now) (next_in l.net.edges.words.now) l.s l.last l.count 0 l.first none ≡ climbs l.net.edges.count (source_in l.net.edges.words.now) (next_in l.net.edges.words.now) l.s l.last (l.count - l.counter) l.low l.next l.before
