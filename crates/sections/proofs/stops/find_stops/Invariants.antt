-- `sections::stops::find_stops` meets its contract. The loop's invariant: the stops are those by the states before s. Assumes nothing.
use Rattle.std.proofs.Common.{◌≡◌}
use Rattle.inplace.specs.Sections.{stops_in}
use Rattle.sections.proofs.stops.find_stops.Given as goal

abbrev pub invariant-loop-s : goal.invariant-loop-s
invariant-loop-s l = l.rules ≡ stops_in l.s l.k l.states l.initial.rules
