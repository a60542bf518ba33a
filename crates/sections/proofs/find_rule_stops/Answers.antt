-- `sections::find_rule_stops` meets its contract: a refusal is passed on. Assumes nothing.
use Rattle.std.proofs.Common.{refl}
use Rattle.format.specs.Reading.{run}
use Rattle.sections.proofs.find_rule_stops.Goals as goal

pub returns : goal.returns
unfolding run
returns c = λ ws rooms. rw (c.in_ok-counts.was, c.find_stops.ensures) refl
