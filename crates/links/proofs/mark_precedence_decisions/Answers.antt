-- `links::mark_precedence_decisions` meets its contract: what was accepted goes on, a refusal stays. Assumes nothing.
use Rattle.std.proofs.Common.{refl}
use Rattle.format.specs.Reading.{run}
use Rattle.links.proofs.mark_precedence_decisions.Goals as goal

pub returns : goal.returns
unfolding run
returns c = λ ws rooms. rw (c.in_ok-counts.was, c.mark_all.ensures) refl
