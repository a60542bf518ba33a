-- `identify_tail_calls` meets its contract: nothing is met at first, the marks follow, and the words that were used are cleared. Assumes nothing.
use Rattle.std.proofs.Common.{rules, ◌∙◌, ◌*◌, length-take-le}
use Rattle.atn.specs.Visits.{part_cleared}
use Rattle.atn.proofs.identify_tail_calls.Goals as goal

-- the search leaves as many words as it was lent
pub returns-clause-scratch_after : goal.returns-clause-scratch_after
returns-clause-scratch_after c =
    part_cleared c.args.scratch.now c.requires.scratch_value (4 * c.args.n) c.requires.linked.1 c.mark_tail_calls.new.scratch c.fill.new.self
    (c.mark_tail_calls.auto.scratch ∙ length-take-le (4 * c.args.n) c.args.scratch.now c.requires.linked.1)
    (search rules)
