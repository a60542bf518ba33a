-- `fill_counted` meets its contract. Assumes nothing.
use Rattle.std.proofs.Common.{rules, sym, ◌∙◌}
use Rattle.format.specs.Reading.{Sets, run}
use Rattle.laws.specs.Running.{ok_then, no_then}
use Rattle.inplace.specs.Sets.{setting}
use Rattle.words.specs.Laws.{handed_on}
use Rattle.words.proofs.Signs.{back32}
use Rattle.sets.proofs.fill_counted.Goals as goal

pub returns : goal.returns
unfolding run setting
returns c = λ rooms p q. rw (back32 c.args.counts.token (search rules))
    (sym (ok_then _ _ _ _ _ (c.in_ok-n.ensures.says rooms Sets q) ∙ ok_then _ _ _ _ _ (c.in_ok-kept.ensures rooms p)))

pub returns-in_err-kept : goal.returns-in_err-kept
unfolding setting
returns-in_err-kept c =
    let r = c.from_residual-in_err-kept in
    λ rooms p q. rw (handed_on r.result c.in_err-kept.field-0.0 r.ensures.1)
    (sym (ok_then _ _ _ _ _ (c.in_ok-n.ensures.says rooms Sets q) ∙ no_then _ _ _ _ _ (c.in_err-kept.ensures rooms p)))

pub returns-in_err-n : goal.returns-in_err-n
unfolding setting
returns-in_err-n c = λ rooms p q. rw (handed_on c.from_residual.result c.in_err-n.field-0.0 c.from_residual.ensures.1)
    (sym (no_then _ _ _ _ _ (c.in_err-n.ensures.says rooms Sets q)))
