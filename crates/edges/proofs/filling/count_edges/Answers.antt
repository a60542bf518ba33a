-- `edges::filling::count_edges` meets its contract: a count, then so many edges. Assumes nothing.
use Rattle.std.proofs.Common.{rules, sym, ◌∙◌}
use Rattle.format.specs.Reading.{Edges, run}
use Rattle.laws.specs.Running.{ok_then, no_then}
use Rattle.inplace.specs.Links.{edging}
use Rattle.words.specs.Laws.{handed_on}
use Rattle.words.proofs.Signs.{back32}
use Rattle.edges.proofs.filling.count_edges.Goals as goal

pub returns : goal.returns
unfolding run edging
returns c = λ rooms q. rw (back32 c.args.counts.token (search rules))
    (sym (ok_then _ _ _ _ _ (c.in_ok-n.ensures.says rooms Edges q) ∙ ok_then _ _ _ _ _ (c.in_ok-end.ensures rooms)))

pub returns-in_err-end : goal.returns-in_err-end
unfolding edging
returns-in_err-end c =
    let r = c.from_residual-in_err-end in
    λ rooms q. rw (handed_on r.result c.in_err-end.field-0.0 r.ensures.1)
    (sym (ok_then _ _ _ _ _ (c.in_ok-n.ensures.says rooms Edges q) ∙ no_then _ _ _ _ _ (c.in_err-end.ensures rooms)))

pub returns-in_err-n : goal.returns-in_err-n
unfolding edging
returns-in_err-n c = λ rooms q. rw (handed_on c.from_residual.result c.in_err-n.field-0.0 c.from_residual.ensures.1)
    (sym (no_then _ _ _ _ _ (c.in_err-n.ensures.says rooms Edges q)))
