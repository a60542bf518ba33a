-- `edges::edge::deserialize_edge` meets its contract: six words, then the type, then the other tests are `edge`. Assumes nothing.
use Rattle.std.proofs.Common.{rules, sym, ◌∙◌}
use Rattle.laws.specs.Running.{ok_then, no_then}
use Rattle.words.specs.Laws.{handed_on}
use Rattle.words.proofs.Signs.{back32}
use Rattle.edges.specs.Edge.{tested}
use Rattle.edges.specs.Laws.{edge_is}
use Rattle.edges.proofs.edge.deserialize_edge.Goals as goal

pub returns-clause-says : goal.returns-clause-says
unfolding tested
returns-clause-says c =
    let a = c.args in
    let kind = rw (back32 c.in_ok-raw.raw.kind (search rules)) at c.in_ok-kind.ensures in
    λ rooms. c.check_edge.ensures.says a.words.now rooms
    ∙ sym (edge_is a.«record» a.counts.now.states a.counts.now.sets a.words.now rooms a.at ∙ ok_then _ _ _ _ _ (c.in_ok-raw.ensures.says rooms) ∙ ok_then _ _ _ _ _ (kind a.words.now rooms))

pub returns-in_err-kind-clause-says : goal.returns-in_err-kind-clause-says
unfolding tested
returns-in_err-kind-clause-says c =
    let a = c.args in
    let r = c.from_residual-in_err-kind in
    let kind = rw (back32 c.in_ok-raw.raw.kind (search rules)) at c.in_err-kind.ensures in
    λ rooms. rw (handed_on r.result c.in_err-kind.field-0.0 r.ensures.1)
    (sym (edge_is a.«record» a.counts.now.states a.counts.now.sets a.words.now rooms a.at ∙ ok_then _ _ _ _ _ (c.in_ok-raw.ensures.says rooms) ∙ no_then _ _ _ _ _ (kind a.words.now rooms)))

pub returns-in_err-raw-clause-says : goal.returns-in_err-raw-clause-says
returns-in_err-raw-clause-says c =
    let a = c.args in
    λ rooms. rw (handed_on c.from_residual.result c.in_err-raw.field-0.0 c.from_residual.ensures.1)
    (sym (edge_is a.«record» a.counts.now.states a.counts.now.sets a.words.now rooms a.at ∙ no_then _ _ _ _ _ (c.in_err-raw.ensures.says rooms)))
