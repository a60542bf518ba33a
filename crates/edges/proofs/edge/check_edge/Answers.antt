-- `edges::edge::check_edge` meets its contract: as `checked` goes, test by test. Assumes nothing.
use Rattle.std.proofs.Common.{rules, ◌≡◌, sym, ◌∙◌, []}
use Rattle.format.specs.Reading.{run, spot}
use Rattle.laws.specs.Running.{ok_then, no_then}
use Rattle.words.specs.Laws.{handed_on}
use Rattle.words.proofs.Signs.{back32}
use Rattle.edges.specs.Edge.{checked}
use Rattle.edges.specs.Laws.{listed_same}
use Rattle.edges.proofs.edge.check_edge.Goals as goal

pub returns-in_err-then-clause-says : goal.returns-in_err-then-clause-says
unfolding checked
returns-in_err-then-clause-says c =
    let ta = rw (back32 c.args.raw.a (search rules)) at c.in_err-then.ensures in
    λ ws rooms. rw (handed_on c.from_residual.result c.in_err-then.field-0.0 c.from_residual.ensures.1)
    (sym (no_then _ _ _ _ _ (ta ws rooms)))

pub returns-in_err-last-clause-says : goal.returns-in_err-last-clause-says
unfolding checked
returns-in_err-last-clause-says c =
    let e = c.args.raw in
    let r = c.from_residual-in_err-last in
    let ta = rw (back32 e.a (search rules)) at c.in_ok-then.ensures in
    let tb = rw (back32 e.b (search rules)) at c.in_err-last.ensures in
    λ ws rooms. rw (handed_on r.result c.in_err-last.field-0.0 r.ensures.1)
    (sym (ok_then _ _ _ _ _ (ta ws rooms) ∙ no_then _ _ _ _ _ (tb ws rooms)))

pub returns-in_err-end-clause-says : goal.returns-in_err-end-clause-says
unfolding checked
returns-in_err-end-clause-says c =
    let e = c.args.raw in
    let r = c.from_residual-in_err-end in
    let ta = rw (back32 e.a (search rules)) at c.in_ok-then.ensures in
    let tb = rw (back32 e.b (search rules)) at c.in_ok-last.ensures in
    λ ws rooms. rw (handed_on r.result c.in_err-end.field-0.0 r.ensures.1)
    (sym (ok_then _ _ _ _ _ (ta ws rooms) ∙ ok_then _ _ _ _ _ (tb ws rooms) ∙ no_then _ _ _ _ _ (c.in_err-end.ensures.says ws rooms)))

pub returns-clause-says : goal.returns-clause-says
unfolding run checked
returns-clause-says c =
    let e = c.args.raw in
    let ta = rw (back32 e.a (search rules)) at c.in_ok-then.ensures in
    let tb = rw (back32 e.b (search rules)) at c.in_ok-last.ensures in
    λ ws rooms. sym (ok_then _ _ _ _ _ (ta ws rooms) ∙ ok_then _ _ _ _ _ (tb ws rooms) ∙ ok_then _ _ _ _ _ (c.in_ok-end.ensures.says ws rooms))

pub returns-clause-bounded : goal.returns-clause-bounded
returns-clause-bounded c =
    let a = c.args in
    let l = c.in_ok-end in
    let same : l.field-0-0 ≡ a.raw.source = listed_same 10 a.counts.now.states (spot 24 a.«record») a.place a.raw.source [] (λ t. 0) c.in_ok-last.last (l.ensures.says [] (λ t. 0)) in
    (rw same at l.ensures.bounded, c.requires.0, c.requires.1)
