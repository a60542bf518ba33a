-- `matches` meets its contract: each test is one of the definition's, and a listed edge is left to `meets`. Assumes nothing.
use Rattle.std.proofs.Common.{refl, ◌∙◌}
use Rattle.format.specs.Links.{names}
use Rattle.format.specs.Questions.{matches}
use Rattle.words.proofs.Signs.{back32}
use Rattle.questions.specs.Parts.{meets}
use Rattle.questions.proofs.Signs.{plain1, within, beyond, refused, passed}
use Rattle.questions.proofs.matches.Goals as goal

pub returns-in_err-check : goal.returns-in_err-check
unfolding matches
returns-in_err-check c = let e = beyond c.in_err-check.ensures c.from_residual.ensures.1 in rw (e.0, e.1) refl

pub returns-in_err-check-2 : goal.returns-in_err-check-2
unfolding matches
returns-in_err-check-2 c =
    let e = beyond c.in_err-check-2.ensures c.from_residual-in_err-check-2.ensures.1 in
    rw (e.0, within c.in_ok-check.ensures, e.1) refl

pub returns-in_err-check-3 : goal.returns-in_err-check-3
unfolding matches
returns-in_err-check-3 c =
    let e = beyond c.in_err-check-3.ensures c.from_residual-in_err-check-3.ensures.1 in
    rw (e.0, within c.in_ok-check.ensures, within c.in_ok-check-2.ensures, e.1) refl

pub returns-then-not-listed : goal.returns-then-not-listed
unfolding matches
returns-then-not-listed c =
    rw (c.missing.ensures, back32 c.args.edge c.ranges.edge.sfits, within c.in_ok-check.ensures, within c.in_ok-check-2.ensures, within c.in_ok-check-3.ensures, refused (plain1 (names c.args.edge_count) c.ranges.edge c.listed.ensures) c.if-not-listed.true) refl

pub returns : goal.returns
unfolding matches meets
returns c =
    let listed = passed (plain1 (names c.args.edge_count) c.ranges.edge c.listed.ensures) c.if-not-listed.false in
    let u = c.word-kind in
    let v = c.word-p in
    let w = c.word-q in
    let edge = back32 c.args.edge c.ranges.edge.sfits in
    let kind = back32 u.result u.type_inv ∙ rw edge at u.ensures in
    let p = back32 v.result v.type_inv ∙ rw edge at v.ensures in
    let q = back32 w.result w.type_inv ∙ rw edge at w.ensures in
    rw (within c.in_ok-check.ensures, within c.in_ok-check-2.ensures, within c.in_ok-check-3.ensures, listed)
    (rw (kind, p, q, back32 c.args.symbol c.ranges.symbol.sfits, back32 c.args.min c.ranges.min.sfits, back32 c.args.max c.ranges.max.sfits) at c.meets.ensures)
