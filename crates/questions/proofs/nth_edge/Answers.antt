-- `nth_edge` meets its contract: each test is one of the definition's, and the chain is left to `walk`. Assumes nothing.
use Rattle.std.proofs.Common.{◌≡◌, refl, ◌∙◌, w32, to_z, of_z}
use Rattle.format.specs.Reading.{States}
use Rattle.format.specs.Links.{names}
use Rattle.format.specs.Questions.{at, nth_edge}
use Rattle.words.proofs.Signs.{back32}
use Rattle.questions.proofs.Signs.{plain1, within, beyond, refused, passed, negative, natural}
use Rattle.questions.proofs.nth_edge.Goals as goal

pub returns-in_err-check : goal.returns-in_err-check
unfolding nth_edge
returns-in_err-check c = let e = beyond c.in_err-check.ensures c.from_residual.ensures.1 in rw (e.0, e.1) refl

pub returns-in_err-check-2 : goal.returns-in_err-check-2
unfolding nth_edge
returns-in_err-check-2 c =
    let e = beyond c.in_err-check-2.ensures c.from_residual-in_err-check-2.ensures.1 in
    rw (e.0, within c.in_ok-check.ensures, e.1) refl

pub returns-then-not-listed : goal.returns-then-not-listed
unfolding nth_edge
returns-then-not-listed c =
    let state = back32 c.args.state c.ranges.state.sfits in
    rw (c.missing.ensures, state, within c.in_ok-check.ensures, within c.in_ok-check-2.ensures, refused (rw state at c.listed.ensures) c.if-not-listed.true) refl

pub returns-in_default : goal.returns-in_default
unfolding nth_edge
returns-in_default c =
    let number = back32 c.args.n c.ranges.n.sfits in
    let listed = passed (plain1 (names c.args.state_count) c.ranges.state c.listed.ensures) c.if-not-listed.false in
    rw (c.missing-in_default.ensures, number, within c.in_ok-check.ensures, within c.in_ok-check-2.ensures, listed, negative c.args.n (rw number at c.in_default.ensures)) refl

pub returns-then-word-n : goal.returns-then-word-n
unfolding nth_edge
returns-then-word-n c =
    let a = c.args in
    let number = back32 a.n c.ranges.n.sfits in
    let listed = passed (plain1 (names a.state_count) c.ranges.state c.listed.ensures) c.if-not-listed.false in
    let count : to_z w32 (of_z w32 c.word.result) ≡ at States a.states.now a.state 7 = back32 c.word.result c.word.type_inv ∙ rw (back32 a.state c.ranges.state.sfits) at c.word.ensures in
    let n = natural a.n (rw number at c.in-Some.ensures) in
    rw (c.missing-then-word-n.ensures, number, within c.in_ok-check.ensures, within c.in_ok-check-2.ensures, listed, n.0, rw (count, number) at c.if-word-n.true) refl

pub returns : goal.returns
unfolding nth_edge
returns c =
    let a = c.args in
    let number = back32 a.n c.ranges.n.sfits in
    let state = back32 a.state c.ranges.state.sfits in
    let listed = passed (plain1 (names a.state_count) c.ranges.state c.listed.ensures) c.if-not-listed.false in
    let count : to_z w32 (of_z w32 c.word.result) ≡ at States a.states.now a.state 7 = back32 c.word.result c.word.type_inv ∙ rw state at c.word.ensures in
    let n = natural a.n (rw number at c.in-Some.ensures) in
    let first = back32 c.word-first.result c.word-first.type_inv ∙ rw state at c.word-first.ensures in
    rw (within c.in_ok-check.ensures, within c.in_ok-check-2.ensures, listed, n.0, rw (count, number) at c.if-word-n.false, n.1) (rw first at c.walk.ensures)
