-- `set_part` meets its contract: each test is one of the definition's, and a listed set is left to `part`. Assumes nothing.
use Rattle.std.proofs.Common.{refl, ◌∙◌}
use Rattle.format.specs.Links.{names}
use Rattle.format.specs.Questions.{set_part}
use Rattle.words.proofs.Signs.{back32}
use Rattle.questions.proofs.Signs.{plain1, within, beyond, refused, passed}
use Rattle.questions.proofs.set_part.Goals as goal

pub returns-in_err-check : goal.returns-in_err-check
unfolding set_part
returns-in_err-check c = let e = beyond c.in_err-check.ensures c.from_residual.ensures.1 in rw (e.0, e.1) refl

pub returns-in_err-check-2 : goal.returns-in_err-check-2
unfolding set_part
returns-in_err-check-2 c =
    let e = beyond c.in_err-check-2.ensures c.from_residual-in_err-check-2.ensures.1 in
    rw (e.0, within c.in_ok-check.ensures, e.1) refl

pub returns-then-not-listed : goal.returns-then-not-listed
unfolding set_part
returns-then-not-listed c =
    let e = back32 c.args.set c.ranges.set.sfits in
    rw (c.missing.ensures, e, within c.in_ok-check.ensures, within c.in_ok-check-2.ensures, refused (rw e at c.listed.ensures) c.if-not-listed.true) refl

pub returns : goal.returns
unfolding set_part
returns c =
    let e = back32 c.args.set c.ranges.set.sfits in
    let listed = passed (plain1 (names c.args.set_count) c.ranges.set c.listed.ensures) c.if-not-listed.false in
    let v = c.word-first in
    let w = c.word-count in
    let first = back32 v.result v.type_inv ∙ rw e at v.ensures in
    let count = back32 w.result w.type_inv ∙ rw e at w.ensures in
    rw (within c.in_ok-check.ensures, within c.in_ok-check-2.ensures, listed) (rw (first, count) at c.part.ensures)
