-- `write` meets its contract: refusal 15 by the tests, then the words, then refusal 16. Assumes nothing.
use Rattle.std.proofs.Common.{◌≡◌, true, false, subst, sym, ap, ◌∙◌, ℕ, List, [], ℤ, arith, length}
use Rattle.format.specs.Reading.{Table}
use Rattle.format.specs.Tables.{nine}
use Rattle.format.specs.Writing.{Writing, Writes, rows_of, words_of}
use Rattle.words.proofs.Signs.{back32}
use Rattle.rewriting.specs.Written.{writes_by}
use Rattle.checking.proofs.Tested.{failed, passed}
use Rattle.tables.specs.Records.{words_in, counts_in}
use Rattle.wiring.specs.Marked.{own_few}
use Rattle.writing.specs.Whole.{off_recovered, fine-inside}
use Rattle.serializer.specs.Tests.{listed_in, passed_in}
use Rattle.serializer.specs.Exactly.{Passed, has-passed, unlisted, listed_comes, write-refused, write-answers}
use Rattle.serializer.proofs.write.Goals as goal

-- the records that were found to lie in the tables, t and n, are those that are lent
module _ {t : Table → List ℤ} {n : Table → ℕ} {lent : Table → List ℤ} {counts : Table → ℕ} (p : t ≡ lent) (q : n ≡ counts) where
  listed_too : listed_in lent counts ≡ true → listed_in t n ≡ true
  listed_too l = (λ i. listed_in (p i) (q i)) ∙ l

  none-passed : passed_in t n ≡ false → passed_in lent counts ≡ false
  none-passed h = sym (λ i. passed_in (p i) (q i)) ∙ h

  writes_too : {token : ℤ} {m : ℕ} {a : Writing} → Writes t n token m a → Writes lent counts token m a
  writes_too {token} {m} {a} w = subst (λ (x : Table → ℕ). Writes lent x token m a) q (subst (λ (x : Table → List ℤ). Writes x n token m a) p w)

pub returns-in_default : goal.returns-in_default
returns-in_default c =
    let a = c.args in
    let lent : Table → List ℤ = nine a.states.now a.edges.now a.ranges.now a.sets.now a.rules.now a.modes.now a.decisions.now a.actions.now [] in
    let counts : Table → ℕ = nine a.states_count a.edges_count a.ranges_count a.sets_count a.rules_count a.modes_count a.decisions_count a.actions_count 0 in
    writes_by lent counts a.max_token_type (length a.out.now) _
    (write-refused lent counts a.max_token_type (length a.out.now) (unlisted lent counts a.max_token_type c.in_default.ensures) c.unwritable.ensures)

pub returns-then-not-fine : goal.returns-then-not-fine
returns-then-not-fine c =
    let a = c.args in
    let lent : Table → List ℤ = nine a.states.now a.edges.now a.ranges.now a.sets.now a.rules.now a.modes.now a.decisions.now a.actions.now [] in
    let counts : Table → ℕ = nine a.states_count a.edges_count a.ranges_count a.sets_count a.rules_count a.modes_count a.decisions_count a.actions_count 0 in
    let found = c.in-Some.ensures in
    writes_by lent counts a.max_token_type (length a.out.now) _
    (write-refused lent counts a.max_token_type (length a.out.now)
    (sym (listed_comes lent counts a.max_token_type found.0) ∙ none-passed found.1 found.2 (failed c.fine.ensures c.if-not-fine.true))
    c.unwritable-then-not-fine.ensures)

-- what the tests have shown
pub write_words-n-requires-clause-within : goal.write_words-n-requires-clause-within
write_words-n-requires-clause-within c =
    let edges = c.in-Some.records.net.edges in
    omega (arith, c.own_count-own.ensures, own_few edges.count edges.words.now)

pub write_words-n-requires-clause-in_a_row : goal.write_words-n-requires-clause-in_a_row
write_words-n-requires-clause-in_a_row c =
    let token = c.args.max_token_type in
    let found = c.in-Some.ensures in
    let r = c.in-Some.records in
    let written = sym (listed_comes (words_in r) (counts_in r) token (listed_too found.1 found.2 found.0)) ∙ passed c.fine.ensures c.if-not-fine.false in
    let shown : Passed (words_in r) (counts_in r) = has-passed (words_in r) (counts_in r) token written in
    fine-inside r.sets.count r.sets.words.now r.ranges.count r.ranges.words.now shown.sets

pub returns : goal.returns
returns c =
    let a = c.args in
    let token = a.max_token_type in
    let m = length a.out.now in
    let found = c.in-Some.ensures in
    let r = c.in-Some.records in
    let written = sym (listed_comes (words_in r) (counts_in r) token (listed_too found.1 found.2 found.0)) ∙ passed c.fine.ensures c.if-not-fine.false in
    let shown : Passed (words_in r) (counts_in r) = has-passed (words_in r) (counts_in r) token written in
    let first = shown.own ∙ ap (λ (o : ℕ). rows_of 8 o r.net.edges.words.now) (sym c.own_count-own.ensures) in
    let all = ap words_of (off_recovered r.net.states.words.now r.net.edges.words.now r.ranges.words.now r.sets.words.now r.net.rules.words.now r.modes.words.now r.decisions.words.now r.actions.words.now r.net.states.count r.net.edges.count c.own_count-own.result r.ranges.count r.sets.count r.net.rules.count r.modes.count r.decisions.count r.actions.count token first) in
    writes_too found.1 found.2 (writes_by (words_in r) (counts_in r) token m _
    (c.finish.ensures _ _ _ (rw (back32 token c.ranges.max_token_type.sfits) at c.write_words-n.ensures)
    ∙ write-answers (words_in r) (counts_in r) token m written all))
