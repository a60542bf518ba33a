-- `compare::holds_words` meets its contract: the words at each place are tested. Assumes nothing.
use Rattle.std.proofs.Common.{◌≡◌, refl, sym, ap, ◌∙◌, subst, zero-add, ℕ, suc, ◌<◌, arith, rules, tests, List, Bool, true, false, ◌&&◌, ℤ, pos, negsuc, nat_abs, length, le-leb, Decides, MatchBool}
use Rattle.std.specs.List.{AllWithin, HoldsAt, range_with_len}
use Rattle.std.proofs.lemmas.Bool.{false≢true}
use Rattle.std.proofs.lemmas.Bool.Decides.{same_from_decides, Decides-below_and, Decides-eqb, Decides-like}
use Rattle.std.proofs.lemmas.Iterator.{cases_from_all, YieldsList-from_range}
use Rattle.std.proofs.lemmas.List.FromFn.{length-range_with_len, get_or-range_with_len}
use Rattle.format.specs.Sections.{same}
use Rattle.replay.specs.Compare.{word_at, agree}
use Rattle.replay.proofs.compare.holds_words.Goals as goal

decides : (a b : ℤ) → Decides (same a b) (a ≡ b)
decides (pos a) (pos b) = Decides-like (same (pos a) (pos b)) (λ e. ap pos e) (λ e. ap nat_abs e) (Decides-eqb a b)
decides (pos a) (negsuc b) = (λ h. absurd (false≢true h), λ e. absurd (let f : ◌≡◌ {A = ℕ} 0 1 = cc in omega arith))
decides (negsuc a) (pos b) = (λ h. absurd (false≢true h), λ e. absurd (let f : ◌≡◌ {A = ℕ} 0 1 = cc in omega arith))
decides (negsuc a) (negsuc b) =
    Decides-like (same (negsuc a) (negsuc b)) (λ e. ap negsuc e) (λ e. let f : suc a ≡ suc b = ap nat_abs e in omega arith) (Decides-eqb a b)

-- what the definition decides
decides_agree : (n : ℕ) (t e : List ℤ) → Decides (agree n t e) ((k : ℕ) → k < n → word_at t k ≡ word_at e k)
unfolding agree
decides_agree n t e =
    Decides-below_and (λ k. same (word_at t k) (word_at e k)) (λ k. word_at t k ≡ word_at e k) (λ k. agree k t e) (λ k. decides (word_at t k) (word_at e k)) refl (λ k. refl) n

-- what a test of each place decides
decides_all : (r : Bool) (n : ℕ) (P : ℕ → Type 0) → MatchBool r (AllWithin P (range_with_len 0 n) 0 (length (range_with_len 0 n))) ((k : ℕ) × (k < length (range_with_len 0 n)) × HoldsAt (λ i. P i → ⊥) (range_with_len 0 n) k) → Decides r ((k : ℕ) → k < n → P k)
decides_all true n P h =
    (λ _ k below. subst P (get_or-range_with_len 0 n k 0 below ∙ zero-add k) (h k 0 (omega arith) (omega (arith, length-range_with_len 0 n))), λ _. refl)
decides_all false n P h =
    let below : h.0 < n = omega (arith, length-range_with_len 0 n, h.1) in
    (λ e. absurd (false≢true e), λ all. absurd (h.2 0 (subst P (sym (get_or-range_with_len 0 n h.0 0 below ∙ zero-add h.0)) (all h.0 below))))

pub returns-then-expected-table : goal.returns-then-expected-table
returns-then-expected-table c =
    let t = c.args.table.now in
    let e = c.args.expected.now in
    let n = length t in
    let cases = cases_from_all _ _ _ (λ i. word_at t i ≡ word_at e i) (λ i. word_at t i ≡ word_at e i → ⊥) c.all.ensures.ran (YieldsList-from_range 0 n n refl (omega arith)) (λ x q k. search (rules, tests)) (λ x q k. search (rules, tests)) in
    same_from_decides _ (agree n t e) (decides_all _ n (λ i. word_at t i ≡ word_at e i) cases) (decides_agree n t e)
    ∙ sym (ap (λ b. b && agree n t e) (le-leb (length e) n c.if-expected-table.true))
