-- A test of all numbers below n, as a loop makes it.
use Rattle.std.specs.Prelude.{◌≡◌, refl, Bool, true, false, ◌&&◌, ◌↔◌, ℕ, zero, suc, ◌+◌, ◌≤◌, ◌<◌}
use Rattle.std.specs.List.{list_all, range_with_len}
use Rattle.std.proofs.Common.{sym, ap, ◌∙◌, ⊎_elim, arith, add-one, zero-add}
use Rattle.std.proofs.Math.Bool.{and-true, and-false, and_assoc}
use Rattle.laws.specs.Order.{order}
use Rattle.rewriting.specs.Tests.{left, right, both}
use Rattle.rewriting.specs.Passes.{all}

-- one number more
pub all_more : (p : ℕ → Bool) (i : ℕ) → all i p ≡ true → p i ≡ true → all (i + 1) p ≡ true
all_more p i h e = rw add-one (both h e)

-- one that fails
pub all_fails : (p : ℕ → Bool) (n i : ℕ) → i < n → p i ≡ false → all n p ≡ false
all_fails p zero i h e = absurd (omega arith)
all_fails p (suc n) i h e = ⊎_elim (λ (l : n ≤ i). here (let q : n ≡ i = omega arith in q)) (λ l. rw (all_fails p n i l e) refl) (order n i)
  where
    here : n ≡ i → (all n p && p n) ≡ false
    here q = ap (λ (b : Bool). all n p && b) (ap p q ∙ e) ∙ and-false (all n p)

-- the test of an iterator over the numbers
pub all_numbers : (p : ℕ → Bool) (n : ℕ) → list_all p (range_with_len 0 n) ≡ all n p
all_numbers p n = from 0 n ∙ ap (λ (k : ℕ). all k p) (zero-add n)
  where
    from : (a n : ℕ) → (all a p && list_all p (range_with_len a n)) ≡ all (a + n) p
    from a zero = and-true (all a p) ∙ ap (λ (k : ℕ). all k p) (let e : a ≡ a + 0 = omega arith in e)
    from a (suc n) =
        let e : a + 1 + n ≡ a + suc n = omega arith in
        sym (and_assoc (all a p) (p a) (list_all p (range_with_len (a + 1) n)))
        ∙ ap (λ (k : ℕ). all k p && list_all p (range_with_len (a + 1) n)) (sym (add-one a))
        ∙ from (a + 1) n
        ∙ ap (λ (k : ℕ). all k p) e

-- what it says
pub all_exactly : (n : ℕ) (p : ℕ → Bool) → all n p ≡ true ↔ ((i : ℕ) → i < n → p i ≡ true)
all_exactly n p = (to n, fro n)
  where
    to : (n : ℕ) → all n p ≡ true → (i : ℕ) → i < n → p i ≡ true
    to zero h i l = absurd (omega arith)
    to (suc n) h i l = ⊎_elim (λ (k : n ≤ i). ap p (let q : i ≡ n = omega arith in q) ∙ right (all n p) (p n) h) (λ k. to n (left (all n p) (p n) h) i k) (order n i)

    fro : (n : ℕ) → ((i : ℕ) → i < n → p i ≡ true) → all n p ≡ true
    fro zero h = refl
    fro (suc n) h = both (fro n (λ i k. h i (omega arith))) (h n (omega arith))

-- two tests that agree below n
pub all_same : (n : ℕ) (p q : ℕ → Bool) → ((i : ℕ) → i < n → p i ≡ q i) → all n p ≡ all n q
all_same zero p q h = refl
all_same (suc n) p q h = let a = all_same n p q (λ i k. h i (omega arith)) in let b = h n (omega arith) in λ i. a i && b i
