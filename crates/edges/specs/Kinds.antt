-- What an edge means, by its type.
use Rattle.std.specs.Prelude.{◌≡◌, refl, Bool, true, false, ℕ, zero, suc, ◌+◌, ◌≤◌, ◌<◌, ltb, ℤ, pos}
use Rattle.std.proofs.Common.{sym, ap, ◌∙◌, subst, arith, ltb-true, ltb-false}
use Rattle.format.specs.Sections.{edge_of, meaning}

module _ (s t : ℕ) (a b c : ℤ) where
  -- by the type's number
  pub meaning-at : (k j u : ℕ) (p q r : ℤ) → k ≡ j → edge_of j s u p q r ≡ meaning j s t a b c → edge_of k s u p q r ≡ meaning k s t a b c
  meaning-at k j u p q r e h = subst (λ (n : ℕ). edge_of n s u p q r ≡ meaning n s t a b c) (sym e) h

  -- the type that is left when the others are told apart; 0 is none
  pub meaning-left : (k : ℕ) → (1 ≤ k → 9 ≤ k) → k < 11 → (k ≡ 10 → ⊥) → edge_of k s t (pos 0) (pos 0) (pos 0) ≡ meaning k s t a b c
  meaning-left zero h l n = refl
  meaning-left (suc k) h l n = meaning-at (suc k) 9 t (pos 0) (pos 0) (pos 0) (let m : 9 ≤ suc k = h (omega arith) in omega arith) refl

-- one number more is passed
pub passed : (m k : ℕ) → (k ≡ m → ⊥) → m ≤ k → m + 1 ≤ k
passed m k n h = omega arith

-- what holds of each number below n holds of all
abbrev EachBelow : ℕ → (ℕ → Type 0) → Type 0
EachBelow zero P = Unit {0}
EachBelow (suc n) P = EachBelow n P × P n

each_below : (n : ℕ) (P : ℕ → Type 0) → EachBelow n P → (k : ℕ) → k < n → P k
each_below zero P a k h = absurd (omega arith)
each_below (suc n) P a k h = go (each_below n P a.0 k) (ltb k n) refl
  where
    go : (k < n → P k) → (b : Bool) → ltb k n ≡ b → P k
    go ih true t = ih (ltb-true k n t)
    go ih false t = subst P (let l : n ≤ k = ltb-false k n t in omega arith) a.1

-- every type keeps the source
pub meaning_source : (s t : ℕ) (a b c : ℤ) (k : ℕ) → k < 11 → (meaning k s t a b c).source ≡ s
meaning_source s t a b c = each_below 11 (λ k. (meaning k s t a b c).source ≡ s) (((((((((((tt, refl), refl), refl), refl), refl), refl), refl), refl), refl), refl), refl)

pub meaning-same : (k s t : ℕ) {a b c x y z : ℤ} → a ≡ x → b ≡ y → c ≡ z → meaning k s t a b c ≡ meaning k s t x y z
meaning-same k s t {a} {b} {c} {x} {y} {z} p q r =
    ap (λ (u : ℤ). meaning k s t u b c) p ∙ ap (λ (u : ℤ). meaning k s t x u c) q ∙ ap (λ (u : ℤ). meaning k s t x y u) r
