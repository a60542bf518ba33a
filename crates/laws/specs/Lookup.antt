-- On a canonical list, lookup by halving is membership.
use Rattle.std.specs.Prelude.{◌≡◌, refl, Bool, true, false, List, [], ◌∷◌, ◌↔◌, ℕ, zero, suc, ◌+◌, ◌-◌, ◌/◌, ◌≤◌, ◌<◌, ltb, leb, ℤ, length}
use Rattle.std.proofs.Common.{sym, subst, inl, inr, ⊎_elim, arith, lt-ltb, ltb-true, ltb-false, leb-true, le-leb, leb-false}
use Rattle.format.specs.Sets.{key}
use Rattle.format.specs.Reading.{pick}
use Rattle.laws.specs.Order.{order}
use Rattle.format.specs.Sets.{Range, at, halve, found, holds}
use Rattle.laws.specs.Canonical.{From, Canonical, Within, In}

from_at : (b i : ℕ) (l : List Range) → From b l → i < length l → (b ≤ key (at l i).start) × (key (at l i).start ≤ key (at l i).stop)
from_at b i [] f h = absurd (omega arith)
from_at b zero (r ∷ l) f h = (f.0, f.1.0)
from_at b (suc i) (r ∷ l) f h = let z = from_at (key r.stop + 2) i l f.1.1 (omega arith) in (omega arith, z.1)

ordered : (b i j : ℕ) (l : List Range) → From b l → i < j → j < length l → key (at l i).stop + 2 ≤ key (at l j).start
ordered b i j [] f h k = absurd (omega arith)
ordered b i zero (r ∷ l) f h k = absurd (omega arith)
ordered b zero (suc j) (r ∷ l) f h k = (from_at (key r.stop + 2) j l f.1.1 (omega arith)).0
ordered b (suc i) (suc j) (r ∷ l) f h k = ordered (key r.stop + 2) i j l f.1.1 (omega arith) (omega arith)

-- starts are in order
starts : (b i j : ℕ) (l : List Range) → From b l → i ≤ j → j < length l → key (at l i).start ≤ key (at l j).start
starts b i j l f h k = ⊎_elim (λ x. omega (arith, from_at b i l f (omega arith), ordered b i j l f x k))
    (λ x. subst (λ (n : ℕ). key (at l i).start ≤ key (at l n).start) (same x) (omega arith)) (order (suc i) j)
  where
    same : j < suc i → i ≡ j
    same x = omega arith

-- every start before low is at most v, and every start from high on is above v
pub record Bracket (l : List Range) (v : ℤ) (low high : ℕ) : Type 0 where
  pub inside : high ≤ length l
  pub below : (i : ℕ) → i < low → key (at l i).start ≤ key v
  pub above : (i : ℕ) → high ≤ i → i < length l → key v < key (at l i).start

halve_splits : (f : ℕ) (b : ℕ) (l : List Range) (v : ℤ) (low high : ℕ) → From b l → low ≤ high → high ≤ low + f → Bracket l v low high → (p : ℕ) × ((halve f l v low high ≡ p) × Bracket l v p p)
unfolding halve
halve_splits zero b l v low high fr h k br = (low, (refl, subst (λ (n : ℕ). Bracket l v low n) e br))
  where
    e : high ≡ low
    e = omega arith
halve_splits (suc f) b l v low high fr h k br = go (halve_splits f b l v) (ltb low high) refl
  where
    m : ℕ
    m = low + (high - low) / 2

    Out : ℕ → Type 0
    Out n = (p : ℕ) × ((n ≡ p) × Bracket l v p p)

    go2 : ((low high : ℕ) → From b l → low ≤ high → high ≤ low + f → Bracket l v low high → Out (halve f l v low high)) → low < high → (t : Bool) → leb (key (at l m).start) (key v) ≡ t → Out (pick t (halve f l v (m + 1) high) (halve f l v low m))
    go2 ih lt true e = ih (m + 1) high fr (omega arith) (omega arith) (record { inside = br.inside; below = λ i hi. omega (arith, starts b i m l fr (omega arith) (omega (arith, br.inside)), leb-true (key (at l m).start) (key v) e); above = br.above })
    go2 ih lt false e = ih low m fr (omega arith) (omega arith) (record { inside = omega (arith, br.inside); below = br.below; above = λ i hi hj. omega (arith, starts b m i l fr hi hj, leb-false (key (at l m).start) (key v) e) })

    go : ((low high : ℕ) → From b l → low ≤ high → high ≤ low + f → Bracket l v low high → Out (halve f l v low high)) → (t : Bool) → ltb low high ≡ t → Out (pick t (pick (leb (key (at l m).start) (key v)) (halve f l v (m + 1) high) (halve f l v low m)) low)
    go ih true e = go2 ih (ltb-true low high e) (leb (key (at l m).start) (key v)) refl
    go ih false e = (low, (refl, subst (λ (n : ℕ). Bracket l v low n) (omega (arith, ltb-false low high e)) br))

-- a member stands in one of the ranges
in_at : (k : ℕ) (l : List Range) → In k l → (i : ℕ) × ((i < length l) × Within k (at l i).start (at l i).stop)
in_at k [] w = absurd w
in_at k (r ∷ l) (inl w) = (0, (omega arith, w))
in_at k (r ∷ l) (inr w) = let z = in_at k l w in (suc z.0, (omega (arith, z.1.0), z.1.1))

at_in : (k i : ℕ) (l : List Range) → i < length l → Within k (at l i).start (at l i).stop → In k l
at_in k i [] h w = absurd (omega arith)
at_in k zero (r ∷ l) h w = inl w
at_in k (suc i) (r ∷ l) h w = inr (at_in k i l (omega arith) w)

found_in : (b : ℕ) (l : List Range) (v : ℤ) (p : ℕ) → From b l → Bracket l v p p → found l v p ≡ true ↔ In (key v) l
found_in b l v p fr br = (λ e. to (ltb 0 p) refl e, λ w. fro (in_at (key v) l w))
  where
    to : (t : Bool) → ltb 0 p ≡ t → pick t (leb (key v) (key (at l (p - 1)).stop)) false ≡ true → In (key v) l
    to true q e = let h = ltb-true 0 p q in at_in (key v) (p - 1) l (omega (arith, br.inside)) (br.below (p - 1) (omega arith), leb-true (key v) (key (at l (p - 1)).stop) e)
    to false q e = absurd (let z : ◌≡◌ {A = ℕ} 0 1 = cc in omega arith)

    fro : (i : ℕ) × ((i < length l) × Within (key v) (at l i).start (at l i).stop) → found l v p ≡ true
    fro z =
        let i = z.0 in
        let under : i < p = ⊎_elim (λ x. absurd (omega (arith, br.above i x z.1.0, z.1.1.0))) (λ x. x) (order p i) in
        let last : i ≡ p - 1 = ⊎_elim (λ x. absurd (omega (arith, ordered b i (p - 1) l fr x (omega (arith, br.inside)), br.below (p - 1) (omega arith), z.1.1.1))) (λ x. omega arith) (order (suc i) (p - 1)) in
        rw (lt-ltb 0 p (omega arith)) (subst (λ (n : ℕ). leb (key v) (key (at l n).stop) ≡ true) last (le-leb (key v) (key (at l i).stop) z.1.1.1))

pub lookup_in : (l : List Range) (v : ℤ) → Canonical l → holds l v ≡ true ↔ In (key v) l
unfolding holds
lookup_in l v fr =
    let z = halve_splits (length l) 0 l v 0 (length l) fr (omega arith) (omega arith) (record { inside = omega arith; below = λ i h. absurd (omega arith); above = λ i h k. absurd (omega arith) }) in
    subst (λ (n : ℕ). found l v n ≡ true ↔ In (key v) l) (sym z.1.0) (found_in 0 l v z.0 fr z.1.1)
