-- Small facts of numbers and lists: what passes a test, and its numbers; what is made of all numbers up to some.
use Rattle.std.specs.Prelude.{◌≡◌, refl, List, [], ◌∷◌, ◌++◌, Bool, true, false, ◌⊎◌, ℕ, zero, suc, ◌+◌, ◌≤◌, ◌<◌, eqb, length, get_or}
use Rattle.std.proofs.Common.{sym, ap, ◌∙◌, append-nil, append_assoc, inl, inr, ⊎_elim, arith, eqb-true}
use Rattle.std.proofs.lemmas.Bool.{eqb-false}
use Rattle.format.specs.Reading.{pick}
use Rattle.format.specs.Links.{those, numbers_from, numbers, each}
use Rattle.laws.specs.Order.{order}

pub apart : (i j : ℕ) → (i ≡ j → ⊥) ⊎ (i ≡ j)
apart i j = go (eqb i j) refl
  where
    go : (t : Bool) → eqb i j ≡ t → (i ≡ j → ⊥) ⊎ (i ≡ j)
    go true e = inr (eqb-true i j e)
    go false e = inl (eqb-false i j e)

pub below : (j n : ℕ) → j ≤ n → (j ≡ n → ⊥) → j < n
below j n h z = ⊎_elim (λ x. x) (λ x. absurd (z (omega arith))) (order (suc j) n)

-- ---- those that pass, and their numbers

module _ {A : Type 0} (p : A → Bool) where
  -- as many as their numbers
  pub those_long : (i : ℕ) (l : List A) → length (those p l) ≡ length (numbers_from i p l)
  those_long i [] = refl
  those_long i (a ∷ l) = go (p a) (those_long (i + 1) l)
    where
      go : (t : Bool) → length (those p l) ≡ length (numbers_from (i + 1) p l) → length (pick t (a ∷ those p l) (those p l)) ≡ length (pick t (i ∷ numbers_from (i + 1) p l) (numbers_from (i + 1) p l))
      go true h = ap suc h
      go false h = h

  -- the j-th of them stands where the j-th number says
  abbrev Stands : A → ℕ → List A → ℕ → List ℕ → List A → Type 0
  Stands d i l j ns t = (m : ℕ) × ((get_or ns j 0 ≡ i + m) × (get_or l m d ≡ get_or t j d))

  those_from : (d : A) (i : ℕ) (l : List A) (j : ℕ) → j < length (numbers_from i p l) → Stands d i l j (numbers_from i p l) (those p l)
  those_from d i [] j h = absurd (omega arith)
  those_from d i (a ∷ l) j h = go (those_from d (i + 1) l) (p a) j h
    where
      go : ((j : ℕ) → j < length (numbers_from (i + 1) p l) → Stands d (i + 1) l j (numbers_from (i + 1) p l) (those p l))
          → (t : Bool) (j : ℕ) → j < length (pick t (i ∷ numbers_from (i + 1) p l) (numbers_from (i + 1) p l))
          → Stands d i (a ∷ l) j (pick t (i ∷ numbers_from (i + 1) p l) (numbers_from (i + 1) p l)) (pick t (a ∷ those p l) (those p l))
      go ih true zero k = (0, (omega arith, refl))
      go ih true (suc j) k = let x = ih j (omega arith) in (suc x.0, (omega (arith, x.1.0), x.1.1))
      go ih false j k = let x = ih j k in (suc x.0, (omega (arith, x.1.0), x.1.1))

  pub those-at : (d : A) (l : List A) (j : ℕ) → j < length (numbers p l) → get_or l (get_or (numbers p l) j 0) d ≡ get_or (those p l) j d
  those-at d l j h =
      let x = those_from d 0 l j h in
      let e : get_or (numbers p l) j 0 ≡ x.0 = omega (arith, x.1.0) in
      ap (λ (n : ℕ). get_or l n d) e ∙ x.1.1

-- ---- of the numbers below m, in order

abbrev pub up_to : {B : Type 0} → (ℕ → List B) → ℕ → List B
up_to g zero = []
up_to g (suc m) = up_to g m ++ g m

up_first : {B : Type 0} (g : ℕ → List B) (m : ℕ) → up_to g (suc m) ≡ g 0 ++ up_to (λ j. g (suc j)) m
up_first g zero = sym (append-nil (g 0))
up_first g (suc m) = ap (λ x. x ++ g (suc m)) (up_first g m) ∙ append_assoc (g 0) (up_to (λ j. g (suc j)) m) (g (suc m))

each_from : {A B : Type 0} (g h : ℕ → List B) (i : ℕ) (l : List A) → ((j : ℕ) → h j ≡ g (i + j)) → each g (numbers_from i (λ a. true) l) ≡ up_to h (length l)
each_from g h i [] e = refl
each_from {A} {B} g h i (a ∷ l) e =
    let z : i + 0 ≡ i = omega arith in
    let s : (j : ℕ) → i + suc j ≡ i + 1 + j = λ j. omega arith in
    ap (λ (x : List B). g i ++ x) (each_from g (λ j. h (suc j)) (i + 1) l (λ j. e (suc j) ∙ ap g (s j)))
    ∙ ap (λ (x : List B). x ++ up_to (λ j. h (suc j)) (length l)) (sym (e 0 ∙ ap g z))
    ∙ sym (up_first h (length l))

-- of all members' numbers
pub each_number : {A B : Type 0} (g : ℕ → List B) (l : List A) → each g (numbers (λ a. true) l) ≡ up_to g (length l)
each_number g l = each_from g g 0 l (λ j. ap g (let e : j ≡ 0 + j = omega arith in e))
