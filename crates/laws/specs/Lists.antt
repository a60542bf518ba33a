-- Lists in two parts, and lists of lists: each, those, numbers and Every of them.
use Rattle.std.specs.Prelude.{◌≡◌, refl, List, [], ◌∷◌, ◌++◌, Bool, true, false, ℕ, zero, suc, ◌+◌, length, get_or, replicate}
use Rattle.std.proofs.Common.{sym, ap, ◌∙◌, append_assoc, append-nil, arith, drop_of_length-le}
use Rattle.format.specs.Reading.{pick}
use Rattle.format.specs.Links.{those, numbers_from, each}
use Rattle.laws.specs.Gives.{Every}
use Rattle.std.proofs.lemmas.List.Edits.{sets, sets-eq}

pub each_append : {A B : Type 0} (f : A → List B) (l m : List A) → each f (l ++ m) ≡ each f l ++ each f m
each_append f [] m = refl
each_append f (a ∷ l) m = ap (λ x. f a ++ x) (each_append f l m) ∙ sym (append_assoc (f a) (each f l) (each f m))

pub every_append : {A : Type 0} (P : A → Type 0) (l m : List A) → Every P l → Every P m → Every P (l ++ m)
every_append P [] m x y = y
every_append P (a ∷ l) m x y = (x.0, every_append P l m x.1 y)

pub every-each : {A B : Type 0} (P : B → Type 0) (f : A → List B) (l : List A) → ((a : A) → Every P (f a)) → Every P (each f l)
every-each P f [] h = tt
every-each P f (a ∷ l) h = every_append P (f a) (each f l) (h a) (every-each P f l h)

-- a property that follows from another
pub every_map : {A : Type 0} (P Q : A → Type 0) → ((a : A) → P a → Q a) → (l : List A) → Every P l → Every Q l
every_map P Q f [] h = tt
every_map P Q f (a ∷ l) h = (f a h.0, every_map P Q f l h.1)

-- a list of one value
pub constant : {A : Type 0} (n k : ℕ) (a : A) → get_or (replicate n a) k a ≡ a
constant zero k a = refl
constant (suc n) zero a = refl
constant (suc n) (suc k) a = constant n k a

module _ {A : Type 0} (p : A → Bool) where
  pub those-append : (l m : List A) → those p (l ++ m) ≡ those p l ++ those p m
  those-append [] m = refl
  those-append (a ∷ l) m = go (p a) (those-append l m)
    where
      go : (t : Bool) → those p (l ++ m) ≡ those p l ++ those p m → pick t (a ∷ those p (l ++ m)) (those p (l ++ m)) ≡ pick t (a ∷ those p l) (those p l) ++ those p m
      go true h = ap (λ (x : List A). a ∷ x) h
      go false h = h

  pub numbers-append : (i : ℕ) (l m : List A) → numbers_from i p (l ++ m) ≡ numbers_from i p l ++ numbers_from (i + length l) p m
  numbers-append i [] m = ap (λ (n : ℕ). numbers_from n p m) (let e : i ≡ i + 0 = omega arith in e)
  numbers-append i (a ∷ l) m = go (p a) (numbers-append (i + 1) l m ∙ ap (λ (n : ℕ). numbers_from (i + 1) p l ++ numbers_from n p m) e)
    where
      e : i + 1 + length l ≡ i + suc (length l)
      e = omega arith

      rest : List ℕ
      rest = numbers_from (i + suc (length l)) p m

      go : (t : Bool) → numbers_from (i + 1) p (l ++ m) ≡ numbers_from (i + 1) p l ++ rest
          → pick t (i ∷ numbers_from (i + 1) p (l ++ m)) (numbers_from (i + 1) p (l ++ m)) ≡ pick t (i ∷ numbers_from (i + 1) p l) (numbers_from (i + 1) p l) ++ rest
      go true h = ap (λ (x : List ℕ). i ∷ x) h
      go false h = h

-- stores that fill a list from its start to its end leave what was stored
pub all_set : {A : Type 0} (vs l : List A) → length l ≡ length vs → sets l 0 vs ≡ vs
all_set vs l h = sets-eq vs l 0 (omega arith) ∙ rw (drop_of_length-le l {i = 0 + length vs} (omega arith)) (append-nil vs)
