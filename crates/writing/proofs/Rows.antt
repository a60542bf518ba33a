-- The first records of a table, one after another, and the words that a loop lays for them.
use mathlib.Core.Path.{◌≡◌, refl, ap, ◌∙◌}
use mathlib.Core.List.{List, [], ◌∷◌, ◌++◌, map, append-nil}
use mathlib.Core.Bool.{Bool}
use Prim.Native.Nat.{ℕ, suc, ◌+◌, ◌-◌, ◌*◌, ◌≤◌, ◌<◌}
use native.Mathlib.Nat.{mul-suc, mul-le-mul_left}
use native.Mathlib.Numerals.{add-one}
use native.Mathlib.Omega.{arith}
use lib.IntN.{ℤ, pos}
use lib.ListN.{length, get_or, drop, length-take, length-drop, length-map}
use Rattle.format.specs.Links.{numbers, numbers_from, each}
use Rattle.format.specs.Tables.{row_at, state_word}
use Rattle.format.specs.Writing.{counted, rows_of}
use Rattle.laws.specs.Lists.{each_append, numbers-append}
use Rattle.rewriting.specs.Held.{rows_at, rows_long, rows_more, each_map}
use Rattle.writing.specs.Laid.{Lays, lays_none, lays_more, lays_then, lays_before}

pub back_long : {A : Type 0} (g : List ℤ → A) (w n : ℕ) (t : List ℤ) → length (map g (rows_of w n t)) ≡ n
back_long g w n t = length-map (rows_of w n t) g ∙ rows_long w n t

pub each-one : {A B : Type 0} (f : A → List B) (l : List A) (a : A) → each f (l ++ (a ∷ [])) ≡ each f l ++ f a
each-one f l a = each_append f l (a ∷ []) ∙ ap (λ m. each f l ++ m) (append-nil (f a))

-- record i of those that a table hands out
pub handed : {rows : List (List ℤ)} (w n i : ℕ) (t : List ℤ) → rows ≡ rows_of w n t → i < n → get_or rows i [] ≡ row_at w t i
handed w n i t e h = ap (λ (l : List (List ℤ)). get_or l i []) e ∙ rows_at w n t i h

pub handed_long : {rows : List (List ℤ)} (w n : ℕ) (t : List ℤ) → rows ≡ rows_of w n t → length rows ≡ n
handed_long w n t e = ap length e ∙ rows_long w n t

-- ---- a loop: of n records of w words the words F of the first i were laid, `most` for each at most

pub record Turned (F : List (List ℤ) → List ℤ) (most w n : ℕ) (t : List ℤ) (at : ℕ) (old new : List ℤ) (next i : ℕ) : Type 0 where
  pub lays : Lays (most * i) at (F (rows_of w i t)) old new next
  pub within : i ≤ n

pub turned_none : {F : List (List ℤ) → List ℤ} {most w n at : ℕ} {t old : List ℤ} → F [] ≡ [] → Turned F most w n t at old old at 0
turned_none e = record { lays = rw e (lays_more (omega arith) lays_none); within = omega arith }

-- the i-th of n records lies within them
pub row_inside : (w i n : ℕ) → i < n → w * i + w ≤ w * n
row_inside w i n h = omega (arith, mul-suc w i, mul-le-mul_left w h)

module _ {F : List (List ℤ) → List ℤ} {most w n at i a : ℕ} {t old mid : List ℤ} (x : Turned F most w n t at old mid a i) where
  -- the next record is whole
  pub turned_row : {row : List ℤ} → w * i + w ≤ length t → row ≡ row_at w t i → length row ≡ w
  turned_row h e = ap length e ∙ length-take w (drop (w * i) t) ∙ omega (arith, length-drop (w * i) t)

  pub turned_on : {b : ℕ} {row ws new : List ℤ} → i < n → row ≡ row_at w t i → F (rows_of w i t ++ (row ∷ [])) ≡ F (rows_of w i t) ++ ws
      → Lays most a ws mid new b → Turned F most w n t at old new b (i + 1)
  turned_on h e f y =
      let long : most * (i + 1) ≡ most * i + most = rw add-one (omega (arith, mul-suc most i)) in
      record { lays = rw (rows_more w i t, ← e, f, long) (lays_then x.lays y); within = omega arith }

  -- the words of all, behind those that were laid before
  pub turned_all : {j k before : ℕ} {ps first : List ℤ} → Lays j before ps first old at → n ≤ i → j + most * n ≤ k → Lays k before (ps ++ F (rows_of w n t)) first mid a
  turned_all y h k =
      let e : i ≡ n = omega (arith, x.within) in
      lays_more k (lays_then y (rw e at x.lays))

-- the words f of each record
pub turned_more : (f : List ℤ → List ℤ) {most w n at i a b : ℕ} {t row old mid new : List ℤ} → Turned (each f) most w n t at old mid a i → i < n
    → row ≡ row_at w t i → Lays most a (f row) mid new b → Turned (each f) most w n t at old new b (i + 1)
turned_more f {w = w} {i = i} {t = t} {row} x h e y = turned_on x h e (each-one f (rows_of w i t) row) y

-- all of them, behind other words
pub turned_each : {A : Type 0} (f : A → List ℤ) (g : List ℤ → A) {j k most w n i at a b : ℕ} {t old mid new ps : List ℤ} → Lays j at ps old mid a
    → Turned (each (λ x. f (g x))) most w n t a mid new b i → n ≤ i → j + most * n ≤ k → Lays k at (ps ++ each f (map g (rows_of w n t))) old new b
turned_each f g y x h m = rw (each_map f g) (turned_all x y h m)

-- "counted": behind their number
pub turned_counted : (f : List ℤ → List ℤ) {j k most w n i at a b : ℕ} {t old mid new : List ℤ} → Lays j at (pos n ∷ []) old mid a
    → Turned (each f) most w n t a mid new b i → n ≤ i → j + most * n ≤ k → Lays k at (counted f (rows_of w n t)) old new b
turned_counted f {w = w} {n} {t = t} y x h m = rw (rows_long w n t) (turned_all x y h m)

-- ---- the numbers of those that pass a test, whose count goes before them when they are laid

pub numbers_more : (p : List ℤ → Bool) (w i : ℕ) (t row : List ℤ)
    → each state_word (numbers p (rows_of w i t ++ (row ∷ []))) ≡ each state_word (numbers p (rows_of w i t)) ++ each state_word (numbers_from i p (row ∷ []))
numbers_more p w i t row =
    let l = rows_of w i t in
    let e : 0 + length l ≡ i = omega (arith, rows_long w i t) in
    ap (each state_word) (numbers-append p 0 l (row ∷ []) ∙ ap (λ (k : ℕ). numbers p l ++ numbers_from k p (row ∷ [])) e)
    ∙ each_append state_word (numbers p l) (numbers_from i p (row ∷ []))

words_long : (l : List ℕ) → length (each state_word l) ≡ length l
words_long [] = refl
words_long (s ∷ l) = ap suc (words_long l)

pub turned_numbers : {p : List ℤ → Bool} {j k w n i at b r : ℕ} {t old mid new : List ℤ} → Turned (λ l. each state_word (numbers p l)) 1 w n t (at + 1) old mid b i → n ≤ i
    → Lays j at (pos (b - (at + 1)) ∷ []) mid new r → 1 * n + 1 ≤ k → Lays k at (counted state_word (numbers p (rows_of w n t))) old new b
turned_numbers {p} {w = w} {n} {i} {at} {b} {t = t} x h y m =
    let e : i ≡ n = omega (arith, x.within) in
    let z = rw e at x.lays in
    let count : b - (at + 1) ≡ length (numbers p (rows_of w n t)) = omega (arith, z.next, words_long (numbers p (rows_of w n t))) in
    lays_more m (lays_before z (rw count at y))
