-- Ranges in a row, and sets in a row, tested one after the other.
use Rattle.std.specs.Prelude.{◌≡◌, refl, List, [], ◌∷◌, Bool, true, false, ◌&&◌, ℕ, zero, suc, ◌+◌, ◌-◌, ◌*◌, ◌/◌, ◌≤◌, ◌<◌, leb, ltb, eqb, ℤ, pos, length, take, drop}
use Rattle.std.specs.List.{list_all, range_with_len}
use Rattle.std.proofs.Common.{sym, ap, ◌∙◌, arith, add-one, length-drop, drop-cons, leb-true, le-leb}
use Rattle.std.proofs.Math.Bool.{and-true, and-false}
use Rattle.std.proofs.Math.Nat.{sub-zero}
use Rattle.std.proofs.Math.Dec.{leb-zero}
use Rattle.std.proofs.lemmas.Bool.{lt-leb}
use Rattle.format.specs.Sets.{Range, range, key, ranges_of}
use Rattle.format.specs.Places.{se_count}
use Rattle.format.specs.Tables.{row_at}
use Rattle.format.specs.Writing.{cell, cell_size}
use Rattle.rewriting.specs.Tests.{left, right}
use Rattle.rewriting.specs.Formed.{kept, set_row}
use Rattle.rewriting.specs.Passes.{sets_from, sets_fine}
use Rattle.checking.specs.Rows.{rows_from, rows_next}

-- ---- ranges

-- The least key that range i may start at.
abbrev pub low : List ℤ → ℕ → ℕ
low v zero = 0
low v (suc i) = key (cell v (2 * i + 1)) + 2

abbrev pub in_row : List ℤ → ℕ → Bool
in_row v i = leb (low v i) (key (cell v (2 * i))) && leb (key (cell v (2 * i))) (key (cell v (2 * i + 1)))

-- range i as its words are looked at
pub first-row : (v : List ℤ) (i : ℕ) → i ≡ 0 → leb (key (cell v (2 * i + 0))) (key (cell v (2 * i + 1))) ≡ in_row v i
first-row v i e = rw e (rw (leb-zero (key (cell v 0))) refl)

pub later_row : (v : List ℤ) (i : ℕ) → (i ≡ 0 → ⊥)
    → (ltb (key (cell v (2 * i + 1 - 2)) + 1) (key (cell v (2 * i + 0))) && leb (key (cell v (2 * i + 0))) (key (cell v (2 * i + 1)))) ≡ in_row v i
later_row v zero h = absurd (h refl)
later_row v (suc i) h =
    let a : 2 * suc i + 1 - 2 ≡ 2 * i + 1 = omega arith in
    let b : 2 * suc i + 0 ≡ 2 * suc i = omega arith in
    let c : suc (key (cell v (2 * i + 1)) + 1) ≡ key (cell v (2 * i + 1)) + 2 = omega arith in rw (a, b, c) refl

ranges_next : (v : List ℤ) (i : ℕ) → 2 * i + 2 ≤ length v
    → ranges_of (drop (2 * i) v) ≡ range (cell v (2 * i)) (cell v (2 * i + 1)) ∷ ranges_of (drop (2 * (i + 1)) v)
ranges_next v i h =
    let a : 2 * i + 1 ≡ suc (2 * i) = omega arith in
    let b : 2 * (i + 1) ≡ suc (suc (2 * i)) = omega arith in
    let d = drop-cons v (2 * i) (pos 0) (omega arith) in
    let e = drop-cons v (suc (2 * i)) (pos 0) (omega arith) in rw (a, b) (ap ranges_of (d ∙ ap (λ (l : List ℤ). cell v (2 * i) ∷ l) e))

-- "an odd last word isn't read"
no_range : (l : List ℤ) → length l < 2 → ranges_of l ≡ []
no_range [] h = refl
no_range (a ∷ []) h = refl
no_range (a ∷ b ∷ l) h = absurd (omega arith)

-- the ranges from i on, tested one after the other
kept_from : (v : List ℤ) (k i : ℕ) → i + k ≡ length v / 2 → list_all (in_row v) (range_with_len i k) ≡ kept (low v i) (ranges_of (drop (2 * i) v))
kept_from v zero i h = sym (ap (kept (low v i)) (no_range (drop (2 * i) v) (omega (arith, length-drop (2 * i) v))))
kept_from v (suc k) i h =
    ap (λ (b : Bool). in_row v i && b) (kept_from v k (i + 1) (omega arith))
    ∙ sym (ap (kept (low v i)) (ranges_next v i (omega arith)) ∙ rw (add-one i) refl)

pub kept_all : (v : List ℤ) → list_all (in_row v) (range_with_len 0 (length v / 2)) ≡ kept 0 (ranges_of v)
kept_all v = kept_from v (length v / 2) 0 (omega arith)

-- ---- sets

-- The ranges of the set x, with b of them in the sets before.
abbrev pub ranges_at : List ℤ → ℕ → List ℤ → List Range
ranges_at ra b x = ranges_of (take (2 * cell_size x se_count) (drop (2 * b) ra))

-- m ranges in all
abbrev pub set_fine : ℕ → List ℤ → ℕ → List ℤ → Bool
set_fine m ra b x = set_row b x && leb (b + cell_size x se_count) m && kept 0 (ranges_at ra b x)

module _ (m : ℕ) (ra : List ℤ) (b : ℕ) (x : List ℤ) where
  pub set-outside : m < b + cell_size x se_count → false ≡ set_fine m ra b x
  set-outside h = rw (lt-leb (b + cell_size x se_count) m h, and-false) refl

  pub set-within : b + cell_size x se_count ≤ m
      → (set_row b x && kept 0 (ranges_at ra b x)) ≡ set_fine m ra b x
  set-within h = rw (le-leb (b + cell_size x se_count) m h, and-true) refl

  set-inside : set_fine m ra b x ≡ true → b + cell_size x se_count ≤ m
  set-inside e =
      let first = set_row b x in
      let fits = leb (b + cell_size x se_count) m in
      leb-true (b + cell_size x se_count) m (right first fits (left (first && fits) (kept 0 (ranges_at ra b x)) e))

-- The first i of k sets are fine, with b ranges in them.
pub record Counted (m : ℕ) (ra : List ℤ) (k : ℕ) (se : List ℤ) (b i : ℕ) : Type 0 where
  pub within : i ≤ k
  pub inside : b ≤ m
  pub on : sets_fine k se m ra ≡ sets_from m ra b (rows_from 2 k se i)

pub counted_none : {m : ℕ} {ra : List ℤ} {k : ℕ} {se : List ℤ} → Counted m ra k se 0 0
counted_none = record { within = omega arith; inside = omega arith; on = rw sub-zero refl }

module _ {m : ℕ} {ra : List ℤ} {k : ℕ} {se : List ℤ} {b i : ℕ} (a : Counted m ra k se b i) where
  next : i < k → sets_fine k se m ra ≡ (set_fine m ra b (row_at 2 se i) && sets_from m ra (b + cell_size (row_at 2 se i) se_count) (rows_from 2 k se (i + 1)))
  next h = a.on ∙ ap (sets_from m ra b) (rows_next 2 k se i h)

  pub counted-more : i < k → set_fine m ra b (row_at 2 se i) ≡ true → Counted m ra k se (b + cell_size (row_at 2 se i) se_count) (i + 1)
  counted-more h e = record { within = omega arith; inside = set-inside m ra b (row_at 2 se i) e; on = next h ∙ rw e refl }

  pub counted-not : i < k → set_fine m ra b (row_at 2 se i) ≡ false → false ≡ sets_fine k se m ra
  counted-not h e = sym (next h ∙ rw e refl)

  pub counted-whole : k ≤ i → eqb b m ≡ sets_fine k se m ra
  counted-whole h = let e : k - i ≡ 0 = omega arith in sym (a.on ∙ rw e refl)
