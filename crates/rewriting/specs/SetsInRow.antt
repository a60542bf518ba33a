-- Sets in a row, each of them kept: the code's test of lent tables, and the tests of the records that they hold.
use Rattle.std.specs.Prelude.{◌≡◌, refl, List, [], ◌∷◌, map, Bool, true, ◌&&◌, ◌↔◌, ℕ, zero, suc, ◌+◌, ◌*◌, ◌≤◌, leb, ℤ, pos, length, take, drop}
use Rattle.std.proofs.Common.{sym, ap, ◌∙◌, arith, length-drop, drop-drop, leb-true, le-leb}
use Rattle.format.specs.Sets.{Range, range, ranges_of}
use Rattle.format.specs.Sections.{same}
use Rattle.format.specs.Links.{every}
use Rattle.format.specs.Places.{se_first, se_count}
use Rattle.format.specs.Writing.{cell, cell_size, range_back, cuts, rows_of}
use Rattle.rewriting.specs.Formed.{natural, kept}
use Rattle.rewriting.specs.Tests.{both, left, right, every-all, all-every}
use Rattle.rewriting.specs.Passes.{sets_from}
use Rattle.rewriting.specs.Fine.{in_row, row-total, counts}
use Rattle.rewriting.specs.Held.{rows-part}

-- the ranges of the first words are those of the first records
ranges_rows : (n : ℕ) (t : List ℤ) → 2 * n ≤ length t → ranges_of (take (2 * n) t) ≡ map range_back (rows_of 2 n t)
ranges_rows zero t h = refl
ranges_rows (suc n) [] h = absurd (omega arith)
ranges_rows (suc n) (a ∷ []) h = absurd (omega arith)
ranges_rows (suc n) (a ∷ b ∷ t) h =
    let e : 2 * suc n ≡ suc (suc (2 * n)) = omega arith in
    ap (λ (k : ℕ). ranges_of (take k (a ∷ b ∷ t))) e ∙ ap (λ (l : List Range). range a b ∷ l) (ranges_rows n t (omega arith))

module _ (m : ℕ) (ra : List ℤ) (long : 2 * m ≤ length ra) where
  abbrev R : List Range
  R = map range_back (rows_of 2 m ra)

  part_is : (b n : ℕ) → b + n ≤ m → ranges_of (take (2 * n) (drop (2 * b) ra)) ≡ take n (drop b R)
  part_is b n h = ranges_rows n (drop (2 * b) ra) (omega (arith, length-drop (2 * b) ra)) ∙ sym (rows-part range_back 2 b n m ra h)

  -- one set more: x, behind b ranges
  module _ (b : ℕ) (x : List ℤ) (X : List (List ℤ)) where
    abbrev n : ℕ
    n = cell_size x se_count

    abbrev starts : Bool
    starts = same (cell x se_first) (pos b)

    abbrev rest : Bool
    rest = sets_from m ra (b + n) X

    abbrev here : Bool
    here = kept 0 (ranges_of (take (2 * n) (drop (2 * b) ra)))

    abbrev Later : Type 0
    Later = (in_row m (b + n) X ≡ true) × (every (kept 0) (cuts (drop (b + n) R) (counts X)) ≡ true)

    next : drop n (drop b R) ≡ drop (b + n) R
    next = drop-drop n b R

    one_to : (rest ≡ true → Later) → sets_from m ra b (x ∷ X) ≡ true → (in_row m b (x ∷ X) ≡ true) × (every (kept 0) (cuts (drop b R) (counts (x ∷ X))) ≡ true)
    one_to ih h =
        let c = natural (cell x se_count) in
        let l = leb (b + n) m in
        let h3 = left (starts && c && l && here) rest h in
        let h2 = left (starts && c && l) here h3 in
        let k = leb-true (b + n) m (right (starts && c) l h2) in
        let y = ih (right (starts && c && l && here) rest h) in
        let p : kept 0 (take n (drop b R)) ≡ true = ap (kept 0) (sym (part_is b n k)) ∙ right (starts && c && l) here h3 in
        (both (left (starts && c) l h2) y.0, rw p (ap (λ (z : List Range). every (kept 0) (cuts z (counts X))) next ∙ y.1))

    one_fro : (Later → rest ≡ true) → (in_row m b (x ∷ X) ≡ true) × (every (kept 0) (cuts (drop b R) (counts (x ∷ X))) ≡ true) → sets_from m ra b (x ∷ X) ≡ true
    one_fro ih h =
        let c = natural (cell x se_count) in
        let r = in_row m (b + n) X in
        let k = row-total m (b + n) X (right (starts && c) r h.0) in
        let e = every-all (kept 0) (take n (drop b R) ∷ cuts (drop n (drop b R)) (counts X)) h.1 in
        let later = ap (λ (z : List Range). every (kept 0) (cuts z (counts X))) (sym next) ∙ all-every (kept 0) (cuts (drop n (drop b R)) (counts X)) e.1 in
        both (both (both (left (starts && c) r h.0) (le-leb (b + n) m k)) (ap (kept 0) (part_is b n k) ∙ e.0)) (ih (right (starts && c) r h.0, later))

  pub sets_exactly : (b : ℕ) (X : List (List ℤ)) → sets_from m ra b X ≡ true ↔ (in_row m b X ≡ true) × (every (kept 0) (cuts (drop b R) (counts X)) ≡ true)
  sets_exactly b [] = ((λ h. (h, refl)), (λ h. h.0))
  sets_exactly b (x ∷ X) = let ih = sets_exactly (b + cell_size x se_count) X in (one_to b x X ih.0, one_fro b x X ih.1)
