-- A range is two words: ranges as words, and back.
use Rattle.std.specs.Prelude.{◌≡◌, refl, List, [], ◌∷◌, ◌++◌, ℕ, zero, suc, ◌+◌, ◌-◌, ◌*◌, ◌/◌, ◌≤◌, ◌<◌, ℤ, pos, length, get_or, take, drop}
use Rattle.std.proofs.Common.{sym, ap, ◌∙◌, add-zero, arith, length-take, take_at, drop-drop, get_or-take, get_or-drop}
use Rattle.std.proofs.Math.Seq.{drop-append-add}
use Rattle.format.specs.Sets.{Range, range, at, ranges_of}
use Rattle.format.specs.Links.{each}
use Rattle.format.specs.Tables.{range_words}
use Rattle.laws.specs.Keeping.{ranges_back}
use Rattle.ordering.specs.Records.{pair_at, put_at}
use Rattle.ranges.specs.Laid.{ranges_in, over}

pub words_long : (l : List Range) → length (each range_words l) ≡ 2 * length l
words_long [] = refl
words_long (r ∷ l) = omega (arith, words_long l)

pub ranges_long : (ws : List ℤ) → length (ranges_of ws) ≡ length ws / 2
ranges_long [] = refl
ranges_long (a ∷ []) = refl
ranges_long (a ∷ b ∷ ws) = omega (arith, ranges_long ws)

-- the i-th range is the words 2i and 2i + 1
pub ranges_at_lem : (ws : List ℤ) (i : ℕ) → i < length ws / 2 → at (ranges_of ws) i ≡ range (get_or ws (2 * i) (pos 0)) (get_or ws (2 * i + 1) (pos 0))
ranges_at_lem [] i h = absurd (omega arith)
ranges_at_lem (a ∷ []) i h = absurd (omega arith)
ranges_at_lem (a ∷ b ∷ ws) zero h = refl
ranges_at_lem (a ∷ b ∷ ws) (suc i) h =
    let e : 2 * suc i ≡ suc (suc (2 * i)) = omega arith in
    let f : suc (suc (2 * i)) + 1 ≡ suc (suc (2 * i + 1)) = omega arith in
    rw (e, f) (ranges_at_lem ws i (omega arith))

-- the first n records of a part, one by one
module _ (ws : List ℤ) (n : ℕ) (room : 2 * n ≤ length ws) where
  pub in_long : length (ranges_in ws n) ≡ n
  in_long = ranges_long (take (2 * n) ws) ∙ omega (arith, length-take (2 * n) ws)

  pub in_part : (i : ℕ) → i < n → at (ranges_in ws n) i ≡ pair_at ws i
  in_part i h =
      let a = get_or-take (2 * n) ws (2 * i) (pos 0) (omega arith) in
      let b = get_or-take (2 * n) ws (2 * i + 1) (pos 0) (omega arith) in
      ranges_at_lem (take (2 * n) ws) i (omega (arith, ranges_long (take (2 * n) ws), in_long)) ∙ (λ t. range (a t) (b t))

-- a set's ranges, read back from the front of its part
pub ranges_in_lem : (l : List Range) (t : List ℤ) → ranges_in (each range_words l ++ t) (length l) ≡ l
ranges_in_lem l t = ap ranges_of (take_at (each range_words l) t (2 * length l) (words_long l)) ∙ ranges_back l

-- ---- ranges laid over the front of a part

-- behind the ranges laid over it, a part is as it was
pub over-drop : (l : List Range) (ws : List ℤ) (n : ℕ) → 2 * length l ≤ n → drop n (over l ws) ≡ drop n ws
over-drop l ws n h =
    let e : n ≡ length (each range_words l) + (n - 2 * length l) = omega (arith, words_long l) in
    let f : 2 * length l + (n - 2 * length l) ≡ n = omega arith in
    ap (λ (k : ℕ). drop k (over l ws)) e
    ∙ drop-append-add (each range_words l) (drop (2 * length l) ws) (n - 2 * length l)
    ∙ drop-drop (n - 2 * length l) (2 * length l) ws
    ∙ ap (λ (k : ℕ). drop k ws) f

pub over-at : (l : List Range) (ws : List ℤ) (i : ℕ) → 2 * length l ≤ i → get_or (over l ws) i (pos 0) ≡ get_or ws i (pos 0)
over-at l ws i h =
    rw add-zero at (sym (get_or-drop i (over l ws) 0 (pos 0)) ∙ ap (λ (v : List ℤ). get_or v 0 (pos 0)) (over-drop l ws i h) ∙ get_or-drop i ws 0 (pos 0))

-- a record stored behind them
pub over-put : (l : List Range) (ws : List ℤ) (x : Range) → 2 * length l + 2 ≤ length ws → put_at (over l ws) (length l) x ≡ over (l ++ (x ∷ [])) ws
over-put l [] x h = absurd (omega arith)
over-put l (a ∷ []) x h = absurd (omega arith)
over-put [] (a ∷ b ∷ ws) x h = refl
over-put (r ∷ l) (a ∷ b ∷ ws) x h =
    let d : 2 * suc (length l) ≡ suc (suc (2 * length l)) = omega arith in
    let e : suc (suc (2 * length l)) + 1 ≡ suc (suc (2 * length l + 1)) = omega arith in
    let f : 2 * suc (length (l ++ (x ∷ []))) ≡ suc (suc (2 * length (l ++ (x ∷ [])))) = omega arith in
    rw (d, e, f) (ap (λ (z : List ℤ). r.start ∷ r.stop ∷ z) (over-put l ws x (omega arith)))
