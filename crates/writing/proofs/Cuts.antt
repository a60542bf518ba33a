-- Sets whose ranges lie in a row, and the loop over them.
use mathlib.Core.Path.{◌≡◌, refl, sym, ap, ◌∙◌}
use mathlib.Core.List.{List, [], ◌∷◌, ◌++◌, map}
use Prim.Native.Nat.{ℕ, zero, suc, ◌+◌, ◌*◌, ◌^◌, ◌≤◌, ◌<◌}
use native.Mathlib.Omega.{arith}
use lib.IntN.{ℤ, pos}
use lib.ListN.{take, drop}
use lib.Seq.{drop-drop}
use Rattle.format.specs.Sets.{Range}
use Rattle.format.specs.Links.{each}
use Rattle.format.specs.Tables.{row_at}
use Rattle.format.specs.Writing.{set_form, range_back, cuts, counted, rows_of}
use Rattle.rewriting.specs.Checks.{cuts_long}
use Rattle.rewriting.specs.Held.{rows_more, rows-part}
use Rattle.writing.specs.Laid.{Lays}
use Rattle.writing.specs.Parts.{count_of, in_sets, sets_back}
use Rattle.writing.proofs.Rows.{each-one, back_long, Turned, turned_none, turned_on, turned_all}

-- the first of them have no more than all
first_fewer : (w i n : ℕ) (t : List ℤ) → i ≤ n → in_sets (rows_of w i t) ≤ in_sets (rows_of w n t)
first_fewer w zero n t h = omega arith
first_fewer w (suc i) zero t h = absurd (omega arith)
first_fewer w (suc i) (suc n) t h = omega (arith, first_fewer w i n (drop w t) (omega arith))

-- one more
sets_more : (l : List (List ℤ)) (x : List ℤ) → in_sets (l ++ (x ∷ [])) ≡ in_sets l + count_of x
sets_more [] x = omega arith
sets_more (y ∷ l) x = omega (arith, sets_more l x)

cuts-more : {A : Type 0} (rs : List A) (l : List (List ℤ)) (x : List ℤ)
    → cuts rs (map count_of (l ++ (x ∷ []))) ≡ cuts rs (map count_of l) ++ (take (count_of x) (drop (in_sets l) rs) ∷ [])
cuts-more rs [] x = refl
cuts-more rs (y ∷ l) x =
    ap (λ m. take (count_of y) rs ∷ m)
    (cuts-more (drop (count_of y) rs) l x ∙ ap (λ m. cuts (drop (count_of y) rs) (map count_of l) ++ (take (count_of x) m ∷ [])) (drop-drop (in_sets l) (count_of y) rs))

back_more : (m : ℕ) (ra : List ℤ) (l : List (List ℤ)) (x : List ℤ) → in_sets l + count_of x ≤ m
    → sets_back m ra (l ++ (x ∷ [])) ≡ sets_back m ra l ++ (map range_back (rows_of 2 (count_of x) (drop (2 * in_sets l) ra)) ∷ [])
back_more m ra l x h =
    cuts-more (map range_back (rows_of 2 m ra)) l x
    ∙ ap (λ (r : List Range). sets_back m ra l ++ (r ∷ [])) (rows-part range_back 2 (in_sets l) (count_of x) m ra h)

-- ---- the loop: the words of the first i sets were laid, which have the ranges below `first`

pub record Cut (n m : ℕ) (se ra : List ℤ) (at : ℕ) (old new : List ℤ) (next first i : ℕ) : Type 0 where
  pub turned : Turned (λ l. each set_form (sets_back m ra l)) (2 ^ 18) 2 n se at old new next i
  pub passed : first ≡ in_sets (rows_of 2 i se)
  pub inside : first ≤ m

pub cut-none : {n m at : ℕ} {se ra old : List ℤ} → Cut n m se ra at old old at 0 0
cut-none = record { turned = turned_none refl; passed = refl; inside = omega arith }

module _ {n m at first i a : ℕ} {se ra row old mid : List ℤ} (x : Cut n m se ra at old mid a first i) (h : i < n) (all : in_sets (rows_of 2 n se) ≤ m) (e : row ≡ row_at 2 se i) where
  next-passed : in_sets (rows_of 2 (i + 1) se) ≡ first + count_of row
  next-passed = ap in_sets (rows_more 2 i se) ∙ sets_more (rows_of 2 i se) (row_at 2 se i) ∙ rw (x.passed, e) refl

  pub cut-room : {count : ℕ} → count ≡ count_of row → first + count ≤ m
  cut-room c = omega (arith, next-passed, first_fewer 2 (i + 1) n se (omega arith))

  pub cut-more : {b count : ℕ} {part new : List ℤ} → count ≡ count_of row → part ≡ drop (2 * first) ra
      → Lays (2 ^ 18) a (set_form (map range_back (rows_of 2 count part))) mid new b → Cut n m se ra at old new b (first + count) (i + 1)
  cut-more c p y =
      let l = rows_of 2 i se in
      let room : in_sets l + count_of row ≤ m = omega (arith, cut-room refl, x.passed) in
      record {
        turned = turned_on x.turned h e (ap (each set_form) (back_more m ra l row room) ∙ each-one set_form (sets_back m ra l) _) (rw (c, p, x.passed) at y);
        passed = ap (λ (k : ℕ). first + k) c ∙ sym next-passed;
        inside = cut-room c;
      }

pub cut_all : {j k before n m at first i a : ℕ} {se ra old mid new : List ℤ} → Lays j before (pos n ∷ []) old mid at → Cut n m se ra at mid new a first i
    → n ≤ i → j + 2 ^ 18 * n ≤ k → Lays k before (counted set_form (sets_back m ra (rows_of 2 n se))) old new a
cut_all {n = n} {m} {se = se} {ra} y x h k =
    rw (cuts_long (map range_back (rows_of 2 m ra)) (map count_of (rows_of 2 n se)), back_long count_of 2 n se) (turned_all x.turned y h k)
