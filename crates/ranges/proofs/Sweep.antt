-- The turns of `join`, on a part's words.
use mathlib.Core.Path.{◌≡◌, refl, sym, ap, ◌∙◌}
use mathlib.Core.Bool.{Bool, true, false}
use mathlib.Core.List.{List, [], ◌∷◌, ◌++◌, append_assoc}
use mathlib.Core.Logic.{⊎_elim}
use Prim.Native.Nat.{ℕ, suc, ◌+◌, ◌*◌, ◌≤◌, ◌<◌}
use native.Mathlib.Numerals.{add-one}
use native.Mathlib.Omega.{arith}
use lib.Dec.{leb}
use lib.IntN.{ℤ, pos}
use lib.ListN.{length, get_or, drop, length-append, length-set, drop_of_length-le}
use lib.Seq.{drop-cons}
use mir.Syntax.{w32}
use mir.Val.{SFits}
use Rattle.format.specs.Reading.{pick}
use Rattle.format.specs.Sets.{Range, range, key, at}
use Rattle.laws.specs.Canonical.{Fit}
use Rattle.ordering.specs.Records.{pair_at, put_at}
use Rattle.ordering.proofs.Heaps.{same}
use Rattle.ranges.specs.Laid.{ranges_in, over}
use Rattle.ranges.specs.Words.{in_long, in_part, over-at, over-put}
use Rattle.ranges.specs.Joining.{straight, meets, both, join_on, join_all, rises_on, rises_all, FitAt, Joins}
use Rattle.ranges.specs.declared.joining.Joined.{Joined}

fit_at : (l : List Range) → ((i : ℕ) → i < length l → SFits w32 (at l i).start × SFits w32 (at l i).stop) → Fit l
fit_at [] h = tt
fit_at (r ∷ l) h = ((h 0 (omega arith)).0, ((h 0 (omega arith)).1, fit_at l (λ i k. h (suc i) (omega arith))))

-- the first n records, each of which was seen to fit
fit_in : (ws : List ℤ) (n : ℕ) → 2 * n ≤ length ws → ((i : ℕ) → i < n → FitAt ws i) → Fit (ranges_in ws n)
fit_in ws n room f =
    fit_at (ranges_in ws n) (λ i h. let k : i < n = omega (arith, in_long ws n room) in rw (in_part ws n room i k) (f i k))

pub none : (ws : List ℤ) {n : ℕ} → n ≡ 0 → Joins ws ws n (record { count = 0; rising = true })
none ws e = rw e (record { count = refl; rising = refl; words = refl; fits = tt })

-- After i records of ws are read and out are stored, p is still to be stored; `rising` says whether the starts rose so far.
pub record Going (ws vs : List ℤ) (n : ℕ) (p : Range) (rising : Bool) (out i : ℕ) : Type 0 where
  pub done : List Range
  pub count : length done ≡ out
  pub after : out < i
  pub within : i ≤ n
  pub long : length vs ≡ length ws
  pub words : vs ≡ over done ws
  pub sum : done ++ join_on p (drop i (ranges_in ws n)) ≡ join_all (ranges_in ws n)
  pub rises : pick rising (rises_on p (drop i (ranges_in ws n))) false ≡ rises_all (ranges_in ws n)
  pub fits : (j : ℕ) → j < i → FitAt ws j

-- from the i-th record on: that, and those behind it
from_here : (ws : List ℤ) (n i : ℕ) → 2 * n ≤ length ws → i < n → drop i (ranges_in ws n) ≡ pair_at ws i ∷ drop (i + 1) (ranges_in ws n)
from_here ws n i room h =
    rw (add-one i) (drop-cons (ranges_in ws n) i (range (pos 0) (pos 0)) (omega (arith, in_long ws n room))
    ∙ ap (λ (r : Range). r ∷ drop (suc i) (ranges_in ws n)) (in_part ws n room i h))

pub going : (ws : List ℤ) (n : ℕ) → 2 * n ≤ length ws → 0 < n → FitAt ws 0 → {p : Range} → p ≡ straight (pair_at ws 0) → Going ws ws n p true 0 1
going ws n room h fits e =
    let all = from_here ws n 0 room h in
    record {
      done = [];
      count = refl;
      after = omega arith;
      within = omega arith;
      long = refl;
      words = refl;
      sum = ap (λ (p : Range). join_on p (drop 1 (ranges_in ws n))) e ∙ sym (ap join_all all);
      rises = ap (λ (p : Range). rises_on p (drop 1 (ranges_in ws n))) e ∙ sym (ap rises_all all);
      fits = λ j k. let z : j ≡ 0 = omega arith in rw z fits;
    }

is_test : (t : Bool) → t ≡ pick t true false
is_test true = refl
is_test false = refl

-- one test after another
both-tests : (t u x : Bool) → pick (pick t u false) x false ≡ pick t (pick u x false) false
both-tests true u x = refl
both-tests false u x = refl

module _ {ws vs : List ℤ} {n : ℕ} {p : Range} {rising : Bool} {out i : ℕ} (g : Going ws vs n p rising out i) (room : 2 * n ≤ length ws) where
  -- p stored next
  put_next : put_at vs out p ≡ over (g.done ++ (p ∷ [])) ws
  put_next = rw (g.words, ← g.count) (over-put g.done ws p (omega (arith, g.count, g.after, g.within)))

  count_next : length (g.done ++ (p ∷ [])) ≡ out + 1
  count_next = length-append g.done (p ∷ []) ∙ omega (arith, g.count)

  module _ {q : Range} {on : Bool} (e : q ≡ straight (pair_at vs i)) (still : on ≡ pick rising (leb (key p.start) (key q.start)) false) (fits : FitAt vs i) (h : i < n) where
    abbrev rest : List Range
    rest = drop (i + 1) (ranges_in ws n)

    -- what is still to be read stands as it stood
    old : (k : ℕ) → 2 * out ≤ k → get_or vs k (pos 0) ≡ get_or ws k (pos 0)
    old k l = ap (λ (v : List ℤ). get_or v k (pos 0)) g.words ∙ over-at g.done ws k (omega (arith, g.count))

    first : get_or vs (2 * i) (pos 0) ≡ get_or ws (2 * i) (pos 0)
    first = old (2 * i) (omega (arith, g.after))

    second : get_or vs (2 * i + 1) (pos 0) ≡ get_or ws (2 * i + 1) (pos 0)
    second = old (2 * i + 1) (omega (arith, g.after))

    read : straight (pair_at ws i) ≡ q
    read = sym (e ∙ (λ k. straight (range (first k) (second k))))

    fits_on : (j : ℕ) → j < i + 1 → FitAt ws j
    fits_on j l = ⊎_elim (λ d. rw d (rw first at fits.0, rw second at fits.1)) (λ d. g.fits j (omega arith)) (same j i)

    sum_on : g.done ++ pick (meets p q) (join_on (both p q) rest) (p ∷ join_on q rest) ≡ join_all (ranges_in ws n)
    unfolding join_on
    sum_on =
        ap (λ (x : Range). g.done ++ pick (meets p x) (join_on (both p x) rest) (p ∷ join_on x rest)) (sym read)
        ∙ ap (λ (l : List Range). g.done ++ join_on p l) (sym (from_here ws n i room h))
        ∙ g.sum

    rises_on_lem : pick on (pick (meets p q) (rises_on (both p q) rest) (rises_on q rest)) false ≡ rises_all (ranges_in ws n)
    unfolding rises_on
    rises_on_lem =
        ap (λ (t : Bool). pick t (pick (meets p q) (rises_on (both p q) rest) (rises_on q rest)) false) still
        ∙ both-tests rising (leb (key p.start) (key q.start)) (pick (meets p q) (rises_on (both p q) rest) (rises_on q rest))
        ∙ ap (λ (x : Range). pick rising (pick (leb (key p.start) (key x.start)) (pick (meets p x) (rises_on (both p x) rest) (rises_on x rest)) false) false) (sym read)
        ∙ ap (λ (l : List Range). pick rising (rises_on p l) false) (sym (from_here ws n i room h))
        ∙ g.rises

    pub step_joined : meets p q ≡ true → Going ws vs n (both p q) on out (i + 1)
    step_joined t =
        record {
          done = g.done;
          count = g.count;
          after = omega (arith, g.after);
          within = omega arith;
          long = g.long;
          words = g.words;
          sum = rw t at sum_on;
          rises = rw t at rises_on_lem;
          fits = fits_on;
        }

    pub step-apart : meets p q ≡ false → Going ws (put_at vs out p) n q on (out + 1) (i + 1)
    step-apart t =
        record {
          done = g.done ++ (p ∷ []);
          count = count_next;
          after = omega (arith, g.after);
          within = omega arith;
          long = simp length-set g.long;
          words = put_next;
          sum = rw append_assoc (rw t at sum_on);
          rises = rw t at rises_on_lem;
          fits = fits_on;
        }

  module _ (h : n ≤ i) where
    none_left : drop i (ranges_in ws n) ≡ []
    none_left = drop_of_length-le (ranges_in ws n) {i = i} (omega (arith, in_long ws n room))

    -- the last range is stored
    all : g.done ++ (p ∷ []) ≡ join_all (ranges_in ws n)
    unfolding join_on
    all = rw none_left at g.sum

    rose : rising ≡ rises_all (ranges_in ws n)
    unfolding rises_on
    rose = is_test rising ∙ (rw none_left at g.rises)

    pub finish : {r : Joined} → r ≡ record { count = out + 1; rising = rising } → Joins ws (put_at vs out p) n r
    finish e =
        rw e
        (record {
          count = sym count_next ∙ ap length all;
          rising = rose;
          words = put_next ∙ ap (λ (l : List Range). over l ws) all;
          fits = fit_in ws n room (λ j k. g.fits j (omega arith));
        })
