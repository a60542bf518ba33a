-- Intervals joined with the one before them, where the two meet or touch; and whether their starts rose.
use Rattle.std.specs.Prelude.{◌≡◌, Bool, true, false, List, [], ◌∷◌, ℕ, ◌+◌, ◌*◌, ◌≤◌, ltb, leb, ℤ, pos, length, get_or, take, drop}
use Rattle.std.specs.Int.{w32}
use Rattle.std.proofs.Common.{SFits}
use Rattle.format.specs.Reading.{pick}
use Rattle.format.specs.Sets.{Range, range, key, lower, upper}
use Rattle.format.specs.Links.{each}
use Rattle.format.specs.Tables.{range_words}
use Rattle.laws.specs.Canonical.{Fit}
use Rattle.ordering.specs.Records.{pair_at}
use Rattle.ranges.specs.Laid.{ranges_in, kept_of, over}
use Rattle.ranges.specs.declared.joining.Joined.{Joined}

-- "A range with start above stop is swapped."
abbrev pub straight : Range → Range
straight r = range (lower r.start r.stop) (upper r.start r.stop)

-- Whether two ranges meet or touch: neither starts behind the number that follows the other.
abbrev pub meets : Range → Range → Bool
meets p q = pick (ltb (key p.stop + 1) (key q.start)) false (pick (ltb (key q.stop + 1) (key p.start)) false true)

-- Two that do, as one.
abbrev pub both : Range → Range → Range
both p q = range (lower p.start q.start) (upper p.stop q.stop)

-- The range p, and the intervals behind it.
unfoldable pub join_on : Range → List Range → List Range
join_on p [] = p ∷ []
join_on p (r ∷ l) =
    let q = straight r in
    let with = join_on (both p q) l in
    let apart = join_on q l in
    pick (meets p q) with (p ∷ apart)

abbrev pub join_all : List Range → List Range
join_all [] = []
join_all (r ∷ l) = join_on (straight r) l

-- Whether none of them starts below the range that it was joined with or put behind.
unfoldable pub rises_on : Range → List Range → Bool
rises_on p [] = true
rises_on p (r ∷ l) =
    let q = straight r in
    let with = rises_on (both p q) l in
    let apart = rises_on q l in
    pick (leb (key p.start) (key q.start)) (pick (meets p q) with apart) false

abbrev pub rises_all : List Range → Bool
rises_all [] = true
rises_all (r ∷ l) = rises_on (straight r) l

-- The two words of the i-th record are 32-bit numbers, which is known once they were read.
abbrev pub FitAt : List ℤ → ℕ → Type 0
FitAt ws i = SFits w32 (get_or ws (2 * i) (pos 0)) × SFits w32 (get_or ws (2 * i + 1) (pos 0))

-- r is that end of the i-th record, once its ends are in order; its two words were read.
pub record End (ws : List ℤ) (i : ℕ) (end : Range → ℤ) (r : ℤ) : Type 0 where
  pub is : r ≡ end (straight (pair_at ws i))
  pub fits : FitAt ws i

-- Of n intervals at the front of ws, vs has what is left of them once they were joined, and r says how many and whether they rose.
-- All of their words were read.
pub record Joins (ws vs : List ℤ) (n : ℕ) (r : Joined) : Type 0 where
  pub count : r.count ≡ length (join_all (ranges_in ws n))
  pub rising : r.rising ≡ rises_all (ranges_in ws n)
  pub words : vs ≡ over (join_all (ranges_in ws n)) ws
  pub fits : Fit (ranges_in ws n)

-- The r ranges that the set keeps of n intervals stand at the front of vs, and behind the n-th record all stays.
pub record Merges (ws vs : List ℤ) (n r : ℕ) : Type 0 where
  pub count : r ≡ length (kept_of ws n)
  pub few : r ≤ n
  pub front : take (2 * r) vs ≡ each range_words (kept_of ws n)
  pub behind : drop (2 * n) vs ≡ drop (2 * n) ws
