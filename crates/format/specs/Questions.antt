-- Document 01, "Questions". Tables are lists of words, with counts of records; nothing is written.
use Rattle.std.specs.Prelude.{List, [], Bool, not, ◌&&◌, ◌||◌, ℕ, zero, suc, ◌+◌, ◌*◌, ◌/◌, leb, eqb, ℤ, pos, length, get_or, take, drop, Ok, Err}
use Rattle.std.specs.Int.Signed.{le_z}
use Rattle.format.specs.Reading.{Table, States, Edges, Ranges, Sets, pick}
use Rattle.format.specs.Sets.{holds, ranges_of}
use Rattle.format.specs.Sections.{same, size}
use Rattle.format.specs.Links.{names}
use Rattle.format.specs.Tables.{width}
use Rattle.format.specs.declared.Denial.{Denial}
use Rattle.format.specs.Results.{NthEdge, Matching, SetPart}

-- "13: a question names no such record": value the number
abbrev pub missing : ℤ → Denial
missing v = record { number = 13; value = v }

-- "14: tables of a question contradict themselves": value 0
abbrev pub contradiction : Denial
contradiction = record { number = 14; value = pos 0 }

-- "Counts beyond whole records: 14"; whole records are not capped here
abbrev pub fits : Table → ℕ → List ℤ → Bool
fits t n ws = leb n (length ws / width t)

-- The k-th word of a table's record i.
abbrev pub at : Table → List ℤ → ℤ → ℕ → ℤ
at t ws i k = get_or ws (width t * size i + k) (pos 0)

-- ---- "the number of a state's n-th edge (n from 0)"

-- "A first, next .. number that is followed and leaves its table's count: 14": n steps on from the edge e; the answered edge is followed too
unfoldable pub walk : List ℤ → ℕ → ℕ → ℤ → NthEdge
walk es m zero e = pick (names m e) (Ok e) (Err contradiction)
walk es m (suc n) e =
    let on = walk es m n (at Edges es e 7) in
    pick (names m e) on (Err contradiction)

-- "Counts .. tested first. A state, then n (not below the edge count) .. that is negative or outside: 13."
unfoldable pub nth_edge : List ℤ → ℕ → List ℤ → ℕ → ℤ → ℤ → NthEdge
nth_edge ss n es m s k =
    let on = walk es m (size k) (at States ss s 5) in
    pick (not (fits States n ss && fits Edges m es)) (Err contradiction)
    (pick (not (names n s)) (Err (missing s))
    (pick (not (le_z (pos 0) k) || le_z (at States ss s 7) k) (Err (missing k)) on))

-- ---- "a set's ranges as a part of the lent table"

-- The set's part is inside: its first range and its range count, against the ranges' count.
abbrev pub inside : List ℤ → ℕ → ℤ → Bool
inside ls m k =
    le_z (pos 0) (at Sets ls k 0) && le_z (pos 0) (at Sets ls k 1) && leb (size (at Sets ls k 0) + size (at Sets ls k 1)) m

-- Its first word, and its length in words.
abbrev pub part_start : List ℤ → ℤ → ℕ
part_start ls k = 2 * size (at Sets ls k 0)

abbrev pub part_length : List ℤ → ℤ → ℕ
part_length ls k = 2 * size (at Sets ls k 1)

unfoldable pub set_part : List ℤ → ℕ → List ℤ → ℕ → ℤ → SetPart
set_part ls n rs m k =
    pick (not (fits Sets n ls && fits Ranges m rs)) (Err contradiction)
    (pick (not (names n k)) (Err (missing k))
    (pick (not (inside ls m k)) (Err contradiction) (Ok ((part_start ls k), (part_length ls k)))))

-- The part itself; empty where the question is refused.
abbrev pub part_of : List ℤ → SetPart → List ℤ
part_of rs (Ok (a, n)) = take n (drop a rs)
part_of rs (Err d) = []

-- ---- "lookup in a lent list of ranges (an odd last word isn't read; never refused)"

unfoldable pub lookup : List ℤ → ℤ → Bool
lookup ws v = holds (ranges_of ws) v

-- ---- "whether an edge matches a symbol given min and max"

-- "5 equal; 2 start ≤ symbol ≤ stop; 7 lookup yes; 8 within min..max and lookup no; 9 within min..max; others never"
-- k is the type, p and q the edge's; hit is the lookup of the symbol v in the set.
abbrev pub matching : ℕ → ℤ → ℤ → Bool → ℤ → ℤ → ℤ → Bool
matching k p q hit v lo hi =
    let within = le_z lo v && le_z v hi in
    (eqb k 5 && same p v) || (eqb k 2 && le_z p v && le_z v q) || (eqb k 7 && hit) || (eqb k 8 && within && not hit) || (eqb k 9 && within)

abbrev pub setting : ℤ → Bool
setting k = same k (pos 7) || same k (pos 8)

-- An edge's type is 1 to 10, and a set number that is followed is listed and its part inside.
abbrev pub sound : List ℤ → ℕ → ℕ → ℤ → ℤ → Bool
sound ls n m k p = le_z (pos 1) k && le_z k (pos 10) && (not (setting k) || (names n p && inside ls m p))

unfoldable pub matches : List ℤ → ℕ → List ℤ → ℕ → List ℤ → ℕ → ℤ → ℤ → ℤ → ℤ → Matching
matches es c ls n rs m e v lo hi =
    let k = at Edges es e 0 in
    let p = at Edges es e 3 in
    let hit = lookup (part_of rs (Ok ((part_start ls p), (part_length ls p)))) v in
    let on = Ok (matching (size k) p (at Edges es e 4) hit v lo hi) in
    pick (not (fits Edges c es && fits Sets n ls && fits Ranges m rs)) (Err contradiction)
    (pick (not (names c e)) (Err (missing e))
    (pick (not (sound ls n m k p)) (Err contradiction) on))
