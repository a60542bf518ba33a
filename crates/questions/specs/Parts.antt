-- The inner steps of the set's question and of matching, as parts of document 01's definitions.
use Rattle.std.specs.Prelude.{Bool, Result, ⊤, List, not, ◌&&◌, ℕ, ◌+◌, ◌*◌, ◌≤◌, leb, ℤ, pos, length, Ok, Err}
use Rattle.std.specs.Int.Signed.{le_z}
use Rattle.format.specs.Reading.{pick}
use Rattle.format.specs.Sections.{size}
use Rattle.format.specs.Questions.{contradiction, part_of, part_start, part_length, lookup, matching, sound}
use Rattle.format.specs.declared.Denial.{Denial}
use Rattle.format.specs.Results.{SetPart, Matching}

-- What a test of a table's count comes to.
abbrev pub checked : Bool → Result ⊤ Denial
checked fits = pick fits (Ok tt) (Err contradiction)

-- The part of a listed set, by its two words: a is its first range, n its range count.
abbrev pub part_at : ℤ → ℤ → ℕ → SetPart
part_at a n m = pick (not (le_z (pos 0) a && le_z (pos 0) n && leb (size a + size n) m)) (Err contradiction) (Ok ((2 * size a), (2 * size n)))

-- A part lies inside the words.
abbrev pub Within : List ℤ → SetPart → Type 0
Within rs (Ok (a, n)) = a + n ≤ length rs
Within rs (Err d) = Unit {0}

-- Whether a set's part holds v.
abbrev pub looked_up : List ℤ → SetPart → ℤ → Matching
looked_up rs (Ok (a, n)) v = Ok (lookup (part_of rs (Ok (a, n))) v)
looked_up rs (Err d) v = Err contradiction

-- A listed edge, by its type and its p and q, where the counts are right.
unfoldable pub meets : ℤ → ℤ → ℤ → List ℤ → ℕ → List ℤ → ℕ → ℤ → ℤ → ℤ → Matching
meets k p q ls n rs m v lo hi =
    let hit = lookup (part_of rs (Ok ((part_start ls p), (part_length ls p)))) v in
    pick (not (sound ls n m k p)) (Err contradiction) (Ok (matching (size k) p q hit v lo hi))
