-- The records of a set at the front of its part of the range table.
use Rattle.std.specs.Prelude.{List, ◌++◌, ℕ, ◌*◌, ℤ, length, take, drop}
use Rattle.format.specs.Sets.{Range, ranges_of, keep}
use Rattle.format.specs.Links.{each}
use Rattle.format.specs.Tables.{range_words}

-- The first n records, as ranges.
abbrev pub ranges_in : List ℤ → ℕ → List Range
ranges_in part n = ranges_of (take (2 * n) part)

-- What a set keeps of n intervals.
abbrev pub kept_of : List ℤ → ℕ → List Range
kept_of part n = keep (ranges_in part n)

-- Ranges laid over the front of a part.
abbrev pub over : List Range → List ℤ → List ℤ
over l part = each range_words l ++ drop (2 * length l) part
