-- A table that holds stored words, and zeros behind them.
use Rattle.std.specs.Prelude.{Bool, true, ◌&&◌, List, ℕ, zero, suc, leb, ℤ, pos, length, get_or}
use Rattle.format.specs.Sections.{same}

-- The word at a place; 0 where there is none.
abbrev pub word_at : List ℤ → ℕ → ℤ
word_at ws i = get_or ws i (pos 0)

-- The first n words of both are the same.
unfoldable pub agree : ℕ → List ℤ → List ℤ → Bool
agree zero t e = true
agree (suc n) t e = same (word_at t n) (word_at e n) && agree n t e

abbrev pub holds : List ℤ → List ℤ → Bool
holds table stored = leb (length stored) (length table) && agree (length table) table stored
