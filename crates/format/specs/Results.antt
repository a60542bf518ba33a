-- The answers as types: what was asked for, or why it was refused.
use Rattle.std.specs.Prelude.{Bool, ℕ, ℤ, Result}
use Rattle.format.specs.declared.Counts.{Counts}
use Rattle.format.specs.declared.Refusal.{Refusal}
use Rattle.format.specs.declared.Denial.{Denial}

-- "The answer of a decode is either an acceptance holding its counts or a refusal holding its number."
abbrev pub Decoded : Type 0
Decoded = Result Counts Refusal

-- How many words were written (document 02, R-1).
abbrev pub Written : Type 0
Written = Result ℕ Refusal

-- The number of a state's n-th edge.
abbrev pub NthEdge : Type 0
NthEdge = Result ℤ Denial

-- Whether an edge matches a symbol.
abbrev pub Matching : Type 0
Matching = Result Bool Denial

-- A set's ranges as a part of the lent table: the part's first word, and its length in words.
abbrev pub SetPart : Type 0
SetPart = Result (ℕ × ℕ) Denial
