-- What the parts take and write: records of a table, the two forms of an edge, a state's flag, and the ranges of sets.
use Rattle.std.specs.Prelude.{List, [], ◌∷◌, map, Bool, ◌&&◌, ℕ, ◌+◌, ◌/◌, ◌%◌, ltb, eqb, ℤ, pos}
use Rattle.format.specs.Sets.{Range}
use Rattle.format.specs.Sections.{Edge}
use Rattle.format.specs.Places.{st_flags, se_count}
use Rattle.format.specs.Writing.{cell_size, range_back, cuts, rows_of}

-- ---- format's `edge_form`: at type 3, and at any other

abbrev pub call_form : Edge → List ℤ
call_form e = pos e.source ∷ e.q ∷ pos e.kind ∷ pos e.target ∷ e.p ∷ e.r ∷ []

abbrev pub plain_form : Edge → List ℤ
plain_form e = pos e.source ∷ pos e.target ∷ pos e.kind ∷ e.p ∷ e.q ∷ e.r ∷ []

-- ---- "Flags: 1 non-greedy, 2 left-recursive, 4 precedence decision": each is a bit (proofs/Flags: format's `flag1` and `flag2`)

abbrev pub has : ℕ → ℕ → Bool
has flag s = ltb s 8 && eqb (s / flag % 2) 1

abbrev pub has_flag : ℕ → List ℤ → Bool
has_flag flag x = has flag (cell_size x st_flags)

-- ---- sets

abbrev pub count_of : List ℤ → ℕ
count_of x = cell_size x se_count

-- How many ranges they have.
abbrev pub in_sets : List (List ℤ) → ℕ
in_sets [] = 0
in_sets (x ∷ l) = count_of x + in_sets l

-- What each of them keeps, where the first m ranges count: format's `recovered` has it so.
abbrev pub sets_back : ℕ → List ℤ → List (List ℤ) → List (List Range)
sets_back m ra l = cuts (map range_back (rows_of 2 m ra)) (map count_of l)
