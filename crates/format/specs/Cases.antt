-- Document 01, "Cases on each side": P1 to P11 and the whole case, as one table with a single proof; and a case for each of
-- "Shortcuts that read well and are wrong", which a definition by that shortcut would fail; and
-- refusals of second records (document 02, R-2).
use Rattle.std.specs.Prelude.{◌≡◌, refl, List, [], ◌∷◌, ◌++◌, ℕ, ℤ, pos, Ok, Err}
use Rattle.format.specs.Reading.{Table, States, Edges, Ranges, Sets, Rules, Modes, Decisions, Actions, Scratch, refusal, spot, run, times, get, index, count, ◌>>=◌}
use Rattle.format.specs.Sets.{add, keep_onto}
use Rattle.format.specs.Sections.{none, version, grammar, linked, following, state, states, named, flags, rule, rules, modes, interval, flagged, set, sets_from, sets, test_a, test_b, edge, edges, decisions, action, actions}
use Rattle.format.specs.Links.{derived, decides, safe, tail}
use Rattle.format.specs.Tables.{nine, zeros, list_of, records, table, counts_of}
use Rattle.format.specs.Decode.{returning, dialect, decoded}
use Rattle.format.specs.Results.{Decoded}

-- ---- how a case is written

-- The lengths of the lent slices and the words; what is answered, and what is left in the nine tables.
pub record Case : Type 0 where
  pub lent : Table → ℕ
  pub words : List ℤ
  pub told : Decoded
  pub left : List (List ℤ)

abbrev case : (Table → ℕ) → List ℤ → Decoded → List (List ℤ) → Case
case lent ws d ts = record { lent = lent; words = ws; told = d; left = ts }

-- A word that is not negative, before others.
infixr 67 ◌▸◌
abbrev ◌▸◌ : ℕ → List ℤ → List ℤ
◌▸◌ n l = pos n ∷ l

-- Words read, max token type, states, edges, derived edges, ranges, sets, rules, modes, decisions, actions.
abbrev accepted : ℕ → ℕ → ℕ → ℕ → ℕ → ℕ → ℕ → ℕ → ℕ → ℕ → ℕ → Decoded
accepted w t st ed dd ra se ru mo de ac =
    Ok (record { words = w; token = pos t; states = st; edges = ed; derived = dd; ranges = ra; sets = se; rules = ru; modes = mo; decisions = de; actions = ac })

-- Number, field, record, place, value.
abbrev refused : ℕ → ℕ → ℕ → ℕ → ℕ → Decoded
refused n f i p v = Err (refusal n (spot f i) p (pos v))

abbrev nine_of : {A : Type 0} → (Table → A) → List A
nine_of f = f States ∷ f Edges ∷ f Ranges ∷ f Sets ∷ f Rules ∷ f Modes ∷ f Decisions ∷ f Actions ∷ f Scratch ∷ []

-- A refusal, and all zero.
abbrev denied : (Table → ℕ) → List ℤ → Decoded → Case
denied lent ws d = case lent ws d (nine_of (λ t. zeros (lent t)))

-- Room for one record and a word in every table.
abbrev little : Table → ℕ
little = nine 9 9 3 3 4 2 2 4 5

-- One set with these words, for an edge from a state to itself: so many words in all, and so many ranges kept, in a table of seven words.
abbrev with_set : List ℤ → ℕ → ℕ → List ℤ → Case
with_set set n kept ranges =
    case (nine 8 8 7 2 0 0 0 0 4)
    ((4 ▸ 0 ▸ 0 ▸ 1 ▸ 1 ▸ 0 ▸ 0 ▸ 0 ▸ 0 ▸ 0 ▸ 1 ▸ []) ++ (set ++ (1 ▸ 0 ▸ 0 ▸ 7 ▸ 0 ▸ 0 ▸ 0 ▸ 0 ▸ 0 ▸ [])))
    (accepted n 0 1 1 0 kept 1 0 0 0 0)
    ((1 ▸ 0 ▸ none ∷ none ∷ 0 ▸ 0 ▸ 0 ▸ 1 ▸ [])
    ∷ (7 ▸ 0 ▸ 0 ▸ 0 ▸ 0 ▸ 0 ▸ 0 ▸ none ∷ [])
    ∷ ranges
    ∷ (0 ▸ kept ▸ [])
    ∷ [] ∷ [] ∷ [] ∷ []
    ∷ (0 ▸ 0 ▸ 0 ▸ 0 ▸ [])
    ∷ [])

-- Room for three records in every table, and these words behind the header.
abbrev second : List ℤ → Decoded → Case
second ws d = denied (nine 24 24 6 6 9 3 3 9 12) (4 ▸ 0 ▸ 0 ▸ ws) d

-- The whole case's words.
abbrev whole : List ℤ
whole =
    (4 ▸ 0 ▸ 1 ▸ 4 ▸ 6 ▸ none ∷ 2 ▸ 0 ▸ 7 ▸ 0 ▸ 1 ▸ 0 ▸ 0 ▸ 0 ▸ 1 ▸ 1 ▸ 1 ▸ 1 ▸ 0 ▸ 1 ▸ 2 ▸ 0 ▸ 48 ▸ 52 ▸ 53 ▸ 57 ▸ 3 ▸ 0 ▸ 1 ▸ 1 ▸ 0 ▸ 0 ▸ 0 ▸ 1 ▸ 3 ▸ 7 ▸ 0 ▸ 0 ▸ 0 ▸ 3 ▸ 2 ▸ 1 ▸ 0 ▸ 0 ▸ 0 ▸ 1 ▸ 0 ▸ 1 ▸ 6 ▸ 0 ▸ 0 ▸ [])

-- ---- the table

abbrev pub cases : List Case
cases =
    -- P1 empty input: 1, field 1, place 0
    denied little
    []
    (refused 1 1 0 0 0)
    ∷
    -- P2 `4 0 9` and nine zeros: accepted, 12 words
    case little
    (4 ▸ 0 ▸ 9 ▸ 0 ▸ 0 ▸ 0 ▸ 0 ▸ 0 ▸ 0 ▸ 0 ▸ 0 ▸ 0 ▸ [])
    (accepted 12 9 0 0 0 0 0 0 0 0 0)
    (nine_of (λ t. zeros (little t)))
    ∷
    -- P3 the first 11 of those: 1, field 32, place 11
    denied little
    (4 ▸ 0 ▸ 9 ▸ 0 ▸ 0 ▸ 0 ▸ 0 ▸ 0 ▸ 0 ▸ 0 ▸ 0 ▸ [])
    (refused 1 32 0 11 0)
    ∷
    -- P4 `3`: 3
    denied little
    (3 ▸ [])
    (refused 3 1 0 0 3)
    ∷
    -- P5 `4 1`: 4
    denied little
    (4 ▸ 1 ▸ [])
    (refused 4 2 0 1 1)
    ∷
    -- P6 range (9,3) keeps 3..9
    with_set (1 ▸ 0 ▸ 9 ▸ 3 ▸ []) 24 1 (3 ▸ 9 ▸ 0 ▸ 0 ▸ 0 ▸ 0 ▸ 0 ▸ [])
    ∷
    -- P7 (1,3),(4,6) keeps 1..6
    with_set (2 ▸ 0 ▸ 1 ▸ 3 ▸ 4 ▸ 6 ▸ []) 26 1 (1 ▸ 6 ▸ 0 ▸ 0 ▸ 0 ▸ 0 ▸ 0 ▸ [])
    ∷
    -- P8 (1,3),(5,6) keeps two
    with_set (2 ▸ 0 ▸ 1 ▸ 3 ▸ 5 ▸ 6 ▸ []) 26 2 (1 ▸ 3 ▸ 5 ▸ 6 ▸ 0 ▸ 0 ▸ 0 ▸ [])
    ∷
    -- P9 flag with (0,5) keeps −1..5
    with_set (1 ▸ 1 ▸ 0 ▸ 5 ▸ []) 24 1 (none ∷ 5 ▸ 0 ▸ 0 ▸ 0 ▸ 0 ▸ 0 ▸ [])
    ∷
    -- P10 (2147483647,2147483647),(2147483646,2147483646) keeps one
    with_set (2 ▸ 0 ▸ 2147483647 ▸ 2147483647 ▸ 2147483646 ▸ 2147483646 ▸ []) 26 1 (2147483646 ▸ 2147483647 ▸ 0 ▸ 0 ▸ 0 ▸ 0 ▸ 0 ▸ [])
    ∷
    -- P11 follow = stop: mark 2
    case (nine 24 33 0 0 3 0 0 0 12)
    (4 ▸ 0 ▸ 0 ▸ 3 ▸ 2 ▸ 0 ▸ 7 ▸ 0 ▸ 1 ▸ 0 ▸ 0 ▸ 0 ▸ 1 ▸ 0 ▸ 1 ▸ 0 ▸ 0 ▸ 2 ▸ 0 ▸ 1 ▸ 3 ▸ 0 ▸ 0 ▸ 0 ▸ 2 ▸ 2 ▸ 1 ▸ 0 ▸ 0 ▸ 0 ▸ 0 ▸ 0 ▸ [])
    (accepted 32 0 3 3 1 0 0 1 0 0 0)
    ((2 ▸ 0 ▸ none ∷ none ∷ 0 ▸ 0 ▸ 0 ▸ 1 ▸ 7 ▸ 0 ▸ none ∷ none ∷ 0 ▸ 2 ▸ 2 ▸ 1 ▸ 1 ▸ 0 ▸ none ∷ none ∷ 0 ▸ 1 ▸ 1 ▸ 1 ▸ [])
    ∷ (3 ▸ 0 ▸ 0 ▸ 0 ▸ 1 ▸ 0 ▸ 2 ▸ none ∷ 1 ▸ 2 ▸ 2 ▸ 0 ▸ 0 ▸ 0 ▸ 0 ▸ none ∷ 1 ▸ 1 ▸ 1 ▸ 0 ▸ 0 ▸ 0 ▸ 1 ▸ none ∷ 0 ▸ 0 ▸ 0 ▸ 0 ▸ 0 ▸ 0 ▸ 0 ▸ 0 ▸ 0 ▸ [])
    ∷ []
    ∷ []
    ∷ (0 ▸ 1 ▸ 1 ▸ [])
    ∷ []
    ∷ []
    ∷ []
    ∷ (0 ▸ 0 ▸ 0 ▸ 0 ▸ 0 ▸ 0 ▸ 0 ▸ 0 ▸ 0 ▸ 0 ▸ 0 ▸ 0 ▸ [])
    ∷ [])
    ∷
    -- P11 follow with one epsilon edge to itself: 0
    case (nine 24 33 0 0 3 0 0 0 12)
    (4 ▸ 0 ▸ 0 ▸ 3 ▸ 2 ▸ 0 ▸ 7 ▸ 0 ▸ 1 ▸ 0 ▸ 0 ▸ 0 ▸ 1 ▸ 0 ▸ 1 ▸ 0 ▸ 0 ▸ 2 ▸ 0 ▸ 2 ▸ 3 ▸ 0 ▸ 0 ▸ 0 ▸ 2 ▸ 2 ▸ 1 ▸ 0 ▸ 0 ▸ 0 ▸ 0 ▸ 0 ▸ [])
    (accepted 32 0 3 3 1 0 0 1 0 0 0)
    ((2 ▸ 0 ▸ none ∷ none ∷ 0 ▸ 0 ▸ 0 ▸ 1 ▸ 7 ▸ 0 ▸ none ∷ none ∷ 0 ▸ 2 ▸ 2 ▸ 1 ▸ 1 ▸ 0 ▸ none ∷ none ∷ 0 ▸ 1 ▸ 1 ▸ 1 ▸ [])
    ∷ (3 ▸ 0 ▸ 0 ▸ 0 ▸ 2 ▸ 0 ▸ 0 ▸ none ∷ 1 ▸ 2 ▸ 2 ▸ 0 ▸ 0 ▸ 0 ▸ 0 ▸ none ∷ 1 ▸ 1 ▸ 2 ▸ 0 ▸ 0 ▸ 0 ▸ 1 ▸ none ∷ 0 ▸ 0 ▸ 0 ▸ 0 ▸ 0 ▸ 0 ▸ 0 ▸ 0 ▸ 0 ▸ [])
    ∷ []
    ∷ []
    ∷ (0 ▸ 1 ▸ 1 ▸ [])
    ∷ []
    ∷ []
    ∷ []
    ∷ (0 ▸ 0 ▸ 0 ▸ 0 ▸ 0 ▸ 0 ▸ 0 ▸ 0 ▸ 0 ▸ 0 ▸ 0 ▸ 0 ▸ [])
    ∷ [])
    ∷
    -- Whole case, 51 words
    case (nine 32 24 4 2 3 1 1 3 16)
    whole
    (accepted 51 1 4 3 0 1 1 1 1 1 1)
    ((6 ▸ none ∷ none ∷ none ∷ 0 ▸ 0 ▸ 0 ▸ 1 ▸ 2 ▸ 0 ▸ none ∷ none ∷ 0 ▸ 1 ▸ 1 ▸ 1 ▸ 7 ▸ 0 ▸ none ∷ none ∷ 0 ▸ none ∷ none ∷ 0 ▸ 1 ▸ 0 ▸ none ∷ none ∷ 0 ▸ 2 ▸ 2 ▸ 1 ▸ [])
    ∷ (1 ▸ 0 ▸ 1 ▸ 0 ▸ 0 ▸ 0 ▸ 0 ▸ none ∷ 7 ▸ 1 ▸ 3 ▸ 0 ▸ 0 ▸ 0 ▸ 0 ▸ none ∷ 1 ▸ 3 ▸ 2 ▸ 0 ▸ 0 ▸ 0 ▸ 0 ▸ none ∷ [])
    ∷ (48 ▸ 57 ▸ 0 ▸ 0 ▸ [])
    ∷ (0 ▸ 1 ▸ [])
    ∷ (1 ▸ 2 ▸ 1 ▸ [])
    ∷ (0 ▸ [])
    ∷ (0 ▸ [])
    ∷ (6 ▸ 0 ▸ 0 ▸ [])
    ∷ (0 ▸ 0 ▸ 0 ▸ 0 ▸ 0 ▸ 0 ▸ 0 ▸ 0 ▸ 0 ▸ 0 ▸ 0 ▸ 0 ▸ 0 ▸ 0 ▸ 0 ▸ 0 ▸ [])
    ∷ [])
    ∷
    -- With room for one range it is refused: 12, field 20, place 21, value 2
    denied (nine 32 24 2 2 3 1 1 3 16)
    whole
    (refused 12 20 0 21 2)
    ∷
    -- "Using a rule edge's p for the return edge": p is 0, the target's rule 1, and the return edge leaves the stop of rule 1
    case (nine 40 16 0 0 6 0 0 0 20)
    (4 ▸ 0 ▸ 0 ▸ 5 ▸ 2 ▸ 0 ▸ 7 ▸ 0 ▸ 1 ▸ 0 ▸ 2 ▸ 1 ▸ 7 ▸ 1 ▸ 0 ▸ 0 ▸ 2 ▸ 0 ▸ 1 ▸ 3 ▸ 2 ▸ 0 ▸ 0 ▸ 1 ▸ 0 ▸ 2 ▸ 3 ▸ 3 ▸ 0 ▸ 0 ▸ 0 ▸ 0 ▸ [])
    (accepted 32 0 5 2 1 0 0 2 0 0 0)
    ((2 ▸ 0 ▸ none ∷ none ∷ 0 ▸ 0 ▸ 0 ▸ 1 ▸ 7 ▸ 0 ▸ none ∷ none ∷ 0 ▸ none ∷ none ∷ 0 ▸ 1 ▸ 0 ▸ none ∷ none ∷ 0 ▸ none ∷ none ∷ 0 ▸ 2 ▸ 1 ▸ none ∷ none ∷ 0 ▸ none ∷ none ∷ 0 ▸ 7 ▸ 1 ▸ none ∷ none ∷ 0 ▸ 1 ▸ 1 ▸ 1 ▸ [])
    ∷ (3 ▸ 0 ▸ 3 ▸ 0 ▸ 2 ▸ 0 ▸ 0 ▸ none ∷ 1 ▸ 4 ▸ 2 ▸ 0 ▸ 0 ▸ 0 ▸ 1 ▸ none ∷ [])
    ∷ []
    ∷ []
    ∷ (0 ▸ 1 ▸ 1 ▸ 3 ▸ 4 ▸ 2 ▸ [])
    ∷ []
    ∷ []
    ∷ []
    ∷ (0 ▸ 0 ▸ 0 ▸ 0 ▸ 0 ▸ 0 ▸ 0 ▸ 0 ▸ 0 ▸ 0 ▸ 0 ▸ 0 ▸ 0 ▸ 0 ▸ 0 ▸ 0 ▸ 0 ▸ 0 ▸ 0 ▸ 0 ▸ [])
    ∷ [])
    ∷
    -- "Taking a rule's first stop; the last counts"
    case (nine 24 0 0 0 3 0 0 0 12)
    (4 ▸ 0 ▸ 0 ▸ 3 ▸ 2 ▸ 0 ▸ 7 ▸ 0 ▸ 7 ▸ 0 ▸ 0 ▸ 0 ▸ 1 ▸ 0 ▸ 1 ▸ 0 ▸ 0 ▸ 0 ▸ 0 ▸ 0 ▸ [])
    (accepted 20 0 3 0 0 0 0 1 0 0 0)
    ((2 ▸ 0 ▸ none ∷ none ∷ 0 ▸ none ∷ none ∷ 0 ▸ 7 ▸ 0 ▸ none ∷ none ∷ 0 ▸ none ∷ none ∷ 0 ▸ 7 ▸ 0 ▸ none ∷ none ∷ 0 ▸ none ∷ none ∷ 0 ▸ [])
    ∷ []
    ∷ []
    ∷ []
    ∷ (0 ▸ 2 ▸ 1 ▸ [])
    ∷ []
    ∷ []
    ∷ []
    ∷ (0 ▸ 0 ▸ 0 ▸ 0 ▸ 0 ▸ 0 ▸ 0 ▸ 0 ▸ 0 ▸ 0 ▸ 0 ▸ 0 ▸ [])
    ∷ [])
    ∷
    -- "Seeing a state twice and calling it a cycle: two branches may meet": at the state 5, behind the follow state 2
    case (nine 48 56 0 0 3 0 0 0 24)
    (4 ▸ 0 ▸ 0 ▸ 6 ▸ 2 ▸ 0 ▸ 7 ▸ 0 ▸ 1 ▸ 0 ▸ 1 ▸ 0 ▸ 1 ▸ 0 ▸ 1 ▸ 0 ▸ 0 ▸ 0 ▸ 1 ▸ 0 ▸ 1 ▸ 0 ▸ 0 ▸ 6 ▸ 0 ▸ 2 ▸ 3 ▸ 0 ▸ 0 ▸ 0 ▸ 2 ▸ 3 ▸ 1 ▸ 0 ▸ 0 ▸ 0 ▸ 2 ▸ 4 ▸ 1 ▸ 0 ▸ 0 ▸ 0 ▸ 3 ▸ 5 ▸ 1 ▸ 0 ▸ 0 ▸ 0 ▸ 4 ▸ 5 ▸ 1 ▸ 0 ▸ 0 ▸ 0 ▸ 5 ▸ 1 ▸ 1 ▸ 0 ▸ 0 ▸ 0 ▸ 0 ▸ 0 ▸ [])
    (accepted 62 0 6 7 1 0 0 1 0 0 0)
    ((2 ▸ 0 ▸ none ∷ none ∷ 0 ▸ 0 ▸ 0 ▸ 1 ▸ 7 ▸ 0 ▸ none ∷ none ∷ 0 ▸ 6 ▸ 6 ▸ 1 ▸ 1 ▸ 0 ▸ none ∷ none ∷ 0 ▸ 1 ▸ 2 ▸ 2 ▸ 1 ▸ 0 ▸ none ∷ none ∷ 0 ▸ 3 ▸ 3 ▸ 1 ▸ 1 ▸ 0 ▸ none ∷ none ∷ 0 ▸ 4 ▸ 4 ▸ 1 ▸ 1 ▸ 0 ▸ none ∷ none ∷ 0 ▸ 5 ▸ 5 ▸ 1 ▸ [])
    ∷ (3 ▸ 0 ▸ 0 ▸ 0 ▸ 2 ▸ 0 ▸ 2 ▸ none ∷ 1 ▸ 2 ▸ 3 ▸ 0 ▸ 0 ▸ 0 ▸ 0 ▸ 2 ▸ 1 ▸ 2 ▸ 4 ▸ 0 ▸ 0 ▸ 0 ▸ 0 ▸ none ∷ 1 ▸ 3 ▸ 5 ▸ 0 ▸ 0 ▸ 0 ▸ 0 ▸ none ∷ 1 ▸ 4 ▸ 5 ▸ 0 ▸ 0 ▸ 0 ▸ 0 ▸ none ∷ 1 ▸ 5 ▸ 1 ▸ 0 ▸ 0 ▸ 0 ▸ 0 ▸ none ∷ 1 ▸ 1 ▸ 2 ▸ 0 ▸ 0 ▸ 0 ▸ 1 ▸ none ∷ [])
    ∷ []
    ∷ []
    ∷ (0 ▸ 1 ▸ 1 ▸ [])
    ∷ []
    ∷ []
    ∷ []
    ∷ (0 ▸ 0 ▸ 0 ▸ 0 ▸ 0 ▸ 0 ▸ 0 ▸ 0 ▸ 0 ▸ 0 ▸ 0 ▸ 0 ▸ 0 ▸ 0 ▸ 0 ▸ 0 ▸ 0 ▸ 0 ▸ 0 ▸ 0 ▸ 0 ▸ 0 ▸ 0 ▸ 0 ▸ [])
    ∷ [])
    ∷
    -- "Reading a rule word after state type 0"
    case (nine 16 0 0 0 0 0 0 0 8)
    (4 ▸ 0 ▸ 0 ▸ 2 ▸ 0 ▸ 1 ▸ 5 ▸ 0 ▸ 0 ▸ 0 ▸ 0 ▸ 0 ▸ 0 ▸ 0 ▸ 0 ▸ [])
    (accepted 15 0 2 0 0 0 0 0 0 0 0)
    ((0 ▸ none ∷ none ∷ none ∷ 0 ▸ none ∷ none ∷ 0 ▸ 1 ▸ 5 ▸ none ∷ none ∷ 0 ▸ none ∷ none ∷ 0 ▸ [])
    ∷ []
    ∷ []
    ∷ []
    ∷ []
    ∷ []
    ∷ []
    ∷ []
    ∷ (0 ▸ 0 ▸ 0 ▸ 0 ▸ 0 ▸ 0 ▸ 0 ▸ 0 ▸ [])
    ∷ [])
    ∷
    -- "Refusing a negative b in type 6"
    case (nine 8 8 0 0 0 0 0 0 4)
    (4 ▸ 0 ▸ 0 ▸ 1 ▸ 1 ▸ 0 ▸ 0 ▸ 0 ▸ 0 ▸ 0 ▸ 0 ▸ 1 ▸ 0 ▸ 0 ▸ 6 ▸ 2 ▸ none ∷ 1 ▸ 0 ▸ 0 ▸ [])
    (accepted 20 0 1 1 0 0 0 0 0 0 0)
    ((1 ▸ 0 ▸ none ∷ none ∷ 0 ▸ 0 ▸ 0 ▸ 1 ▸ [])
    ∷ (6 ▸ 0 ▸ 0 ▸ 2 ▸ none ∷ 1 ▸ 0 ▸ none ∷ [])
    ∷ []
    ∷ []
    ∷ []
    ∷ []
    ∷ []
    ∷ []
    ∷ (0 ▸ 0 ▸ 0 ▸ 0 ▸ [])
    ∷ [])
    ∷
    -- "refusals 1 to 12 carry it: state, rule, set, edge or action number"; a state whose type is unknown, and one whose words end
    second (2 ▸ 1 ▸ 0 ▸ 13 ▸ []) (refused 6 5 1 6 13)
    ∷
    second (2 ▸ 1 ▸ 0 ▸ 12 ▸ 0 ▸ []) (refused 1 7 1 8 0)
    ∷
    -- "for fields 10, 12, 17 and 31 the place in their list": the second of each
    second (1 ▸ 1 ▸ 0 ▸ 2 ▸ 0 ▸ 1 ▸ []) (refused 7 10 1 8 1)
    ∷
    second (1 ▸ 1 ▸ 0 ▸ 0 ▸ 2 ▸ 0 ▸ 1 ▸ []) (refused 7 12 1 9 1)
    ∷
    second (0 ▸ 0 ▸ 0 ▸ 0 ▸ 2 ▸ 0 ▸ []) (refused 1 17 1 9 0)
    ∷
    second (0 ▸ 0 ▸ 0 ▸ 0 ▸ 0 ▸ 0 ▸ 0 ▸ 2 ▸ 0 ▸ []) (refused 1 31 1 12 0)
    ∷
    second (0 ▸ 0 ▸ 0 ▸ 2 ▸ 0 ▸ 0 ▸ 0 ▸ []) (refused 1 15 1 10 0)
    ∷
    second (0 ▸ 0 ▸ 0 ▸ 2 ▸ 0 ▸ 0 ▸ none ∷ []) (Err (refusal 2 (spot 14 1) 9 none))
    ∷
    -- "Fields 19 to 22 carry their set": its count, its flag, its room, the stop of its first interval, the start of its third
    second (0 ▸ 0 ▸ 0 ▸ 0 ▸ 0 ▸ 2 ▸ 0 ▸ 0 ▸ []) (refused 1 19 1 11 0)
    ∷
    second (0 ▸ 0 ▸ 0 ▸ 0 ▸ 0 ▸ 2 ▸ 0 ▸ 0 ▸ 2 ▸ []) (refused 1 20 1 12 0)
    ∷
    second (0 ▸ 0 ▸ 0 ▸ 0 ▸ 0 ▸ 2 ▸ 0 ▸ 0 ▸ 3 ▸ 1 ▸ []) (refused 12 20 1 12 4)
    ∷
    second (0 ▸ 0 ▸ 0 ▸ 0 ▸ 0 ▸ 2 ▸ 0 ▸ 0 ▸ 3 ▸ 0 ▸ 5 ▸ []) (refused 1 22 1 14 0)
    ∷
    second (0 ▸ 0 ▸ 0 ▸ 0 ▸ 0 ▸ 2 ▸ 0 ▸ 0 ▸ 3 ▸ 0 ▸ 5 ▸ 6 ▸ 7 ▸ 8 ▸ []) (refused 1 21 1 17 0)
    ∷
    -- an edge whose type is unknown, whose set is not listed, whose source is not listed; an action
    second (1 ▸ 1 ▸ 0 ▸ 0 ▸ 0 ▸ 0 ▸ 0 ▸ 0 ▸ 2 ▸ 0 ▸ 0 ▸ 1 ▸ 0 ▸ 0 ▸ 0 ▸ 0 ▸ 0 ▸ 11 ▸ 0 ▸ 0 ▸ 0 ▸ []) (refused 8 26 1 20 11)
    ∷
    second (1 ▸ 1 ▸ 0 ▸ 0 ▸ 0 ▸ 0 ▸ 0 ▸ 0 ▸ 2 ▸ 0 ▸ 0 ▸ 1 ▸ 0 ▸ 0 ▸ 0 ▸ 0 ▸ 0 ▸ 7 ▸ 3 ▸ 0 ▸ 0 ▸ []) (refused 9 27 1 21 3)
    ∷
    second (1 ▸ 1 ▸ 0 ▸ 0 ▸ 0 ▸ 0 ▸ 0 ▸ 0 ▸ 2 ▸ 0 ▸ 0 ▸ 1 ▸ 0 ▸ 0 ▸ 0 ▸ 1 ▸ 0 ▸ 1 ▸ 0 ▸ 0 ▸ 0 ▸ []) (refused 10 24 1 18 1)
    ∷
    second (0 ▸ 0 ▸ 0 ▸ 0 ▸ 0 ▸ 0 ▸ 0 ▸ 0 ▸ 2 ▸ 6 ▸ 0 ▸ 0 ▸ 8 ▸ 0 ▸ 0 ▸ []) (refused 11 33 1 15 8)
    ∷
    -- "the header, the other counts and the derived-edge refusal carry 0": the counts behind two states, and behind two rules
    second (2 ▸ 1 ▸ 0 ▸ 1 ▸ 0 ▸ []) (refused 1 9 0 8 0)
    ∷
    second (0 ▸ 0 ▸ 0 ▸ 2 ▸ 0 ▸ 0 ▸ 0 ▸ 0 ▸ []) (refused 1 16 0 11 0)
    ∷
    -- and no room for a derived edge behind two edges
    denied (nine 24 16 0 0 3 0 0 0 12)
    (4 ▸ 0 ▸ 0 ▸ 3 ▸ 2 ▸ 0 ▸ 7 ▸ 0 ▸ 1 ▸ 0 ▸ 0 ▸ 0 ▸ 1 ▸ 0 ▸ 1 ▸ 0 ▸ 0 ▸ 2 ▸ 0 ▸ 1 ▸ 3 ▸ 0 ▸ 0 ▸ 0 ▸ 2 ▸ 2 ▸ 1 ▸ 0 ▸ 0 ▸ 0 ▸ 0 ▸ 0 ▸ [])
    (refused 12 23 0 30 3)
    ∷ []

-- What a decode makes of a case.
abbrev pub decodes : Case → Case
decodes c = let a = decoded c.lent c.words 0 in case c.lent c.words a.told (nine_of a.left)

-- Every case comes out as it is written.
pub as_written : list_of decodes cases ≡ cases
unfolding run ◌>>=◌ times get index count add keep_onto version grammar linked following state states named flags rule rules modes interval flagged set sets_from sets test_a test_b edge edges decisions action actions derived decides safe tail records table counts_of returning dialect decoded
as_written = refl
