-- Document 02, R-1: tables and what is written of them, as one table with a single proof.
use Rattle.std.specs.Prelude.{◌≡◌, refl, List, [], ◌∷◌, ℕ, ℤ, pos, negsuc, drop}
use Rattle.format.specs.Reading.{Table, run, times, get, index, count, ◌>>=◌}
use Rattle.format.specs.Sets.{add, keep_onto}
use Rattle.format.specs.Sections.{none, version, grammar, linked, following, state, states, named, flags, rule, rules, modes, interval, flagged, set, sets_from, sets, test_a, test_b, edge, edges, decisions, action, actions}
use Rattle.format.specs.Links.{derived, decides, safe, tail}
use Rattle.format.specs.Tables.{nine, list_of, records, table, counts_of}
use Rattle.format.specs.Decode.{returning, dialect, decoded}
use Rattle.format.specs.Writing.{Writing, words_of, recovered, comes, wrote, unwritten, write}

-- The tables, their counts, the max token type, the output's length; and what is answered and left.
pub record Case : Type 0 where
  pub tables : Table → List ℤ
  pub counts : Table → ℕ
  pub token : ℤ
  pub output : ℕ
  pub answer : Writing

abbrev case : (Table → List ℤ) → (Table → ℕ) → ℤ → ℕ → Writing → Case
case t c k m a = record { tables = t; counts = c; token = k; output = m; answer = a }

-- A word that is not negative, before others.
infixr 67 ◌▸◌
abbrev ◌▸◌ : ℕ → List ℤ → List ℤ
◌▸◌ n l = pos n ∷ l

-- ---- the whole case: its set's two touching intervals are kept as one, so that 49 words are written

abbrev states0 : List ℤ
states0 = 6 ▸ none ∷ none ∷ none ∷ 0 ▸ 0 ▸ 0 ▸ 1 ▸ 2 ▸ 0 ▸ none ∷ none ∷ 0 ▸ 1 ▸ 1 ▸ 1 ▸ 7 ▸ 0 ▸ none ∷ none ∷ 0 ▸ none ∷ none ∷ 0 ▸ 1 ▸ 0 ▸ none ∷ none ∷ 0 ▸ 2 ▸ 2 ▸ 1 ▸ []

abbrev edges0 : List ℤ
edges0 = 1 ▸ 0 ▸ 1 ▸ 0 ▸ 0 ▸ 0 ▸ 0 ▸ none ∷ 7 ▸ 1 ▸ 3 ▸ 0 ▸ 0 ▸ 0 ▸ 0 ▸ none ∷ 1 ▸ 3 ▸ 2 ▸ 0 ▸ 0 ▸ 0 ▸ 0 ▸ none ∷ []

abbrev ranges0 : List ℤ
ranges0 = 48 ▸ 57 ▸ []

abbrev sets0 : List ℤ
sets0 = 0 ▸ 1 ▸ []

abbrev rules0 : List ℤ
rules0 = 1 ▸ 2 ▸ 1 ▸ []

abbrev modes0 : List ℤ
modes0 = 0 ▸ []

abbrev decisions0 : List ℤ
decisions0 = 0 ▸ []

abbrev actions0 : List ℤ
actions0 = 6 ▸ 0 ▸ 0 ▸ []

abbrev whole : Table → List ℤ
whole = nine states0 edges0 ranges0 sets0 rules0 modes0 decisions0 actions0 []

abbrev counts0 : Table → ℕ
counts0 = nine 4 3 1 1 1 1 1 1 0

abbrev words0 : List ℤ
words0 =
    4 ▸ 0 ▸ 1 ▸ 4 ▸ 6 ▸ none ∷ 2 ▸ 0 ▸ 7 ▸ 0 ▸ 1 ▸ 0 ▸ 0 ▸ 0 ▸ 1 ▸ 1 ▸ 1 ▸ 1 ▸ 0 ▸ 1 ▸ 1 ▸ 0 ▸ 48 ▸ 57 ▸ 3 ▸ 0 ▸ 1 ▸ 1 ▸ 0 ▸ 0 ▸ 0 ▸ 1 ▸ 3 ▸ 7 ▸ 0 ▸ 0 ▸ 0 ▸ 3 ▸ 2 ▸ 1 ▸ 0 ▸ 0 ▸ 0 ▸ 1 ▸ 0 ▸ 1 ▸ 6 ▸ 0 ▸ 0 ▸ []

-- The whole case with another table in the place of one of its own: 15, with an output that is too short as well.
abbrev refusing : (Table → List ℤ) → Case
refusing tables = case tables counts0 (pos 1) 5 (unwritten 15 5)

abbrev with_states : List ℤ → Table → List ℤ
with_states l = nine l edges0 ranges0 sets0 rules0 modes0 decisions0 actions0 []

abbrev with_edges : List ℤ → Table → List ℤ
with_edges l = nine states0 l ranges0 sets0 rules0 modes0 decisions0 actions0 []

abbrev with_ranges : List ℤ → Table → List ℤ
with_ranges l = nine states0 edges0 l sets0 rules0 modes0 decisions0 actions0 []

abbrev with_sets : List ℤ → Table → List ℤ
with_sets l = nine states0 edges0 ranges0 l rules0 modes0 decisions0 actions0 []

abbrev with_rules : List ℤ → Table → List ℤ
with_rules l = nine states0 edges0 ranges0 sets0 l modes0 decisions0 actions0 []

abbrev with_modes : List ℤ → Table → List ℤ
with_modes l = nine states0 edges0 ranges0 sets0 rules0 l decisions0 actions0 []

abbrev with_actions : List ℤ → Table → List ℤ
with_actions l = nine states0 edges0 ranges0 sets0 rules0 modes0 decisions0 l []

-- ---- a list that is not in the fixed form: a rule −5; the states 2, 0, 2 flagged, and 1; a set with the EOF flag; a range whose c is 3; an
-- action −4; a rule edge, which has a return edge; an epsilon edge with arguments; a skip with data

abbrev loose : List ℤ
loose =
    4 ▸ 0 ▸ 7 ▸ 3 ▸ 1 ▸ negsuc 4 ∷ 2 ▸ 0 ▸ 7 ▸ 0 ▸ 3 ▸ 2 ▸ 0 ▸ 2 ▸ 1 ▸ 1 ▸ 1 ▸ 0 ▸ 9 ▸ 0 ▸ 1 ▸ 1 ▸ 1 ▸ 0 ▸ 5 ▸ 4
    ▸ 0 ▸ 1 ▸ 2 ▸ 65 ▸ 90 ▸ 3 ▸ 0 ▸ 1 ▸ 6 ▸ 3 ▸ negsuc 3 ∷ 7 ▸ 0 ▸ 2 ▸ 3 ▸ 1 ▸ 0 ▸ 5 ▸ 0 ▸ 1 ▸ 1 ▸ 8 ▸ 8 ▸ 8 ▸ 0 ▸ 1 ▸ 6 ▸ 5 ▸ 5 ▸ []

abbrev fixed : List ℤ
fixed =
    4 ▸ 0 ▸ 7 ▸ 3 ▸ 1 ▸ none ∷ 2 ▸ 0 ▸ 7 ▸ 0 ▸ 2 ▸ 0 ▸ 2 ▸ 1 ▸ 1 ▸ 1 ▸ 0 ▸ 9 ▸ 0 ▸ 1 ▸ 1 ▸ 0 ▸ none ∷ 5 ▸ 4
    ▸ 0 ▸ 1 ▸ 2 ▸ none ∷ 90 ▸ 0 ▸ 0 ▸ 1 ▸ 6 ▸ 3 ▸ none ∷ 1 ▸ 0 ▸ 2 ▸ 3 ▸ 1 ▸ 0 ▸ 5 ▸ 0 ▸ 1 ▸ 1 ▸ 0 ▸ 0 ▸ 0 ▸ 0 ▸ 1 ▸ 6 ▸ 0 ▸ 0 ▸ []

abbrev loose_tables : Table → List ℤ
loose_tables = (decoded (nine 24 40 4 2 3 0 0 3 12) loose 0).left

abbrev loose_counts : Table → ℕ
loose_counts = nine 3 5 1 1 1 0 0 1 0

-- ---- two rule edges and their return edges: the one's follow state is the stop, a tail call; the other's is no way out

abbrev call_states : List ℤ
call_states = 2 ▸ 0 ▸ none ∷ none ∷ 0 ▸ 0 ▸ 1 ▸ 2 ▸ 7 ▸ 0 ▸ none ∷ none ∷ 0 ▸ 2 ▸ 3 ▸ 2 ▸ 1 ▸ 0 ▸ none ∷ none ∷ 0 ▸ none ∷ none ∷ 0 ▸ []

-- With these marks on the first two, and these targets of the last two.
abbrev call_edges : ℕ → ℕ → ℕ → ℕ → List ℤ
call_edges a b x y = 3 ▸ 0 ▸ 0 ▸ 0 ▸ 1 ▸ 0 ▸ a ▸ 1 ▸ 3 ▸ 0 ▸ 0 ▸ 0 ▸ 2 ▸ 0 ▸ b ▸ none ∷ 1 ▸ 1 ▸ x ▸ 0 ▸ 0 ▸ 0 ▸ 1 ▸ 3 ▸ 1 ▸ 1 ▸ y ▸ 0 ▸ 0 ▸ 0 ▸ 1 ▸ none ∷ []

abbrev calls : List ℤ → List ℤ → ℕ → Writing → Case
calls states edges m a = case (nine states edges [] [] (0 ▸ 1 ▸ 1 ▸ []) [] [] [] []) (nine 3 m 0 0 1 0 0 0 0) (pos 0) 38 a

-- ---- the table

abbrev pub cases : List Case
cases =
    -- the whole case, with room behind its words
    case whole counts0 (pos 1) 51 (wrote words0 51)
    ∷
    -- another max token type, and no word behind
    case whole counts0 (pos 3) 49 (wrote (4 ▸ 0 ▸ 3 ▸ drop 3 words0) 49)
    ∷
    -- 16: too short an output
    case whole counts0 (pos 1) 48 (unwritten 16 48)
    ∷
    -- P2's tables: none of them has a record, and what they hold is not looked at
    case whole (λ t. 0) (pos 9) 12 (wrote (4 ▸ 0 ▸ 9 ▸ 0 ▸ 0 ▸ 0 ▸ 0 ▸ 0 ▸ 0 ▸ 0 ▸ 0 ▸ 0 ▸ []) 12)
    ∷
    -- flags named twice and downwards, a flagged set, a rule edge with its return edge
    case loose_tables loose_counts (pos 7) 58 (wrote fixed 58)
    ∷
    -- a set that holds the end of input alone
    case (nine [] [] (none ∷ none ∷ []) (0 ▸ 1 ▸ []) [] [] [] [] []) (nine 0 0 1 1 0 0 0 0 0) (pos 0) 16 (wrote (4 ▸ 0 ▸ 0 ▸ 0 ▸ 0 ▸ 0 ▸ 0 ▸ 0 ▸ 1 ▸ 1 ▸ 0 ▸ none ∷ none ∷ 0 ▸ 0 ▸ 0 ▸ []) 16)
    ∷
    -- states with no word behind their type, with a block end, and with a loop back
    case (nine (0 ▸ none ∷ none ∷ none ∷ 0 ▸ none ∷ none ∷ 0 ▸ 3 ▸ 0 ▸ 5 ▸ none ∷ 0 ▸ none ∷ none ∷ 0 ▸ 12 ▸ 0 ▸ none ∷ 7 ▸ 0 ▸ none ∷ none ∷ 0 ▸ []) [] [] [] [] [] [] [] []) (nine 3 0 0 0 0 0 0 0 0) (pos 0) 19
    (wrote (4 ▸ 0 ▸ 0 ▸ 3 ▸ 0 ▸ 3 ▸ 0 ▸ 5 ▸ 12 ▸ 0 ▸ 7 ▸ 0 ▸ 0 ▸ 0 ▸ 0 ▸ 0 ▸ 0 ▸ 0 ▸ 0 ▸ []) 19)
    ∷
    -- two calls with their return edges, which are not written; one of them is a tail call
    calls call_states (call_edges 2 0 1 2) 4
    (wrote (4 ▸ 0 ▸ 0 ▸ 3 ▸ 2 ▸ 0 ▸ 7 ▸ 0 ▸ 1 ▸ 0 ▸ 0 ▸ 0 ▸ 1 ▸ 0 ▸ 1 ▸ 0 ▸ 0 ▸ 2 ▸ 0 ▸ 1 ▸ 3 ▸ 0 ▸ 0 ▸ 0 ▸ 0 ▸ 2 ▸ 3 ▸ 0 ▸ 0 ▸ 0 ▸ 0 ▸ 0 ▸ []) 38)
    ∷
    -- 15: the tail call not marked, the other call marked, the return edges in the wrong order, and both left out
    calls call_states (call_edges 0 0 1 2) 4 (unwritten 15 38)
    ∷ calls call_states (call_edges 2 2 1 2) 4 (unwritten 15 38)
    ∷ calls call_states (call_edges 2 0 2 1) 4 (unwritten 15 38)
    ∷ calls (2 ▸ 0 ▸ none ∷ none ∷ 0 ▸ 0 ▸ 1 ▸ 2 ▸ 7 ▸ 0 ▸ none ∷ none ∷ 0 ▸ none ∷ none ∷ 0 ▸ 1 ▸ 0 ▸ none ∷ none ∷ 0 ▸ none ∷ none ∷ 0 ▸ []) (call_edges 2 0 1 2) 2 (unwritten 15 38)
    ∷
    -- 15, tested before 16: more rules than the table has
    case whole (nine 4 3 1 1 2 1 1 1 0) (pos 1) 5 (unwritten 15 5)
    ∷
    -- fewer edges than the chains have
    case whole (nine 4 2 1 1 1 1 1 1 0) (pos 1) 5 (unwritten 15 5)
    ∷
    -- a rule's stop is another state
    refusing (with_rules (1 ▸ 3 ▸ 1 ▸ []))
    ∷
    -- a mark 2 on an epsilon edge
    refusing (with_edges (1 ▸ 0 ▸ 1 ▸ 0 ▸ 0 ▸ 0 ▸ 2 ▸ none ∷ drop 8 edges0))
    ∷
    -- a next edge that the chain does not have
    refusing (with_edges (1 ▸ 0 ▸ 1 ▸ 0 ▸ 0 ▸ 0 ▸ 0 ▸ 1 ▸ drop 8 edges0))
    ∷
    -- flag 4 on a state that is no precedence decision
    refusing (with_states (6 ▸ none ∷ none ∷ none ∷ 4 ▸ drop 5 states0))
    ∷
    -- ranges that touch
    case (nine states0 edges0 (48 ▸ 52 ▸ 53 ▸ 57 ▸ []) (0 ▸ 2 ▸ []) rules0 modes0 decisions0 actions0 []) (nine 4 3 2 1 1 1 1 1 0) (pos 1) 51 (unwritten 15 51)
    ∷
    -- a range that is not in order, and a set that does not begin where it should
    refusing (with_ranges (57 ▸ 48 ▸ []))
    ∷ refusing (with_sets (1 ▸ 1 ▸ []))
    ∷
    -- words that no reading gives: a negative state, a skip with data
    refusing (with_modes (none ∷ []))
    ∷ refusing (with_actions (6 ▸ 1 ▸ 0 ▸ []))
    ∷ []

abbrev pub answers : Case → Case
answers c = case c.tables c.counts c.token c.output (write c.tables c.counts c.token c.output)

-- Every case comes out as it is written.
pub as_written : list_of answers cases ≡ cases
unfolding write words_of comes recovered run ◌>>=◌ times get index count add keep_onto version grammar linked following state states named flags rule rules modes interval flagged set sets_from sets test_a test_b edge edges decisions action actions derived decides safe tail records table counts_of returning dialect decoded
as_written = refl
