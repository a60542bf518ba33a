-- Document 02, R-1, "Turn tables back into words": the one fixed form, what was read found again in the records, and the answer.
use Rattle.std.specs.Prelude.{◌≡◌, List, [], ◌∷◌, ◌++◌, map, Bool, true, false, not, ◌&&◌, ℕ, zero, suc, ◌-◌, ◌≤◌, ◌<◌, ltb, eqb, ℤ, pos, length, get_or, take, drop, Ok, Err}
use Rattle.format.specs.Reading.{Table, States, Edges, Ranges, Sets, Rules, Modes, Decisions, Actions, Outcome, ok, no, pick, bare, run}
use Rattle.format.specs.Sets.{Range, range}
use Rattle.format.specs.Sections.{State, Rule, Edge, Action, Read, state_of, edge_of, same, among, size, follows}
use Rattle.format.specs.Links.{those, numbers, each}
use Rattle.format.specs.Tables.{nine, width, room, range_words, state_word, action_words, records, zeros}
use Rattle.format.specs.Places.{st_kind, st_rule, st_end, st_back, st_flags, ed_kind, ed_source, ed_target, ed_p, ed_q, ed_r, ed_mark, ra_start, ra_stop, se_count, ru_start, ru_token, na_state, ac_kind, ac_d1, ac_d2}
use Rattle.format.specs.Decode.{dialect}
use Rattle.format.specs.Questions.{fits}
use Rattle.format.specs.Results.{Written}

-- ---- "One fixed form": the words of what was read

-- A count, and the words of so many.
abbrev pub counted : {A : Type 0} → (A → List ℤ) → List A → List ℤ
counted f l = pos (length l) ∷ each f l

-- The word that may follow the rule: loop back after type 12, else block end.
abbrev pub link : State → ℤ
link x = pick (eqb x.kind 12) x.back x.end

-- The type, and so many words as follow it. "absent rule .. −1": as it was kept.
abbrev pub state_form : State → List ℤ
state_form x = pos x.kind ∷ take (get_or follows x.kind 0) (x.rule ∷ link x ∷ [])

abbrev pub rule_form : Rule → List ℤ
rule_form x = pos x.start ∷ x.token ∷ []

-- "EOF flag always 0 with −1 kept as a range"
abbrev pub set_form : List Range → List ℤ
set_form l = pos (length l) ∷ pos 0 ∷ each range_words l

-- Source, word 25, type, a, b, c: of a rule edge word 25 is the follow state, and a the target.
-- "c of types 2 and 5 always 0, absent .. action −1, unused arguments 0": p, q and r were kept so.
abbrev pub edge_form : Edge → List ℤ
edge_form e =
    pick (eqb e.kind 3)
    (pos e.source ∷ e.q ∷ pos e.kind ∷ pos e.target ∷ e.p ∷ e.r ∷ [])
    (pos e.source ∷ pos e.target ∷ pos e.kind ∷ e.p ∷ e.q ∷ e.r ∷ [])

-- Version 4, a lexer, and the sections. "derived edges not written": only the others were read.
unfoldable pub words_of : Read → List ℤ
words_of r =
    pos 4 ∷ pos 0 ∷ r.token ∷ (counted state_form r.states
    ++ (counted state_word r.nongreedy
    ++ (counted state_word r.recursive
    ++ (counted rule_form r.rules
    ++ (counted state_word r.modes
    ++ (counted set_form r.sets
    ++ (counted edge_form r.edges
    ++ (counted state_word r.decisions
    ++ counted action_words r.actions))))))))

-- ---- "Turn tables back": what was read, found again in the records

-- A record's word, and its size.
abbrev pub cell : List ℤ → ℕ → ℤ
cell x k = get_or x k (pos 0)

abbrev pub cell_size : List ℤ → ℕ → ℕ
cell_size x k = size (cell x k)

abbrev pub state_back : List ℤ → State
state_back x = state_of (cell_size x st_kind) (cell x st_rule) (cell x st_end) (cell x st_back)

abbrev pub edge_back : List ℤ → Edge
edge_back x = edge_of (cell_size x ed_kind) (cell_size x ed_source) (cell_size x ed_target) (cell x ed_p) (cell x ed_q) (cell x ed_r)

abbrev pub range_back : List ℤ → Range
range_back x = range (cell x ra_start) (cell x ra_stop)

abbrev pub rule_back : List ℤ → Rule
rule_back x = record { start = cell_size x ru_start; token = cell x ru_token }

abbrev pub action_back : List ℤ → Action
action_back x = record { kind = cell_size x ac_kind; d1 = cell x ac_d1; d2 = cell x ac_d2 }

-- A mode's or a decision's state.
abbrev pub state_named : List ℤ → ℕ
state_named x = cell_size x na_state

-- "Flags: 1 non-greedy, 2 left-recursive, 4 precedence decision."
abbrev pub flag1 : List ℤ → Bool
flag1 x = among (cell_size x st_flags) (1 ∷ 3 ∷ 5 ∷ 7 ∷ [])

abbrev pub flag2 : List ℤ → Bool
flag2 x = among (cell_size x st_flags) (2 ∷ 3 ∷ 6 ∷ 7 ∷ [])

-- "Mark: .. 1 derived return edge"
abbrev pub own : List ℤ → Bool
own x = not (same (cell x ed_mark) (pos 1))

-- A list cut into parts of these lengths.
abbrev pub cuts : {A : Type 0} → List A → List ℕ → List (List A)
cuts l [] = []
cuts l (n ∷ ns) = take n l ∷ cuts (drop n l) ns

-- Of the records T and the max token type. "flagged states ascending": each once, in the order of the states.
unfoldable pub recovered : (Table → List (List ℤ)) → ℤ → Read
recovered T token =
    record {
      token = token;
      states = map state_back (T States);
      nongreedy = numbers flag1 (T States);
      recursive = numbers flag2 (T States);
      rules = map rule_back (T Rules);
      modes = map state_named (T Modes);
      sets = cuts (map range_back (T Ranges)) (map (λ x. cell_size x se_count) (T Sets));
      edges = map edge_back (those own (T Edges));
      decisions = map state_named (T Decisions);
      actions = map action_back (T Actions);
    }

-- ---- "a set of lent tables, record counts"

-- The first n records, of w words each. Words behind them are not looked at.
abbrev pub rows_of : ℕ → ℕ → List ℤ → List (List ℤ)
rows_of w zero t = []
rows_of w (suc n) t = take w t ∷ rows_of w n (drop w t)

-- The records that the tables and the counts are. There is no scratch.
abbrev pub given : (Table → List ℤ) → (Table → ℕ) → Table → List (List ℤ)
given tables counts =
    let rows : Table → List (List ℤ) = λ t. rows_of (width t) (counts t) (tables t) in
    nine (rows States) (rows Edges) (rows Ranges) (rows Sets) (rows Rules) (rows Modes) (rows Decisions) (rows Actions) []

-- A test of all tables but the scratch.
abbrev pub eight : (Table → Bool) → Bool
eight f = f States && f Edges && f Ranges && f Sets && f Rules && f Modes && f Decisions && f Actions

-- No count "exceeds its table's whole records".
abbrev pub inside : (Table → List ℤ) → (Table → ℕ) → Bool
inside tables counts = eight (λ t. fits t (counts t) (tables t))

-- ---- "15 exactly when a count exceeds its table's whole records or no word list, in any room, decodes to these records"

-- Some word list, in some room, decodes to these records. The words are of any size; of 32-bit tables 32-bit words do as well (rewriting:
-- `comes_short`).
pub record Comes (T : Table → List (List ℤ)) : Type 0 where
  pub lent : Table → ℕ
  pub words : List ℤ
  pub read : Read
  pub behind : ℕ
  pub ran : run dialect words (room lent) 0 ≡ ok read behind
  pub same : (t : Table) → records read t ≡ T t

-- What 15 is not given for.
pub record Writable (tables : Table → List ℤ) (counts : Table → ℕ) : Type 0 where
  pub within : inside tables counts ≡ true
  pub comes : Comes (given tables counts)

-- ---- the answer

-- The words, where they can be written.
abbrev pub words_for : (Table → List ℤ) → (Table → ℕ) → ℤ → List ℤ
words_for tables counts token = words_of (recovered (given tables counts) token)

-- What is answered, and what is left in the output.
pub record Writing : Type 0 where
  pub told : Written
  pub left : List ℤ

abbrev pub writing : Written → List ℤ → Writing
writing told left = record { told = told; left = left }

-- "The answer is the number of words; the output behind them is zero." The output has m words.
abbrev pub wrote : List ℤ → ℕ → Writing
wrote ws m = writing (Ok (length ws)) (ws ++ zeros (m - length ws))

-- "either leaves the output all zero"
abbrev pub unwritten : ℕ → ℕ → Writing
unwritten number m = writing (Err (bare number)) (zeros m)

-- "15 exactly when .., tested first; 16 exactly when the output is too short": these three are all there are (rewriting: `writes-only`), and
-- each is given in its own case alone (`fifteen_only`, `sixteen_only`, `wrote_writable`).
pub record Writes (tables : Table → List ℤ) (counts : Table → ℕ) (token : ℤ) (m : ℕ) (a : Writing) : Type 0 where
  pub fifteen : (Writable tables counts → ⊥) → a ≡ unwritten 15 m
  pub sixteen : Writable tables counts → m < length (words_for tables counts token) → a ≡ unwritten 16 m
  pub words : Writable tables counts → length (words_for tables counts token) ≤ m → a ≡ wrote (words_for tables counts token) m

-- ---- the same by computation (rewriting: `writes`)

abbrev pub same_words : List ℤ → List ℤ → Bool
same_words [] [] = true
same_words [] (b ∷ m) = false
same_words (a ∷ l) [] = false
same_words (a ∷ l) (b ∷ m) = let rest = same_words l m in same a b && rest

abbrev pub same_rows : List (List ℤ) → List (List ℤ) → Bool
same_rows [] [] = true
same_rows [] (b ∷ m) = false
same_rows (a ∷ l) [] = false
same_rows (a ∷ l) (b ∷ m) = let rest = same_rows l m in same_words a b && rest

abbrev pub has_records : (Table → List (List ℤ)) → Outcome Read → Bool
has_records T (ok r n) = eight (λ t. same_rows (records r t) (T t))
has_records T (no q) = false

-- If any words decode to these records, then those that would be written do, in the most room.
unfoldable pub comes : (Table → List (List ℤ)) → ℤ → Bool
comes T token = has_records T (run dialect (words_of (recovered T token)) (λ t. 65536) 0)

unfoldable pub write : (Table → List ℤ) → (Table → ℕ) → ℤ → ℕ → Writing
write tables counts token m =
    let ws = words_for tables counts token in
    pick (inside tables counts && comes (given tables counts) token) (pick (ltb m (length ws)) (unwritten 16 m) (wrote ws m)) (unwritten 15 m)
