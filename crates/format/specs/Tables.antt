-- Document 01, "Lent tables".
use Rattle.std.specs.Prelude.{List, [], ◌∷◌, ◌++◌, ℕ, ◌+◌, ◌-◌, ◌*◌, ◌/◌, min, ltb, ℤ, pos, length, replicate, take, drop}
use Rattle.format.specs.Reading.{Table, States, Edges, Ranges, Sets, Rules, Modes, Decisions, Actions, Scratch, pick}
use Rattle.format.specs.Sets.{Range}
use Rattle.format.specs.Sections.{State, Rule, Edge, Action, Read, among, bit}
use Rattle.format.specs.Links.{flat, first, last, chain, next, stop_of, derived, decides, tail}
use Rattle.format.specs.declared.Counts.{Counts}

-- Nine things, one for each table.
abbrev pub nine {ℓ} : {A : Type ℓ} → A → A → A → A → A → A → A → A → A → Table → A
nine st ed ra se ru mo de ac sc States = st
nine st ed ra se ru mo de ac sc Edges = ed
nine st ed ra se ru mo de ac sc Ranges = ra
nine st ed ra se ru mo de ac sc Sets = se
nine st ed ra se ru mo de ac sc Rules = ru
nine st ed ra se ru mo de ac sc Modes = mo
nine st ed ra se ru mo de ac sc Decisions = de
nine st ed ra se ru mo de ac sc Actions = ac
nine st ed ra se ru mo de ac sc Scratch = sc

-- "Words per record": states, edges, ranges, sets, rules, modes, decisions, actions, scratch (4 per state).
abbrev pub width : Table → ℕ
width = nine 8 8 2 2 3 1 1 3 4

-- Record i of a table whose records have w words.
abbrev pub row_at : ℕ → List ℤ → ℕ → List ℤ
row_at w t i = take w (drop (w * i) t)

-- "Room is the number of whole records, counted as 65,536 at most"; lent are the slices' lengths in words.
abbrev pub whole : (Table → ℕ) → Table → ℕ
whole lent t = min 65536 (lent t / width t)

-- "room for states is the smaller of the states' and the scratch's"
abbrev pub room : (Table → ℕ) → Table → ℕ
room lent =
    nine (min (whole lent States) (whole lent Scratch)) (whole lent Edges) (whole lent Ranges) (whole lent Sets) (whole lent Rules)
    (whole lent Modes) (whole lent Decisions) (whole lent Actions) (whole lent Scratch)

-- ---- records

-- A list's members with their numbers, counted from i.
abbrev pub numbered : {A B : Type 0} → ℕ → (ℕ → A → B) → List A → List B
numbered i f [] = []
numbered i f (a ∷ l) = f i a ∷ numbered (i + 1) f l

-- The edges, derived ones last.
abbrev pub derived_of : Read → List Edge
derived_of r = derived r.states (length r.rules) r.edges

abbrev pub edges_of : Read → List Edge
edges_of r = r.edges ++ derived_of r

-- "Flags: 1 non-greedy, 2 left-recursive, 4 precedence decision."
abbrev pub flags_of : Read → List Edge → ℕ → ℕ
flags_of r es s = bit (among s r.nongreedy) + 2 * bit (among s r.recursive) + 4 * bit (decides r.states r.recursive r.rules es s)

-- "type, rule, block end, loop back, flags, first edge, last edge, edge count"
abbrev pub state_words : Read → List Edge → ℕ → State → List ℤ
state_words r es s x =
    pos x.kind ∷ x.rule ∷ x.end ∷ x.back ∷ pos (flags_of r es s) ∷ first (chain es s) ∷ last (chain es s) ∷ pos (length (chain es s)) ∷ []

-- "Mark: 0 plain, 1 derived return edge, 2 tail call."
abbrev pub mark_of : Read → List Edge → ℕ → Edge → ℕ
mark_of r es i e =
    let on = bit (tail r.states (length r.rules) es e) in
    pick (ltb i (length r.edges)) (2 * on) 1

-- "type, source, target, p, q, r, mark, next edge"
abbrev pub edge_words : Read → List Edge → ℕ → Edge → List ℤ
edge_words r es i e =
    pos e.kind ∷ pos e.source ∷ pos e.target ∷ e.p ∷ e.q ∷ e.r ∷ pos (mark_of r es i e) ∷ next es e.source i ∷ []

-- "start, stop"
abbrev pub range_words : Range → List ℤ
range_words x = x.start ∷ x.stop ∷ []

-- "first range, range count". "An empty set's first range is the number of ranges kept before it", as any other's is.
abbrev pub set_records : ℕ → List (List Range) → List (List ℤ)
set_records before [] = []
set_records before (l ∷ ls) = (pos before ∷ pos (length l) ∷ []) ∷ set_records (before + length l) ls

-- "start, stop, token type"
abbrev pub rule_words : Read → ℕ → Rule → List ℤ
rule_words r R x = pos x.start ∷ stop_of r.states (pos R) ∷ x.token ∷ []

-- "state"
abbrev pub state_word : ℕ → List ℤ
state_word s = pos s ∷ []

-- "type, d1, d2"
abbrev pub action_words : Action → List ℤ
action_words x = pos x.kind ∷ x.d1 ∷ x.d2 ∷ []

abbrev pub list_of : {A B : Type 0} → (A → B) → List A → List B
list_of f l = numbered 0 (λ i a. f a) l

-- The records of each table.
unfoldable pub records : Read → Table → List (List ℤ)
records r States = let es = edges_of r in numbered 0 (state_words r es) r.states
records r Edges = let es = edges_of r in numbered 0 (edge_words r es) es
records r Ranges = list_of range_words (flat r.sets)
records r Sets = set_records 0 r.sets
records r Rules = numbered 0 (rule_words r) r.rules
records r Modes = list_of state_word r.modes
records r Decisions = list_of state_word r.decisions
records r Actions = list_of action_words r.actions
records r Scratch = []

abbrev pub zeros : ℕ → List ℤ
zeros n = replicate n (pos 0)

-- "After acceptance every word past the last record is 0." Scratch: "all zero after it".
unfoldable pub table : Read → (Table → ℕ) → Table → List ℤ
table r lent t =
    let ws = flat (records r t) in
    ws ++ zeros (lent t - length ws)

-- "Counts: words read, max token type, and records in each table, with derived edges also on their own."
unfoldable pub counts_of : Read → ℕ → Counts
counts_of r n =
    record {
      words = n;
      token = r.token;
      states = length r.states;
      edges = length (edges_of r);
      derived = length (derived_of r);
      ranges = length (flat r.sets);
      sets = length r.sets;
      rules = length r.rules;
      modes = length r.modes;
      decisions = length r.decisions;
      actions = length r.actions;
    }
