-- Document 02, R-2: the lists of records that a decode reads. "state, rule, set, edge or action number, for fields 10, 12, 17 and 31 the
-- place in their list, all from 0. Fields 19 to 22 carry their set."
use Rattle.std.specs.Prelude.{◌≡◌, List, [], ◌∷◌, ℕ, ℤ, length}
use Rattle.format.specs.Reading.{Table, States, Edges, Sets, Rules, Modes, Decisions, Actions, ok, Prog, run, times, spot, get, index, count}
use Rattle.format.specs.Sets.{Range}
use Rattle.format.specs.Sections.{State, Rule, Edge, Action, version, grammar, state, states, named, flags, rule, rules, modes, set, sets_from, sets, edge, edges, decisions, action}
use Rattle.format.specs.Links.{flat}

-- The two lists of flagged states name some of n states; an edge has its source among n states, and its set among m sets.
pub data Kind : Type 0 where
  a-state a-rule a-mode a-set a-decision an-action : Kind
  a-non-greedy a-precedence : ℕ → Kind
  an_edge : ℕ → ℕ → Kind

abbrev pub Of : Kind → Type 0
Of a-state = State
Of (a-non-greedy n) = ℕ
Of (a-precedence n) = ℕ
Of a-rule = Rule
Of a-mode = ℕ
Of a-set = List Range
Of (an_edge n m) = Edge
Of a-decision = ℕ
Of an-action = Action

-- The fields of its words.
abbrev pub fields_of : Kind → List ℕ
fields_of a-state = 5 ∷ 6 ∷ 7 ∷ 8 ∷ []
fields_of (a-non-greedy n) = 10 ∷ []
fields_of (a-precedence n) = 12 ∷ []
fields_of a-rule = 14 ∷ 15 ∷ []
fields_of a-mode = 17 ∷ []
fields_of a-set = 19 ∷ 20 ∷ 21 ∷ 22 ∷ []
fields_of (an_edge n m) = 24 ∷ 25 ∷ 26 ∷ 27 ∷ 28 ∷ 29 ∷ []
fields_of a-decision = 31 ∷ []
fields_of an-action = 33 ∷ 34 ∷ 35 ∷ []

-- "the header, the other counts and the derived-edge refusal carry 0"
abbrev pub outside : List ℕ
outside = 1 ∷ 2 ∷ 3 ∷ 4 ∷ 9 ∷ 11 ∷ 13 ∷ 16 ∷ 18 ∷ 23 ∷ 30 ∷ 32 ∷ []

-- How many there are.
abbrev pub count_of : Kind → Prog ℕ
count_of a-state = count States 4
count_of (a-non-greedy n) = index (spot 9 0)
count_of (a-precedence n) = index (spot 11 0)
count_of a-rule = count Rules 13
count_of a-mode = count Modes 16
count_of a-set = count Sets 18
count_of (an_edge n m) = count Edges 23
count_of a-decision = count Decisions 30
count_of an-action = count Actions 32

-- The i-th, behind those that were read.
abbrev pub next : (k : Kind) → ℕ → List (Of k) → Prog (Of k)
next a-state i l = state i
next (a-non-greedy n) i l = named n (spot 10 i)
next (a-precedence n) i l = named n (spot 12 i)
next a-rule i l = rule i
next a-mode i l = index (spot 17 i)
next a-set i l = set i (length (flat l))
next (an_edge n m) i l = edge n m i
next a-decision i l = index (spot 31 i)
next an-action i l = action i

-- So many of them, from the first.
abbrev pub first : (k : Kind) → ℕ → Prog (List (Of k))
first a-state n = times n 0 state
first (a-non-greedy m) n = times n 0 (λ i. named m (spot 10 i))
first (a-precedence m) n = times n 0 (λ i. named m (spot 12 i))
first a-rule n = times n 0 rule
first a-mode n = times n 0 (λ i. index (spot 17 i))
first a-set n = sets_from n 0 0
first (an_edge m k) n = times n 0 (edge m k)
first a-decision n = times n 0 (λ i. index (spot 31 i))
first an-action n = times n 0 action

-- A decode from the place `from` came to the list of this kind, whose count stands at this place, with so many states and sets read.
pub data Came (ws : List ℤ) (room : Table → ℕ) (from : ℕ) : ℕ → ℕ → Kind → ℕ → Type 0 where
  to_states : {v g t : ℤ} {a b c : ℕ} → run version ws room from ≡ ok v a → run grammar ws room a ≡ ok g b → run (get (spot 3 0)) ws room b ≡ ok t c → Came ws room from 0 0 a-state c
  to_non_greedy : {a b : ℕ} {l : List State} → Came ws room from 0 0 a-state a → run states ws room a ≡ ok l b → Came ws room from (length l) 0 (a-non-greedy (length l)) b
  to_precedence : {n a b : ℕ} {l : List ℕ} → Came ws room from n 0 (a-non-greedy n) a → run (flags n 9) ws room a ≡ ok l b → Came ws room from n 0 (a-precedence n) b
  to_rules : {n a b : ℕ} {l : List ℕ} → Came ws room from n 0 (a-precedence n) a → run (flags n 11) ws room a ≡ ok l b → Came ws room from n 0 a-rule b
  to_modes : {n a b : ℕ} {l : List Rule} → Came ws room from n 0 a-rule a → run rules ws room a ≡ ok l b → Came ws room from n 0 a-mode b
  to_sets : {n a b : ℕ} {l : List ℕ} → Came ws room from n 0 a-mode a → run modes ws room a ≡ ok l b → Came ws room from n 0 a-set b
  to_edges : {n a b : ℕ} {l : List (List Range)} → Came ws room from n 0 a-set a → run sets ws room a ≡ ok l b → Came ws room from n (length l) (an_edge n (length l)) b
  to_decisions : {n m a b : ℕ} {l : List Edge} → Came ws room from n m (an_edge n m) a → run (edges n m) ws room a ≡ ok l b → Came ws room from n m a-decision b
  to_actions : {n m a b : ℕ} {l : List ℕ} → Came ws room from n m a-decision a → run decisions ws room a ≡ ok l b → Came ws room from n m an-action b
