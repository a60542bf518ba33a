-- Document 01, "Reading order and fields": the sections, and what was read.
use Rattle.std.specs.Prelude.{List, [], ◌∷◌, ◌++◌, Bool, false, not, ◌||◌, ℕ, zero, suc, ◌+◌, eqb, ℤ, pos, negsuc, length, get_or}
use Rattle.format.specs.declared.Spot.{Spot}
use Rattle.format.specs.Reading.{States, Edges, Ranges, Sets, Rules, Modes, Decisions, Actions, Prog, done, word, need, here, ◌>>=◌, times, spot, pick, fail, natural, known, listed, get, index, count, ◌>>◌}
use Rattle.format.specs.Sets.{Range, range, keep}

-- ---- what was read: the states, the states that fields 10 and 12 name, the rules, the modes, what each set keeps,
-- the edges in word order, the decisions and the actions. A word that may be none is a ℤ.

pub record State : Type 0 where
  pub kind : ℕ
  pub rule : ℤ
  pub end : ℤ
  pub back : ℤ

pub record Rule : Type 0 where
  pub start : ℕ
  pub token : ℤ

pub record Edge : Type 0 where
  pub kind : ℕ
  pub source : ℕ
  pub target : ℕ
  pub p : ℤ
  pub q : ℤ
  pub r : ℤ

pub record Action : Type 0 where
  pub kind : ℕ
  pub d1 : ℤ
  pub d2 : ℤ

pub record Read : Type 0 where
  pub token : ℤ
  pub states : List State
  pub nongreedy : List ℕ
  pub recursive : List ℕ
  pub rules : List Rule
  pub modes : List ℕ
  pub sets : List (List Range)
  pub edges : List Edge
  pub decisions : List ℕ
  pub actions : List Action

-- ---- small words

-- ""None" is −1."
abbrev pub none : ℤ
none = negsuc 0

abbrev pub or_none : ℤ → ℤ
or_none (pos n) = pos n
or_none (negsuc n) = none

abbrev pub same : ℤ → ℤ → Bool
same (pos a) (pos b) = eqb a b
same (pos a) (negsuc b) = false
same (negsuc a) (pos b) = false
same (negsuc a) (negsuc b) = eqb a b

-- A word that is not 0.
abbrev pub raised : ℤ → Bool
raised c = not (same c (pos 0))

abbrev pub bit : Bool → ℕ
bit b = pick b 1 0

abbrev pub among : ℕ → List ℕ → Bool
among k [] = false
among k (n ∷ l) = eqb k n || among k l

-- ---- fields 1 to 3: "the header .. carry 0" (document 02, R-2)

-- "3: version not 4"
unfoldable pub version : Prog ℤ
version = word (spot 1 0) (λ p v. pick (same v (pos 4)) (done v) (fail 3 (spot 1 0) p v))

-- "4, 5: grammar type 1; other than 0 and 1"
unfoldable pub grammar : Prog ℤ
grammar = word (spot 2 0) (λ p v. pick (same v (pos 0)) (done v) (pick (same v (pos 1)) (fail 4 (spot 2 0) p v) (fail 5 (spot 2 0) p v)))

-- ---- fields 4 to 8: states

-- "How many words follow each of the thirteen state types stands in one fixed table:
-- none after 0, two after 3, 4, 5 (rule, block end) and 12 (rule, loop back), else one."
abbrev pub follows : List ℕ
follows = 0 ∷ 1 ∷ 1 ∷ 2 ∷ 2 ∷ 2 ∷ 1 ∷ 1 ∷ 1 ∷ 1 ∷ 1 ∷ 1 ∷ 2 ∷ []

abbrev pub state_of : ℕ → ℤ → ℤ → ℤ → State
state_of k rule end back = record { kind = k; rule = rule; end = end; back = back }

-- "7 loop back, 8 block end": 7 after type 12. "The links are not checked against the state list."
unfoldable pub linked : ℕ → ℕ → ℤ → Prog State
linked i k rule =
    pick (eqb k 12)
    (index (spot 7 i) >>= (λ b. done (state_of k rule none (pos b))))
    (index (spot 8 i) >>= (λ e. done (state_of k rule (pos e) none)))

-- "Any negative rule index is none."
unfoldable pub following : ℕ → ℕ → ℕ → Prog State
following i zero k = done (state_of k none none none)
following i (suc zero) k = get (spot 6 i) >>= (λ v. done (state_of k (or_none v) none none))
following i (suc (suc n)) k = get (spot 6 i) >>= (λ v. linked i k (or_none v))

-- "State types 0 to 12." "6: unknown state type"
unfoldable pub state : ℕ → Prog State
state i = do
  k ← word (spot 5 i) (known 6 0 12 (spot 5 i))
  following i (get_or follows k 0) k

unfoldable pub states : Prog (List State)
states = count States 4 >>= (λ n. times n 0 state)

-- ---- fields 9 to 12: flags

-- "Fields 10 and 12 set flags 1 and 2 on the named state, of any type, repeats allowed."
-- "7: field 10 or 12 not a listed state"; n states are listed.
unfoldable pub named : ℕ → Spot → Prog ℕ
named n f = word f (λ p v. natural f p v >>= listed 7 n f p)

unfoldable pub flags : ℕ → ℕ → Prog (List ℕ)
flags n f = index (spot f 0) >>= (λ k. times k 0 (λ i. named n (spot (f + 1) i)))

-- ---- fields 13 to 17: rules and modes

unfoldable pub rule : ℕ → Prog Rule
rule i = do
  s ← index (spot 14 i)
  t ← get (spot 15 i)
  done (record { start = s; token = t })

unfoldable pub rules : Prog (List Rule)
rules = count Rules 13 >>= (λ n. times n 0 rule)

unfoldable pub modes : Prog (List ℕ)
modes = count Modes 16 >>= (λ n. times n 0 (λ i. index (spot 17 i)))

-- ---- fields 18 to 22: sets

-- "Fields 19 to 22 carry their set" (document 02, R-2): i.
unfoldable pub interval : ℕ → Prog Range
interval i = do
  s ← get (spot 21 i)
  e ← get (spot 22 i)
  done (range s e)

-- "ranges after field 20, needing kept ranges + intervals + 1 if flagged (field 20)"
unfoldable pub flagged : ℕ → ℕ → ℕ → Prog Bool
flagged i kept n = word (spot 20 i) (λ p v. need Ranges (kept + n + bit (raised v)) (spot 20 i) p (done (raised v)))

-- "The EOF flag, if not 0, adds −1."
abbrev pub eof : Bool → List Range
eof b = pick b (range none none ∷ []) []

-- A set, behind so many kept ranges.
unfoldable pub set : ℕ → ℕ → Prog (List Range)
set i kept = do
  n ← index (spot 19 i)
  b ← flagged i kept n
  l ← times n 0 (λ j. interval i)
  done (keep (eof b ++ l))

-- "later sets start behind what it kept"
unfoldable pub sets_from : ℕ → ℕ → ℕ → Prog (List (List Range))
sets_from zero i kept = done []
sets_from (suc n) i kept = do
  s ← set i kept
  l ← sets_from n (i + 1) (kept + length s)
  done (s ∷ l)

unfoldable pub sets : Prog (List (List Range))
sets = count Sets 18 >>= (λ n. sets_from n 0 0)

-- ---- fields 23 to 29: edges

-- The size of a word that was tested not to be negative.
abbrev pub size : ℤ → ℕ
size (pos n) = n
size (negsuc n) = 0

abbrev pub edge_of : ℕ → ℕ → ℕ → ℤ → ℤ → ℤ → Edge
edge_of k s t p q r = record { kind = k; source = s; target = t; p = p; q = q; r = r }

-- "p is −1 if c≠0, else a"
abbrev pub label : ℤ → ℤ → ℤ
label a c = pick (raised c) none a

abbrev pub truth : ℤ → ℤ
truth c = pos (bit (raised c))

-- "Edge types": k the type, s the source, t word 25. "Other p, q, r are 0. Targets are not checked against the state list."
abbrev pub meaning : ℕ → ℕ → ℕ → ℤ → ℤ → ℤ → Edge
meaning k s t a b c =
    let plain = edge_of k s t (pos 0) (pos 0) (pos 0) in
    let kept = edge_of k s t a (pos 0) (pos 0) in
    get_or (plain
    ∷ plain  -- 1 epsilon
    ∷ edge_of k s t (label a c) b (pos 0)  -- 2 range p..q
    ∷ edge_of k s (size a) b (pos t) c  -- 3 rule: target a, p = b, q = word 25 (the follow state), r = c
    ∷ edge_of k s t a b (truth c)  -- 4 predicate a, b, c≠0 as 1
    ∷ edge_of k s t (label a c) (pos 0) (pos 0)  -- 5 atom p, as for 2
    ∷ edge_of k s t a (or_none b) (truth c)  -- 6 action p = a, q = b or −1 if negative, r = 1 if c≠0
    ∷ kept  -- 7 set
    ∷ kept  -- 8 not-set, with p = a
    ∷ plain  -- 9 wildcard
    ∷ kept  -- 10 precedence p = a
    ∷ []) k plain

-- "then a negative or 9": "in a of types 3, 4, 6, 7, 8"; "9: set number not listed"; n sets are listed
unfoldable pub test_a : ℕ → ℕ → ℕ → ℕ → ℤ → Prog ℕ
test_a i n k p a =
    pick (among k (7 ∷ 8 ∷ [])) (natural (spot 27 i) p a >>= listed 9 n (spot 27 i) p)
    (pick (among k (3 ∷ 4 ∷ 6 ∷ [])) (natural (spot 27 i) p a) (done 0))

-- "then b": "in b of 3, 4"
unfoldable pub test_b : ℕ → ℕ → ℕ → ℤ → Prog ℕ
test_b i k p b = pick (among k (3 ∷ 4 ∷ [])) (natural (spot 28 i) p b) (done 0)

-- "Edges: six words are read (24 and 25 tested as read), then 8, then a negative or 9, then b, then 10."
unfoldable pub edge : ℕ → ℕ → ℕ → Prog Edge
edge nstates nsets i = here (λ place. do
  s ← index (spot 24 i)
  t ← index (spot 25 i)
  w ← get (spot 26 i)
  a ← get (spot 27 i)
  b ← get (spot 28 i)
  c ← get (spot 29 i)
  k ← known 8 1 10 (spot 26 i) (place + 2) w
  test_a i nsets k (place + 3) a
  test_b i k (place + 4) b
  listed 10 nstates (spot 24 i) place s
  done (meaning k s t a b c))

unfoldable pub edges : ℕ → ℕ → Prog (List Edge)
edges nstates nsets = count Edges 23 >>= (λ n. times n 0 (edge nstates nsets))

-- ---- fields 30 to 35: decisions and actions

unfoldable pub decisions : Prog (List ℕ)
decisions = count Decisions 30 >>= (λ n. times n 0 (λ i. index (spot 31 i)))

-- "Action types 0 channel, 2 mode, 5 push, 7 type keep d1; 1 custom keeps both; 3 more, 4 pop, 6 skip keep none. What isn't kept is 0."
abbrev pub action_of : ℕ → ℤ → ℤ → Action
action_of k d1 d2 =
    record { kind = k; d1 = pick (among k (0 ∷ 1 ∷ 2 ∷ 5 ∷ 7 ∷ [])) d1 (pos 0); d2 = pick (eqb k 1) d2 (pos 0) }

-- "Actions: three words, then 11."
unfoldable pub action : ℕ → Prog Action
action i = here (λ place. do
  w ← get (spot 33 i)
  d1 ← get (spot 34 i)
  d2 ← get (spot 35 i)
  k ← known 11 0 7 (spot 33 i) place w
  done (action_of k d1 d2))

unfoldable pub actions : Prog (List Action)
actions = count Actions 32 >>= (λ n. times n 0 action)
