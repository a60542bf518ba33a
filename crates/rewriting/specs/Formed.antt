-- What a decode reads, as tests of each part; and what was read with its flagged states ascending.
use Rattle.std.specs.Prelude.{◌≡◌, List, [], ◌∷◌, Bool, true, false, ◌&&◌, ◌||◌, ℕ, ◌+◌, ltb, leb, eqb, ℤ, pos, negsuc, length, get_or}
use Rattle.format.specs.Reading.{pick}
use Rattle.format.specs.Sets.{Range, key}
use Rattle.format.specs.Sections.{State, Edge, Action, Read, none, same, among, follows}
use Rattle.format.specs.Links.{those, numbers, every, names}
use Rattle.format.specs.Places.{se_first, se_count}
use Rattle.format.specs.Writing.{link, cell}

abbrev pub natural : ℤ → Bool
natural (pos n) = true
natural (negsuc n) = false

abbrev pub absent : ℤ → Bool
absent v = same v none

-- Not negative, or "None".
abbrev pub or_absent : ℤ → Bool
or_absent v = natural v || absent v

abbrev pub nought : ℤ → Bool
nought v = same v (pos 0)

abbrev pub truth : ℤ → Bool
truth v = nought v || same v (pos 1)

-- Of block end and loop back the one that the type does not have.
abbrev pub unlinked : State → ℤ
unlinked x = pick (eqb x.kind 12) x.end x.back

-- By the number of words that follow the type.
abbrev pub state_read : State → Bool
state_read x =
    leb x.kind 12 && absent (unlinked x) && get_or (
    (absent x.rule && absent (link x))
    ∷ (or_absent x.rule && absent (link x))
    ∷ []) (get_or follows x.kind 0) (or_absent x.rule && natural (link x))

-- "Kept ranges are sorted and disjoint, and touching ones joined", from the key b on.
abbrev pub kept : ℕ → List Range → Bool
kept b [] = true
kept b (x ∷ l) = let rest = kept (key x.stop + 2) l in leb b (key x.start) && leb (key x.start) (key x.stop) && rest

-- A set's record, with b ranges in the sets before it.
abbrev pub set_row : ℕ → List ℤ → Bool
set_row b x = same (cell x se_first) (pos b) && natural (cell x se_count)

-- p, q and r by the type; n sets are listed.
abbrev pub args_read : ℕ → Edge → Bool
args_read n e =
    get_or (false
    ∷ (nought e.p && nought e.q && nought e.r)  -- 1 epsilon
    ∷ nought e.r  -- 2 range
    ∷ (natural e.p && natural e.q)  -- 3 rule
    ∷ (natural e.p && natural e.q && truth e.r)  -- 4 predicate
    ∷ (nought e.q && nought e.r)  -- 5 atom
    ∷ (natural e.p && or_absent e.q && truth e.r)  -- 6 action
    ∷ (names n e.p && nought e.q && nought e.r)  -- 7 set
    ∷ (names n e.p && nought e.q && nought e.r)  -- 8 not-set
    ∷ (nought e.p && nought e.q && nought e.r)  -- 9 wildcard
    ∷ (nought e.q && nought e.r)  -- 10 precedence
    ∷ []) e.kind false

-- m states and n sets are listed.
abbrev pub edge_read : ℕ → ℕ → Edge → Bool
edge_read m n e = ltb e.source m && args_read n e

abbrev pub action_read : Action → Bool
action_read x =
    get_or (nought x.d2  -- 0 channel
    ∷ true  -- 1 custom
    ∷ nought x.d2  -- 2 mode
    ∷ (nought x.d1 && nought x.d2)  -- 3 more
    ∷ (nought x.d1 && nought x.d2)  -- 4 pop
    ∷ nought x.d2  -- 5 push
    ∷ (nought x.d1 && nought x.d2)  -- 6 skip
    ∷ nought x.d2  -- 7 type
    ∷ []) x.kind false

abbrev pub listed : Read → ℕ → Bool
listed r s = ltb s (length r.states)

-- What is read is so (Whole: `read_formed`), and where there is room it is read from its words (Whole: `words_run`).
pub record Formed (r : Read) : Type 0 where
  pub states : every state_read r.states ≡ true
  pub ones : every (listed r) r.nongreedy ≡ true
  pub twos : every (listed r) r.recursive ≡ true
  pub sets : every (kept 0) r.sets ≡ true
  pub edges : every (edge_read (length r.states) (length r.sets)) r.edges ≡ true
  pub actions : every action_read r.actions ≡ true

-- ---- "flagged states ascending"

-- Of the states, those that a list names.
abbrev pub ascending : List State → List ℕ → List ℕ
ascending ss named = those (λ s. among s named) (numbers (λ x. true) ss)

-- What was read, its flagged states ascending and without repeats.
unfoldable pub plain : Read → Read
plain r =
    record {
      token = r.token;
      states = r.states;
      nongreedy = ascending r.states r.nongreedy;
      recursive = ascending r.states r.recursive;
      rules = r.rules;
      modes = r.modes;
      sets = r.sets;
      edges = r.edges;
      decisions = r.decisions;
      actions = r.actions;
    }
