-- Every accepted list's records fit their tables: what a decode leaves in a lent slice is as long as the slice.
use Rattle.std.specs.Prelude.{◌≡◌, refl, Bool, true, false, ℤ, pos}
use Rattle.std.proofs.Common.{ap, ◌∙◌, arith}
use mathlib.Core.List.{List, [], ◌∷◌, ◌++◌}
use Prim.Native.Nat.{ℕ, zero, suc, ◌+◌, ◌-◌, ◌*◌, ◌≤◌}
use Rattle.std.proofs.Math.ListN.{length, length-append}
use Rattle.std.proofs.lemmas.List.{length-replicate}
use Rattle.format.specs.Reading.{Table, States, Edges, Ranges, Sets, Rules, Modes, Decisions, Actions, Scratch, Outcome, ok, no, run, times, spot, get, index, count}
use Rattle.format.specs.Sets.{Range, lower, upper, add, add_any, keep_onto, keep}
use Rattle.format.specs.Sections.{State, Edge, Read, bit, eof, version, grammar, state, states, flags, rule, rules, modes, interval, flagged, set, sets_from, sets, edges, decisions, action, actions}
use Rattle.format.specs.Links.{flat, derived}
use Rattle.format.specs.Tables.{width, room, derived_of, edges_of, state_words, edge_words, range_words, set_records, rule_words, state_word, action_words, records, zeros, table}
use Rattle.format.specs.Decode.{returning, dialect, answer, decoded}
use Rattle.laws.specs.Kept.{Way, way, before, behind, joined}
use Rattle.laws.specs.Gives.{Gives, Any, Every, gives_any, gives_done, gives_bind, then, gives_run, gives_times, gives_count, gives_counted, weaker}
use Rattle.laws.specs.Rows.{Wide, numbered_long, numbered-every, flat_long}

-- ---- a set keeps no more ranges than it is given

short_way : {s e : ℤ} {r : Range} {l out : List Range} → Way s e r l out → ((s e : ℤ) → length (add s e l) ≤ suc (length l)) → length out ≤ suc (suc (length l))
short_way {s} {e} {r} {l} (before p) ih = omega (arith, ih s e)
short_way {s} {e} {r} {l} (behind p q) ih = omega (arith, ih r.start r.stop)
short_way {s} {e} {r} {l} (joined p q) ih = omega (arith, ih (lower s r.start) (upper e r.stop))

pub add_short : (l : List Range) (s e : ℤ) → length (add s e l) ≤ suc (length l)
unfolding add
add_short [] s e = omega arith
add_short (r ∷ l) s e = short_way (way s e r l) (add_short l)

onto_short : (rs l : List Range) → length (keep_onto l rs) ≤ length l + length rs
unfolding keep_onto
onto_short [] l = omega arith
onto_short (r ∷ rs) l = omega (arith, onto_short rs (add_any r l), add_short l (lower r.start r.stop) (upper r.start r.stop))

pub keep_short : (rs : List Range) → length (keep rs) ≤ length rs
keep_short rs = omega (arith, onto_short rs [])

pub eof_long : (b : Bool) → length (eof b) ≡ bit b
eof_long true = refl
eof_long false = refl

-- ---- the records that were read have room

pub record Roomed (room : Table → ℕ) (r : Read) : Type 0 where
  pub states : length r.states ≤ room States
  pub edges : length r.edges + length (derived_of r) ≤ room Edges
  pub ranges : length (flat r.sets) ≤ room Ranges
  pub sets : length r.sets ≤ room Sets
  pub rules : length r.rules ≤ room Rules
  pub modes : length r.modes ≤ room Modes
  pub decisions : length r.decisions ≤ room Decisions
  pub actions : length r.actions ≤ room Actions

abbrev W : ℤ → Type 0
W v = Unit {0}

module _ (room : Table → ℕ) where
  pub flagged-room : (i kept n : ℕ) → Gives W room (λ b. kept + n + bit b ≤ room Ranges) (flagged i kept n)
  unfolding flagged Gives
  flagged-room i kept n = λ p v x h. h

  set_room : (i kept : ℕ) → Gives W room (λ s. kept + length s ≤ room Ranges) (set i kept)
  unfolding set
  set_room i kept =
      then W room _ (index (spot 19 i)) _ (λ n. gives_bind W room (λ b. kept + n + bit b ≤ room Ranges) _ (flagged i kept n) _ (flagged-room i kept n) (λ b h.
      gives_bind W room (λ (l : List Range). (length l ≡ n) × Every Any l) _ (times n 0 (λ j. interval i)) _ (gives_times W room Any n 0 (λ j. interval i) (λ j. gives_any W room (interval i))) (λ l x.
      gives_done W room (λ s. kept + length s ≤ room Ranges) (keep (eof b ++ l)) (omega (arith, x.0, keep_short (eof b ++ l), length-append (eof b) l, eof_long b)))))

  abbrev SetsIn : ℕ → ℕ → List (List Range) → Type 0
  SetsIn n kept ls = (length ls ≡ n) × (kept + length (flat ls) ≤ room Ranges)

  sets-room : (n i kept : ℕ) → kept ≤ room Ranges → Gives W room (SetsIn n kept) (sets_from n i kept)
  unfolding sets_from
  sets-room zero i kept h = gives_done W room (SetsIn zero kept) [] (refl, omega arith)
  sets-room (suc n) i kept h =
      gives_bind W room (λ s. kept + length s ≤ room Ranges) (SetsIn (suc n) kept) (set i kept) _ (set_room i kept) (λ s x.
      gives_bind W room (SetsIn n (kept + length s)) (SetsIn (suc n) kept) (sets_from n (i + 1) (kept + length s)) _ (sets-room n (i + 1) (kept + length s) x) (λ l y.
      gives_done W room (SetsIn (suc n) kept) (s ∷ l) (ap suc y.0, omega (arith, y.1, length-append s (flat l)))))

  abbrev SetsRoom : List (List Range) → Type 0
  SetsRoom ls = (length ls ≤ room Sets) × (length (flat ls) ≤ room Ranges)

  all_sets_room : Gives W room SetsRoom sets
  unfolding sets
  all_sets_room =
      gives_bind W room (λ n. n ≤ room Sets) SetsRoom (count Sets 18) _ (gives_count W room Sets 18)
      (λ n h. weaker W room (SetsIn n 0) SetsRoom (λ ls x. (omega (arith, x.0), omega (arith, x.1))) (sets_from n 0 0) (sets-room n 0 0 (omega arith)))

  returning-room : (ss : List State) (n : ℕ) (es : List Edge) → Gives W room (λ l. length es + length (derived ss n es) ≤ room Edges) (returning ss n es)
  unfolding returning Gives
  returning-room ss n es = λ p h. h

  dialect-room : Gives W room (Roomed room) dialect
  unfolding dialect states rules modes edges decisions actions
  dialect-room =
      then W room (Roomed room) version _ (λ a. then W room (Roomed room) Rattle.format.specs.Sections.grammar _ (λ b. then W room (Roomed room) (get (spot 3 0)) _ (λ token.
      gives_bind W room (λ ss. length ss ≤ room States) (Roomed room) states _ (gives_counted W room States 4 state) (λ ss h4.
      then W room (Roomed room) (flags (length ss) 9) _ (λ ones. then W room (Roomed room) (flags (length ss) 11) _ (λ twos.
      gives_bind W room (λ rs. length rs ≤ room Rules) (Roomed room) rules _ (gives_counted W room Rules 13 rule) (λ rs h13.
      gives_bind W room (λ ms. length ms ≤ room Modes) (Roomed room) modes _ (gives_counted W room Modes 16 (λ i. index (spot 17 i))) (λ ms h16.
      gives_bind W room SetsRoom (Roomed room) sets _ all_sets_room (λ ls h18.
      then W room (Roomed room) (edges (length ss) (length ls)) _ (λ es.
      gives_bind W room (λ l. length es + length (derived ss (length rs) es) ≤ room Edges) (Roomed room) (returning ss (length rs) es) _ (returning-room ss (length rs) es) (λ es2 h23.
      gives_bind W room (λ ds. length ds ≤ room Decisions) (Roomed room) decisions _ (gives_counted W room Decisions 30 (λ i. index (spot 31 i))) (λ ds h30.
      gives_bind W room (λ xs. length xs ≤ room Actions) (Roomed room) actions _ (gives_counted W room Actions 32 action) (λ xs h32.
      gives_done W room (Roomed room) _ (record { states = h4; edges = h23; ranges = h18.1; sets = h18.0; rules = h13; modes = h16; decisions = h30; actions = h32 }))))))))))))))

-- ---- so many words

pub sets_long : (k : ℕ) (ls : List (List Range)) → length (set_records k ls) ≡ length ls
sets_long k [] = refl
sets_long k (l ∷ ls) = ap suc (sets_long (k + length l) ls)

pub sets-wide : (k : ℕ) (ls : List (List Range)) → Every (Wide 2) (set_records k ls)
sets-wide k [] = tt
sets-wide k (l ∷ ls) = (refl, sets-wide (k + length l) ls)

-- each record has its table's words
pub records-wide : (r : Read) (t : Table) → Every (Wide (width t)) (records r t)
unfolding records
records-wide r States = numbered-every (Wide 8) 0 (state_words r (edges_of r)) r.states (λ i a. refl)
records-wide r Edges = numbered-every (Wide 8) 0 (edge_words r (edges_of r)) (edges_of r) (λ i a. refl)
records-wide r Ranges = numbered-every (Wide 2) 0 (λ i a. range_words a) (flat r.sets) (λ i a. refl)
records-wide r Sets = sets-wide 0 r.sets
records-wide r Rules = numbered-every (Wide 3) 0 (rule_words r) r.rules (λ i a. refl)
records-wide r Modes = numbered-every (Wide 1) 0 (λ i a. state_word a) r.modes (λ i a. refl)
records-wide r Decisions = numbered-every (Wide 1) 0 (λ i a. state_word a) r.decisions (λ i a. refl)
records-wide r Actions = numbered-every (Wide 3) 0 (λ i a. action_words a) r.actions (λ i a. refl)
records-wide r Scratch = tt

pub records-room : (room : Table → ℕ) (r : Read) → Roomed room r → (t : Table) → length (records r t) ≤ room t
unfolding records
records-room room r h States = omega (arith, h.states, numbered_long 0 (state_words r (edges_of r)) r.states)
records-room room r h Edges = omega (arith, h.edges, numbered_long 0 (edge_words r (edges_of r)) (edges_of r), length-append r.edges (derived_of r))
records-room room r h Ranges = omega (arith, h.ranges, numbered_long 0 (λ i a. range_words a) (flat r.sets))
records-room room r h Sets = omega (arith, h.sets, sets_long 0 r.sets)
records-room room r h Rules = omega (arith, h.rules, numbered_long 0 (rule_words r) r.rules)
records-room room r h Modes = omega (arith, h.modes, numbered_long 0 (λ i a. state_word a) r.modes)
records-room room r h Decisions = omega (arith, h.decisions, numbered_long 0 (λ i a. state_word a) r.decisions)
records-room room r h Actions = omega (arith, h.actions, numbered_long 0 (λ i a. action_words a) r.actions)
records-room room r h Scratch = omega arith

pub room_words : (lent : Table → ℕ) (t : Table) (n : ℕ) → n ≤ room lent t → width t * n ≤ lent t
room_words lent States n h = omega arith
room_words lent Edges n h = omega arith
room_words lent Ranges n h = omega arith
room_words lent Sets n h = omega arith
room_words lent Rules n h = omega arith
room_words lent Modes n h = omega arith
room_words lent Decisions n h = omega arith
room_words lent Actions n h = omega arith
room_words lent Scratch n h = omega arith

-- the records of an accepted list have room
pub read_roomed : (lent : Table → ℕ) (ws : List ℤ) (at : ℕ) (r : Read) (n : ℕ) → run dialect ws (room lent) at ≡ ok r n → Roomed (room lent) r
read_roomed lent ws at r n e = gives_run W (room lent) (Roomed (room lent)) dialect (dialect-room (room lent)) ws at (λ i h. tt) e

-- and fit the lent slices
pub records_fit : (lent : Table → ℕ) (ws : List ℤ) (at : ℕ) (r : Read) (n : ℕ) → run dialect ws (room lent) at ≡ ok r n → (t : Table) → length (flat (records r t)) ≤ lent t
records_fit lent ws at r n e t =
    omega (
      arith,
      flat_long (width t) (records r t) (records-wide r t),
      room_words lent t (length (records r t)) (records-room (room lent) r (read_roomed lent ws at r n e) t),
    )

-- what a decode leaves in a lent slice is as long as the slice, on acceptance and on refusal
pub as_long : (lent : Table → ℕ) (ws : List ℤ) (at : ℕ) (t : Table) → length ((decoded lent ws at).left t) ≡ lent t
unfolding decoded table
as_long lent ws at t = go (run dialect ws (room lent) at) refl
  where
    go : (o : Outcome Read) → run dialect ws (room lent) at ≡ o → length ((answer lent at o).left t) ≡ lent t
    go (ok r n) e =
        length-append (flat (records r t)) (zeros (lent t - length (flat (records r t))))
        ∙ omega (arith, records_fit lent ws at r n e t, length-replicate (lent t - length (flat (records r t))) (pos 0))
    go (no q) e = length-replicate (lent t) (pos 0)
