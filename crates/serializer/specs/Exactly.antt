-- Refusal 15: all tests together hold exactly where some words decode to the records.
use Rattle.std.specs.Prelude.{◌≡◌, List, [], Bool, true, false, ◌&&◌, ◌↔◌, ℕ, ◌+◌, ◌*◌, ◌≤◌, ◌<◌, ltb, leb, eqb, ℤ, pos, negsuc, length, get_or, replicate}
use Rattle.std.proofs.Math.Path.{refl}
use Rattle.std.proofs.Common.{sym, ap, ◌∙◌, subst, arith, leb-true, le-leb, lt-ltb, le-ltb, ltb-true, ltb-false, eqb-true, eq-eqb}
use Rattle.format.specs.Reading.{Table, States, Edges, Ranges, Sets, Rules, Modes, Decisions, Actions, Scratch, pick}
use Rattle.format.specs.Sections.{State, none, same, size, bit}
use Rattle.format.specs.Links.{those, names, stop_of, tail}
use Rattle.format.specs.Places.{st_kind, st_rule, st_flags, st_first, st_last, st_count, ed_kind, ed_source, ed_target, ed_next, ed_mark, ru_start, ru_stop, na_state}
use Rattle.format.specs.Tables.{nine, row_at}
use Rattle.format.specs.Writing.{Writing, words_for, write, unwritten, own, inside, cell, state_back, edge_back, rows_of, given, comes}
use Rattle.laws.specs.Own.{same_true}
use Rattle.writing.specs.Whole.{answer}
use Rattle.inplace.specs.Rows.{word_of}
use Rattle.inplace.specs.Sections.{stops_in}
use Rattle.tables.specs.Words.{number_of}
use Rattle.rewriting.specs.Formed.{natural, state_read, args_read}
use Rattle.rewriting.specs.Tests.{lie, both, left, right, six, eight-all, same_self, natural-size}
use Rattle.rewriting.specs.Passes.{all, state_fine, states_fine, edge_fine, edges_fine, arguments_fine, starts_fine, names_fine, action_fine, actions_fine, sets_fine}
use Rattle.rewriting.specs.All.{all_exactly}
use Rattle.rewriting.specs.Fine.{states_in, edges_in, rules_of, at, in_row}
use Rattle.rewriting.specs.SetsInRow.{sets_exactly}
use Rattle.rewriting.specs.Climbs.{sum, sum_of, sources, climb, climbs-same}
use Rattle.rewriting.specs.Checks.{own_first, row, Joined, Checked}
use Rattle.rewriting.specs.Held.{rows_take, inside-lie, rows_long, rows_at, Lie, lent_exactly}
use Rattle.serializer.specs.Tests.{few_in, joined_in, marked_in, linked_in, others_in, fine, listed_in, passed_in}
use Rattle.wiring.specs.Given.{word_at_lem, rows-states, rows-edges, rows-rules, states_long, edges_long, state_is, edge_is, state_word_lem, edge_word, rule_word, edge-number}
use Rattle.wiring.specs.Chains.{source_in, next_in, count_in, chain_fine, chains_fine}
use Rattle.wiring.specs.Stops.{stops_fine, found_are}
use Rattle.wiring.specs.Returns.{returns_fine}
use Rattle.wiring.specs.Marks.{mark_in, own_count, marks_fine}
use Rattle.wiring.specs.Decisions.{decisions_fine}
use Rattle.wiring.specs.Met.{returns_exactly}
use Rattle.atn.specs.Records.{Linked}
use Rattle.wiring.specs.Linked.{linked}
use Rattle.wiring.specs.Marked.{own_few, own_is, marks_exactly, decisions_exactly}

-- ---- tests of rows

-- a test of every record, off the table
rows_test : (w n : ℕ) (t : List ℤ) (p : List ℤ → Bool) → all n (λ i. p (row_at w t i)) ≡ true ↔ ((i : ℕ) → i < length (rows_of w n t) → p (get_or (rows_of w n t) i []) ≡ true)
rows_test w n t p =
    let a = all_exactly n (λ i. p (row_at w t i)) in (
      (λ h i k. let j : i < n = omega (arith, rows_long w n t) in ap p (rows_at w n t i j) ∙ a.0 h i j),
      (λ h. a.1 (λ i j. ap p (sym (rows_at w n t i j)) ∙ h i (omega (arith, rows_long w n t)))),
    )

edge-natural : (n : ℕ) (x : List ℤ) → edge_fine n x ≡ true → natural (cell x ed_source) ≡ true
edge-natural n x h =
    let k = natural (cell x ed_kind) in
    let s = names n (cell x ed_source) in
    go (cell x ed_source) (right k s (left (k && s) (natural (cell x ed_target)) h))
  where
    go : (v : ℤ) → names n v ≡ true → natural v ≡ true
    go (pos i) e = refl
    go (negsuc i) e = lie e

state-natural : (x : List ℤ) → state_fine x ≡ true → natural (cell x st_kind) ≡ true
state-natural x h =
    let k = natural (cell x st_kind) in
    let r = state_read (state_back x) in
    left k r (left (k && r) (names 8 (cell x st_flags)) h)

-- two tests that say the same
same_truth : (a b : Bool) → (a ≡ true → b ≡ true) → (b ≡ true → a ≡ true) → a ≡ b
same_truth true b f g = sym (f refl)
same_truth false true f g = g refl
same_truth false false f g = refl

-- ---- all tests

module _ (tables : Table → List ℤ) (counts : Table → ℕ) where
  abbrev T : Table → List (List ℤ)
  T = given tables counts

  abbrev joined_fine : Bool
  joined_fine = joined_in (counts States) (counts Edges) (counts Rules) (counts Sets) (tables States) (tables Edges) (tables Rules)

  abbrev marked_fine : Bool
  marked_fine = marked_in (counts States) (counts Edges) (counts Rules) (tables States) (tables Edges) (tables Rules)

  abbrev others_fine : Bool
  others_fine = others_in (counts Ranges) (counts Sets) (counts Modes) (counts Decisions) (counts Actions) (tables Ranges) (tables Sets) (tables Modes) (tables Decisions) (tables Actions)

  abbrev few : Bool
  few = few_in counts

  abbrev pub passes : Bool
  passes = fine tables counts

  -- ---- the words of chains

  module _ (natural-sources : (i : ℕ) → i < counts Edges → natural (at T Edges i ed_source) ≡ true) where
    chain_is : (s : ℕ) → s < counts States
        → chain_fine (counts Edges) (tables States) (tables Edges) s ≡ climb (length (edges_in T)) (sources (edges_in T)) (λ i. at T Edges i ed_next) s (at T States s st_first) (at T States s st_last) (at T States s st_count)
    chain_is s h =
        let f = state_word_lem tables counts s st_first h (omega arith) in
        let e = state_word_lem tables counts s st_last h (omega arith) in
        let c = state_word_lem tables counts s st_count h (omega arith) in
        (λ i. climb (counts Edges) (source_in (tables Edges)) (next_in (tables Edges)) s (f i) (e i) (c i))
        ∙ ap (λ (b : Bool). natural (at T States s st_count) && b)
        (climbs-same (counts Edges) (source_in (tables Edges)) (sources (edges_in T)) (next_in (tables Edges)) (λ i. at T Edges i ed_next)
        (λ j k. edge-number tables counts j ed_source k (omega arith) (natural-sources j k) ∙ ap (λ x. x.source) (sym (edge_is tables counts j)))
        (λ j k. edge_word tables counts j ed_next k (omega arith))
        s (at T States s st_last) (size (at T States s st_count)) 0 (at T States s st_first) none)
        ∙ ap (λ (m : ℕ). climb m (sources (edges_in T)) (λ i. at T Edges i ed_next) s (at T States s st_first) (at T States s st_last) (at T States s st_count)) (sym (edges_long tables counts))

  -- ---- the tables joined

  few_all : few ≡ true → (t : Table) → length (T t) ≤ 65536
  few_all h = go
    where
      tested : (t : Table) → leb (nine (counts States) (counts Edges) (counts Ranges) (counts Sets) (counts Rules) (counts Modes) (counts Decisions) (counts Actions) 0 t) 65536 ≡ true
      tested = eight-all (λ t. leb (nine (counts States) (counts Edges) (counts Ranges) (counts Sets) (counts Rules) (counts Modes) (counts Decisions) (counts Actions) 0 t) 65536) refl h

      go : (t : Table) → length (T t) ≤ 65536
      go States = omega (arith, leb-true (counts States) 65536 (tested States), rows_long 8 (counts States) (tables States))
      go Edges = omega (arith, leb-true (counts Edges) 65536 (tested Edges), rows_long 8 (counts Edges) (tables Edges))
      go Ranges = omega (arith, leb-true (counts Ranges) 65536 (tested Ranges), rows_long 2 (counts Ranges) (tables Ranges))
      go Sets = omega (arith, leb-true (counts Sets) 65536 (tested Sets), rows_long 2 (counts Sets) (tables Sets))
      go Rules = omega (arith, leb-true (counts Rules) 65536 (tested Rules), rows_long 3 (counts Rules) (tables Rules))
      go Modes = omega (arith, leb-true (counts Modes) 65536 (tested Modes), rows_long 1 (counts Modes) (tables Modes))
      go Decisions = omega (arith, leb-true (counts Decisions) 65536 (tested Decisions), rows_long 1 (counts Decisions) (tables Decisions))
      go Actions = omega (arith, leb-true (counts Actions) 65536 (tested Actions), rows_long 3 (counts Actions) (tables Actions))
      go Scratch = omega arith

  all_few : ((t : Table) → length (T t) ≤ 65536) → few ≡ true
  all_few h =
      both (both (both (both (both (both (both
      (le-leb (counts States) 65536 (omega (arith, h States, rows_long 8 (counts States) (tables States))))
      (le-leb (counts Edges) 65536 (omega (arith, h Edges, rows_long 8 (counts Edges) (tables Edges)))))
      (le-leb (counts Ranges) 65536 (omega (arith, h Ranges, rows_long 2 (counts Ranges) (tables Ranges)))))
      (le-leb (counts Sets) 65536 (omega (arith, h Sets, rows_long 2 (counts Sets) (tables Sets)))))
      (le-leb (counts Rules) 65536 (omega (arith, h Rules, rows_long 3 (counts Rules) (tables Rules)))))
      (le-leb (counts Modes) 65536 (omega (arith, h Modes, rows_long 1 (counts Modes) (tables Modes)))))
      (le-leb (counts Decisions) 65536 (omega (arith, h Decisions, rows_long 1 (counts Decisions) (tables Decisions)))))
      (le-leb (counts Actions) 65536 (omega (arith, h Actions, rows_long 3 (counts Actions) (tables Actions))))

  -- ---- row by row

  states_test : (p : List ℤ → Bool) → all (counts States) (λ s. p (row_at 8 (tables States) s)) ≡ true ↔ ((s : ℕ) → s < length (T States) → p (row T States s) ≡ true)
  states_test p = rows_test 8 (counts States) (tables States) p

  edges_test : (p : List ℤ → Bool) → all (counts Edges) (λ i. p (row_at 8 (tables Edges) i)) ≡ true ↔ ((i : ℕ) → i < length (T Edges) → p (row T Edges i) ≡ true)
  edges_test p = rows_test 8 (counts Edges) (tables Edges) p

  -- the edges' sources, the states' types
  sourced : edges_fine (counts States) (counts Edges) (tables Edges) ≡ true → (i : ℕ) → i < counts Edges → natural (at T Edges i ed_source) ≡ true
  sourced h i k = edge-natural (counts States) (row T Edges i) ((edges_test (edge_fine (counts States))).0 h i (omega (arith, rows-edges tables counts)))

  typed : states_fine (counts States) (tables States) ≡ true → (s : ℕ) → s < counts States → natural (at T States s st_kind) ≡ true
  typed h s k = state-natural (row T States s) ((states_test state_fine).0 h s (omega (arith, rows-states tables counts)))

  -- the stops that are found
  stops_at : ((s : ℕ) → s < counts States → natural (at T States s st_kind) ≡ true) → (R : ℕ) → R < counts Rules
      → word_of 3 (stops_in (counts States) (counts Rules) (tables States) (replicate (3 * counts Rules) none)) R ru_stop ≡ stop_of (states_in T) (pos R)
  stops_at h R k =
      ap (λ (n : ℕ). word_of 3 (stops_in n (counts Rules) (tables States) (replicate (3 * counts Rules) none)) R ru_stop) (sym (states_long tables counts))
      ∙ found_are (counts Rules) (tables States) (states_in T)
      (λ s l. let i = listed s l in state_word_lem tables counts s st_kind i (omega arith) ∙ sym (natural-size (at T States s st_kind) (h s i)) ∙ ap (λ (x : State). pos x.kind) (sym (state_is tables counts s i)))
      (λ s l. let i = listed s l in state_word_lem tables counts s st_rule i (omega arith) ∙ ap (λ (x : State). x.rule) (sym (state_is tables counts s i)))
      R k
    where
      listed : (s : ℕ) → s < length (states_in T) → s < counts States
      listed s l = omega (arith, states_long tables counts)

  count_is : sum (length (T States)) (λ s. size (at T States s st_count)) ≡ sum (counts States) (count_in (tables States))
  count_is =
      ap (λ (n : ℕ). sum n (λ s. size (at T States s st_count))) (rows-states tables counts)
      ∙ sum_of (counts States) (λ s. size (at T States s st_count)) (count_in (tables States)) (λ s k. ap size (sym (state_word_lem tables counts s st_count k (omega arith))))

  pub joined_exactly : (few && joined_fine) ≡ true ↔ Joined T
  joined_exactly = (to, fro)
    where
      to : (few && joined_fine) ≡ true → Joined T
      to h =
          let x = six (states_fine (counts States) (tables States)) (edges_fine (counts States) (counts Edges) (tables Edges)) (arguments_fine (counts Sets) (counts Edges) (tables Edges)) (starts_fine (counts Rules) (tables Rules)) (chains_fine (counts States) (counts Edges) (tables States) (tables Edges)) (stops_fine (counts States) (counts Rules) (tables States) (tables Rules)) (right few joined_fine h) in
          let climbing = all (counts States) (chain_fine (counts Edges) (tables States) (tables Edges)) in
          let counting = eqb (sum (counts States) (count_in (tables States))) (counts Edges) in
          record {
            few = few_all (left few joined_fine h);
            states = (states_test state_fine).0 x.0;
            edges = λ i k. ap (λ (n : ℕ). edge_fine n (row T Edges i)) (rows-states tables counts) ∙ (edges_test (edge_fine (counts States))).0 x.1 i k;
            arguments = λ i k. ap (λ (n : ℕ). args_read n (edge_back (row T Edges i))) (rows_long 2 (counts Sets) (tables Sets)) ∙ (edges_test (λ z. args_read (counts Sets) (edge_back z))).0 x.2 i k;
            climbs = λ s k. let j : s < counts States = omega (arith, rows-states tables counts) in sym (chain_is (sourced x.1) s j) ∙ (all_exactly (counts States) (chain_fine (counts Edges) (tables States) (tables Edges))).0 (left climbing counting x.4) s j;
            counted = count_is ∙ eqb-true _ (counts Edges) (right climbing counting x.4) ∙ sym (rows-edges tables counts);
            starts = (rows_test 3 (counts Rules) (tables Rules) (λ z. natural (cell z ru_start))).0 x.3;
            stops = λ R k.
                let j : R < counts Rules = omega (arith, rows-rules tables counts) in
                sym (rule_word tables counts R ru_stop j (omega arith)) ∙ same_true _ _ ((all_exactly (counts Rules) _).0 x.5 R j) ∙ stops_at (typed x.0) R j;
          }

      fro : Joined T → (few && joined_fine) ≡ true
      fro w =
          let edged = (edges_test (edge_fine (counts States))).1 (λ i k. ap (λ (n : ℕ). edge_fine n (row T Edges i)) (sym (rows-states tables counts)) ∙ w.edges i k) in
          let stated = (states_test state_fine).1 w.states in
          both (all_few w.few) (both (both (both (both (both stated edged)
          ((edges_test (λ z. args_read (counts Sets) (edge_back z))).1 (λ i k. ap (λ (n : ℕ). args_read n (edge_back (row T Edges i))) (sym (rows_long 2 (counts Sets) (tables Sets))) ∙ w.arguments i k)))
          ((rows_test 3 (counts Rules) (tables Rules) (λ z. natural (cell z ru_start))).1 w.starts))
          (both
          ((all_exactly (counts States) (chain_fine (counts Edges) (tables States) (tables Edges))).1 (λ s k. chain_is (sourced edged) s k ∙ w.climbs s (omega (arith, rows-states tables counts))))
          (eq-eqb _ (counts Edges) (sym count_is ∙ w.counted ∙ rows-edges tables counts))))
          ((all_exactly (counts Rules) _).1 (λ R k.
          let e = rule_word tables counts R ru_stop k (omega arith) ∙ w.stops R (omega (arith, rows-rules tables counts)) ∙ sym (stops_at (typed stated) R k) in
          subst (λ (z : ℤ). same (word_of 3 (tables Rules) R ru_stop) z ≡ true) e (same_self (word_of 3 (tables Rules) R ru_stop)))))

  -- ---- the rest

  module _ (l : Lie tables counts) where
    abbrev o : ℕ
    o = own_count (counts Edges) (tables Edges)

    abbrev returning : Bool
    returning = returns_fine (counts States) (counts Edges) (counts Rules) (tables States) (tables Edges) (tables Rules) o

    abbrev marking : Bool
    marking = marks_fine (counts States) (counts Edges) (counts Rules) (tables States) (tables Edges) o

    abbrev deciding : Bool
    deciding = decisions_fine (counts States) (counts Edges) (counts Rules) (tables States) (tables Edges) (tables Rules)

    abbrev setting : Bool
    setting = sets_fine (counts Sets) (tables Sets) (counts Ranges) (tables Ranges)

    -- modes and decisions have records of one word
    names_test : (n : ℕ) (t : List ℤ) → names_fine n t ≡ true ↔ ((i : ℕ) → i < length (rows_of 1 n t) → natural (cell (get_or (rows_of 1 n t) i []) na_state) ≡ true)
    names_test n t =
        let a = all_exactly n (λ i. natural (get_or t i (pos 0))) in (
          (λ h i k. let j : i < n = omega (arith, rows_long 1 n t) in ap natural (sym (first i j)) ∙ a.0 h i j),
          (λ h. a.1 (λ i j. ap natural (first i j) ∙ h i (omega (arith, rows_long 1 n t)))),
        )
      where
        first : (i : ℕ) → i < n → get_or t i (pos 0) ≡ cell (get_or (rows_of 1 n t) i []) na_state
        first i j = let q : i ≡ 1 * i + 0 = omega arith in ap (λ (k : ℕ). get_or t k (pos 0)) q ∙ word_at_lem 1 n t i 0 j (omega arith)

    pub passes_checked : passes ≡ true → Checked T o
    passes_checked h =
        let h3 = left (few && (joined_fine && marked_fine)) others_fine h in
        let jm = right few (joined_fine && marked_fine) h3 in
        let w = joined_exactly.0 (both (left few (joined_fine && marked_fine) h3) (left joined_fine marked_fine jm)) in
        let y = right joined_fine marked_fine jm in
        let z = right (few && (joined_fine && marked_fine)) others_fine h in
        let y2 = left (returning && marking) deciding y in
        let modal = names_fine (counts Modes) (tables Modes) in
        let decided = names_fine (counts Decisions) (tables Decisions) in
        let acting = actions_fine (counts Actions) (tables Actions) in
        let z3 = left (setting && modal && decided) acting z in
        let z2 = left (setting && modal) decided z3 in
        let s = (sets_exactly (counts Ranges) (tables Ranges) l.ranges 0 (T Sets)).0 (left setting modal z2) in
        let m = (marks_exactly tables counts l w o).0 (right returning marking y2) in
        record {
          wired =
              record {
                joined = w;
                within = omega (arith, own_few (counts Edges) (tables Edges), rows-edges tables counts);
                derived = (returns_exactly tables counts w o (own_few (counts Edges) (tables Edges))).0 (left returning marking y2);
              };
          marks = λ i k. m i (omega (arith, own_few (counts Edges) (tables Edges))) ∙ rw (lt-ltb i o k) refl;
          returns = λ i k j. m i (omega (arith, rows-edges tables counts)) ∙ rw (le-ltb i o k) refl;
          decides = (decisions_exactly tables counts l w).0 (right (returning && marking) deciding y);
          sets = ap (λ (n : ℕ). in_row n 0 (T Sets)) (rows_long 2 (counts Ranges) (tables Ranges)) ∙ s.0;
          kept = s.1;
          modes = (names_test (counts Modes) (tables Modes)).0 (right setting modal z2);
          decisions = (names_test (counts Decisions) (tables Decisions)).0 (right (setting && modal) decided z3);
          actions = (rows_test 3 (counts Actions) (tables Actions) action_fine).0 (right (setting && modal && decided) acting z);
        }

    checked_passes : (p : ℕ) → Checked T p → passes ≡ true
    checked_passes p c =
        let w = c.wired.joined in
        let e : o ≡ p = own_is (counts Edges) (tables Edges) p (omega (arith, c.wired.within, rows-edges tables counts)) mine theirs in
        let j = joined_exactly.1 w in
        both (both (left few joined_fine j) (both (right few joined_fine j)
        (both (both
        ((returns_exactly tables counts w o (own_few (counts Edges) (tables Edges))).1 (rw e c.wired.derived))
        ((marks_exactly tables counts l w o).1 (λ i k. rw e (marked i k (ltb i p) refl))))
        ((decisions_exactly tables counts l w).1 c.decides))))
        (both (both (both
        ((sets_exactly (counts Ranges) (tables Ranges) l.ranges 0 (T Sets)).1 (ap (λ (n : ℕ). in_row n 0 (T Sets)) (sym (rows_long 2 (counts Ranges) (tables Ranges))) ∙ c.sets, c.kept))
        ((names_test (counts Modes) (tables Modes)).1 c.modes))
        ((names_test (counts Decisions) (tables Decisions)).1 c.decisions))
        ((rows_test 3 (counts Actions) (tables Actions) action_fine).1 c.actions))
      where
        mine : (i : ℕ) → i < p → mark_in (tables Edges) i ≡ 1 → ⊥
        mine i k q = go (tail (states_in T) (rules_of T) (edges_in T) (edge_back (row T Edges i))) (sym (ap number_of (edge_word tables counts i ed_mark (omega (arith, c.wired.within, rows-edges tables counts)) (omega arith) ∙ c.marks i k)) ∙ q)
          where
            go : (b : Bool) → 2 * bit b ≡ 1 → ⊥
            go true e = omega arith
            go false e = omega arith

        marked : (i : ℕ) → i < counts Edges → (b : Bool) → ltb i p ≡ b → at T Edges i ed_mark ≡ pos (pick b (2 * bit (tail (states_in T) (rules_of T) (edges_in T) (edge_back (row T Edges i)))) 1)
        marked i k true q = c.marks i (ltb-true i p q)
        marked i k false q = c.returns i (ltb-false i p q) (omega (arith, rows-edges tables counts))

        theirs : (i : ℕ) → p ≤ i → i < counts Edges → mark_in (tables Edges) i ≡ 1
        theirs i k j = ap number_of (edge_word tables counts i ed_mark j (omega arith) ∙ c.returns i k (omega (arith, rows-edges tables counts)))

    -- Refusal 15's second half, as the code decides it.
    pub passes_comes : (token : ℤ) → passes ≡ comes (given tables counts) token
    passes_comes token =
        let a = lent_exactly tables counts l token in
        same_truth passes (comes (given tables counts) token) (λ h. a.1 (o, passes_checked h)) (λ h. let c = a.0 h in checked_passes c.0 c.1)

-- ---- what the writing goes by where 15 is not given

pub record Passed (tables : Table → List ℤ) (counts : Table → ℕ) : Type 0 where
  pub lie : Lie tables counts
  pub few : (t : Table) → nine (counts States) (counts Edges) (counts Ranges) (counts Sets) (counts Rules) (counts Modes) (counts Decisions) (counts Actions) 0 t ≤ 65536
  pub own : those own (rows_of 8 (counts Edges) (tables Edges)) ≡ rows_of 8 (own_count (counts Edges) (tables Edges)) (tables Edges)
  pub sets : sets_fine (counts Sets) (tables Sets) (counts Ranges) (tables Ranges) ≡ true

pub few_counts : (counts : Table → ℕ) → few_in counts ≡ true → (t : Table) → nine (counts States) (counts Edges) (counts Ranges) (counts Sets) (counts Rules) (counts Modes) (counts Decisions) (counts Actions) 0 t ≤ 65536
few_counts counts h t = leb-true (eights t) 65536 (eight-all (λ t. leb (eights t) 65536) refl h t)
  where
    eights : Table → ℕ
    eights = nine (counts States) (counts Edges) (counts Ranges) (counts Sets) (counts Rules) (counts Modes) (counts Decisions) (counts Actions) 0

module _ (tables : Table → List ℤ) (counts : Table → ℕ) (token : ℤ) where
  pub has-passed : (inside tables counts && comes (given tables counts) token) ≡ true → Passed tables counts
  has-passed h =
      let l = inside-lie tables counts (left (inside tables counts) (comes (given tables counts) token) h) in
      let p = passes_comes tables counts l token ∙ right (inside tables counts) (comes (given tables counts) token) h in
      let o = own_count (counts Edges) (tables Edges) in
      let j = joined_in (counts States) (counts Edges) (counts Rules) (counts Sets) (tables States) (tables Edges) (tables Rules) && marked_in (counts States) (counts Edges) (counts Rules) (tables States) (tables Edges) (tables Rules) in
      let r = others_in (counts Ranges) (counts Sets) (counts Modes) (counts Decisions) (counts Actions) (tables Ranges) (tables Sets) (tables Modes) (tables Decisions) (tables Actions) in
      let s = sets_fine (counts Sets) (tables Sets) (counts Ranges) (tables Ranges) in
      let a = names_fine (counts Modes) (tables Modes) in
      let b = names_fine (counts Decisions) (tables Decisions) in
      let c = actions_fine (counts Actions) (tables Actions) in
      record {
        lie = l;
        few = few_counts counts (left (few_in counts) j (left (few_in counts && j) r p));
        own = own_first (given tables counts) (pos 0) o (passes_checked tables counts l p) ∙ rows_take 8 o (counts Edges) (tables Edges) (own_few (counts Edges) (tables Edges));
        sets = left s a (left (s && a) b (left (s && a && b) c (right (few_in counts && j) r p)));
      }

-- ---- the tests as the code makes them: first whether the records are listed

module _ (tables : Table → List ℤ) (counts : Table → ℕ) where
  abbrev linking : Bool
  linking = linked_in (counts States) (counts Edges) (counts Rules) (counts Sets) (tables States) (tables Edges) (tables Rules)

  abbrev others : Bool
  others = others_in (counts Ranges) (counts Sets) (counts Modes) (counts Decisions) (counts Actions) (tables Ranges) (tables Sets) (tables Modes) (tables Decisions) (tables Actions)

  module _ (token : ℤ) where
    pub unlisted : listed_in tables counts ≡ false → (inside tables counts && comes (given tables counts) token) ≡ false
    unlisted h = go (inside tables counts) refl h
      where
        go : (b : Bool) → inside tables counts ≡ b → (b && few_in counts) ≡ false → (b && comes (given tables counts) token) ≡ false
        go false e h = refl
        go true e h = sym (passes_comes tables counts (inside-lie tables counts e) token) ∙ ap (λ (b : Bool). b && linking && others) h

    pub listed_comes : listed_in tables counts ≡ true → passed_in tables counts ≡ (inside tables counts && comes (given tables counts) token)
    listed_comes h =
        let i = left (inside tables counts) (few_in counts) h in
        let f = right (inside tables counts) (few_in counts) h in
        sym (ap (λ (b : Bool). b && linking && others) f)
        ∙ passes_comes tables counts (inside-lie tables counts i) token
        ∙ sym (ap (λ (b : Bool). b && comes (given tables counts) token) i)

-- ---- joined tables are linked

module _ (n m k c : ℕ) (st ed ru : List ℤ) where
  abbrev three : Table → List ℤ
  three = nine st ed [] [] ru [] [] [] []

  abbrev numbers : Table → ℕ
  numbers = nine n m 0 c k 0 0 0 0

  pub joined_linked : n ≤ 65536 → m ≤ 65536 → k ≤ 65536 → c ≤ 65536 → 8 * n ≤ length st → 8 * m ≤ length ed → 3 * k ≤ length ru → joined_in n m k c st ed ru ≡ true → Linked st ed ru n m k
  joined_linked a b d e p q r h =
      linked three numbers p q r
      ((joined_exactly three numbers).0 (both
      (both (both (both (both (both (both (both (le-leb n 65536 a) (le-leb m 65536 b)) refl) (le-leb c 65536 e)) (le-leb k 65536 d)) refl) refl) refl) h))

-- ---- the answer

module _ (tables : Table → List ℤ) (counts : Table → ℕ) (token : ℤ) (m : ℕ) where
  pub write-refused : (inside tables counts && comes (given tables counts) token) ≡ false → {a : Writing} → a ≡ unwritten 15 m → a ≡ write tables counts token m
  unfolding write
  write-refused h e = e ∙ rw h refl

  pub write-answers : (inside tables counts && comes (given tables counts) token) ≡ true → {ws : List ℤ} → words_for tables counts token ≡ ws → answer ws m ≡ write tables counts token m
  unfolding write
  write-answers h e = rw (h, e) refl
