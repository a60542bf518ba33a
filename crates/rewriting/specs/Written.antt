-- The laws of `write`: its answers by their meaning, and what a decode makes of what was written from a decode's tables.
use Rattle.std.specs.Prelude.{◌≡◌, List, [], ◌∷◌, ◌++◌, Bool, ◌&&◌, ◌↔◌, ℕ, ◌-◌, ◌*◌, ◌/◌, ◌≤◌, ◌<◌, ltb, ℤ, Ok, Err}
use Rattle.std.proofs.Math.Path.{refl, sym, ap}
use Rattle.std.proofs.Common.{◌∙◌, subst, append_assoc, append-nil, ⊎_elim, length-append, take_at, drop_at}
use Rattle.std.proofs.Math.Bool.{true, false}
use native.Mathlib.Omega.{arith}
use Rattle.std.proofs.Math.ListN.{length}
use borrow.Author.Tests.{lt-ltb, le-ltb, le-leb}
use Rattle.format.specs.declared.Counts.{Counts}
use Rattle.format.specs.Results.{Written}
use Rattle.format.specs.Answers.{of_written}
use Rattle.format.specs.Reading.{Outcome, ok, run, bare, Table, States, Edges, Ranges, Sets, Rules, Modes, Decisions, Actions, Scratch, pick}
use Rattle.format.specs.Sections.{Read, bit}
use Rattle.format.specs.Links.{flat}
use Rattle.format.specs.Tables.{nine, width, room, derived_of, edges_of, state_words, edge_words, range_words, rule_words, state_word, action_words, records, table, zeros, counts_of}
use Rattle.format.specs.Decode.{dialect, answer, decoded}
use Rattle.format.specs.Questions.{fits}
use Rattle.format.specs.Writing.{words_of, recovered, rows_of, given, inside, Comes, Writable, words_for, Writing, wrote, unwritten, Writes, comes, write}
use Rattle.laws.specs.Gives.{Every}
use Rattle.laws.specs.Rows.{Wide, numbered_long}
use Rattle.laws.specs.Order.{order}
use Rattle.laws.specs.Fits.{Roomed, records-wide, records-room, room_words, read_roomed, sets_long, as_long}
use Rattle.laws.specs.Demand3.{Accepting, accepting}
use Rattle.rewriting.specs.Formed.{plain}
use Rattle.rewriting.specs.Tests.{both, left, right, all-eight}
use Rattle.rewriting.specs.Plain.{plain-records, plain-counts}
use Rattle.rewriting.specs.Laws.{written, decodes-again, same-written}
use Rattle.rewriting.specs.Found.{found_exactly, comes_exactly}
use Rattle.rewriting.specs.Whole.{words_run}

-- ---- "15 exactly when .., tested first; 16 exactly when the output is too short"

module _ (tables : Table → List ℤ) (counts : Table → ℕ) (token : ℤ) (m : ℕ) where
  abbrev test : Bool
  test = inside tables counts && comes (given tables counts) token

  test_exactly : test ≡ true ↔ Writable tables counts
  test_exactly = (
    (λ h. record { within = left (inside tables counts) (comes (given tables counts) token) h; comes = (comes_exactly (given tables counts) token refl).0 (right (inside tables counts) (comes (given tables counts) token) h) }),
    (λ w. both w.within ((comes_exactly (given tables counts) token refl).1 w.comes)),
  )

  -- what is computed is what is meant
  pub writes : Writes tables counts token m (write tables counts token m)
  unfolding write
  writes =
      record {
        fifteen = λ never. go never test refl;
        sixteen = λ w h. rw (test_exactly.1 w, lt-ltb m (length (words_for tables counts token)) h) refl;
        words = λ w h. rw (test_exactly.1 w, le-ltb m (length (words_for tables counts token)) h) refl;
      }
    where
      go : (Writable tables counts → ⊥) → (b : Bool) → test ≡ b → pick b (pick (ltb m (length (words_for tables counts token))) (unwritten 16 m) (wrote (words_for tables counts token) m)) (unwritten 15 m) ≡ unwritten 15 m
      go never true e = absurd (never (test_exactly.0 e))
      go never false e = refl

  pub writes_by : (a : Writing) → a ≡ write tables counts token m → Writes tables counts token m a
  writes_by a e = subst (λ (x : Writing). Writes tables counts token m x) (sym e) writes

  -- and no second answer is
  pub writes-only : (a : Writing) → Writes tables counts token m a → a ≡ write tables counts token m
  writes-only a h = go test refl
    where
      never : test ≡ false → Writable tables counts → ⊥
      never e w = let z : ◌≡◌ {A = ℕ} (bit true) (bit false) = ap bit (sym (test_exactly.1 w) ∙ e) in omega arith

      go : (b : Bool) → test ≡ b → a ≡ write tables counts token m
      go false e = h.fifteen (never e) ∙ sym (writes.fifteen (never e))
      go true e =
          let w = test_exactly.0 e in
          ⊎_elim (λ (k : length (words_for tables counts token) ≤ m). h.words w k ∙ sym (writes.words w k)) (λ k. h.sixteen w k ∙ sym (writes.sixteen w k)) (order (length (words_for tables counts token)) m)

-- ---- "exactly": each answer's other direction

module _ (tables : Table → List ℤ) (counts : Table → ℕ) (token : ℤ) (m : ℕ) (a : Writing) (h : Writes tables counts token m a) where
  -- an answer other than 15 is given of what can be written alone
  pub not_fifteen : (a.told ≡ Err (bare 15) → ⊥) → Writable tables counts
  not_fifteen never = go (inside tables counts && comes (given tables counts) token) refl
    where
      go : (b : Bool) → (inside tables counts && comes (given tables counts) token) ≡ b → Writable tables counts
      go true e = (test_exactly tables counts token m).0 e
      go false e = absurd (never (ap (λ (x : Writing). x.told) (h.fifteen (λ w. let z : ◌≡◌ {A = ℕ} (bit true) (bit false) = ap bit (sym ((test_exactly tables counts token m).1 w) ∙ e) in omega arith))))

  -- 15 is given of nothing that can be written
  pub fifteen_only : a.told ≡ Err (bare 15) → Writable tables counts → ⊥
  fifteen_only e w =
      ⊎_elim
      (λ (k : length (words_for tables counts token) ≤ m). other (sym e ∙ ap (λ (x : Writing). x.told) (h.words w k)))
      (λ k. another (sym e ∙ ap (λ (x : Writing). x.told) (h.sixteen w k)))
      (order (length (words_for tables counts token)) m)
    where
      other : {i : ℕ} → Err (bare 15) ≡ Ok i → ⊥
      other q = let z : ◌≡◌ {A = ℕ} 0 1 = cc in omega arith

      another : ◌≡◌ {A = Written} (Err (bare 15)) (Err (bare 16)) → ⊥
      another q = let z = ap (λ (w : Written). (of_written w).number) q in omega arith

  -- what was written can be, and is those words
  pub wrote_writable : {n : ℕ} → a.told ≡ Ok n → Writable tables counts
  wrote_writable {n} e = not_fifteen (λ q. other (sym e ∙ q))
    where
      other : {i : ℕ} → Ok i ≡ Err (bare 15) → ⊥
      other q = let z : ◌≡◌ {A = ℕ} 0 1 = cc in omega arith

  pub wrote_words : {n : ℕ} → a.told ≡ Ok n → a ≡ wrote (words_for tables counts token) m
  wrote_words {n} e =
      let w = wrote_writable e in
      ⊎_elim (h.words w) (λ k. absurd (other (sym e ∙ ap (λ (x : Writing). x.told) (h.sixteen w k)))) (order (length (words_for tables counts token)) m)
    where
      other : {i : ℕ} → Ok i ≡ Err (bare 16) → ⊥
      other q = let z : ◌≡◌ {A = ℕ} 0 1 = cc in omega arith

  -- 16 is given of what can be written alone, and where the output is too short
  pub sixteen_only : a.told ≡ Err (bare 16) → Writable tables counts × (m < length (words_for tables counts token))
  sixteen_only e = (w, ⊎_elim (λ (k : length (words_for tables counts token) ≤ m). absurd (other (sym e ∙ ap (λ (x : Writing). x.told) (h.words w k)))) (λ k. k) (order (length (words_for tables counts token)) m))
    where
      other : {i : ℕ} → Err (bare 16) ≡ Ok i → ⊥
      other q = let z : ◌≡◌ {A = ℕ} 0 1 = cc in omega arith

      another : ◌≡◌ {A = Written} (Err (bare 16)) (Err (bare 15)) → ⊥
      another q = let z = ap (λ (w : Written). (of_written w).number) q in omega arith

      w : Writable tables counts
      w = not_fifteen (λ q. another (sym e ∙ q))

-- ---- records in a row, taken apart

pub rows_back : (w : ℕ) (rs : List (List ℤ)) (zs : List ℤ) → Every (Wide w) rs → rows_of w (length rs) (flat rs ++ zs) ≡ rs
rows_back w [] zs h = refl
rows_back w (r ∷ rs) zs h =
    let e : (r ++ flat rs) ++ zs ≡ r ++ (flat rs ++ zs) = append_assoc r (flat rs) zs in
    rw (e, take_at r (flat rs ++ zs) w h.0, drop_at r (flat rs ++ zs) w h.0) (ap (λ (x : List (List ℤ)). r ∷ x) (rows_back w rs zs h.1))

-- the records that counts tell
abbrev pub records-counted : Counts → Table → ℕ
records-counted c = nine c.states c.edges c.ranges c.sets c.rules c.modes c.decisions c.actions 0

module _ (r : Read) (n : ℕ) where
  counted : (t : Table) → records-counted (counts_of r n) t ≡ length (records r t)
  unfolding counts_of records
  counted States = sym (numbered_long 0 (state_words r (edges_of r)) r.states)
  counted Edges = sym (numbered_long 0 (edge_words r (edges_of r)) (edges_of r))
  counted Ranges = sym (numbered_long 0 (λ i a. range_words a) (flat r.sets))
  counted Sets = sym (sets_long 0 r.sets)
  counted Rules = sym (numbered_long 0 (rule_words r) r.rules)
  counted Modes = sym (numbered_long 0 (λ i a. state_word a) r.modes)
  counted Decisions = sym (numbered_long 0 (λ i a. state_word a) r.decisions)
  counted Actions = sym (numbered_long 0 (λ i a. action_words a) r.actions)
  counted Scratch = refl

  module _ (lent : Table → ℕ) where
    table-rows : (t : Table) → rows_of (width t) (records-counted (counts_of r n) t) (table r lent t) ≡ records r t
    unfolding table
    table-rows t = ap (λ (k : ℕ). rows_of (width t) k (table r lent t)) (counted t) ∙ rows_back (width t) (records r t) (zeros (lent t - length (flat (records r t)))) (records-wide r t)

    -- a decode's tables are given as its records
    pub table-given : (t : Table) → given (table r lent) (records-counted (counts_of r n)) t ≡ records r t
    unfolding records
    table-given States = table-rows States
    table-given Edges = table-rows Edges
    table-given Ranges = table-rows Ranges
    table-given Sets = table-rows Sets
    table-given Rules = table-rows Rules
    table-given Modes = table-rows Modes
    table-given Decisions = table-rows Decisions
    table-given Actions = table-rows Actions
    table-given Scratch = refl

    pub table_words : words_for (table r lent) (records-counted (counts_of r n)) r.token ≡ written r
    table_words = ap (λ (F : Table → List (List ℤ)). words_of (recovered F r.token)) (λ i t. table-given t i)

-- ---- on decodes

-- the counts, with other words
abbrev pub after : Counts → ℕ → Counts
after c n = record { words = n; token = c.token; states = c.states; edges = c.edges; derived = c.derived; ranges = c.ranges; sets = c.sets; rules = c.rules; modes = c.modes; decisions = c.decisions; actions = c.actions }

-- what is written from a decode's tables
abbrev pub again : (Table → ℕ) → List ℤ → ℕ → Counts → List ℤ
again lent ws at c = words_for (decoded lent ws at).left (records-counted c) c.token

-- its records
abbrev pub held : (Table → ℕ) → List ℤ → ℕ → Counts → Table → List (List ℤ)
held lent ws at c = given (decoded lent ws at).left (records-counted c)

module _ (lent : Table → ℕ) (ws : List ℤ) (at : ℕ) (c : Counts) (a : Accepting lent ws at c) where
  left_is : (t : Table) → (decoded lent ws at).left t ≡ table a.read lent t
  unfolding decoded
  left_is t = rw a.ran refl

  held_is : (t : Table) → held lent ws at c t ≡ records a.read t
  held_is t = (λ i. given (λ t. left_is t i) (records-counted (sym a.counted i)) t) ∙ table-given a.read (a.behind - at) lent t

  again_is : again lent ws at c ≡ written a.read
  unfolding counts_of
  again_is = (λ i. words_for (λ t. left_is t i) (records-counted (sym a.counted i)) (sym a.counted i).token) ∙ table_words a.read (a.behind - at) lent

  same_answer : decoded lent (written a.read) 0 ≡ record { told = Ok (counts_of a.read (length (written a.read))); left = table a.read lent }
  unfolding decoded table
  same_answer =
      let d = decodes-again lent ws at a.read a.behind a.ran in
      let q : (t : Table) → records (plain a.read) t ≡ records a.read t = d.1 in
      let k = plain-counts a.read (length (written a.read) - 0) in
      let z : length (written a.read) - 0 ≡ length (written a.read) = omega arith in
      ap (answer lent 0) d.0
      ∙ (λ i. record { told = Ok (k i); left = λ t. flat (q t i) ++ zeros (lent t - length (flat (q t i))) })
      ∙ (λ i. record { told = Ok (counts_of a.read (z i)); left = table a.read lent })

-- a decode's tables are never refused with 15
pub accepted_writable : (lent : Table → ℕ) (ws : List ℤ) (at : ℕ) (c : Counts) → (decoded lent ws at).told ≡ Ok c → Writable (decoded lent ws at).left (records-counted c)
unfolding counts_of
accepted_writable lent ws at c e =
    record {
      within = all-eight (λ t. fits t (records-counted c t) ((decoded lent ws at).left t)) fit;
      comes =
          let d = decodes-again lent ws at a.read a.behind a.ran in
          record {
            lent = lent;
            words = written a.read;
            read = plain a.read;
            behind = length (written a.read);
            ran = d.0;
            same = λ t. plain-records a.read t ∙ sym (held_is lent ws at c a t);
          };
    }
  where
    a : Accepting lent ws at c
    a = accepting lent ws at c e

    number : (t : Table) → records-counted c t ≡ length (records a.read t)
    number t = ap (λ (x : Counts). records-counted x t) (sym a.counted) ∙ counted a.read (a.behind - at) t

    enough : (t : Table) → width t * records-counted c t ≤ length ((decoded lent ws at).left t)
    enough t =
        omega (
          arith,
          as_long lent ws at t,
          room_words lent t (records-counted c t) (omega (arith, number t, records-room (room lent) a.read (read_roomed lent ws at a.read a.behind a.ran) t)),
        )

    fit : (t : Table) → fits t (records-counted c t) ((decoded lent ws at).left t) ≡ true
    fit States = le-leb c.states (length ((decoded lent ws at).left States) / 8) (omega (arith, enough States))
    fit Edges = le-leb c.edges (length ((decoded lent ws at).left Edges) / 8) (omega (arith, enough Edges))
    fit Ranges = le-leb c.ranges (length ((decoded lent ws at).left Ranges) / 2) (omega (arith, enough Ranges))
    fit Sets = le-leb c.sets (length ((decoded lent ws at).left Sets) / 2) (omega (arith, enough Sets))
    fit Rules = le-leb c.rules (length ((decoded lent ws at).left Rules) / 3) (omega (arith, enough Rules))
    fit Modes = le-leb c.modes (length ((decoded lent ws at).left Modes) / 1) (omega (arith, enough Modes))
    fit Decisions = le-leb c.decisions (length ((decoded lent ws at).left Decisions) / 1) (omega (arith, enough Decisions))
    fit Actions = le-leb c.actions (length ((decoded lent ws at).left Actions) / 3) (omega (arith, enough Actions))
    fit Scratch = le-leb 0 (length ((decoded lent ws at).left Scratch) / 4) (omega arith)

-- "Decoding what was written, with the same room, gives the same records": the same tables, and the same counts but for the words read
pub rewritten : (lent : Table → ℕ) (ws : List ℤ) (at : ℕ) (c : Counts) → (decoded lent ws at).told ≡ Ok c
    → decoded lent (again lent ws at c) 0 ≡ record { told = Ok (after c (length (again lent ws at c))); left = (decoded lent ws at).left }
unfolding counts_of
rewritten lent ws at c e =
    let a = accepting lent ws at c e in
    ap (λ (x : List ℤ). decoded lent x 0) (again_is lent ws at c a)
    ∙ same_answer lent ws at c a
    ∙ (λ i. record { told = Ok (after (a.counted i) (length (sym (again_is lent ws at c a) i))); left = λ t. sym (left_is lent ws at c a t) i })

-- "two accepted word lists give the same written words exactly when they gave the same records and max token type"
pub same-again : (lent : Table → ℕ) (ws : List ℤ) (at : ℕ) (c : Counts) → (decoded lent ws at).told ≡ Ok c
    → (lent' : Table → ℕ) (ws' : List ℤ) (at' : ℕ) (c' : Counts) → (decoded lent' ws' at').told ≡ Ok c'
    → again lent ws at c ≡ again lent' ws' at' c' ↔ ((t : Table) → held lent ws at c t ≡ held lent' ws' at' c' t) × (c.token ≡ c'.token)
unfolding counts_of
same-again lent ws at c e lent' ws' at' c' e' = (to, fro)
  where
    a : Accepting lent ws at c
    a = accepting lent ws at c e

    b : Accepting lent' ws' at' c'
    b = accepting lent' ws' at' c' e'

    s : written a.read ≡ written b.read ↔ ((t : Table) → records a.read t ≡ records b.read t) × (a.read.token ≡ b.read.token)
    s = same-written lent ws at a.read a.behind a.ran lent' ws' at' b.read b.behind b.ran

    ta : a.read.token ≡ c.token
    ta = ap (λ (x : Counts). x.token) a.counted

    tb : b.read.token ≡ c'.token
    tb = ap (λ (x : Counts). x.token) b.counted

    to : again lent ws at c ≡ again lent' ws' at' c' → ((t : Table) → held lent ws at c t ≡ held lent' ws' at' c' t) × (c.token ≡ c'.token)
    to q =
        let x = s.0 (sym (again_is lent ws at c a) ∙ q ∙ again_is lent' ws' at' c' b) in
        (λ t. held_is lent ws at c a t ∙ x.0 t ∙ sym (held_is lent' ws' at' c' b t), sym ta ∙ x.1 ∙ tb)

    fro : ((t : Table) → held lent ws at c t ≡ held lent' ws' at' c' t) × (c.token ≡ c'.token) → again lent ws at c ≡ again lent' ws' at' c'
    fro x = λ i. words_of (recovered (λ t. x.0 t i) (x.1 i))

-- ---- any tables that were written

-- room for the records is room for what was read
roomed_by : (rooms : Table → ℕ) (r : Read) → ((t : Table) → length (records r t) ≤ rooms t) → Roomed rooms r
unfolding records
roomed_by rooms r few =
    record {
      states = omega (arith, few States, numbered_long 0 (state_words r (edges_of r)) r.states);
      edges = omega (arith, few Edges, numbered_long 0 (edge_words r (edges_of r)) (edges_of r), length-append r.edges (derived_of r));
      ranges = omega (arith, few Ranges, numbered_long 0 (λ i a. range_words a) (flat r.sets));
      sets = omega (arith, few Sets, sets_long 0 r.sets);
      rules = omega (arith, few Rules, numbered_long 0 (rule_words r) r.rules);
      modes = omega (arith, few Modes, numbered_long 0 (λ i a. state_word a) r.modes);
      decisions = omega (arith, few Decisions, numbered_long 0 (λ i a. state_word a) r.decisions);
      actions = omega (arith, few Actions, numbered_long 0 (λ i a. action_words a) r.actions);
    }

-- what is decoded of the words of any writable tables, in any room that their records have: those records, and that max token type
pub record Reads (lent : Table → ℕ) (ws : List ℤ) (T : Table → List (List ℤ)) (token : ℤ) : Type 0 where
  pub counts : Counts
  pub told : (decoded lent ws 0).told ≡ Ok counts
  pub words : counts.words ≡ length ws
  pub token_is : counts.token ≡ token
  pub records_are : (t : Table) → given (decoded lent ws 0).left (records-counted counts) t ≡ T t

pub written_reads : (T : Table → List (List ℤ)) (token : ℤ) (lent : Table → ℕ) → Comes T → ((t : Table) → length (T t) ≤ room lent t) → Reads lent (words_of (recovered T token)) T token
unfolding decoded counts_of recovered
written_reads T token lent c h =
    let f = (found_exactly T token).1 c in
    let r : Read = recovered T token in
    let m = roomed_by (room lent) (recovered T token) (λ t. omega (arith, ap length (f.same t), h t)) in
    let ran : run dialect (words_of (recovered T token)) (room lent) 0 ≡ ok (recovered T token) (length (words_of (recovered T token))) =
    subst (λ (ws : List ℤ). run dialect ws (room lent) 0 ≡ ok (recovered T token) (length (words_of (recovered T token)))) (append-nil (words_of (recovered T token))) (words_run (room lent) (recovered T token) f.formed m []) in
    record {
      counts = counts_of (recovered T token) (length (words_of (recovered T token)) - 0);
      told = ap (λ (o : Outcome Read). (answer lent 0 o).told) ran;
      words = omega arith;
      token_is = refl;
      records_are = λ t. ap (λ (o : Outcome Read). given (answer lent 0 o).left (records-counted (counts_of (recovered T token) (length (words_of (recovered T token)) - 0))) t) ran ∙ table-given (recovered T token) (length (words_of (recovered T token)) - 0) lent t ∙ f.same t;
    }
