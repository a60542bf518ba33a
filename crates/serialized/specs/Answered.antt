-- What is answered and left behind, by what filling the tables came to.
use Rattle.std.specs.Prelude.{◌≡◌, ℕ, ◌-◌, ◌*◌, ◌≤◌, ℤ, length, Ok, Err}
use Rattle.std.proofs.Math.Path.{refl}
use Rattle.std.proofs.Common.{sym, ap, ◌∙◌, subst, arith}
use mathlib.Core.List.{List}
use Rattle.std.proofs.Math.IntN.{pos}
use Rattle.format.specs.Reading.{Table, States, Edges, Ranges, Sets, Rules, Modes, Decisions, Actions, Scratch, Outcome, ok, no, run}
use Rattle.format.specs.Sections.{Read}
use Rattle.format.specs.Tables.{room, table, records, zeros, counts_of}
use Rattle.format.specs.Decode.{dialect, Answer, answer, decoded}
use Rattle.format.specs.declared.Refusal.{Refusal}
use Rattle.format.specs.declared.Counts.{Counts}
use Rattle.format.specs.Results.{Decoded}
use Rattle.laws.specs.Running.{after}
use Rattle.laws.specs.Reading.{clash, forward}
use Rattle.laws.specs.Fits.{read_roomed}
use Rattle.inplace.specs.Held.{Held, with, held}
use Rattle.inplace.specs.Whole.{Tables, tables, blank, filling}
use Rattle.agrees.specs.Whole.{plain, unmarked, filling_is}
use Rattle.atn.specs.Records.{Linked}
use Rattle.atn.specs.Marks.{marked}
use Rattle.atn.specs.Accepted.{read-linked, read-marked}
use Rattle.serialized.specs.Rooms.{lengths}

-- The nine tables of an answer.
abbrev pub left_by : Answer → Tables
left_by a =
    tables (a.left States) (a.left Edges) (a.left Ranges) (a.left Sets) (a.left Rules) (a.left Modes) (a.left Decisions) (a.left Actions)
    (a.left Scratch)

-- "The answer of a decode": t are the tables lent, u the tables afterwards. Of t only the lengths count.
pub record Decodes (t : Tables) (ws : List ℤ) (at : ℕ) (r : Decoded) (u : Tables) : Type 0 where
  pub told : r ≡ (decoded (lengths t) ws at).told
  pub left : u ≡ left_by (decoded (lengths t) ws at)

-- no second answer, and no other words, meet it
pub only : (t : Tables) (ws : List ℤ) (at : ℕ) (r s : Decoded) (u v : Tables) → Decodes t ws at r u → Decodes t ws at s v → (r ≡ s) × (u ≡ v)
only t ws at r s u v a b = (a.told ∙ sym b.told, a.left ∙ sym b.left)

-- "all zero after it"
scratch_is : (r : Read) (lent : Table → ℕ) → zeros (lent Scratch) ≡ table r lent Scratch
unfolding table records
scratch_is r lent = ap zeros (let e : lent Scratch ≡ lent Scratch - 0 = omega arith in e)

-- Words read are counted from the first place.
abbrev pub read_from : ℕ → Counts → Counts
read_from at c =
    record { words = c.words - at; token = c.token; states = c.states; edges = c.edges; derived = c.derived; ranges = c.ranges; sets = c.sets; rules = c.rules; modes = c.modes; decisions = c.decisions; actions = c.actions }

-- What is asked before the tables are settled, by what filling them came to: of an acceptance.
abbrev pub Ready : ℕ → Decoded → Tables → Type 0
Ready at (Ok c) t = (at ≤ c.words) × (Linked t.states t.edges t.rules c.states c.edges c.rules) × (4 * c.states ≤ length t.scratch) × (t.scratch ≡ zeros (length t.scratch))
Ready at (Err q) t = Unit {0}

-- And how they are settled: tail calls are marked and scratch is zero; or all is zero.
abbrev pub Settled : ℕ → Decoded → Tables → Decoded → Tables → Type 0
Settled at (Ok c) t r u =
    (r ≡ Ok (read_from at c))
    × (u ≡ tables t.states (marked c.states c.rules c.edges t.states t.edges) t.ranges t.sets t.rules t.modes t.decisions t.actions (zeros (length t.scratch)))
Settled at (Err q) t r u = (r ≡ Err q) × (u ≡ blank (lengths t))

module _ (lent : Table → ℕ) (ws : List ℤ) (at : ℕ) where
  abbrev pub filled : Outcome (Held Tables)
  filled = run (filling (room lent Edges) (blank lent)) ws (room lent) at

  -- accepted: a list was read, these are its counts, and these its tables but for the tail calls
  pub record Accepts (c : Counts) (t : Tables) : Type 0 where
    pub read : Read
    pub ran : run dialect ws (room lent) at ≡ ok read c.words
    pub counted : counts_of read c.words ≡ c
    pub left : t ≡ unmarked read lent

  pub accepts : (c : Counts) (t : Tables) → held (Ok c) t ≡ filled → Accepts c t
  accepts c t e = go (run dialect ws (room lent) at) refl (e ∙ filling_is lent ws at)
    where
      go : (o : Outcome Read) → run dialect ws (room lent) at ≡ o → ok (with c t) c.words ≡ after o (λ r n. ok (with (counts_of r n) (unmarked r lent)) n) → Accepts c t
      go (ok r n) q f =
          let m : c.words ≡ n = cc in
          let h : with c t ≡ with (counts_of r n) (unmarked r lent) = cc in
          let k : c ≡ counts_of r n = ap (λ (x : Held Tables). x.counts) h in
          record { read = r; ran = q ∙ ap (ok r) (sym m); counted = ap (counts_of r) m ∙ sym k; left = ap (λ (x : Held Tables). x.table) h }
      go (no x) q f = clash f

  pub refuses : (q : Refusal) (t : Tables) → held (Err q) t ≡ filled → run dialect ws (room lent) at ≡ no q
  refuses q t e = go (run dialect ws (room lent) at) refl (e ∙ filling_is lent ws at)
    where
      go : (o : Outcome Read) → run dialect ws (room lent) at ≡ o → no q ≡ after o (λ r n. ok (with (counts_of r n) (unmarked r lent)) n) → run dialect ws (room lent) at ≡ no q
      go (ok r n) p f = clash (sym f)
      go (no x) p f = let z : x ≡ q = cc in p ∙ ap no z

  module _ (c : Counts) (t : Tables) (a : Accepts c t) where
    abbrev r : Read
    r = a.read

    -- what holds of the list's counts and tables holds of these
    such : (P : Counts → Tables → Type 0) → P (counts_of r c.words) (unmarked r lent) → P c t
    such P h = subst (λ (x : Counts). P x t) a.counted (subst (λ (u : Tables). P (counts_of r c.words) u) (sym a.left) h)

    -- what is asked before the tail calls are marked
    pub place_is : at ≤ c.words
    place_is = forward dialect ws (room lent) at a.ran

    pub scratch_long : 4 * c.states ≤ lent Scratch
    unfolding counts_of
    scratch_long = such (λ c t. 4 * c.states ≤ lent Scratch) (omega (arith, (read_roomed lent ws at r c.words a.ran).states))

    pub tables-linked : Linked t.states t.edges t.rules c.states c.edges c.rules
    unfolding counts_of unmarked
    tables-linked = such (λ c t. Linked t.states t.edges t.rules c.states c.edges c.rules) (read-linked lent ws at r c.words a.ran (λ i x. pos (plain (length r.edges) i)) _)

    pub scratch_zero : t.scratch ≡ zeros (lent Scratch)
    unfolding unmarked
    scratch_zero = such (λ c t. t.scratch ≡ zeros (lent Scratch)) refl

    -- and what is then answered and left
    pub counts_are : Ok (read_from at c) ≡ (decoded lent ws at).told
    unfolding decoded counts_of
    counts_are = rw a.ran (ap (λ (x : Counts). Ok (read_from at x)) (sym a.counted))

    abbrev Left : Counts → Tables → Type 0
    Left c t =
        tables t.states (marked c.states c.rules c.edges t.states t.edges) t.ranges t.sets t.rules t.modes t.decisions t.actions
        (zeros (lent Scratch))
        ≡ left_by (answer lent at (ok r c.words))

    all_left : Left c t
    unfolding counts_of unmarked
    all_left = such Left (rw (read-marked lent ws at r c.words a.ran) (ap (λ (l : List ℤ). tables (table r lent States) (table r lent Edges) (table r lent Ranges) (table r lent Sets) (table r lent Rules) (table r lent Modes) (table r lent Decisions) (table r lent Actions) l) (scratch_is r lent)))

  -- tables that were filled are ready, and what is then answered and left is the definition's
  pub ready : (d : Decoded) (t : Tables) → held d t ≡ filled → length t.scratch ≡ lent Scratch → Ready at d t
  ready (Ok c) t e h = let a = accepts c t e in (place_is c t a, tables-linked c t a, omega (arith, scratch_long c t a), scratch_zero c t a ∙ ap zeros (sym h))
  ready (Err q) t e h = tt

  pub concluded : (d : Decoded) (t : Tables) (r : Decoded) (u : Tables) → held d t ≡ filled → length t.scratch ≡ lent Scratch → blank (lengths t) ≡ blank lent
      → Settled at d t r u → (r ≡ (decoded lent ws at).told) × (u ≡ left_by (decoded lent ws at))
  unfolding decoded
  concluded (Ok c) t r u e h b s =
      let a = accepts c t e in
      (s.0 ∙ counts_are c t a, s.1 ∙ rw (h, a.ran) (all_left c t a))
  concluded (Err q) t r u e h b s = let n = refuses q t e in (s.0 ∙ rw n refl, s.1 ∙ b ∙ rw n refl)
