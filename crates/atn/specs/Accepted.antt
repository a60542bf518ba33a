-- An accepted list's tables are linked before the tail calls are marked, and are document 01's tables after it.
use Rattle.std.specs.Prelude.{◌≡◌, refl, Bool, true, false, List, ◌++◌, ℕ, ◌+◌, ◌-◌, ◌*◌, ◌≤◌, ◌<◌, ◌^◌, ltb, ℤ}
use Rattle.std.proofs.Math.Path.{sym, ap}
use Rattle.std.proofs.Common.{◌∙◌, subst, ⊎_elim, arith, length-append, get_or-append-add, lt-ltb, le-ltb}
use Rattle.std.proofs.Math.IntN.{pos}
use Rattle.std.proofs.Math.ListN.{length}
use Rattle.format.specs.Reading.{Table, States, Edges, Rules, run, ok, pick}
use Rattle.format.specs.Sections.{Edge, Read, bit}
use Rattle.format.specs.Links.{flat, tail}
use Rattle.format.specs.Tables.{room, numbered, edges_of, derived_of, flags_of, mark_of, edge_words, records, zeros, table}
use Rattle.format.specs.Decode.{dialect}
use Rattle.laws.specs.Gives.{every-at}
use Rattle.laws.specs.Fits.{read_roomed}
use Rattle.laws.specs.Order.{order}
use Rattle.atn.specs.Records.{edge_at, no_edge, Linked, Chained, linked_of}
use Rattle.atn.specs.Marks.{marked, no_rule-edge}
use Rattle.atn.specs.Rows.{state_row, edge_row, rule_row, chained-rows, stopped-rows, marked-rows}
use Rattle.laws.specs.Rows.{rows_long, rows_same}
use Rattle.laws.specs.Sound.{Sound, Return, derived_are, read-sound}

-- ---- the tables of an accepted list

module _ (lent : Table → ℕ) (ws : List ℤ) (at : ℕ) (r : Read) (end : ℕ) (e : run dialect ws (room lent) at ≡ ok r end) where
  abbrev es : List Edge
  es = edges_of r

  abbrev n : ℕ
  n = length r.states

  derived_return : (i : ℕ) → length r.edges ≤ i → i < length es → Return n (edge_at es i)
  derived_return i l h =
      let j : ℕ = i - length r.edges in
      let q : length r.edges + j ≡ i = omega arith in
      subst (λ (x : Edge). Return n x) (sym (ap (λ (u : ℕ). edge_at es u) (sym q) ∙ get_or-append-add r.edges (derived_of r) j no_edge))
      (every-at (Return n) (derived_of r) no_edge j (derived_are r.states (length r.rules) r.edges) (omega (arith, length-append r.edges (derived_of r))))

  all_sound : (i : ℕ) → i < length es → Sound n (length r.sets) (edge_at es i)
  all_sound i h = every-at (Sound n (length r.sets)) es no_edge i (read-sound ws (room lent) at r end e) h

  few : (n < 2 ^ 31) × (length es < 2 ^ 31) × (length r.rules < 2 ^ 31)
  few = let x = read_roomed lent ws at r end e in (omega (arith, x.states), omega (arith, x.edges, length-append r.edges (derived_of r)), omega (arith, x.rules))

  module _ (marks : ℕ → Edge → ℤ) (ys : List ℤ) where
    read-chained : Chained r.states es n (length es) (table r lent States) (flat (numbered 0 (edge_row es marks) es) ++ ys)
    unfolding table records
    read-chained =
        let ws = flat (numbered 0 (state_row es (λ s. pos (flags_of r es s))) r.states) in
        chained-rows r.states es (λ s. pos (flags_of r es s)) marks (zeros (lent States - length ws)) ys few.0 few.1 all_sound

    -- the tables are linked, whatever the marks are
    pub read-linked : Linked (table r lent States) (flat (numbered 0 (edge_row es marks) es) ++ ys) (table r lent Rules) n (length es) (length r.rules)
    unfolding table records
    read-linked =
        let ws = flat (numbered 0 (rule_row r.states) r.rules) in
        linked_of read-chained (stopped-rows r.states r.rules (zeros (lent Rules - length ws)) few.2)

  -- "0 plain, 1 derived return edge"
  abbrev unmarked : ℕ → Edge → ℤ
  unmarked i x = pos (pick (ltb i (length r.edges)) 0 1)

  mark_is : (i : ℕ) → i < length es → pick (tail r.states (length r.rules) es (edge_at es i)) (pos 2) (unmarked i (edge_at es i)) ≡ pos (mark_of r es i (edge_at es i))
  mark_is i h = ⊎_elim behind (λ l. rw (lt-ltb i (length r.edges) l) (twice (tail r.states (length r.rules) es (edge_at es i)))) (order (length r.edges) i)
    where
      twice : (b : Bool) → pick b (pos 2) (pos 0) ≡ pos (2 * bit b)
      twice true = refl
      twice false = refl

      behind : length r.edges ≤ i → pick (tail r.states (length r.rules) es (edge_at es i)) (pos 2) (unmarked i (edge_at es i)) ≡ pos (mark_of r es i (edge_at es i))
      behind l =
          let t = no_rule-edge r.states (length r.rules) es (edge_at es i) (λ q. omega (arith, (derived_return i l h).plain)) in
          rw (le-ltb i (length r.edges) l, t) refl

  -- and the marks make the edges' table document 01's
  pub read-marked : let ws = flat (numbered 0 (edge_row es unmarked) es) in
      marked n (length r.rules) (length es) (table r lent States) (ws ++ zeros (lent Edges - length ws)) ≡ table r lent Edges
  unfolding table records
  read-marked =
      let ws = flat (numbered 0 (edge_row es unmarked) es) in
      let ys = zeros (lent Edges - length ws) in
      let now = numbered 0 (edge_row es (λ i x. pick (tail r.states (length r.rules) es x) (pos 2) (unmarked i x))) es in
      let a : now ≡ numbered 0 (edge_words r es) es = rows_same no_edge _ (edge_words r es) es (λ j h. ap (λ (z : ℤ). edge_row es (λ i x. z) j (edge_at es j)) (mark_is j h)) in
      let b : length ws ≡ length (flat (numbered 0 (edge_words r es) es)) = rows_long 8 (edge_row es unmarked) (λ i x. refl) es ∙ sym (rows_long 8 (edge_words r es) (λ i x. refl) es) in
      marked-rows (length r.rules) unmarked ys (read-chained unmarked ys) ∙ (λ i. flat (a i) ++ zeros (lent Edges - b i))
