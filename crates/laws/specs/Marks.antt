-- The mark words of an accepted list's edge table: 2 exactly on the tail calls, 1 exactly on the derived edges.
use Rattle.std.specs.Prelude.{◌≡◌, refl, Bool, true, false, List, ◌↔◌, ℕ, ◌+◌, ◌*◌, ◌≤◌, ◌<◌, ℤ, pos, length, get_or}
use Rattle.std.proofs.Common.{sym, ◌∙◌, arith, length-append, lt-ltb, le-ltb}
use Rattle.format.specs.Reading.{Table, Edges, ok, run}
use Rattle.format.specs.Sections.{Read, Edge, edge_of, bit}
use Rattle.format.specs.Links.{tail}
use Rattle.format.specs.Tables.{room, edges_of, derived_of, table}
use Rattle.format.specs.Decode.{dialect}
use Rattle.laws.specs.Fits.{records_fit}
use Rattle.laws.specs.Safe.{TailCall, tail_call}
use Rattle.laws.specs.Asked.{edge_word}

abbrev no_edge : Edge
no_edge = edge_of 0 0 0 (pos 0) (pos 0) (pos 0)

two_if : (b : Bool) → (pos (2 * bit b) ≡ pos 2) ↔ (b ≡ true)
two_if true = ((λ e. refl), (λ e. refl))
two_if false = ((λ e. absurd (let z : ◌≡◌ {A = ℕ} 0 2 = cc in omega arith)), (λ e. absurd (let z : ◌≡◌ {A = ℕ} 0 1 = cc in omega arith)))

module _ (lent : Table → ℕ) (ws : List ℤ) (at : ℕ) (r : Read) (n : ℕ) (e : run dialect ws (room lent) at ≡ ok r n) (i : ℕ) where
  -- the mark of an edge that was read is 2 exactly if it is a tail call
  pub mark_two : i < length r.edges → (get_or (table r lent Edges) (8 * i + 6) (pos 0) ≡ pos 2) ↔ TailCall r.states (length r.rules) (edges_of r) (get_or (edges_of r) i no_edge)
  mark_two h =
      let w : get_or (table r lent Edges) (8 * i + 6) (pos 0) ≡ pos (2 * bit (tail r.states (length r.rules) (edges_of r) (get_or (edges_of r) i no_edge))) =
      edge_word lent r (records_fit lent ws at r n e) i 6 (omega (arith, length-append r.edges (derived_of r))) (omega arith) ∙ rw (lt-ltb i (length r.edges) h) refl in
      let t = tail_call r.states (length r.rules) (edges_of r) (get_or (edges_of r) i no_edge) in
      let u = two_if (tail r.states (length r.rules) (edges_of r) (get_or (edges_of r) i no_edge)) in
      ((λ q. t.0 (u.0 (sym w ∙ q))), (λ c. w ∙ u.1 (t.1 c)))

  -- the mark of a derived edge is 1
  pub mark_one : length r.edges ≤ i → i < length (edges_of r) → get_or (table r lent Edges) (8 * i + 6) (pos 0) ≡ pos 1
  mark_one h l = edge_word lent r (records_fit lent ws at r n e) i 6 l (omega arith) ∙ rw (le-ltb i (length r.edges) h) refl
