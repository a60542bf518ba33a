-- Tables that are joined are linked, as the search for tail calls asks: so it finds the marks.
use Rattle.std.specs.Prelude.{◌≡◌, List, true, ◌&&◌, ℕ, ◌+◌, ◌*◌, ◌≤◌, ◌<◌, ℤ, pos, length, get_or}
use Rattle.std.proofs.Common.{sym, ap, ◌∙◌, subst, arith}
use Rattle.format.specs.Reading.{Table, States, Edges, Sets, Rules}
use Rattle.format.specs.Sections.{State, Edge, edge_of, size}
use Rattle.format.specs.Places.{st_kind, st_rule, st_end, st_back, st_first, st_last, st_count, ed_kind, ed_source, ed_target, ed_p, ed_q, ed_r, ed_next, ru_stop}
use Rattle.format.specs.Writing.{edge_back, given}
use Rattle.atn.specs.Records.{Linked, linked_of}
use Rattle.atn.specs.Records.{Chained as Held}
use Rattle.atn.specs.Records.{Stopped as Stops}
use Rattle.rewriting.specs.Formed.{natural, args_read}
use Rattle.rewriting.specs.Tests.{right, natural-size}
use Rattle.rewriting.specs.Fine.{states_in, edges_in, at}
use Rattle.rewriting.specs.Climbs.{Chained}
use Rattle.rewriting.specs.Checks.{row, Joined, edge-tests, state-tests, chained}
use Rattle.wiring.specs.Given.{rows-states, rows-edges, rows-rules, states_long, edges_long, state_is, edge_is, state_word_lem, edge_word, rule_word}

module _ (tables : Table → List ℤ) (counts : Table → ℕ) (states-lie : 8 * counts States ≤ length (tables States)) (edges-lie : 8 * counts Edges ≤ length (tables Edges)) (rules-lie : 3 * counts Rules ≤ length (tables Rules)) where
  abbrev T : Table → List (List ℤ)
  T = given tables counts

  -- a readable rule edge has a follow state
  rule_follow : (k : ℕ) (e : Edge) → args_read k e ≡ true → e.kind ≡ 3 → e.q ≡ pos (size e.q)
  rule_follow k e r q =
      let b : (natural e.p && natural e.q) ≡ true = subst (λ (j : ℕ). args_read k (edge_of j e.source e.target e.p e.q e.r) ≡ true) q r in
      sym (natural-size e.q (right (natural e.p) (natural e.q) b))

  module _ (w : Joined T) where
    abbrev C : Chained (length (T States)) (edges_in T) (λ s. at T States s st_first) (λ s. at T States s st_last) (λ s. at T States s st_count) (λ i. at T Edges i ed_next)
    C = chained T (pos 0) w

    listed-state : (s : ℕ) → s < counts States → s < length (T States)
    listed-state s k = omega (arith, rows-states tables counts)

    listed-edge : (i : ℕ) → i < counts Edges → i < length (T Edges)
    listed-edge i k = omega (arith, rows-edges tables counts)

    pub held : Held (states_in T) (edges_in T) (counts States) (counts Edges) (tables States) (tables Edges)
    held =
        record {
          all-states = states_long tables counts;
          all_edges = edges_long tables counts;
          few_states = omega (arith, w.few States, rows-states tables counts);
          few_edges = omega (arith, w.few Edges, rows-edges tables counts);
          states_long = states-lie;
          edges_long = edges-lie;
          states = λ s k.
              let a = state_is tables counts s k in
              let x = state-tests T (pos 0) w s (listed-state s k) in
              let z : 8 * s ≡ 8 * s + 0 = omega arith in
              record {
                kind = ap (λ (j : ℕ). get_or (tables States) j (pos 0)) z ∙ state_word_lem tables counts s st_kind k (omega arith) ∙ sym (natural-size (at T States s st_kind) x.0) ∙ ap (λ (y : State). pos y.kind) (sym a);
                rule = state_word_lem tables counts s st_rule k (omega arith) ∙ ap (λ (y : State). y.rule) (sym a);
                end = state_word_lem tables counts s st_end k (omega arith) ∙ ap (λ (y : State). y.end) (sym a);
                back = state_word_lem tables counts s st_back k (omega arith) ∙ ap (λ (y : State). y.back) (sym a);
                starts = state_word_lem tables counts s st_first k (omega arith) ∙ C.first_edge s (listed-state s k);
                count = state_word_lem tables counts s st_count k (omega arith) ∙ C.edge_count s (listed-state s k);
              };
          edges = λ i k.
              let a = edge_is tables counts i in
              let x = edge-tests T (pos 0) w i (listed-edge i k) in
              let z : 8 * i ≡ 8 * i + 0 = omega arith in
              record {
                kind = ap (λ (j : ℕ). get_or (tables Edges) j (pos 0)) z ∙ edge_word tables counts i ed_kind k (omega arith) ∙ sym (natural-size (at T Edges i ed_kind) x.0) ∙ ap (λ (y : Edge). pos y.kind) (sym a);
                source = edge_word tables counts i ed_source k (omega arith) ∙ sym (natural-size (at T Edges i ed_source) x.1) ∙ ap (λ (y : Edge). pos y.source) (sym a);
                target = edge_word tables counts i ed_target k (omega arith) ∙ sym (natural-size (at T Edges i ed_target) x.2) ∙ ap (λ (y : Edge). pos y.target) (sym a);
                p = edge_word tables counts i ed_p k (omega arith) ∙ ap (λ (y : Edge). y.p) (sym a);
                q = edge_word tables counts i ed_q k (omega arith) ∙ ap (λ (y : Edge). y.q) (sym a);
                r = edge_word tables counts i ed_r k (omega arith) ∙ ap (λ (y : Edge). y.r) (sym a);
                onward = edge_word tables counts i ed_next k (omega arith) ∙ C.next_edge i (omega (arith, edges_long tables counts));
                listed = subst (λ (y : Edge). y.source < counts States) (sym a) (omega (arith, x.3, rows-states tables counts));
                follow = subst (λ (y : Edge). y.kind ≡ 3 → y.q ≡ pos (size y.q)) (sym a)
                    (λ e. rule_follow (length (T Sets)) (edge_back (row T Edges i)) (w.arguments i (listed-edge i k)) e);
              };
        }

    stops : Stops (states_in T) (counts Rules) (tables Rules)
    stops =
        record {
          few_rules = omega (arith, w.few Rules, rows-rules tables counts);
          rules_long = rules-lie;
          stops_at = λ R k. rule_word tables counts R ru_stop k (omega arith) ∙ w.stops R (omega (arith, rows-rules tables counts));
        }

    pub linked : Linked (tables States) (tables Edges) (tables Rules) (counts States) (counts Edges) (counts Rules)
    linked = linked_of held stops
