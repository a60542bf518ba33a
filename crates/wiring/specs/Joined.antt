-- Return edges and precedence decisions of joined tables, by the words that the code reads.
use Rattle.std.specs.Prelude.{◌≡◌, refl, List, [], ◌∷◌, Bool, true, false, ◌&&◌, ℕ, ◌<◌, ltb, eqb, ℤ, pos, negsuc, length}
use Rattle.std.proofs.Common.{sym, ◌∙◌, arith}
use Rattle.std.proofs.Math.Path.{ap}
use Rattle.std.proofs.Math.ListN.{get_or-map}
use Rattle.std.proofs.lemmas.List.{length-map}
use borrow.Author.Tests.{lt-ltb, ltb-true}
use Rattle.format.specs.Reading.{Table, States, Edges, Rules, pick}
use Rattle.format.specs.Sections.{State, Rule, Edge, same, size, edge_of, among}
use Rattle.format.specs.Links.{numbers, names, first, last, chain, state_at, typed, stop_of, stops, returns, onto, leads, start_of, decides}
use Rattle.format.specs.Places.{st_kind, st_rule, st_flags, st_first, st_last, st_count, ed_kind, ed_target, ed_q, ed_next, ru_start, ru_stop}
use Rattle.format.specs.Writing.{flag2, state_back, edge_back, rule_back, given}
use Rattle.inplace.specs.Rows.{word_of}
use Rattle.inplace.specs.Links.{net, rule_of, stop_for, returning, return_edge, leads_to, flag_two, decides_at}
use Rattle.atn.specs.Records.{edge_at}
use Rattle.rewriting.specs.Tests.{lie, left, right, natural-size}
use Rattle.rewriting.specs.Fine.{states_in, edges_in, rules_in, rules_of, at, flag_at_lem}
use Rattle.rewriting.specs.Climbs.{Chained}
use Rattle.rewriting.specs.Checks.{row, eights, Joined, edge-tests, state-tests, chained}
use Rattle.wiring.specs.Given.{rows-states, rows-edges, rows-rules, states_long, edges_long, rules_long, state_is, edge_is, state_word_lem, edge_word, rule_word}

gates : (a b c d c' d' : Bool) → (b ≡ true → c ≡ c') → (b ≡ true → c ≡ true → d ≡ d') → (a && b && (c && d)) ≡ (a && (b && (c' && d')))
gates false b c d c' d' f g = refl
gates true false c d c' d' f g = refl
gates true true true d c' d' f g = g refl refl ∙ (λ i. f refl i && d')
gates true true false d c' d' f g = λ i. f refl i && d'

pick-one : (x : Bool) (e f : Edge) → (x ≡ true → e ≡ f) → pick x (e ∷ []) [] ≡ pick x (f ∷ []) []
pick-one true e f h = ap (λ (z : Edge). z ∷ []) (h refl)
pick-one false e f h = refl

module _ (tables : Table → List ℤ) (counts : Table → ℕ) (w : Joined (given tables counts)) where
  abbrev T : Table → List (List ℤ)
  T = given tables counts

  -- a stop's word
  stop_word : (R : ℤ) → names (counts Rules) R ≡ true → word_of 3 (tables Rules) (size R) 1 ≡ stop_of (states_in T) R
  stop_word (pos R) k =
      let l : R < counts Rules = ltb-true R (counts Rules) k in
      rule_word tables counts R ru_stop l (omega arith) ∙ w.stops R (omega (arith, rows-rules tables counts))
  stop_word (negsuc R) k = lie k

  edge-numbers : (i : ℕ) → i < counts Edges → (word_of 8 (tables Edges) i 0 ≡ pos (edge_back (row T Edges i)).kind) × (word_of 8 (tables Edges) i 2 ≡ pos (edge_back (row T Edges i)).target)
  edge-numbers i k =
      let x = edge-tests T (pos 0) w i (omega (arith, rows-edges tables counts)) in
      (edge_word tables counts i ed_kind k (omega arith) ∙ sym (natural-size (at T Edges i ed_kind) x.0), edge_word tables counts i ed_target k (omega arith) ∙ sym (natural-size (at T Edges i ed_target) x.2))

  -- the return edge of an edge, off the words
  pub returns-at : (i : ℕ) → i < counts Edges
      → returns (states_in T) (rules_of T) (edge_at (edges_in T) i)
      ≡ pick (returning (counts States) (counts Rules) (tables Rules) (net (tables States) (tables Edges)) i) (return_edge (tables Rules) (net (tables States) (tables Edges)) i ∷ []) []
  returns-at i k = ap (returns (states_in T) (rules_of T)) (edge_is tables counts i) ∙ pick_is
    where
      e : Edge
      e = edge_back (row T Edges i)

      R : ℤ
      R = (state_at (states_in T) e.target).rule

      w0 : word_of 8 (tables Edges) i 0 ≡ pos e.kind
      w0 = (edge-numbers i k).0

      w2 : word_of 8 (tables Edges) i 2 ≡ pos e.target
      w2 = (edge-numbers i k).1

      rule_is : ltb e.target (length (states_in T)) ≡ true → rule_of (net (tables States) (tables Edges)) i ≡ R
      rule_is b =
          let l : e.target < counts States = omega (arith, ltb-true e.target (length (states_in T)) b, states_long tables counts) in
          ap (λ (z : ℤ). word_of 8 (tables States) (size z) 1) w2 ∙ state_word_lem tables counts e.target st_rule l (omega arith) ∙ ap (λ (x : State). x.rule) (sym (state_is tables counts e.target l))

      stop_is : ltb e.target (length (states_in T)) ≡ true → names (rules_of T) R ≡ true → stop_for (tables Rules) (net (tables States) (tables Edges)) i ≡ stop_of (states_in T) R
      stop_is b c = ap (λ (z : ℤ). word_of 3 (tables Rules) (size z) 1) (rule_is b) ∙ stop_word R (ap (λ (j : ℕ). names j R) (sym (rules_long tables counts)) ∙ c)

      a : eqb e.kind 3 ≡ same (word_of 8 (tables Edges) i 0) (pos 3)
      a = ap (λ (z : ℤ). same z (pos 3)) (sym w0)

      b : ltb e.target (length (states_in T)) ≡ names (counts States) (word_of 8 (tables Edges) i 2)
      b = ap (λ (j : ℕ). ltb e.target j) (states_long tables counts) ∙ ap (names (counts States)) (sym w2)

      test : (eqb e.kind 3 && ltb e.target (length (states_in T)) && stops (states_in T) (rules_of T) R) ≡ returning (counts States) (counts Rules) (tables Rules) (net (tables States) (tables Edges)) i
      test =
          gates (eqb e.kind 3) (ltb e.target (length (states_in T))) (names (rules_of T) R) (names (length (states_in T)) (stop_of (states_in T) R))
          (names (counts Rules) (rule_of (net (tables States) (tables Edges)) i)) (names (counts States) (stop_for (tables Rules) (net (tables States) (tables Edges)) i))
          (λ q. ap (λ (j : ℕ). names j R) (rules_long tables counts) ∙ ap (names (counts Rules)) (sym (rule_is q)))
          (λ q r. ap (λ (j : ℕ). names j (stop_of (states_in T) R)) (states_long tables counts) ∙ ap (names (counts States)) (sym (stop_is q r)))
          ∙ (λ j. a j && (b j && (names (counts Rules) (rule_of (net (tables States) (tables Edges)) i) && names (counts States) (stop_for (tables Rules) (net (tables States) (tables Edges)) i))))

      pick_is : pick (eqb e.kind 3 && ltb e.target (length (states_in T)) && stops (states_in T) (rules_of T) R) (edge_of 1 (size (stop_of (states_in T) R)) (size e.q) (pos 0) (pos 0) (pos 0) ∷ []) []
          ≡ pick (returning (counts States) (counts Rules) (tables Rules) (net (tables States) (tables Edges)) i) (return_edge (tables Rules) (net (tables States) (tables Edges)) i ∷ []) []
      pick_is =
          pick-one (eqb e.kind 3 && ltb e.target (length (states_in T)) && stops (states_in T) (rules_of T) R) (edge_of 1 (size (stop_of (states_in T) R)) (size e.q) (pos 0) (pos 0) (pos 0)) (return_edge (tables Rules) (net (tables States) (tables Edges)) i)
          (λ q.
          let x = left (eqb e.kind 3 && ltb e.target (length (states_in T))) (stops (states_in T) (rules_of T) R) q in
          let y = right (eqb e.kind 3 && ltb e.target (length (states_in T))) (stops (states_in T) (rules_of T) R) q in
          let s = stop_is (right (eqb e.kind 3) (ltb e.target (length (states_in T))) x) (left (names (rules_of T) R) (names (length (states_in T)) (stop_of (states_in T) R)) y) in
          let f = edge_word tables counts i ed_q k (omega arith) in
          λ j. edge_of 1 (size (sym s j)) (size (sym f j)) (pos 0) (pos 0) (pos 0))
          ∙ ap (λ (t : Bool). pick t (return_edge (tables Rules) (net (tables States) (tables Edges)) i ∷ []) []) test

  -- ---- precedence decisions

  state_kind : (s : ℕ) → s < counts States → pos (state_at (states_in T) s).kind ≡ word_of 8 (tables States) s 0
  state_kind s k =
      let x = state-tests T (pos 0) w s (omega (arith, rows-states tables counts)) in
      ap (λ (y : State). pos y.kind) (state_is tables counts s k) ∙ natural-size (at T States s st_kind) x.0 ∙ sym (state_word_lem tables counts s st_kind k (omega arith))

  -- an edge's target is a state of that type
  leads-at : (z : ℤ) (c : ℕ) → leads (states_in T) (edges_in T) z c ≡ leads_to (counts States) (counts Edges) (tables States) (tables Edges) z c
  leads-at (negsuc i) c = refl
  leads-at (pos i) c = go (ltb i (length (edges_in T))) refl ∙ ap (λ (j : ℕ). ltb i j && (names (counts States) (word_of 8 (tables Edges) i 2) && same (word_of 8 (tables States) (size (word_of 8 (tables Edges) i 2)) 0) (pos c))) (edges_long tables counts)
    where
      go : (b : Bool) → ltb i (length (edges_in T)) ≡ b → (b && typed (states_in T) c (onto (edges_in T) (pos i))) ≡ (b && (names (counts States) (word_of 8 (tables Edges) i 2) && same (word_of 8 (tables States) (size (word_of 8 (tables Edges) i 2)) 0) (pos c)))
      go false q = refl
      go true q = ap (λ (e : Edge). typed (states_in T) c e.target) (edge_is tables counts i) ∙ on (ltb t (length (states_in T))) refl ∙ (λ j. names (counts States) (sym w2 j) && same (word_of 8 (tables States) (size (sym w2 j)) 0) (pos c))
        where
          l : i < counts Edges
          l = omega (arith, ltb-true i (length (edges_in T)) q, edges_long tables counts)

          t : ℕ
          t = (edge_back (row T Edges i)).target

          w2 : word_of 8 (tables Edges) i 2 ≡ pos t
          w2 = (edge-numbers i l).1

          on : (b : Bool) → ltb t (length (states_in T)) ≡ b → typed (states_in T) c t ≡ (ltb t (counts States) && same (word_of 8 (tables States) t 0) (pos c))
          on false u = (λ j. u j && eqb (state_at (states_in T) t).kind c) ∙ (λ j. (sym u ∙ ap (ltb t) (states_long tables counts)) j && same (word_of 8 (tables States) t 0) (pos c))
          on true u =
              let k : t < counts States = omega (arith, ltb-true t (length (states_in T)) u, states_long tables counts) in
              let v = state_kind t k in
              λ j. ltb t (states_long tables counts j) && same (v j) (pos c)

  -- a rule's start, and flag 2 on it
  start_word : (R : ℤ) → names (counts Rules) R ≡ true → word_of 3 (tables Rules) (size R) 0 ≡ pos (start_of (rules_in T) R)
  start_word (pos R) k =
      let l : R < counts Rules = ltb-true R (counts Rules) k in
      rule_word tables counts R ru_start l (omega arith)
      ∙ sym (natural-size (at T Rules R ru_start) (w.starts R (omega (arith, rows-rules tables counts))))
      ∙ ap (λ (x : Rule). pos x.start) (sym (get_or-map rule_back (T Rules) R []))
  start_word (negsuc R) k = lie k

  second : (v : ℤ) → names 8 v ≡ true → among (size v) (2 ∷ 3 ∷ 6 ∷ 7 ∷ []) ≡ flag_two v
  second (pos f) k = eights (λ f. among f (2 ∷ 3 ∷ 6 ∷ 7 ∷ []) ≡ flag_two (pos f)) refl refl refl refl refl refl refl refl f (ltb-true f 8 k)
  second (negsuc f) k = lie k

  flag_two_lem : (s : ℕ) → s < counts States → among s (numbers flag2 (T States)) ≡ flag_two (word_of 8 (tables States) s 4)
  flag_two_lem s k =
      let l : s < length (T States) = omega (arith, rows-states tables counts) in
      flag_at_lem flag2 (T States) s l ∙ second (at T States s st_flags) (state-tests T (pos 0) w s l).2 ∙ ap flag_two (sym (state_word_lem tables counts s st_flags k (omega arith)))

  six : (a b c d e f b' c' d' e' f' : Bool) → b ≡ b' → (b ≡ true → c ≡ c') → (b ≡ true → c ≡ true → d ≡ d') → e ≡ e' → (e ≡ true → f ≡ f')
      → (a && b && c && d && e && f) ≡ (a && (b' && (c' && (d' && (e' && f')))))
  six false b c d e f b' c' d' e' f' p q r s t = refl
  six true false c d e f b' c' d' e' f' p q r s t = λ i. p i && (c' && (d' && (e' && f')))
  six true true false d e f b' c' d' e' f' p q r s t = λ i. p i && (q refl i && (d' && (e' && f')))
  six true true true false e f b' c' d' e' f' p q r s t = λ i. p i && (q refl i && (r refl refl i && (e' && f')))
  six true true true true false f b' c' d' e' f' p q r s t = λ i. p i && (q refl i && (r refl refl i && (s i && f')))
  six true true true true true f b' c' d' e' f' p q r s t = λ i. p i && (q refl i && (r refl refl i && (s i && t refl i)))

  -- a state's being a precedence decision, off the words
  pub decides_at_lem : (s : ℕ) → s < counts States → decides (states_in T) (numbers flag2 (T States)) (rules_in T) (edges_in T) s ≡ decides_at (counts States) (counts Edges) (counts Rules) (tables Rules) (tables Edges) (tables States) s
  unfolding decides
  decides_at_lem s k =
      six (typed (states_in T) 10 s) (names (length (rules_in T)) R) (ltb (start_of (rules_in T) R) (length (states_in T))) (among (start_of (rules_in T) R) (numbers flag2 (T States))) (leads (states_in T) (edges_in T) z 12) (leads (states_in T) (edges_in T) (first (chain (edges_in T) (onto (edges_in T) z))) 7)
      (names (counts Rules) R') (names (counts States) start) (flag_two (word_of 8 (tables States) (size start) 4)) (leads_to (counts States) (counts Edges) (tables States) (tables Edges) z' 12) (leads_to (counts States) (counts Edges) (tables States) (tables Edges) (word_of 8 (tables States) (size (word_of 8 (tables Edges) (size z') 2)) 5) 7)
      (λ i. names (rules_long tables counts i) (sym rule_is i))
      (λ b. ap (ltb (start_of (rules_in T) R)) (states_long tables counts) ∙ ap (names (counts States)) (sym (start_is b)))
      (λ b c. flag_two_lem (start_of (rules_in T) R) (omega (arith, ltb-true (start_of (rules_in T) R) (length (states_in T)) c, states_long tables counts)) ∙ ap (λ (v : ℤ). flag_two (word_of 8 (tables States) (size v) 4)) (sym (start_is b)))
      (leads-at z 12 ∙ ap (λ (v : ℤ). leads_to (counts States) (counts Edges) (tables States) (tables Edges) v 12) (sym last_is))
      (λ e. leads-at (first (chain (edges_in T) (onto (edges_in T) z))) 7 ∙ ap (λ (v : ℤ). leads_to (counts States) (counts Edges) (tables States) (tables Edges) v 7) (sym (first_is z last_is e)))
      ∙ (λ i. kind_is i && (names (counts Rules) R' && (names (counts States) start && (flag_two (word_of 8 (tables States) (size start) 4) && (leads_to (counts States) (counts Edges) (tables States) (tables Edges) z' 12 && leads_to (counts States) (counts Edges) (tables States) (tables Edges) (word_of 8 (tables States) (size (word_of 8 (tables Edges) (size z') 2)) 5) 7)))))
    where
      C : Chained (length (T States)) (edges_in T) (λ s. at T States s st_first) (λ s. at T States s st_last) (λ s. at T States s st_count) (λ i. at T Edges i ed_next)
      C = chained T (pos 0) w

      R : ℤ
      R = (state_at (states_in T) s).rule

      R' : ℤ
      R' = word_of 8 (tables States) s 1

      start : ℤ
      start = word_of 3 (tables Rules) (size R') 0

      z : ℤ
      z = last (chain (edges_in T) s)

      z' : ℤ
      z' = word_of 8 (tables States) s 6

      rule_is : R' ≡ R
      rule_is = state_word_lem tables counts s st_rule k (omega arith) ∙ ap (λ (x : State). x.rule) (sym (state_is tables counts s k))

      last_is : z' ≡ z
      last_is = state_word_lem tables counts s st_last k (omega arith) ∙ C.last-edge s (omega (arith, rows-states tables counts))

      kind_is : typed (states_in T) 10 s ≡ same (word_of 8 (tables States) s 0) (pos 10)
      kind_is = (λ i. lt-ltb s (length (states_in T)) (omega (arith, states_long tables counts)) i && same (state_kind s k i) (pos 10))

      start_is : names (length (rules_in T)) R ≡ true → start ≡ pos (start_of (rules_in T) R)
      start_is b = ap (λ (v : ℤ). word_of 3 (tables Rules) (size v) 0) rule_is ∙ start_word R (ap (λ (j : ℕ). names j R) (sym (rules_long tables counts)) ∙ b)

      first_is : (y : ℤ) → z' ≡ y → leads (states_in T) (edges_in T) y 12 ≡ true → word_of 8 (tables States) (size (word_of 8 (tables Edges) (size z') 2)) 5 ≡ first (chain (edges_in T) (onto (edges_in T) y))
      first_is (negsuc i) q e = lie e
      first_is (pos i) q e =
          let a = ltb-true i (length (edges_in T)) (left (ltb i (length (edges_in T))) (typed (states_in T) 12 (onto (edges_in T) (pos i))) e) in
          let b = right (ltb i (length (edges_in T))) (typed (states_in T) 12 (onto (edges_in T) (pos i))) e in
          let l : i < counts Edges = omega (arith, a, edges_long tables counts) in
          let d : (edge_at (edges_in T) i).target ≡ (edge_back (row T Edges i)).target = ap (λ (x : Edge). x.target) (edge_is tables counts i) in
          let t : onto (edges_in T) (pos i) < length (states_in T) = ltb-true (onto (edges_in T) (pos i)) (length (states_in T)) (left (ltb (onto (edges_in T) (pos i)) (length (states_in T))) (eqb (state_at (states_in T) (onto (edges_in T) (pos i))).kind 12) b) in
          let t' : onto (edges_in T) (pos i) < counts States = omega (arith, t, states_long tables counts) in
          ap (λ (v : ℤ). word_of 8 (tables States) (size (word_of 8 (tables Edges) (size v) 2)) 5) q
          ∙ ap (λ (v : ℤ). word_of 8 (tables States) (size v) 5) ((edge-numbers i l).1 ∙ ap pos (sym d))
          ∙ state_word_lem tables counts (onto (edges_in T) (pos i)) 5 t' (omega arith)
          ∙ C.first_edge (onto (edges_in T) (pos i)) (omega (arith, t, length-map (T States) state_back))
