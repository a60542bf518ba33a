-- Return edges: found along the chains and added behind the edges, they are the derived edges, "by source state and then chain order".
use Rattle.std.specs.Prelude.{◌≡◌, Bool, ◌&&◌, ltb, eqb, ℤ, pos, take}
use Rattle.std.proofs.Math.Path.{refl, ap}
use Rattle.std.proofs.Common.{sym, ◌∙◌, subst, drop_of_length-le, take-suc, lt-ltb, le-ltb, ltb-true, leb-true}
use mathlib.Core.List.{List, [], ◌∷◌, ◌++◌, append-nil, append_assoc}
use Rattle.std.proofs.Math.Bool.{true, false, and_assoc}
use Prim.Native.Nat.{ℕ, zero, suc, ◌+◌, ◌*◌, ◌≤◌, ◌<◌}
use native.Mathlib.Omega.{arith}
use Rattle.std.proofs.Math.Dec.{leb}
use Rattle.std.proofs.Math.ListN.{length, get_or, drop, length-append, get_or-append}
use Rattle.std.proofs.Math.Seq.{take-length, drop-cons}
use Rattle.std.proofs.lemmas.List.{drop-append-le}
use Rattle.format.specs.Reading.{Table, Edges, Outcome, ok, no, run, pick, no_room, spot}
use Rattle.format.specs.Sections.{State, Rule, Edge, edge_of, same, size, bit}
use Rattle.format.specs.Links.{numbers_from, first, each, names, leaving, chain, next, state_at, stop_of, stops, returns, derived}
use Rattle.format.specs.Decode as decode
use Rattle.format.specs.declared.Counts.{Counts}
use Rattle.laws.specs.Running.{after}
use Rattle.laws.specs.Gives.{Every}
use Rattle.laws.specs.Safe.{and_true}
use Rattle.laws.specs.Chains.{chain_are, next_in_lem, at_mem}
use Rattle.inplace.specs.Rows.{word_of}
use Rattle.inplace.specs.Held.{Held, with}
use Rattle.inplace.specs.Links as code
use Rattle.inplace.specs.Links.{Net, net, linked, rule_of, stop_for, returning, returns_of, Growing, growing, return_edge, returned, returns_along, returns_from, derived_counted}
use Rattle.agrees.specs.Forms.{padded, states_form, edge_line, edges_form, rules_form}
use Rattle.agrees.specs.Words.{no_edge, state_word_lem, edge_word, rule_word, named_is, and_then}
use Rattle.agrees.specs.Lists.{those_long, those-at, up_to}
use Rattle.agrees.specs.Derived.{has_return, return_of, returns_at, derived_by, at_more, count-all}
use Rattle.agrees.specs.Chained.{linked-more}
use Rattle.laws.specs.Lists.{each_append, numbers-append}
use Rattle.laws.specs.Rows.{rows_same}

-- ---- one edge's

module _ (ss : List State) (rs : List Rule) (a b d : ℕ) (F M : ℕ → ℕ) where
  abbrev tables : List Edge → Net
  tables es = net (states_form a F es ss) (edges_form b M es)

  abbrev rules : List ℤ
  rules = rules_form d ss rs

  -- The rule of an edge's target, and the edge's return edges.
  abbrev R : Edge → ℤ
  R e = (state_at ss e.target).rule

  abbrev back : Edge → List Edge
  back e = returns ss (length rs) e

  module _ (es : List Edge) (i : ℕ) (h : i < length es) where
    abbrev e : Edge
    e = get_or es i no_edge

    rule-of : ltb e.target (length ss) ≡ true → rule_of (tables es) i ≡ R e
    rule-of l =
        ap (λ (v : ℤ). word_of 8 (states_form a F es ss) (size v) 1) (edge_word b M es i 2 h (omega arith))
        ∙ state_word_lem a F es ss e.target 1 (ltb-true e.target (length ss) l) (omega arith)

    stop_for_lem : ltb e.target (length ss) ≡ true → names (length rs) (R e) ≡ true → stop_for rules (tables es) i ≡ stop_of ss (R e)
    stop_for_lem l k =
        ap (λ (v : ℤ). word_of 3 rules (size v) 1) (rule-of l)
        ∙ rule_word d ss rs (R e) 1 k (omega arith)
        ∙ ap (stop_of ss) (sym (named_is (length rs) (R e) k).0)

    -- what is tested in the tables is what is tested of the edge
    returning_is : returning (length ss) (length rs) rules (tables es) i ≡ has_return ss (length rs) e
    returning_is =
        and_then _ _ _ _ (ap (λ (v : ℤ). same v (pos 3)) (edge_word b M es i 0 h (omega arith))) (λ p.
        and_then _ _ _ _ (ap (names (length ss)) (edge_word b M es i 2 h (omega arith))) (λ l.
        and_then _ _ _ _ (ap (names (length rs)) (rule-of l)) (λ k. ap (names (length ss)) (stop_for_lem l k))))
        ∙ sym (and_assoc (eqb e.kind 3) (ltb e.target (length ss)) (stops ss (length rs) (R e)))

    -- what the test says of a return edge: its stop is the rule's, and listed
    stop_is : has_return ss (length rs) e ≡ true → (stop_for rules (tables es) i ≡ stop_of ss (R e)) × (size (stop_of ss (R e)) < length ss)
    stop_is p =
        let x = and_true (eqb e.kind 3 && ltb e.target (length ss)) (stops ss (length rs) (R e)) p in
        let y = and_true (names (length rs) (R e)) (names (length ss) (stop_of ss (R e))) x.1 in
        (stop_for_lem (and_true (eqb e.kind 3) (ltb e.target (length ss)) x.0).1 y.0, (named_is (length ss) (stop_of ss (R e)) y.1).1)

    return_edge_lem : has_return ss (length rs) e ≡ true → return_edge rules (tables es) i ≡ return_of ss (length rs) e
    return_edge_lem p =
        ap (λ (v : ℤ). edge_of 1 (size v) (size (word_of 8 (edges_form b M es) i 4)) (pos 0) (pos 0) (pos 0)) (stop_is p).0
        ∙ ap (λ (v : ℤ). edge_of 1 (size (stop_of ss (R e))) (size v) (pos 0) (pos 0) (pos 0)) (edge_word b M es i 4 h (omega arith))

  one-or_none : (e : Edge) → bit (has_return ss (length rs) e) ≡ length (back e)
  one-or_none e = go (has_return ss (length rs) e)
    where
      go : (t : Bool) → bit t ≡ length (pick t (return_of ss (length rs) e ∷ []) [])
      go true = refl
      go false = refl

  back_more : (l : List Edge) (e : Edge) → length (each back (l ++ (e ∷ []))) ≡ length (each back l) + length (back e)
  back_more l e = ap length (each_append back l (e ∷ []) ∙ ap (λ (m : List Edge). each back l ++ m) (append-nil (back e))) ∙ length-append (each back l) (back e)

  -- how many of the first m edges have one
  returns_of_lem : (es : List Edge) (m : ℕ) → m ≤ length es → returns_of (length ss) (length rs) rules (tables es) m ≡ length (each back (take m es))
  unfolding returns_of
  returns_of_lem es zero h = refl
  returns_of_lem es (suc m) h =
      omega (
        arith,
        returns_of_lem es m (omega arith),
        ap bit (returning_is es m h) ∙ one-or_none (get_or es m no_edge),
        ap (λ (l : List Edge). length (each back l)) (take-suc es m no_edge h) ∙ back_more (take m es) (get_or es m no_edge),
      )

  -- ---- added, where there is room for all and they are marked 1

  module _ (room : ℕ) (roomy : 8 * room ≤ b) (few : room ≤ 65536) where
    abbrev grown : List Edge → Growing
    grown es = growing (tables es) (length es)

    abbrev returned_at : ℕ → Growing → Growing
    returned_at i x = returned room (length ss) (length rs) rules i x

    abbrev walk : ℕ → ℤ → Growing → Growing
    walk left v x = returns_along room (length ss) (length rs) rules left v x

    returned_is : (es : List Edge) (i : ℕ) → i < length es → M (length es) ≡ 1 → length es + length (back (get_or es i no_edge)) ≤ room → returned_at i (grown es) ≡ grown (es ++ back (get_or es i no_edge))
    unfolding returned
    returned_is es i h m r = go (has_return ss (length rs) (get_or es i no_edge)) refl r
      where
        new : Edge
        new = return_of ss (length rs) (get_or es i no_edge)

        more : Bool → Growing
        more t = pick (t && ltb (length es) room) (growing (linked (length es) 1 (return_edge rules (tables es) i) (tables es)) (length es + 1)) (grown es)

        added : has_return ss (length rs) (get_or es i no_edge) ≡ true → length es + 1 ≤ room → more true ≡ grown (es ++ (new ∷ []))
        added q k =
            ap (λ (t : Bool). pick t (growing (linked (length es) 1 (return_edge rules (tables es) i) (tables es)) (length es + 1)) (grown es)) (lt-ltb (length es) room (omega arith))
            ∙ ap (λ (x : Edge). growing (linked (length es) 1 x (tables es)) (length es + 1)) (return_edge_lem es i h q)
            ∙ ap (λ (t : Net). growing t (length es + 1)) (linked-more ss a b F M es new (stop_is es i h q).1 (omega arith) (omega arith) 1 m)
            ∙ ap (λ (n : ℕ). growing (tables (es ++ (new ∷ []))) n) (sym (length-append es (new ∷ [])))

        go : (t : Bool) → has_return ss (length rs) (get_or es i no_edge) ≡ t → length es + length (pick t (new ∷ []) []) ≤ room → more (returning (length ss) (length rs) rules (tables es) i) ≡ grown (es ++ pick t (new ∷ []) [])
        go true q k = ap more (returning_is es i h ∙ q) ∙ added q k
        go false q k = ap more (returning_is es i h ∙ q) ∙ ap grown (sym (append-nil es))

    -- ---- along a chain: es when its state's turn comes, and g added since

    module _ (es : List Edge) (s : ℕ) (marked : (j : ℕ) → length es ≤ j → M j ≡ 1) where
      abbrev C : List ℕ
      C = chain es s

      abbrev L : List Edge
      L = leaving es s

      abbrev from : Edge → Bool
      from e = eqb e.source s

      -- the j-th edge of the chain
      member : (j : ℕ) → j < length C → (get_or C j 0 < length es) × ((get_or es (get_or C j 0) no_edge).source ≡ s)
      member j h = (chain_are es s (get_or C j 0)).0 (at_mem j C h)

      member_of : (g : List Edge) (j : ℕ) → j < length C → get_or (es ++ g) (get_or C j 0) no_edge ≡ get_or L j no_edge
      member_of g j h = get_or-append es g no_edge (get_or C j 0) (member j h).0 ∙ those-at from no_edge es j h

      -- and the next one, which is still it behind more edges
      next_of : (g : List Edge) (j : ℕ) → suc j < length C → word_of 8 (edges_form b M (es ++ g)) (get_or C j 0) 7 ≡ first (drop (suc j) C)
      next_of g j h =
          let m = member j (omega arith) in
          let i : ℕ = get_or C j 0 in
          let more : List ℕ = numbers_from (0 + length es) from g in
          let c : chain (es ++ g) s ≡ C ++ more = numbers-append from 0 es g in
          let long : suc (suc j) ≤ length (chain (es ++ g) s) = omega (arith, ap length c, length-append C more) in
          let it : get_or (chain (es ++ g) s) j 0 ≡ i = ap (λ (l : List ℕ). get_or l j 0) c ∙ get_or-append C more 0 j (omega arith) in
          edge_word b M (es ++ g) i 7 (omega (arith, m.0, length-append es g)) (omega arith)
          ∙ ap (λ (q : ℕ). next (es ++ g) q i) (ap (λ (x : Edge). x.source) (get_or-append es g no_edge i m.0) ∙ m.1)
          ∙ ap (λ (n : ℕ). next (es ++ g) s n) (sym it)
          ∙ next_in_lem (es ++ g) s j (omega arith)
          ∙ ap (λ (l : List ℕ). first (drop (suc j) l)) c
          ∙ ap first (drop-append-le (suc j) C more (omega arith))
          ∙ ap (λ (l : List ℕ). first (l ++ more)) (drop-cons C (suc j) 0 h)
          ∙ sym (ap first (drop-cons C (suc j) 0 h))

      -- A step of the walk, by the word v that names the edge; and on from the edge i.
      abbrev on : ℕ → ℕ → Growing → Growing
      on i left y = walk left (word_of 8 y.tables.edges i 7) y

      abbrev step : ℤ → ℕ → Growing → Growing
      step v left x = pick (names x.edges v) (on (size v) left (returned_at (size v) x)) x

      -- the chain's edges from the j-th on
      along : (left j : ℕ) (v : ℤ) (g : List Edge) → j + left ≡ length C → (0 < left → v ≡ first (drop j C)) → length (es ++ g) + length (each back (drop j L)) ≤ room
          → walk left v (grown (es ++ g)) ≡ grown ((es ++ g) ++ each back (drop j L))
      unfolding returns_along
      along zero j v g q w r =
          let over : length L ≤ j = omega (arith, those_long from 0 es) in
          ap grown (sym (ap (λ (l : List Edge). (es ++ g) ++ each back l) (drop_of_length-le L over) ∙ append-nil (es ++ g)))
      along (suc left) j v g q w r =
          let h : j < length C = omega arith in
          let i : ℕ = get_or C j 0 in
          let x : Edge = get_or L j no_edge in
          let rest : List Edge = each back (drop (suc j) L) in
          let now : length (es ++ g) ≡ length es + length g = length-append es g in
          let l : drop j L ≡ x ∷ drop (suc j) L = drop-cons L j no_edge (omega (arith, those_long from 0 es)) in
          let fits : length es + length g + (length (back x) + length rest) ≤ room = omega (arith, ap (λ (t : List Edge). length (each back t)) l, length-append (back x) rest) in
          let here : i < length (es ++ g) = omega (arith, (member j h).0) in
          let one : returned_at i (grown (es ++ g)) ≡ grown (es ++ (g ++ back x)) =
          returned_is (es ++ g) i here (marked (length (es ++ g)) (omega arith)) (omega (arith, ap (λ (y : Edge). length (back y)) (member_of g j h)))
          ∙ ap (λ (y : Edge). grown ((es ++ g) ++ back y)) (member_of g j h)
          ∙ ap grown (append_assoc es g (back x)) in
          ap (λ (u : ℤ). step u left (grown (es ++ g))) (w (omega arith) ∙ ap first (drop-cons C j 0 h))
          ∙ ap (λ (t : Bool). pick t (on i left (returned_at i (grown (es ++ g)))) (grown (es ++ g))) (lt-ltb i (length (es ++ g)) here)
          ∙ ap (on i left) one
          ∙ along left (suc j) (word_of 8 (edges_form b M (es ++ (g ++ back x))) i 7) (g ++ back x) (omega arith) (λ p. next_of (g ++ back x) j (omega arith)) (omega (arith, length-append es (g ++ back x), length-append g (back x)))
          ∙ ap grown (ap (λ (t : List Edge). t ++ rest) (sym (append_assoc es g (back x))) ∙ append_assoc (es ++ g) (back x) rest ∙ ap (λ (t : List Edge). (es ++ g) ++ each back t) (sym l))

      -- all of it
      walked : (v : ℤ) → v ≡ first C → length es + length (each back L) ≤ room → walk (length C) v (grown es) ≡ grown (es ++ each back L)
      walked v q r =
          subst (λ (l : List Edge). walk (length C) v (grown l) ≡ grown (l ++ each back L)) (append-nil es)
          (along (length C) 0 v [] (omega arith) (λ p. q) (omega (arith, length-append es [])))

    -- ---- state by state

    module _ (es : List Edge) (marked : (j : ℕ) → length es ≤ j → M j ≡ 1) where
      -- The return edges found at a state, and those found before it.
      abbrev at : ℕ → List Edge
      at s = returns_at ss (length rs) es s

      abbrev now : ℕ → List Edge
      now s = es ++ up_to at s

      -- A state's turn, by its count and its first edge.
      abbrev turn : ℕ → Growing → Growing
      turn s y = walk (size (word_of 8 y.tables.states s 7)) (word_of 8 y.tables.states s 5) y

      state_turn : (s : ℕ) → s < length ss → length es + length (up_to at (suc s)) ≤ room → turn s (grown (now s)) ≡ grown (now (suc s))
      state_turn s h r =
          let same : returns_at ss (length rs) (now s) s ≡ at s = at_more ss (length rs) es s s in
          let long : length (now s) ≡ length es + length (up_to at s) = length-append es (up_to at s) in
          ap (λ (v : ℤ). walk (size v) (word_of 8 (states_form a F (now s) ss) s 5) (grown (now s))) (state_word_lem a F (now s) ss s 7 h (omega arith))
          ∙ walked (now s) s (λ j k. marked j (omega arith)) (word_of 8 (states_form a F (now s) ss) s 5) (state_word_lem a F (now s) ss s 5 h (omega arith)) (omega (arith, ap length same, length-append (up_to at s) (at s)))
          ∙ ap grown (ap (λ (l : List Edge). now s ++ l) same ∙ append_assoc es (up_to at s) (at s))

      returns_from_lem : (s : ℕ) → s ≤ length ss → length es + length (up_to at s) ≤ room → returns_from room (length ss) (length rs) rules s (grown es) ≡ grown (now s)
      unfolding returns_from
      returns_from_lem zero h r = ap grown (sym (append-nil es))
      returns_from_lem (suc s) h r = ap (turn s) (returns_from_lem s (omega arith) (omega (arith, length-append (up_to at s) (at s)))) ∙ state_turn s h r

-- ---- the program

module _ (ss : List State) (rs : List Rule) (es : List Edge) (a b d : ℕ) (F : ℕ → ℕ) (c : Counts) (ws : List ℤ) (rooms : Table → ℕ)
    (states : c.states ≡ length ss) (rules : c.rules ≡ length rs) (edges : c.edges ≡ length es) (roomy : 8 * rooms Edges ≤ b) (few : rooms Edges ≤ 65536)
    (listed : Every (λ e. e.source < length ss) es) where
  -- Plain edges first, derived ones behind.
  abbrev marks : ℕ → ℕ
  marks i = pick (ltb i (length es)) 0 1

  abbrev ds : List Edge
  ds = derived ss (length rs) es

  abbrev begun : Net
  begun = net (states_form a F es ss) (edges_form b (λ i. 0) es)

  abbrev filled : Net
  filled = net (states_form a F (es ++ ds) ss) (edges_form b marks (es ++ ds))

  abbrev marked : List Edge → Net
  marked l = tables ss rs a b d F marks l

  marked-same : begun ≡ marked es
  marked-same =
      ap (λ (r : List (List ℤ)). net (states_form a F es ss) (padded b r))
      (rows_same no_edge (edge_line (λ i. 0) es) (edge_line marks es) es (λ j h. ap (λ (t : Bool). edge_line (λ i. pick t 0 1) es j (get_or es j no_edge)) (sym (lt-ltb j (length es) h))))

  -- What the program answers: n states, k rules, m edges, x return edges.
  abbrev tested : Bool → ℕ → ℕ → ℕ → ℕ → Net → Outcome (Held Net)
  tested r n k m x t =
      pick r (ok (with (derived_counted c x) (returns_from (rooms Edges) n k (rules_form d ss rs) n (growing t m)).tables) c.words) (no (no_room (spot 23 0) c.words (m + x)))

  abbrev answers : ℕ → ℕ → ℕ → ℕ → Net → Outcome (Held Net)
  answers n k m x t = tested (leb (m + x) (rooms Edges)) n k m x t

  abbrev finds : ℕ → ℕ → ℕ → Net → Outcome (Held Net)
  finds n k m t = answers n k m (returns_of n k (rules_form d ss rs) t m) t

  found : returns_of (length ss) (length rs) (rules_form d ss rs) (marked es) (length es) ≡ length ds
  found =
      returns_of_lem ss rs a b d F marks es (length es) (omega arith)
      ∙ ap (λ (l : List Edge). length (each (returns ss (length rs)) l)) (take-length es)
      ∙ sym (count-all ss (length rs) es listed)

  added : length es + length ds ≤ rooms Edges → (returns_from (rooms Edges) (length ss) (length rs) (rules_form d ss rs) (length ss) (growing (marked es) (length es))).tables ≡ filled
  added h =
      let by : ds ≡ up_to (returns_at ss (length rs) es) (length ss) = derived_by ss (length rs) es in
      ap (λ (y : Growing). y.tables) (returns_from_lem ss rs a b d F marks (rooms Edges) roomy few es (λ j k. rw (le-ltb j (length es) k) refl) (length ss) (omega arith) (omega (arith, ap length by)))
      ∙ ap (λ (l : List Edge). marked (es ++ l)) (sym by)

  -- The return edges fill the tables with the derived edges, or there is no room for all edges.
  pub returns_is : run (code.returns (rooms Edges) (rules_form d ss rs) (with c begun)) ws rooms c.words
      ≡ after (run (decode.returning ss (length rs) es) ws rooms c.words) (λ u m. ok (with (derived_counted c (length ds)) filled) m)
  unfolding code.returns decode.returning run
  returns_is =
      ap (λ (t : Net). finds c.states c.rules c.edges t) marked-same
      ∙ ap (λ (n : ℕ). finds n c.rules c.edges (marked es)) states
      ∙ ap (λ (k : ℕ). finds (length ss) k c.edges (marked es)) rules
      ∙ ap (λ (m : ℕ). finds (length ss) (length rs) m (marked es)) edges
      ∙ ap (λ (x : ℕ). answers (length ss) (length rs) (length es) x (marked es)) found
      ∙ go (leb (length es + length ds) (rooms Edges)) refl
    where
      go : (t : Bool) → leb (length es + length ds) (rooms Edges) ≡ t
          → tested t (length ss) (length rs) (length es) (length ds) (marked es)
          ≡ after (pick t (ok es c.words) (no (no_room (spot 23 0) c.words (length es + length ds)))) (λ u m. ok (with (derived_counted c (length ds)) filled) m)
      go true q = ap (λ (t : Net). ok (with (derived_counted c (length ds)) t) c.words) (added (leb-true (length es + length ds) (rooms Edges) q))
      go false q = refl
