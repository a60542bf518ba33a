-- Return edges: the walk over the chains ends behind the last edge exactly if the edges from o on are the derived ones.
use Rattle.std.specs.Prelude.{◌≡◌, Bool, true, false, ◌&&◌, ◌↔◌, ltb, eqb, ℤ, pos, take, drop}
use Rattle.std.proofs.Math.Path.{refl, sym, ap}
use Rattle.std.proofs.Common.{◌∙◌, subst, length-drop, drop-cons, lt-ltb, ltb-true, ltb-false, eqb-true, eq-eqb}
use mathlib.Core.List.{List, [], ◌∷◌, ◌++◌}
use Prim.Native.Nat.{ℕ, zero, suc, ◌+◌, ◌*◌, ◌≤◌, ◌<◌}
use native.Mathlib.Omega.{arith}
use Rattle.std.proofs.Math.ListN.{length, get_or}
use Rattle.std.proofs.Math.Seq.{drop-length}
use Rattle.format.specs.Reading.{Table, States, Edges, Sets, Rules, pick}
use Rattle.format.specs.Sections.{State, Edge, edge_of, same, size}
use Rattle.format.specs.Links.{those, numbers, each, first, leaving, chain, next, state_at, stop_of, stops, returns, derived}
use Rattle.format.specs.Places.{st_first, st_count, ed_kind, ed_source, ed_target, ed_q, ed_next}
use Rattle.format.specs.Writing.{cell_size, given}
use Rattle.laws.specs.Chains.{at_mem, chain_are, next_in_lem}
use Rattle.laws.specs.Gives.{Every}
use Rattle.laws.specs.Lists.{every-each}
use Rattle.laws.specs.Own.{same_true}
use Rattle.inplace.specs.Rows.{word_of}
use Rattle.inplace.specs.Links.{Net, net, returning, return_edge, stop_for}
use Rattle.agrees.specs.Lists.{up_to, each_number}
use Rattle.tables.specs.Words.{number_of, number_at}
use Rattle.atn.specs.Records.{no_edge, edge_at}
use Rattle.rewriting.specs.Formed.{natural, args_read}
use Rattle.rewriting.specs.Tests.{lie, both, left, right}
use Rattle.rewriting.specs.Fine.{states_in, edges_in, rules_of, at}
use Rattle.rewriting.specs.Checks.{row, Joined, edge-tests, chained}
use Rattle.rewriting.specs.Held.{derived-along}
use Rattle.wiring.specs.Given.{rows-states, rows-edges, states_long, edges_long, edge_is, state_word_lem, edge_word, edge-number}
use Rattle.wiring.specs.Returns.{is_return, met, met_on, met_along, met_from, returns_fine}
use Rattle.wiring.specs.Joined.{returns-at}

-- ---- edges that are met one after another

-- By type, source and target.
abbrev alike : Edge → Edge → Bool
alike x y = eqb x.kind y.kind && eqb x.source y.source && eqb x.target y.target

-- Behind the edges l, if they are those from j on; else behind all edges, and one further.
abbrev behind : List Edge → List Edge → ℕ → ℕ
behind es [] j = j
behind es (x ∷ l) j = behind es l (pick (ltb j (length es) && alike (edge_at es j) x) (j + 1) (length es + 1))

behind-append : (es l m : List Edge) (j : ℕ) → behind es (l ++ m) j ≡ behind es m (behind es l j)
behind-append es [] m j = refl
behind-append es (x ∷ l) m j = behind-append es l m (pick (ltb j (length es) && alike (edge_at es j) x) (j + 1) (length es + 1))

module _ (es : List Edge) where
  -- once it is further, it stays so
  behind_far : (l : List Edge) → behind es l (length es + 1) ≡ length es + 1
  behind_far [] = refl
  behind_far (x ∷ l) = rw (let h : ltb (length es + 1) (length es) ≡ false = go (ltb (length es + 1) (length es)) refl in h) (behind_far l)
    where
      go : (b : Bool) → ltb (length es + 1) (length es) ≡ b → b ≡ false
      go true h = absurd (omega (arith, ltb-true (length es + 1) (length es) h))
      go false h = refl

  -- edges of one type, with no arguments, that are alike are the same
  module _ (Plain : Edge → Type 0) (one : (j : ℕ) (x : Edge) → j < length es → Plain x → alike (edge_at es j) x ≡ true → edge_at es j ≡ x) where
    pub behind_exactly : (l : List Edge) (j : ℕ) → Every Plain l → j ≤ length es → behind es l j ≡ length es ↔ (l ≡ drop j es)
    behind_exactly [] j p h = (
      (λ e. sym (rw e (drop-length es))),
      (λ e. let z : 0 ≡ length (drop j es) = ap length e in omega (arith, length-drop j es)),
    )
    behind_exactly (x ∷ l) j p h = go (ltb j (length es)) refl (alike (edge_at es j) x) refl (λ k. behind_exactly l (j + 1) p.1 k)
      where
        next : j < length es → drop j es ≡ edge_at es j ∷ drop (j + 1) es
        next k = let z : suc j ≡ j + 1 = omega arith in drop-cons es j no_edge k ∙ ap (λ (i : ℕ). edge_at es j ∷ drop i es) z

        go : (b : Bool) → ltb j (length es) ≡ b → (c : Bool) → alike (edge_at es j) x ≡ c → (j + 1 ≤ length es → behind es l (j + 1) ≡ length es ↔ (l ≡ drop (j + 1) es))
            → behind es l (pick (b && c) (j + 1) (length es + 1)) ≡ length es ↔ (x ∷ l ≡ drop j es)
        go true q true r ih =
            let k = ltb-true j (length es) q in
            let i = ih (omega arith) in
            let same = one j x k p.0 r in (
              (λ e. let z = i.0 e in (λ t. sym same t ∷ z t) ∙ sym (next k)),
              (λ e. i.1 (ap (λ (z : List Edge). drop 1 z) (e ∙ next k))),
            )
        go true q false r ih =
            let k = ltb-true j (length es) q in (
              (λ e. absurd (omega (arith, e, behind_far l))),
              (λ e. let z : x ≡ edge_at es j = ap (λ (z : List Edge). edge_at z 0) (e ∙ next k) in lie (sym r ∙ ap (alike (edge_at es j)) z ∙ both (both (eq-eqb (edge_at es j).kind (edge_at es j).kind refl) (eq-eqb (edge_at es j).source (edge_at es j).source refl)) (eq-eqb (edge_at es j).target (edge_at es j).target refl))),
            )
        go false q c r ih = (
          (λ e. absurd (omega (arith, e, behind_far l))),
          (λ e. let z : suc (length l) ≡ length (drop j es) = ap length e in absurd (omega (arith, length-drop j es, ltb-false j (length es) q))),
        )

each-those : {B : Type 0} (p : ℕ → Bool) (g : ℕ → List B) (l : List ℕ) → each (λ i. pick (p i) (g i) []) l ≡ each g (those p l)
each-those p g [] = refl
each-those {B} p g (i ∷ l) = go (p i) (each-those p g l)
  where
    go : (b : Bool) → each (λ i. pick (p i) (g i) []) l ≡ each g (those p l) → pick b (g i) [] ++ each (λ i. pick (p i) (g i) []) l ≡ each g (pick b (i ∷ those p l) (those p l))
    go true e = ap (λ x. g i ++ x) e
    go false e = e

-- ---- return edges are bare: of type 1, and without arguments

pub record Bare (e : Edge) : Type 0 where
  pub kind : e.kind ≡ 1
  pub p : e.p ≡ pos 0
  pub q : e.q ≡ pos 0
  pub r : e.r ≡ pos 0

bare-one : (b : Bool) (s t : ℕ) → Every Bare (pick b (edge_of 1 s t (pos 0) (pos 0) (pos 0) ∷ []) [])
bare-one true s t = (record { kind = refl; p = refl; q = refl; r = refl }, tt)
bare-one false s t = tt

derived-bare : (ss : List State) (k : ℕ) (l : List Edge) → Every Bare (derived ss k l)
unfolding derived
derived-bare ss k l =
    every-each Bare (λ s. each (returns ss k) (leaving l s)) (numbers (λ s. true) ss)
    (λ s. every-each Bare (returns ss k) (leaving l s)
    (λ e. let R = (state_at ss e.target).rule in bare-one (eqb e.kind 3 && ltb e.target (length ss) && stops ss k R) (size (stop_of ss R)) (size e.q)))

-- an edge of type 1 that can be read is
read-bare : (k : ℕ) (e : Edge) → args_read k e ≡ true → e.kind ≡ 1 → Bare e
read-bare k e r h =
    let a = same e.p (pos 0) in
    let b = same e.q (pos 0) in
    let c = same e.r (pos 0) in
    let x : (a && b && c) ≡ true = subst (λ (j : ℕ). args_read k (edge_of j e.source e.target e.p e.q e.r) ≡ true) h r in
    let y = left (a && b) c x in
    record { kind = h; p = same_true e.p (pos 0) (left a b y); q = same_true e.q (pos 0) (right a b y); r = same_true e.r (pos 0) (right (a && b) c x) }

-- ---- the walk

module _ (tables : Table → List ℤ) (counts : Table → ℕ) (w : Joined (given tables counts)) (o : ℕ) (within : o ≤ counts Edges) where
  abbrev T : Table → List (List ℤ)
  T = given tables counts

  abbrev es : List Edge
  es = edges_in T

  abbrev ss : List State
  ss = states_in T

  -- What the edge i is followed by.
  abbrev mine : ℕ → List Edge
  mine i = pick (ltb i o) (returns ss (rules_of T) (edge_at es i)) []

  long : length es ≡ counts Edges
  long = edges_long tables counts

  -- ---- words of edges

  tests : (i : ℕ) → i < counts Edges → (natural (at T Edges i ed_kind) ≡ true) × (natural (at T Edges i ed_source) ≡ true) × (natural (at T Edges i ed_target) ≡ true) × (cell_size (row T Edges i) ed_source < length (T States))
  tests i h = edge-tests T (pos 0) w i (omega (arith, rows-edges tables counts))

  is_alike : (j stop follow : ℕ) → j < counts Edges → is_return (tables Edges) j stop follow ≡ alike (edge_at es j) (edge_of 1 stop follow (pos 0) (pos 0) (pos 0))
  is_alike j stop follow h =
      let t = tests j h in
      let k0 = edge-number tables counts j ed_kind h (omega arith) t.0 in
      let k1 = edge-number tables counts j ed_source h (omega arith) t.1 in
      let k2 = edge-number tables counts j ed_target h (omega arith) t.2 in
      (λ i. eqb (k0 i) 1 && eqb (k1 i) stop && eqb (k2 i) follow)
      ∙ ap (λ (x : Edge). alike x (edge_of 1 stop follow (pos 0) (pos 0) (pos 0))) (sym (edge_is tables counts j))

  -- ---- one edge, one chain, all chains

  met_is : (e j : ℕ) → e < counts Edges → met (counts States) (counts Edges) (counts Rules) (tables States) (tables Edges) (tables Rules) o e j ≡ behind es (mine e) j
  unfolding met
  met_is e j h = go (ltb e o) ∙ ap (λ (l : List Edge). behind es (pick (ltb e o) l []) j) (sym (returns-at tables counts w e h))
    where
      N : Net
      N = net (tables States) (tables Edges)

      back : Bool
      back = returning (counts States) (counts Rules) (tables Rules) N e

      here : Bool
      here = is_return (tables Edges) j (size (stop_for (tables Rules) N e)) (size (word_of 8 (tables Edges) e ed_q))

      there : (b : Bool) → ltb j (counts Edges) ≡ b → pick (b && here) (j + 1) (counts Edges + 1) ≡ pick (ltb j (length es) && alike (edge_at es j) (return_edge (tables Rules) N e)) (j + 1) (length es + 1)
      there true q =
          (λ i. pick (is_alike j (size (stop_for (tables Rules) N e)) (size (word_of 8 (tables Edges) e ed_q)) (ltb-true j (counts Edges) q) i) (j + 1) (sym long i + 1))
          ∙ ap (λ (b : Bool). pick (b && alike (edge_at es j) (return_edge (tables Rules) N e)) (j + 1) (length es + 1)) (sym (ap (ltb j) long ∙ q))
      there false q =
          ap (λ (i : ℕ). i + 1) (sym long)
          ∙ ap (λ (b : Bool). pick (b && alike (edge_at es j) (return_edge (tables Rules) N e)) (j + 1) (length es + 1)) (sym (ap (ltb j) long ∙ q))

      step : (r : Bool) → pick r (pick (ltb j (counts Edges) && here) (j + 1) (counts Edges + 1)) j ≡ behind es (pick r (return_edge (tables Rules) N e ∷ []) []) j
      step true = there (ltb j (counts Edges)) refl
      step false = refl

      go : (b : Bool) → pick (b && back) (pick (ltb j (counts Edges) && here) (j + 1) (counts Edges + 1)) j ≡ behind es (pick b (pick back (return_edge (tables Rules) N e ∷ []) []) []) j
      go true = step back
      go false = refl

  on_is : (s left i j : ℕ) → i + left ≡ length (chain es s)
      → met_on (counts States) (counts Edges) (counts Rules) (tables States) (tables Edges) (tables Rules) o left (number_of (first (drop i (chain es s)))) j ≡ behind es (each mine (drop i (chain es s))) j
  unfolding met_on
  on_is s zero i j q = let e : i ≡ length (chain es s) = omega arith in sym (rw (e, drop-length (chain es s)) refl)
  on_is s (suc left) i j q =
      let h : i < length (chain es s) = omega arith in
      let e = get_or (chain es s) i 0 in
      let x = (chain_are es s e).0 (at_mem i (chain es s) h) in
      let k : e < counts Edges = omega (arith, x.0, long) in
      let nx : number_at (tables Edges) (8 * e + ed_next) ≡ number_of (first (drop (suc i) (chain es s))) =
      ap number_of (edge_word tables counts e ed_next k (omega arith)
      ∙ (chained T (pos 0) w).next_edge e x.0
      ∙ ap (λ (t : ℕ). next es t e) x.1
      ∙ next_in_lem es s i h) in
      ap (λ (l : List ℕ). met_on (counts States) (counts Edges) (counts Rules) (tables States) (tables Edges) (tables Rules) o (suc left) (number_of (first l)) j) (drop-cons (chain es s) i 0 h)
      ∙ rw (lt-ltb e (counts Edges) k, nx, met_is e j k) (on_is s left (suc i) (behind es (mine e) j) (omega arith))
      ∙ sym (behind-append es (mine e) (each mine (drop (suc i) (chain es s))) j)
      ∙ ap (λ (l : List ℕ). behind es (each mine l) j) (sym (drop-cons (chain es s) i 0 h))

  along_is : (s j : ℕ) → s < counts States → met_along (counts States) (counts Edges) (counts Rules) (tables States) (tables Edges) (tables Rules) o s j ≡ behind es (each mine (chain es s)) j
  along_is s j h =
      let k : s < length (T States) = omega (arith, rows-states tables counts) in
      let c = chained T (pos 0) w in
      let f = state_word_lem tables counts s st_first h (omega arith) ∙ c.first_edge s k in
      let z = state_word_lem tables counts s st_count h (omega arith) ∙ c.edge_count s k in
      (λ i. met_on (counts States) (counts Edges) (counts Rules) (tables States) (tables Edges) (tables Rules) o (size (z i)) (number_of (f i)) j)
      ∙ on_is s (length (chain es s)) 0 j (omega arith)

  from_is : (s : ℕ) → s ≤ counts States → met_from (counts States) (counts Edges) (counts Rules) (tables States) (tables Edges) (tables Rules) o s ≡ behind es (up_to (λ s. each mine (chain es s)) s) o
  unfolding met_from
  from_is zero h = refl
  from_is (suc s) h =
      along_is s (met_from (counts States) (counts Edges) (counts Rules) (tables States) (tables Edges) (tables Rules) o s) h
      ∙ ap (behind es (each mine (chain es s))) (from_is s (omega arith))
      ∙ sym (behind-append es (up_to (λ s. each mine (chain es s)) s) (each mine (chain es s)) o)

  -- what the walk meets are the derived edges
  meets-derived : up_to (λ s. each mine (chain es s)) (counts States) ≡ derived ss (rules_of T) (take o es)
  meets-derived =
      ap (up_to (λ s. each mine (chain es s))) (sym (states_long tables counts))
      ∙ sym (each_number (λ s. each mine (chain es s)) ss)
      ∙ ap (λ (f : ℕ → List Edge). each f (numbers (λ s. true) ss)) (λ i s. each-those (λ j. ltb j o) (λ j. returns ss (rules_of T) (edge_at es j)) (chain es s) i)
      ∙ sym (derived-along ss (rules_of T) es o (omega (arith, within, long)))

  -- a return edge has no arguments, and neither has an edge of its type
  plain-same : (j : ℕ) (x : Edge) → j < length es → Bare x → alike (edge_at es j) x ≡ true → edge_at es j ≡ x
  plain-same j x h b e =
      let k = eqb (edge_at es j).kind x.kind in
      let s = eqb (edge_at es j).source x.source in
      let t = eqb (edge_at es j).target x.target in
      let y = left (k && s) t e in
      let p0 = eqb-true (edge_at es j).kind x.kind (left k s y) in
      let p1 = eqb-true (edge_at es j).source x.source (right k s y) in
      let p2 = eqb-true (edge_at es j).target x.target (right (k && s) t e) in
      let read = ap (args_read (length (T Sets))) (edge_is tables counts j) ∙ w.arguments j (omega (arith, long, rows-edges tables counts)) in
      let c = read-bare (length (T Sets)) (edge_at es j) read (p0 ∙ b.kind) in
      λ i. edge_of (p0 i) (p1 i) (p2 i) ((c.p ∙ sym b.p) i) ((c.q ∙ sym b.q) i) ((c.r ∙ sym b.r) i)

  pub returns_exactly : returns_fine (counts States) (counts Edges) (counts Rules) (tables States) (tables Edges) (tables Rules) o ≡ true ↔ (derived ss (rules_of T) (take o es) ≡ drop o es)
  returns_exactly =
      let q = behind_exactly es Bare plain-same (derived ss (rules_of T) (take o es)) o (derived-bare ss (rules_of T) (take o es)) (omega (arith, within, long)) in
      let e = from_is (counts States) (omega arith) ∙ ap (λ (l : List Edge). behind es l o) meets-derived in (
        (λ h. q.0 (sym e ∙ eqb-true _ (counts Edges) h ∙ sym long)),
        (λ h. eq-eqb _ (counts Edges) (e ∙ q.1 h ∙ long)),
      )
