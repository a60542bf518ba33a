-- Document 01, "The mark is 2 exactly if the follow state is safe": the table of edges with its marks, and how they are found.
use Rattle.std.specs.Prelude.{◌≡◌, refl, Bool, true, false, List, [], ◌∷◌, ◌↔◌, ℕ, zero, suc, ◌+◌, ◌*◌, ◌≤◌, ◌<◌, ◌^◌, ℤ, pos, length, set, drop}
use Rattle.std.proofs.Common.{sym, ap, ◌∙◌, subst, arith, add-one, length-set, drop-cons, get_or-set_other}
use Rattle.format.specs.Reading.{pick}
use Rattle.format.specs.Sections.{State, Edge, size}
use Rattle.format.specs.Links.{tail}
use Rattle.laws.specs.Safe.{TailCall, tail_call}
use Rattle.laws.specs.Own.{Own, tail-own}
use Rattle.tables.specs.Words.{number_of, number_at, number-one}
use Rattle.atn.specs.Records.{states_of, edges_of, no_edge, edge_at, Chained, Stopped, Linked, edges_are, linked_of}
use Rattle.atn.specs.Own.{rule_at}
use Rattle.atn.specs.Search.{Idle}
use Rattle.atn.specs.Visits.{rule-small}

-- The words of edges from number i on, with the mark 2 where the test says so.
abbrev pub mark_from : (Edge → Bool) → ℕ → List Edge → List ℤ → List ℤ
mark_from t i [] ed = ed
mark_from t i (e ∷ es) ed = mark_from t (i + 1) es (pick (t e) (set ed (8 * i + 6) (pos 2)) ed)

-- The table ed of m edges, with the mark 2 on every tail call; n states stand in st, and there are k rules.
unfoldable pub marked : ℕ → ℕ → ℕ → List ℤ → List ℤ → List ℤ
marked n k m st ed = let es = edges_of m ed in mark_from (tail (states_of n st) k es) 0 es ed

-- ---- one edge after the other

module _ (t : Edge → Bool) (es : List Edge) (i : ℕ) (ed : List ℤ) where
  mark_turn : (b : Bool) → b ≡ t (edge_at es i) → i < length es → mark_from t i (drop i es) ed ≡ mark_from t (i + 1) (drop (i + 1) es) (pick b (set ed (8 * i + 6) (pos 2)) ed)
  mark_turn b e h =
      let p = sym (add-one i) in
      let q = sym e in
      ap (λ (l : List Edge). mark_from t i l ed) (drop-cons es i no_edge h) ∙ (λ j. mark_from t (i + 1) (drop (p j) es) (pick (q j) (set ed (8 * i + 6) (pos 2)) ed))

  mark_end : length es ≤ i → mark_from t i (drop i es) ed ≡ ed
  mark_end h = ap (λ (l : List Edge). mark_from t i l ed) (none es i h)
    where
      none : (l : List Edge) (j : ℕ) → length l ≤ j → drop j l ≡ []
      none [] zero h = refl
      none [] (suc j) h = refl
      none (x ∷ l) zero h = absurd (omega arith)
      none (x ∷ l) (suc j) h = none l j (omega arith)

-- marks are no part of what the tables hold
chained-marked : {ss : List State} {es : List Edge} {n m : ℕ} {st ed : List ℤ} → Chained ss es n m st ed → (i : ℕ) (z : ℤ) → Chained ss es n m st (set ed (8 * i + 6) z)
chained-marked {ed = ed} C i z =
    record {
      all-states = C.all-states;
      all_edges = C.all_edges;
      few_states = C.few_states;
      few_edges = C.few_edges;
      states_long = C.states_long;
      edges_long = omega (arith, C.edges_long, length-set ed (8 * i + 6) z);
      states = C.states;
      edges = λ j h.
          let w = C.edges j h in
          record {
            kind = get_or-set_other ed (8 * i + 6) (8 * j) z (pos 0) (λ q. omega arith) ∙ w.kind;
            source = get_or-set_other ed (8 * i + 6) (8 * j + 1) z (pos 0) (λ q. omega arith) ∙ w.source;
            target = get_or-set_other ed (8 * i + 6) (8 * j + 2) z (pos 0) (λ q. omega arith) ∙ w.target;
            p = get_or-set_other ed (8 * i + 6) (8 * j + 3) z (pos 0) (λ q. omega arith) ∙ w.p;
            q = get_or-set_other ed (8 * i + 6) (8 * j + 4) z (pos 0) (λ q. omega arith) ∙ w.q;
            r = get_or-set_other ed (8 * i + 6) (8 * j + 5) z (pos 0) (λ q. omega arith) ∙ w.r;
            onward = get_or-set_other ed (8 * i + 6) (8 * j + 7) z (pos 0) (λ q. omega arith) ∙ w.onward;
            listed = w.listed;
            follow = w.follow;
          };
    }

-- The loop over the edges: ed₀ came, ed is there, and the edges from number i on are still to be marked.
pub record Marking (n m k : ℕ) (st ed₀ ed : List ℤ) (i : ℕ) : Type 0 where
  pub near : i ≤ m
  pub size : length ed ≡ length ed₀
  pub chained : Chained (states_of n st) (edges_of m ed₀) n m st ed
  pub rest : marked n k m st ed₀ ≡ mark_from (tail (states_of n st) k (edges_of m ed₀)) i (drop i (edges_of m ed₀)) ed

pub marking_starts : {n m k : ℕ} {st ed : List ℤ} → Chained (states_of n st) (edges_of m ed) n m st ed → Marking n m k st ed ed 0
unfolding marked
marking_starts C = record { near = omega arith; size = refl; chained = C; rest = refl }

module _ {n m k : ℕ} {st ed₀ ed : List ℤ} {i : ℕ} (M : Marking n m k st ed₀ ed i) where
  abbrev ss : List State
  ss = states_of n st

  pub now_linked : {ru : List ℤ} → Stopped ss k ru → Linked st ed ru n m k
  now_linked S = linked_of M.chained S

  pub now_idle : {sc : List ℤ} → Idle ss k (edges_of m ed₀) sc → Idle ss k (edges_of m ed) sc
  now_idle {sc} r = subst (λ (l : List Edge). Idle ss k l sc) (sym (edges_are M.chained)) r

  pub then_idle : {sc : List ℤ} → Idle ss k (edges_of m ed) sc → Idle ss k (edges_of m ed₀) sc
  then_idle {sc} r = subst (λ (l : List Edge). Idle ss k l sc) (edges_are M.chained) r

  pub marking_turns : (b : Bool) → b ≡ tail ss k (edges_of m ed) (edge_at (edges_of m ed) i) → i < m → Marking n m k st ed₀ (pick b (set ed (8 * i + 6) (pos 2)) ed) (i + 1)
  marking_turns b e h =
      let q = edges_are M.chained in
      let e' : b ≡ tail ss k (edges_of m ed₀) (edge_at (edges_of m ed₀) i) = e ∙ ap (λ (l : List Edge). tail ss k l (edge_at l i)) q in
      record {
        near = omega arith;
        size = long b ∙ M.size;
        chained = kept b;
        rest = M.rest ∙ mark_turn (tail ss k (edges_of m ed₀)) (edges_of m ed₀) i ed b e' (omega (arith, M.chained.all_edges));
      }
    where
      long : (b : Bool) → length (pick b (set ed (8 * i + 6) (pos 2)) ed) ≡ length ed
      long true = length-set ed (8 * i + 6) (pos 2)
      long false = refl

      kept : (b : Bool) → Chained ss (edges_of m ed₀) n m st (pick b (set ed (8 * i + 6) (pos 2)) ed)
      kept true = chained-marked M.chained i (pos 2)
      kept false = M.chained

  pub marking_ends : m ≤ i → ed ≡ marked n k m st ed₀
  marking_ends h = sym (M.rest ∙ mark_end (tail ss k (edges_of m ed₀)) (edges_of m ed₀) i ed (omega (arith, M.chained.all_edges)))

-- ---- whether an edge is a tail call, by the words and the search

module _ (ss : List State) (k : ℕ) (es : List Edge) (e : Edge) where
  no_tail : (TailCall ss k es e → ⊥) → tail ss k es e ≡ false
  no_tail n = go (tail ss k es e) refl
    where
      go : (b : Bool) → tail ss k es e ≡ b → b ≡ false
      go true q = absurd (n ((tail_call ss k es e).0 q))
      go false q = refl

  -- an edge of another type is none
  pub no_rule-edge : (e.kind ≡ 3 → ⊥) → tail ss k es e ≡ false
  no_rule-edge n = no_tail (λ t. n t.rule-edge)

module _ {ss : List State} {es : List Edge} {n m : ℕ} {st ed : List ℤ} (C : Chained ss es n m st ed) {i : ℕ} (h : i < m) where
  kind_number : number_at ed (8 * i) ≡ (edge_at es i).kind
  kind_number = ap number_of (C.edges i h).kind

  source_number : number_at ed (8 * i + 1) ≡ (edge_at es i).source
  source_number = ap number_of (C.edges i h).source

  pub source_listed : number_at ed (8 * i + 1) < n
  source_listed = omega (arith, source_number, (C.edges i h).listed)

  pub tail-typed : (k kind : ℕ) → kind ≡ number_at ed (8 * i) → (kind ≡ 3 → ⊥) → tail ss k es (edge_at es i) ≡ false
  tail-typed k kind e f = no_rule-edge ss k es (edge_at es i) (λ q. f (e ∙ kind_number ∙ q))

-- The edge i is a rule edge with the follow state f, by its words.
pub record Follows (ss : List State) (es : List Edge) (n m k : ℕ) (st ed : List ℤ) (i f : ℕ) : Type 0 where
  pub chained : Chained ss es n m st ed
  pub few_rules : k < 2 ^ 31
  pub listed : i < m
  pub kind_is : number_at ed (8 * i) ≡ 3
  pub follow_is : f ≡ number_at ed (8 * i + 4)

module _ {ss : List State} {es : List Edge} {n m k : ℕ} {st ed : List ℤ} {i f : ℕ} (F : Follows ss es n m k st ed i f) where
  abbrev e : Edge
  e = edge_at es i

  rule-edge : e.kind ≡ 3
  rule-edge = sym (kind_number F.chained F.listed) ∙ F.kind_is

  follows : f ≡ size e.q
  follows = let w = F.chained.edges i F.listed in F.follow_is ∙ ap number_of (w.q ∙ w.follow rule-edge)

  -- what a tail call says of the follow state
  tail_says : TailCall ss k es e → (rule_at ss f ≡ rule_at ss e.source) × Own ss k es f
  tail_says t = let x = (tail-own ss k es e).0 t in (ap (rule_at ss) follows ∙ x.1, subst (Own ss k es) (sym follows) x.2)

  pub tail_unlisted : n ≤ f → tail ss k es e ≡ false
  tail_unlisted l = no_tail ss k es e (λ t. omega (arith, (tail_says t).1.listed, F.chained.all-states))

  module _ (l : f < n) (s ours theirs : ℕ) (source_is : s ≡ number_at ed (8 * i + 1)) (has : ours ≡ number_at st (8 * s + 1)) (has' : theirs ≡ number_at st (8 * f + 1)) where
    ours_is : ours ≡ number_of (rule_at ss e.source)
    ours_is =
        has
        ∙ ap (λ (u : ℕ). number_at st (8 * u + 1)) (source_is ∙ source_number F.chained F.listed)
        ∙ ap number_of (F.chained.states e.source (F.chained.edges i F.listed).listed).rule

    theirs_is : theirs ≡ number_of (rule_at ss f)
    theirs_is = has' ∙ ap number_of (F.chained.states f l).rule

    pub tail_elsewhere : (ours ≡ theirs → ⊥) → tail ss k es e ≡ false
    tail_elsewhere n = no_tail ss k es e (λ t. n (ours_is ∙ ap number_of (sym (tail_says t).0) ∙ sym theirs_is))

    pub tail_decided : ours ≡ theirs → (b : Bool) → b ≡ true ↔ Own ss k es f → b ≡ tail ss k es e
    tail_decided q b d = go b d
      where
        yes : Own ss k es f → TailCall ss k es e
        yes o =
            let one = number-one (rule_at ss e.source) (rule_at ss f) (sym ours_is ∙ q ∙ theirs_is) (omega (arith, F.few_rules, rule-small ss k (rule_at ss f) F.few_rules o.ends)) in
            (tail-own ss k es e).1 (rule-edge, ap (rule_at ss) (sym follows) ∙ sym one, subst (Own ss k es) follows o)

        clash : false ≡ true → ⊥
        clash p = let z : ◌≡◌ {A = ℕ} 0 1 = cc in omega arith

        go : (b : Bool) → b ≡ true ↔ Own ss k es f → b ≡ tail ss k es e
        go true d = sym ((tail_call ss k es e).1 (yes (d.0 refl)))
        go false d = sym (no_tail ss k es e (λ t. clash (d.1 (tail_says t).1)))
