-- The states and the edges that lent tables hold (document 01, "Lent tables"), and what `identify_tail_calls` asks of the tables.
use Rattle.std.specs.Prelude.{◌≡◌, refl, List, [], ◌∷◌, ℕ, zero, suc, ◌+◌, ◌*◌, ◌≤◌, ◌<◌, ◌^◌, ℤ, pos, length, get_or}
use Rattle.std.proofs.Common.{sym, ap, ◌∙◌, arith, ext_get_or}
use Rattle.format.specs.Sections.{State, Edge, state_of, edge_of, none, size}
use Rattle.format.specs.Links.{first, chain, next, state_at, stop_of}

-- ---- records, read off the words

-- n of them, from number i on.
abbrev pub rows : {A : Type 0} → (ℕ → A) → ℕ → ℕ → List A
rows f i zero = []
rows f i (suc n) = f i ∷ rows f (i + 1) n

-- "type, rule, block end, loop back, .."
abbrev pub state_in : List ℤ → ℕ → State
state_in st s = state_of (size (get_or st (8 * s) (pos 0))) (get_or st (8 * s + 1) (pos 0)) (get_or st (8 * s + 2) (pos 0)) (get_or st (8 * s + 3) (pos 0))

-- "type, source, target, p, q, r, .."
abbrev pub edge_in : List ℤ → ℕ → Edge
edge_in ed i =
    edge_of (size (get_or ed (8 * i) (pos 0))) (size (get_or ed (8 * i + 1) (pos 0))) (size (get_or ed (8 * i + 2) (pos 0)))
    (get_or ed (8 * i + 3) (pos 0)) (get_or ed (8 * i + 4) (pos 0)) (get_or ed (8 * i + 5) (pos 0))

abbrev pub states_of : ℕ → List ℤ → List State
states_of n st = rows (state_in st) 0 n

abbrev pub edges_of : ℕ → List ℤ → List Edge
edges_of m ed = rows (edge_in ed) 0 m

abbrev pub no_state : State
no_state = state_of 0 none none none

abbrev pub no_edge : Edge
no_edge = edge_of 0 0 0 (pos 0) (pos 0) (pos 0)

abbrev pub edge_at : List Edge → ℕ → Edge
edge_at es i = get_or es i no_edge

-- ---- tables that fit together

-- The words of the state s, but for its flags and its last edge.
pub record StateWords (ss : List State) (es : List Edge) (st : List ℤ) (s : ℕ) : Type 0 where
  pub kind : get_or st (8 * s) (pos 0) ≡ pos (state_at ss s).kind
  pub rule : get_or st (8 * s + 1) (pos 0) ≡ (state_at ss s).rule
  pub end : get_or st (8 * s + 2) (pos 0) ≡ (state_at ss s).end
  pub back : get_or st (8 * s + 3) (pos 0) ≡ (state_at ss s).back
  pub starts : get_or st (8 * s + 5) (pos 0) ≡ first (chain es s)
  pub count : get_or st (8 * s + 7) (pos 0) ≡ pos (length (chain es s))

-- The words of the edge i, but for its mark. Its source is listed, and a rule edge has a follow state.
pub record EdgeWords (n : ℕ) (es : List Edge) (ed : List ℤ) (i : ℕ) : Type 0 where
  pub kind : get_or ed (8 * i) (pos 0) ≡ pos (edge_at es i).kind
  pub source : get_or ed (8 * i + 1) (pos 0) ≡ pos (edge_at es i).source
  pub target : get_or ed (8 * i + 2) (pos 0) ≡ pos (edge_at es i).target
  pub p : get_or ed (8 * i + 3) (pos 0) ≡ (edge_at es i).p
  pub q : get_or ed (8 * i + 4) (pos 0) ≡ (edge_at es i).q
  pub r : get_or ed (8 * i + 5) (pos 0) ≡ (edge_at es i).r
  pub onward : get_or ed (8 * i + 7) (pos 0) ≡ next es (edge_at es i).source i
  pub listed : (edge_at es i).source < n
  pub follow : (edge_at es i).kind ≡ 3 → (edge_at es i).q ≡ pos (size (edge_at es i).q)

-- st and ed hold the n states ss and the m edges es, chained.
pub record Chained (ss : List State) (es : List Edge) (n m : ℕ) (st ed : List ℤ) : Type 0 where
  pub all-states : length ss ≡ n
  pub all_edges : length es ≡ m
  pub few_states : n < 2 ^ 31
  pub few_edges : m < 2 ^ 31
  pub states_long : 8 * n ≤ length st
  pub edges_long : 8 * m ≤ length ed
  pub states : (s : ℕ) → s < n → StateWords ss es st s
  pub edges : (i : ℕ) → i < m → EdgeWords n es ed i

-- ru holds the stops of k rules.
pub record Stopped (ss : List State) (k : ℕ) (ru : List ℤ) : Type 0 where
  pub few_rules : k < 2 ^ 31
  pub rules_long : 3 * k ≤ length ru
  pub stops_at : (R : ℕ) → R < k → get_or ru (3 * R + 1) (pos 0) ≡ stop_of ss (pos R)

-- The tables of n states, m edges and k rules are linked as document 01 says.
pub record Linked (st ed ru : List ℤ) (n m k : ℕ) : Type 0 where
  pub chained : Chained (states_of n st) (edges_of m ed) n m st ed
  pub stopped : Stopped (states_of n st) k ru

-- ---- laws

module _ {A : Type 0} (f : ℕ → A) where
  pub rows_long : (i n : ℕ) → length (rows f i n) ≡ n
  rows_long i zero = refl
  rows_long i (suc n) = ap suc (rows_long (i + 1) n)

  rows_at : (i n j : ℕ) (d : A) → j < n → get_or (rows f i n) j d ≡ f (i + j)
  rows_at i zero j d h = absurd (omega arith)
  rows_at i (suc n) zero d h = ap f (omega arith)
  rows_at i (suc n) (suc j) d h = rows_at (i + 1) n j d (omega arith) ∙ ap f (omega arith)

  -- rows that are a list's members are the list
  rows_are : (l : List A) (n : ℕ) (d : A) → length l ≡ n → ((j : ℕ) → j < n → f j ≡ get_or l j d) → rows f 0 n ≡ l
  rows_are l n d e h =
      ext_get_or d (rows f 0 n) l (rows_long 0 n ∙ sym e)
      (λ j k. let b : j < n = omega (arith, rows_long 0 n) in rows_at 0 n j d b ∙ ap f (omega arith) ∙ h j b)

pub state-at : (n : ℕ) (st : List ℤ) (s : ℕ) → s < n → state_at (states_of n st) s ≡ state_in st s
state-at n st s h = rows_at (state_in st) 0 n s no_state h ∙ ap (state_in st) (omega arith)

module _ {ss : List State} {es : List Edge} {n m : ℕ} {st ed : List ℤ} (C : Chained ss es n m st ed) where
  pub states_are : states_of n st ≡ ss
  states_are =
      rows_are (state_in st) ss n no_state C.all-states
      (λ s h. let w = C.states s h in λ i. state_of (size (w.kind i)) (w.rule i) (w.end i) (w.back i))

  pub edges_are : edges_of m ed ≡ es
  edges_are =
      rows_are (edge_in ed) es m no_edge C.all_edges
      (λ s h. let w = C.edges s h in λ i. edge_of (size (w.kind i)) (size (w.source i)) (size (w.target i)) (w.p i) (w.q i) (w.r i))

  -- tables that hold some states and edges, chained, and their stops, are linked
  pub linked_of : {k : ℕ} {ru : List ℤ} → Stopped ss k ru → Linked st ed ru n m k
  linked_of {k} {ru} S =
      record {
        chained = rw (states_are, edges_are) C;
        stopped = rw states_are S;
      }
