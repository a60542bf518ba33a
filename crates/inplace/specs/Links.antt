-- Edges, chained as they come; return edges; precedence decisions. A stored number that is followed is tested first.
use Rattle.std.specs.Prelude.{List, Bool, ◌&&◌, ℕ, zero, suc, ◌+◌, ◌/◌, ◌%◌, ltb, eqb, ℤ, pos}
use Rattle.format.specs.Reading.{Edges, Prog, done, need, spot, here, ◌>>=◌, pick, count}
use Rattle.format.specs.Sections.{Edge, edge_of, same, size, bit, edge}
use Rattle.format.specs.Links.{names}
use Rattle.format.specs.declared.Counts.{Counts}
use Rattle.laws.specs.Running.{turns}
use Rattle.laws.specs.Collect.{put}
use Rattle.inplace.specs.Held.{Held, with}
use Rattle.inplace.specs.Rows.{word_of, stored, flag_at, one_more, edge_row}
use Rattle.inplace.specs.Sections.{counted}

-- The states' table and the edges'.
pub record Net : Type 0 where
  pub states : List ℤ
  pub edges : List ℤ

abbrev pub net : List ℤ → List ℤ → Net
net st ed = record { states = st; edges = ed }

-- ---- chains

-- The edge i becomes the last of the chain of the state s: the next of the last before it, or else the first; the last; one more.
abbrev pub first_or : ℕ → ℕ → Net → Net
first_or i s t =
    pick (names i (word_of 8 t.states s 6))
    (net t.states (stored 8 t.edges (size (word_of 8 t.states s 6)) 7 (pos i)))
    (net (stored 8 t.states s 5 (pos i)) t.edges)

abbrev pub last_of : ℕ → ℕ → Net → Net
last_of i s t =
    let u = stored 8 t.states s 6 (pos i) in
    net (stored 8 u s 7 (one_more (word_of 8 u s 7))) t.edges

unfoldable pub chained : ℕ → ℕ → Net → Net
chained i s t = last_of i s (first_or i s t)

-- The edge e as the i-th record, with its mark, and chained.
abbrev pub linked : ℕ → ℕ → Edge → Net → Net
linked i mark e t = chained i e.source (net t.states (put 8 i (edge_row mark e) t.edges))

-- ---- the edges that are read

unfoldable pub edge_one : ℕ → ℕ → ℕ → Net → Prog Net
edge_one nstates nsets i t = edge nstates nsets i >>= (λ e. done (linked i 0 e t))

abbrev pub edges_end : Counts → ℕ → Net → Prog (Held Net)
edges_end c n t = here (λ p. done (with (counted Edges c n p) t))

abbrev pub edges_from : Held Net → ℕ → Prog (Held Net)
edges_from h n = turns n 0 (edge_one h.counts.states h.counts.sets) h.table >>= edges_end h.counts n

unfoldable pub edging : Held Net → Prog (Held Net)
edging h = count Edges 23 >>= edges_from h

-- ---- return edges: n states, k rules

-- Whether the edge e is a rule edge whose target, its rule R and R's stop all exist; and that stop.
abbrev pub rule_of : Net → ℕ → ℤ
rule_of t e = word_of 8 t.states (size (word_of 8 t.edges e 2)) 1

abbrev pub stop_for : List ℤ → Net → ℕ → ℤ
stop_for ru t e = word_of 3 ru (size (rule_of t e)) 1

abbrev pub returning : ℕ → ℕ → List ℤ → Net → ℕ → Bool
returning n k ru t e = same (word_of 8 t.edges e 0) (pos 3) && (names n (word_of 8 t.edges e 2) && (names k (rule_of t e) && names n (stop_for ru t e)))

-- How many of the first m edges are.
unfoldable pub returns_of : ℕ → ℕ → List ℤ → Net → ℕ → ℕ
returns_of n k ru t zero = 0
returns_of n k ru t (suc m) = returns_of n k ru t m + bit (returning n k ru t m)

-- So many edges, in tables with room for so many.
pub record Growing : Type 0 where
  pub tables : Net
  pub edges : ℕ

abbrev pub growing : Net → ℕ → Growing
growing t m = record { tables = t; edges = m }

-- The return edge of the edge e, if it has one and there is room.
abbrev pub return_edge : List ℤ → Net → ℕ → Edge
return_edge ru t e = edge_of 1 (size (stop_for ru t e)) (size (word_of 8 t.edges e 4)) (pos 0) (pos 0) (pos 0)

unfoldable pub returned : ℕ → ℕ → ℕ → List ℤ → ℕ → Growing → Growing
returned room n k ru e x =
    pick (returning n k ru x.tables e && ltb x.edges room)
    (growing (linked x.edges 1 (return_edge ru x.tables e) x.tables) (x.edges + 1))
    x

-- Those of a chain: `left` edges from the edge e on.
unfoldable pub returns_along : ℕ → ℕ → ℕ → List ℤ → ℕ → ℤ → Growing → Growing
returns_along room n k ru zero e x = x
returns_along room n k ru (suc left) e x =
    let y = returned room n k ru (size e) x in
    let on = returns_along room n k ru left (word_of 8 y.tables.edges (size e) 7) y in
    pick (names x.edges e) on x

-- Those of the first s states, each by its chain as it is then.
unfoldable pub returns_from : ℕ → ℕ → ℕ → List ℤ → ℕ → Growing → Growing
returns_from room n k ru zero x = x
returns_from room n k ru (suc s) x =
    let y = returns_from room n k ru s x in
    returns_along room n k ru (size (word_of 8 y.tables.states s 7)) (word_of 8 y.tables.states s 5) y

abbrev pub derived_counted : Counts → ℕ → Counts
derived_counted c d = record { words = c.words; token = c.token; states = c.states; edges = c.edges + d; derived = d; ranges = c.ranges; sets = c.sets; rules = c.rules; modes = c.modes; decisions = c.decisions; actions = c.actions }

abbrev pub returns_done : ℕ → List ℤ → Held Net → ℕ → Held Net
returns_done room ru h d =
    with (derived_counted h.counts d)
    (returns_from room h.counts.states h.counts.rules ru h.counts.states (growing h.table h.counts.edges)).tables

-- "derived edges after the last edge, all at once (field 23, place of the next word, value all edges)"; ru are the rules
unfoldable pub returns : ℕ → List ℤ → Held Net → Prog (Held Net)
returns room ru h =
    let d = returns_of h.counts.states h.counts.rules ru h.table h.counts.edges in
    here (λ p. need Edges (h.counts.edges + d) (spot 23 0) p (done (returns_done room ru h d)))

-- ---- precedence decisions: n states, m edges, k rules

-- The edge e exists, and its target is a state of the type t.
abbrev pub leads_to : ℕ → ℕ → List ℤ → List ℤ → ℤ → ℕ → Bool
leads_to n m st ed e t =
    names m e && (names n (word_of 8 ed (size e) 2) && same (word_of 8 st (size (word_of 8 ed (size e) 2)) 0) (pos t))

-- Flag 2 is set in a flags word.
abbrev pub flag_two : ℤ → Bool
flag_two v = eqb (size v / 2 % 2) 1

abbrev pub decides_at : ℕ → ℕ → ℕ → List ℤ → List ℤ → List ℤ → ℕ → Bool
decides_at n m k ru ed st s =
    let R = word_of 8 st s 1 in
    let start = word_of 3 ru (size R) 0 in
    let e = word_of 8 st s 6 in
    let t = size (word_of 8 ed (size e) 2) in
    same (word_of 8 st s 0) (pos 10) && (names k R && (names n start && (flag_two (word_of 8 st (size start) 4)
    && (leads_to n m st ed e 12 && leads_to n m st ed (word_of 8 st t 5) 7))))

unfoldable pub decided_in : ℕ → ℕ → ℕ → List ℤ → List ℤ → ℕ → List ℤ → List ℤ
decided_in n m k ru ed zero st = st
decided_in n m k ru ed (suc s) st =
    let u = decided_in n m k ru ed s st in
    pick (decides_at n m k ru ed u s) (flag_at 4 s u) u
