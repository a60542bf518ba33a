-- What is found again, as the tests of a pass over the tables: each looks at one record, or follows one chain. o edges are not derived.
use Rattle.std.specs.Prelude.{◌≡◌, refl, Bool, true, false, not, ◌&&◌, ◌↔◌, ℕ, zero, suc, ◌+◌, ◌-◌, ◌*◌, ◌≤◌, ◌<◌, ltb, eqb, ℤ, pos, negsuc, get_or, take, drop}
use Rattle.std.proofs.Math.Path.{sym, ap, subst}
use Rattle.std.proofs.Common.{◌∙◌, ⊎_elim, arith, take-append-drop, get_or-take, get_or-append-add, lt-ltb, le-ltb, ltb-true}
use mathlib.Core.List.{List, [], ◌∷◌, ◌++◌, map}
use Rattle.std.proofs.Math.ListN.{length, length-append, length-take, get_or-map, length-map}
use Rattle.std.proofs.Math.Seq.{drop-append_seam}
use Rattle.format.specs.Reading.{Table, States, Edges, Ranges, Sets, Rules, Modes, Decisions, Actions, Scratch, pick}
use Rattle.format.specs.Sections.{State, Edge, edge_of, among, bit, size, same}
use Rattle.format.specs.Links.{each, leaving, returns, state_at, stops, those, numbers_from, numbers, every, flat, names, next, derived, decides, tail, stop_of}
use Rattle.format.specs.Tables.{width}
use Rattle.format.specs.Places.{st_kind, st_flags, st_first, st_last, st_count, ed_kind, ed_source, ed_target, ed_mark, ed_next, se_count, ru_start, ru_stop, na_state, ac_kind}
use Rattle.format.specs.Writing.{cell_size, flag1, flag2, own, state_back, edge_back, range_back, rule_back, action_back, state_named, cuts, recovered}
use Rattle.laws.specs.Gives.{Every, every-at}
use Rattle.laws.specs.Rows.{Wide}
use Rattle.laws.specs.Lists.{every-each}
use Rattle.laws.specs.Safe.{every_true}
use Rattle.laws.specs.Order.{order}
use Rattle.laws.specs.Fits.{Roomed}
use Rattle.laws.specs.Sound.{Return, derived_are}
use Rattle.rewriting.specs.Formed.{natural, state_read, kept, args_read, edge_read, action_read, Formed}
use Rattle.rewriting.specs.Passes.{state_fine, edge_fine, action_fine}
use Rattle.rewriting.specs.Found.{most, Found}
use Rattle.rewriting.specs.Tests.{lie, both, left, right}
use Rattle.rewriting.specs.Fine.{states_in, edges_in, own_in, rules_in, rules_of, at, Fine, in_row, counts, row-cuts, fine_exactly}
use Rattle.rewriting.specs.Climbs.{sum, edge_at, sources, climb, Chained, climbs_exactly}

abbrev pub flag4 : List ℤ → Bool
flag4 x = among (cell_size x st_flags) (4 ∷ 5 ∷ 6 ∷ 7 ∷ [])

abbrev pub row : (Table → List (List ℤ)) → Table → ℕ → List ℤ
row T t i = get_or (T t) i []

-- The states, the edges and the rules fit together, whichever edges are derived. Marks and flag 4 are tested afterwards.
pub record Joined (T : Table → List (List ℤ)) : Type 0 where
  -- no table has more than the most room
  pub few : (t : Table) → length (T t) ≤ 65536
  -- the states: type, links, flags
  pub states : (s : ℕ) → s < length (T States) → state_fine (row T States s) ≡ true
  -- the edges: numbers, a listed source, and p, q and r by the type
  pub edges : (i : ℕ) → i < length (T Edges) → edge_fine (length (T States)) (row T Edges i) ≡ true
  pub arguments : (i : ℕ) → i < length (T Edges) → args_read (length (T Sets)) (edge_back (row T Edges i)) ≡ true
  -- the chains
  pub climbs : (s : ℕ) → s < length (T States) → climb (length (edges_in T)) (sources (edges_in T)) (λ i. at T Edges i ed_next) s (at T States s st_first) (at T States s st_last) (at T States s st_count) ≡ true
  pub counted : sum (length (T States)) (λ s. size (at T States s st_count)) ≡ length (T Edges)
  -- the rules
  pub starts : (R : ℕ) → R < length (T Rules) → natural (at T Rules R ru_start) ≡ true
  pub stops : (R : ℕ) → R < length (T Rules) → at T Rules R ru_stop ≡ stop_of (states_in T) (pos R)

-- And the edges from o on are the derived ones.
pub record Wired (T : Table → List (List ℤ)) (o : ℕ) : Type 0 where
  pub joined : Joined T
  pub within : o ≤ length (T Edges)
  pub derived : derived (states_in T) (rules_of T) (take o (edges_in T)) ≡ drop o (edges_in T)

pub record Checked (T : Table → List (List ℤ)) (o : ℕ) : Type 0 where
  pub wired : Wired T o
  -- marks and flag 4
  pub marks : (i : ℕ) → i < o → at T Edges i ed_mark ≡ pos (2 * bit (tail (states_in T) (rules_of T) (edges_in T) (edge_back (row T Edges i))))
  pub returns : (i : ℕ) → o ≤ i → i < length (T Edges) → at T Edges i ed_mark ≡ pos 1
  pub decides : (s : ℕ) → s < length (T States) → flag4 (row T States s) ≡ decides (states_in T) (numbers flag2 (T States)) (rules_in T) (edges_in T) s
  -- the sets
  pub sets : in_row (length (T Ranges)) 0 (T Sets) ≡ true
  pub kept : every (kept 0) (cuts (map range_back (T Ranges)) (counts (T Sets))) ≡ true
  -- modes, decisions and actions
  pub modes : (i : ℕ) → i < length (T Modes) → natural (at T Modes i na_state) ≡ true
  pub decisions : (i : ℕ) → i < length (T Decisions) → natural (at T Decisions i na_state) ≡ true
  pub actions : (i : ℕ) → i < length (T Actions) → action_fine (row T Actions i) ≡ true

-- ---- small tests

names-listed : (n : ℕ) (v : ℤ) → names n v ≡ true → (natural v ≡ true) × (size v < n)
names-listed n (pos k) h = (refl, ltb-true k n h)
names-listed n (negsuc k) h = lie h

listed-names : (n : ℕ) (v : ℤ) → natural v ≡ true → size v < n → names n v ≡ true
listed-names n (pos k) e h = lt-ltb k n h
listed-names n (negsuc k) e h = lie e

-- ---- lists

own_split : (X : List (List ℤ)) (o : ℕ) → o ≤ length X → ((i : ℕ) → i < o → own (get_or X i []) ≡ true) → ((i : ℕ) → o ≤ i → i < length X → own (get_or X i []) ≡ false) → those own X ≡ take o X
own_split [] zero l a b = refl
own_split [] (suc o) l a b = absurd (omega arith)
own_split (x ∷ X) zero l a b = rw (b 0 (omega arith) (omega arith)) (own_split X zero (omega arith) (λ i h. absurd (omega arith)) (λ i h k. b (suc i) (omega arith) (omega arith)))
own_split (x ∷ X) (suc o) l a b = rw (a 0 (omega arith)) (ap (λ (z : List (List ℤ)). x ∷ z) (own_split X o (omega arith) (λ i h. a (suc i) (omega arith)) (λ i h k. b (suc i) (omega arith) (omega arith))))

those_short : {A : Type 0} (p : A → Bool) (l : List A) → length (those p l) ≤ length l
those_short p [] = omega arith
those_short p (a ∷ l) = go (p a) (those_short p l)
  where
    go : (b : Bool) → length (those p l) ≤ length l → length (pick b (a ∷ those p l) (those p l)) ≤ suc (length l)
    go true h = omega arith
    go false h = omega arith

map-take : {A B : Type 0} (g : A → B) (o : ℕ) (l : List A) → map g (take o l) ≡ take o (map g l)
map-take g zero l = refl
map-take g (suc o) [] = refl
map-take g (suc o) (a ∷ l) = ap (λ z. g a ∷ z) (map-take g o l)

pub cuts_long : {A : Type 0} (l : List A) (ns : List ℕ) → length (cuts l ns) ≡ length ns
cuts_long l [] = refl
cuts_long l (n ∷ ns) = ap suc (cuts_long (drop n l) ns)

numbers-listed : (q : List ℤ → Bool) (i n : ℕ) (X : List (List ℤ)) → i + length X ≤ n → every (λ s. ltb s n) (numbers_from i q X) ≡ true
numbers-listed q i n [] h = refl
numbers-listed q i n (x ∷ X) h = go (q x) (numbers-listed q (i + 1) n X (omega arith))
  where
    go : (b : Bool) → every (λ s. ltb s n) (numbers_from (i + 1) q X) ≡ true → every (λ s. ltb s n) (pick b (i ∷ numbers_from (i + 1) q X) (numbers_from (i + 1) q X)) ≡ true
    go true e = rw (lt-ltb i n (omega arith)) e
    go false e = e

-- p, q and r of a return edge are 0
derived-read : (k : ℕ) (ss : List State) (n : ℕ) (es : List Edge) → Every (λ e. args_read k e ≡ true) (derived ss n es)
unfolding derived
derived-read k ss n es = every-each Read0 (λ s. each (returns ss n) (leaving es s)) (numbers (λ s. true) ss) (λ s. every-each Read0 (returns ss n) (leaving es s) one)
  where
    Read0 : Edge → Type 0
    Read0 e = args_read k e ≡ true

    go : (b : Bool) (s t : ℕ) → Every Read0 (pick b (edge_of 1 s t (pos 0) (pos 0) (pos 0) ∷ []) [])
    go true s t = (refl, tt)
    go false s t = tt

    one : (e : Edge) → Every Read0 (returns ss n e)
    one e =
        let R = (state_at ss e.target).rule in
        go (eqb e.kind 3 && ltb e.target (length ss) && stops ss n R) (size (stop_of ss R)) (size e.q)

-- a test of every member, by its record
all_map : {A : Type 0} (p : A → Bool) (g : List ℤ → A) (X : List (List ℤ)) → ((i : ℕ) → i < length X → p (g (get_or X i [])) ≡ true) → every p (map g X) ≡ true
all_map p g [] h = refl
all_map p g (x ∷ X) h = rw (h 0 (omega arith)) (all_map p g X (λ i k. h (suc i) (omega arith)))

map-all : {A : Type 0} (p : A → Bool) (g : List ℤ → A) (X : List (List ℤ)) → every p (map g X) ≡ true → (i : ℕ) → i < length X → p (g (get_or X i [])) ≡ true
map-all {A} p g X h i k = ap p (sym (get_or-map g X i [])) ∙ every_true p (g []) (map g X) h i (omega (arith, length-map X g))

-- ---- flags

pub eights : (P : ℕ → Type 0) → P 0 → P 1 → P 2 → P 3 → P 4 → P 5 → P 6 → P 7 → (k : ℕ) → k < 8 → P k
eights P a b c d e f g h zero u = a
eights P a b c d e f g h (suc zero) u = b
eights P a b c d e f g h (suc (suc zero)) u = c
eights P a b c d e f g h (suc (suc (suc zero))) u = d
eights P a b c d e f g h (suc (suc (suc (suc zero)))) u = e
eights P a b c d e f g h (suc (suc (suc (suc (suc zero))))) u = f
eights P a b c d e f g h (suc (suc (suc (suc (suc (suc zero)))))) u = g
eights P a b c d e f g h (suc (suc (suc (suc (suc (suc (suc zero))))))) u = h
eights P a b c d e f g h (suc (suc (suc (suc (suc (suc (suc (suc k)))))))) u = absurd (omega arith)

abbrev three : ℕ → ℕ
three f = bit (among f (1 ∷ 3 ∷ 5 ∷ 7 ∷ [])) + 2 * bit (among f (2 ∷ 3 ∷ 6 ∷ 7 ∷ [])) + 4 * bit (among f (4 ∷ 5 ∷ 6 ∷ 7 ∷ []))

three_is : (v : ℤ) → names 8 v ≡ true → v ≡ pos (three (size v))
three_is (pos f) h = ap pos (eights (λ f. f ≡ three f) refl refl refl refl refl refl refl refl f (ltb-true f 8 h))
three_is (negsuc f) h = lie h

-- flags that are made of three are below 8, and show the third
made : (a b c : Bool) (v : ℤ) → v ≡ pos (bit a + 2 * bit b + 4 * bit c) → (names 8 v ≡ true) × (among (size v) (4 ∷ 5 ∷ 6 ∷ 7 ∷ []) ≡ c)
made a b c v e = subst (λ (z : ℤ). (names 8 z ≡ true) × (among (size z) (4 ∷ 5 ∷ 6 ∷ 7 ∷ []) ≡ c)) (sym e) (go a b c)
  where
    go : (a b c : Bool) → (names 8 (pos (bit a + 2 * bit b + 4 * bit c)) ≡ true) × (among (bit a + 2 * bit b + 4 * bit c) (4 ∷ 5 ∷ 6 ∷ 7 ∷ []) ≡ c)
    go true true true = (refl, refl)
    go true true false = (refl, refl)
    go true false true = (refl, refl)
    go true false false = (refl, refl)
    go false true true = (refl, refl)
    go false true false = (refl, refl)
    go false false true = (refl, refl)
    go false false false = (refl, refl)

-- ---- both ways

module _ (T : Table → List (List ℤ)) (token : ℤ) where
  pub edge-at : (i : ℕ) → edge_at (edges_in T) i ≡ edge_back (row T Edges i)
  edge-at i = get_or-map edge_back (T Edges) i []

  module _ (o : ℕ) (l : o ≤ length (T Edges)) (a : (i : ℕ) → i < o → own (row T Edges i) ≡ true) (b : (i : ℕ) → o ≤ i → i < length (T Edges) → own (row T Edges i) ≡ false) where
    own_is : own_in T ≡ take o (edges_in T)
    own_is = ap (map edge_back) (own_split (T Edges) o l a b) ∙ map-take edge_back o (T Edges)

    own_long : length (own_in T) ≡ o
    own_long = ap length own_is ∙ length-take o (edges_in T) ∙ omega (arith, length-map (T Edges) edge_back)

  -- ---- what both sides show

  not-derived : (t : Bool) (v : ℤ) → v ≡ pos (2 * bit t) → not (same v (pos 1)) ≡ true
  not-derived true v e = ap (λ (z : ℤ). not (same z (pos 1))) e
  not-derived false v e = ap (λ (z : ℤ). not (same z (pos 1))) e

  derived-one : (v : ℤ) → v ≡ pos 1 → not (same v (pos 1)) ≡ false
  derived-one v e = ap (λ (z : ℤ). not (same z (pos 1))) e

  module _ (w : Joined T) where
    pub edge-tests : (i : ℕ) → i < length (T Edges) → (natural (at T Edges i ed_kind) ≡ true) × (natural (at T Edges i ed_source) ≡ true) × (natural (at T Edges i ed_target) ≡ true) × (cell_size (row T Edges i) ed_source < length (T States))
    edge-tests i h =
        let k = natural (at T Edges i ed_kind) in
        let n = names (length (T States)) (at T Edges i ed_source) in
        let t = natural (at T Edges i ed_target) in
        let x = left (k && n) t (w.edges i h) in
        let y = names-listed (length (T States)) (at T Edges i ed_source) (right k n x) in
        (left k n x, y.0, right (k && n) t (w.edges i h), y.1)

    pub chained : Chained (length (T States)) (edges_in T) (λ s. at T States s st_first) (λ s. at T States s st_last) (λ s. at T States s st_count) (λ i. at T Edges i ed_next)
    chained =
        (climbs_exactly (length (T States)) (edges_in T) (λ s. at T States s st_first) (λ s. at T States s st_last) (λ s. at T States s st_count) (λ i. at T Edges i ed_next)
        (λ i h. let x = edge-tests i (omega (arith, length-map (T Edges) edge_back)) in subst (λ (e : Edge). e.source < length (T States)) (sym (edge-at i)) x.3)
        ).0 (w.climbs, w.counted ∙ sym (length-map (T Edges) edge_back))

    pub state-tests : (s : ℕ) → s < length (T States) → (natural (at T States s st_kind) ≡ true) × (state_read (state_back (row T States s)) ≡ true) × (names 8 (at T States s st_flags) ≡ true)
    state-tests s h =
        let p = natural (at T States s st_kind) in
        let q = state_read (state_back (row T States s)) in
        let x = left (p && q) (names 8 (at T States s st_flags)) (w.states s h) in
        (left p q x, right p q x, right (p && q) (names 8 (at T States s st_flags)) (w.states s h))

  module _ (o : ℕ) (c : Checked T o) where
    mine : (i : ℕ) → i < o → own (row T Edges i) ≡ true
    mine i h = not-derived (tail (states_in T) (rules_of T) (edges_in T) (edge_back (row T Edges i))) (at T Edges i ed_mark) (c.marks i h)

    theirs : (i : ℕ) → o ≤ i → i < length (T Edges) → own (row T Edges i) ≡ false
    theirs i h k = derived-one (at T Edges i ed_mark) (c.returns i h k)

    -- the edges that are not derived are the first o
    pub own_first : those own (T Edges) ≡ take o (T Edges)
    own_first = own_split (T Edges) o c.wired.within mine theirs

    in_order : own_in T ++ derived (states_in T) (rules_of T) (own_in T) ≡ edges_in T
    in_order =
        let q = own_is o c.wired.within mine theirs in
        (λ j. q j ++ derived (states_in T) (rules_of T) (q j)) ∙ ap (λ (z : List Edge). take o (edges_in T) ++ z) c.wired.derived ∙ take-append-drop o (edges_in T)

    own_read : (i : ℕ) → i < o → edge_read (length (T States)) (length (T Sets)) (edge_back (row T Edges i)) ≡ true
    own_read i h = both (lt-ltb (cell_size (row T Edges i) ed_source) (length (T States)) (edge-tests c.wired.joined i (omega (arith, c.wired.within))).3) (c.wired.joined.arguments i (omega (arith, c.wired.within)))

    edges-read : every (edge_read (length (T States)) (length (T Sets))) (own_in T) ≡ true
    edges-read =
        subst (λ (z : List (List ℤ)). every (edge_read (length (T States)) (length (T Sets))) (map edge_back z) ≡ true) (sym own_first)
        (all_map (edge_read (length (T States)) (length (T Sets))) edge_back (take o (T Edges))
        (λ i h.
        let k : i < o = omega (arith, length-take o (T Edges)) in
        subst (λ (z : List ℤ). edge_read (length (T States)) (length (T Sets)) (edge_back z) ≡ true) (sym (get_or-take o (T Edges) i [] k)) (own_read i k)))

    is_read : Formed (recovered T token)
    unfolding recovered
    is_read =
        record {
          states = all_map state_read state_back (T States) (λ s h. (state-tests c.wired.joined s h).1);
          ones = numbers-listed flag1 0 (length (states_in T)) (T States) (omega (arith, length-map (T States) state_back));
          twos = numbers-listed flag2 0 (length (states_in T)) (T States) (omega (arith, length-map (T States) state_back));
          sets = c.kept;
          edges =
              let n = sym (length-map (T States) state_back) in
              let m : length (T Sets) ≡ length (cuts (map range_back (T Ranges)) (counts (T Sets))) = sym (cuts_long (map range_back (T Ranges)) (counts (T Sets)) ∙ length-map (T Sets) (λ x. cell_size x se_count)) in
              subst (λ (j : ℕ). every (edge_read j (length (cuts (map range_back (T Ranges)) (counts (T Sets))))) (own_in T) ≡ true) n (subst (λ (j : ℕ). every (edge_read (length (T States)) j) (own_in T) ≡ true) m edges-read);
          actions = all_map action_read action_back (T Actions) (λ i h. right (natural (at T Actions i ac_kind)) (action_read (action_back (row T Actions i))) (c.actions i h));
        }

    set-cuts : flat (cuts (map range_back (T Ranges)) (counts (T Sets))) ≡ map range_back (T Ranges)
    set-cuts = (row-cuts (map range_back (T Ranges)) 0 (T Sets) (subst (λ (n : ℕ). in_row n 0 (T Sets) ≡ true) (sym (length-map (T Ranges) range_back)) c.sets)).1

    is_few : Roomed most (recovered T token)
    unfolding recovered
    is_few =
        record {
          states = omega (arith, length-map (T States) state_back, c.wired.joined.few States);
          edges = omega (arith, length-append (own_in T) (derived (states_in T) (rules_of T) (own_in T)), ap length in_order, length-map (T Edges) edge_back, c.wired.joined.few Edges);
          ranges = omega (arith, ap length set-cuts, length-map (T Ranges) range_back, c.wired.joined.few Ranges);
          sets = omega (arith, cuts_long (map range_back (T Ranges)) (counts (T Sets)), length-map (T Sets) (λ x. cell_size x se_count), c.wired.joined.few Sets);
          rules = omega (arith, length-map (T Rules) rule_back, c.wired.joined.few Rules);
          modes = omega (arith, length-map (T Modes) state_named, c.wired.joined.few Modes);
          decisions = omega (arith, length-map (T Decisions) state_named, c.wired.joined.few Decisions);
          actions = omega (arith, length-map (T Actions) action_back, c.wired.joined.few Actions);
        }

    mark_is : (i : ℕ) → i < length (T Edges) → at T Edges i ed_mark ≡ pos (pick (ltb i (length (own_in T))) (2 * bit (tail (states_in T) (rules_of T) (edges_in T) (edge_back (row T Edges i)))) 1)
    mark_is i h =
        let l = own_long o c.wired.within mine theirs in
        ⊎_elim (λ (x : o ≤ i). rw (le-ltb i (length (own_in T)) (omega (arith, l))) (c.returns i x h)) (λ x. rw (lt-ltb i (length (own_in T)) (omega (arith, l))) (c.marks i x)) (order o i)

    -- the tests give `Fine`
    checked-fine : Fine T token
    checked-fine =
        record {
          formed = is_read;
          roomed = is_few;
          order = in_order;
          states = λ s h.
              let x = state-tests c.wired.joined s h in
              record {
                kind = x.0;
                flags = three_is (at T States s st_flags) x.2 ∙ ap (λ (t : Bool). pos (bit (flag1 (row T States s)) + 2 * bit (flag2 (row T States s)) + 4 * bit t)) (c.decides s h);
                starts = (chained c.wired.joined).first_edge s h;
                ends = (chained c.wired.joined).last-edge s h;
                count = (chained c.wired.joined).edge_count s h;
              };
          edges = λ i h.
              let x = edge-tests c.wired.joined i h in
              record {
                kind = x.0;
                source = x.1;
                target = x.2;
                mark = mark_is i h;
                onward = (chained c.wired.joined).next_edge i (omega (arith, length-map (T Edges) edge_back)) ∙ ap (λ (e : Edge). next (edges_in T) e.source i) (edge-at i);
              };
          sets = c.sets;
          rules = λ R h. record { start = c.wired.joined.starts R h; stop = c.wired.joined.stops R h };
          modes = c.modes;
          decisions = c.decisions;
          actions = λ i h. left (natural (at T Actions i ac_kind)) (action_read (action_back (row T Actions i))) (c.actions i h);
        }

  -- and `Fine` gives them; there is no scratch
  module _ (f : Fine T token) (scratch : T Scratch ≡ []) where
    few_own : length (own_in T) ≤ length (T Edges)
    few_own = omega (arith, length-map (those own (T Edges)) edge_back, those_short own (T Edges))

    mark_own : (i : ℕ) → i < length (own_in T) → at T Edges i ed_mark ≡ pos (2 * bit (tail (states_in T) (rules_of T) (edges_in T) (edge_back (row T Edges i))))
    mark_own i h = (f.edges i (omega (arith, few_own))).mark ∙ rw (lt-ltb i (length (own_in T)) h) refl

    mark_derived : (i : ℕ) → length (own_in T) ≤ i → i < length (T Edges) → at T Edges i ed_mark ≡ pos 1
    mark_derived i h k = (f.edges i k).mark ∙ rw (le-ltb i (length (own_in T)) h) refl

    split : those own (T Edges) ≡ take (length (own_in T)) (T Edges)
    split =
        own_split (T Edges) (length (own_in T)) few_own
        (λ i h. not-derived (tail (states_in T) (rules_of T) (edges_in T) (edge_back (row T Edges i))) (at T Edges i ed_mark) (mark_own i h))
        (λ i h k. derived-one (at T Edges i ed_mark) (mark_derived i h k))

    own_taken : own_in T ≡ take (length (own_in T)) (edges_in T)
    own_taken = ap (map edge_back) split ∙ map-take edge_back (length (own_in T)) (T Edges)

    then-derived : derived (states_in T) (rules_of T) (take (length (own_in T)) (edges_in T)) ≡ drop (length (own_in T)) (edges_in T)
    then-derived =
        ap (derived (states_in T) (rules_of T)) (sym own_taken)
        ∙ sym (drop-append_seam (own_in T) (derived (states_in T) (rules_of T) (own_in T)))
        ∙ ap (λ (z : List Edge). drop (length (own_in T)) z) f.order

    all_few : (t : Table) → length (T t) ≤ 65536
    unfolding recovered
    all_few States = omega (arith, length-map (T States) state_back, f.roomed.states)
    all_few Edges = omega (arith, length-append (own_in T) (derived (states_in T) (rules_of T) (own_in T)), ap length f.order, length-map (T Edges) edge_back, f.roomed.edges)
    all_few Ranges =
        let q = (row-cuts (map range_back (T Ranges)) 0 (T Sets) (subst (λ (n : ℕ). in_row n 0 (T Sets) ≡ true) (sym (length-map (T Ranges) range_back)) f.sets)).1 in
        omega (arith, ap length q, length-map (T Ranges) range_back, f.roomed.ranges)
    all_few Sets = omega (arith, cuts_long (map range_back (T Ranges)) (counts (T Sets)), length-map (T Sets) (λ x. cell_size x se_count), f.roomed.sets)
    all_few Rules = omega (arith, length-map (T Rules) rule_back, f.roomed.rules)
    all_few Modes = omega (arith, length-map (T Modes) state_named, f.roomed.modes)
    all_few Decisions = omega (arith, length-map (T Decisions) state_named, f.roomed.decisions)
    all_few Actions = omega (arith, length-map (T Actions) action_back, f.roomed.actions)
    all_few Scratch = omega (arith, ap length scratch)

    fine-read : (i : ℕ) → i < length (own_in T) → edge_read (length (T States)) (length (T Sets)) (edge_back (row T Edges i)) ≡ true
    unfolding recovered
    fine-read i h =
        let n = length-map (T States) state_back in
        let m = cuts_long (map range_back (T Ranges)) (counts (T Sets)) ∙ length-map (T Sets) (λ x. cell_size x se_count) in
        let a = subst (λ (j : ℕ). every (edge_read (length (T States)) j) (own_in T) ≡ true) m (subst (λ (j : ℕ). every (edge_read j (length (cuts (map range_back (T Ranges)) (counts (T Sets))))) (own_in T) ≡ true) n f.formed.edges) in
        let b = subst (λ (z : List (List ℤ)). every (edge_read (length (T States)) (length (T Sets))) (map edge_back z) ≡ true) split a in
        subst (λ (z : List ℤ). edge_read (length (T States)) (length (T Sets)) (edge_back z) ≡ true) (get_or-take (length (own_in T)) (T Edges) i [] h)
        (map-all (edge_read (length (T States)) (length (T Sets))) edge_back (take (length (own_in T)) (T Edges)) b i (omega (arith, length-take (length (own_in T)) (T Edges), few_own)))

    -- every source is listed: a derived edge's is a stop
    from_own : (i : ℕ) → i < length (own_in T) → cell_size (row T Edges i) ed_source < length (T States)
    from_own i h = ltb-true (cell_size (row T Edges i) ed_source) (length (T States)) (left (ltb (cell_size (row T Edges i) ed_source) (length (T States))) _ (fine-read i h))

    -- an edge behind them, among the derived ones
    abbrev behind : ℕ → ℕ
    behind i = i - length (own_in T)

    derived-at : (i : ℕ) → length (own_in T) ≤ i → edge_at (derived (states_in T) (rules_of T) (own_in T)) (behind i) ≡ edge_back (row T Edges i)
    derived-at i h =
        let q : length (own_in T) + behind i ≡ i = omega arith in
        sym (get_or-append-add (own_in T) (derived (states_in T) (rules_of T) (own_in T)) (behind i) (edge_back []))
        ∙ ap (λ (z : List Edge). edge_at z (length (own_in T) + behind i)) f.order
        ∙ ap (edge_at (edges_in T)) q
        ∙ edge-at i

    behind_few : (i : ℕ) → length (own_in T) ≤ i → i < length (T Edges) → behind i < length (derived (states_in T) (rules_of T) (own_in T))
    behind_few i h k = omega (arith, length-append (own_in T) (derived (states_in T) (rules_of T) (own_in T)), ap length f.order, length-map (T Edges) edge_back)

    from_derived : (i : ℕ) → length (own_in T) ≤ i → i < length (T Edges) → cell_size (row T Edges i) ed_source < length (T States)
    from_derived i h k =
        let r = every-at (Return (length (states_in T))) (derived (states_in T) (rules_of T) (own_in T)) (edge_back []) (behind i) (derived_are (states_in T) (rules_of T) (own_in T)) (behind_few i h k) in
        omega (arith, r.listed, ap (λ (x : Edge). x.source) (derived-at i h), length-map (T States) state_back)

    all_read : (i : ℕ) → i < length (T Edges) → args_read (length (T Sets)) (edge_back (row T Edges i)) ≡ true
    all_read i k =
        ⊎_elim
        (λ (h : length (own_in T) ≤ i). ap (args_read (length (T Sets))) (sym (derived-at i h)) ∙ every-at (λ e. args_read (length (T Sets)) e ≡ true) (derived (states_in T) (rules_of T) (own_in T)) (edge_back []) (behind i) (derived-read (length (T Sets)) (states_in T) (rules_of T) (own_in T)) (behind_few i h k))
        (λ h. right (ltb (cell_size (row T Edges i) ed_source) (length (T States))) _ (fine-read i h)) (order (length (own_in T)) i)

    from_listed : (i : ℕ) → i < length (T Edges) → cell_size (row T Edges i) ed_source < length (T States)
    from_listed i h = ⊎_elim (λ x. from_derived i x h) (λ x. from_own i x) (order (length (own_in T)) i)

    as_chained : ((s : ℕ) → s < length (T States) → climb (length (edges_in T)) (sources (edges_in T)) (λ i. at T Edges i ed_next) s (at T States s st_first) (at T States s st_last) (at T States s st_count) ≡ true) × (sum (length (T States)) (λ s. size (at T States s st_count)) ≡ length (edges_in T))
    as_chained =
        (climbs_exactly (length (T States)) (edges_in T) (λ s. at T States s st_first) (λ s. at T States s st_last) (λ s. at T States s st_count) (λ i. at T Edges i ed_next)
        (λ i h. subst (λ (e : Edge). e.source < length (T States)) (sym (edge-at i)) (from_listed i (omega (arith, length-map (T Edges) edge_back))))
        ).1 (record {
          first_edge = λ s h. (f.states s h).starts;
          last-edge = λ s h. (f.states s h).ends;
          edge_count = λ s h. (f.states s h).count;
          next_edge = λ i h. (f.edges i (omega (arith, length-map (T Edges) edge_back))).onward ∙ ap (λ (e : Edge). next (edges_in T) e.source i) (sym (edge-at i));
        })

    flags-made : (s : ℕ) (h : s < length (T States)) → (names 8 (at T States s st_flags) ≡ true) × (flag4 (row T States s) ≡ decides (states_in T) (numbers flag2 (T States)) (rules_in T) (edges_in T) s)
    flags-made s h = made (flag1 (row T States s)) (flag2 (row T States s)) (decides (states_in T) (numbers flag2 (T States)) (rules_in T) (edges_in T) s) (at T States s st_flags) (f.states s h).flags

    fine-checked : Checked T (length (own_in T))
    unfolding recovered
    fine-checked =
        record {
          wired =
              record {
                joined =
                    record {
                      few = all_few;
                      states = λ s h. both (both (f.states s h).kind (map-all state_read state_back (T States) f.formed.states s h)) (flags-made s h).0;
                      edges = λ i h. let e = f.edges i h in both (both e.kind (listed-names (length (T States)) (at T Edges i ed_source) e.source (from_listed i h))) e.target;
                      arguments = all_read;
                      climbs = as_chained.0;
                      counted = as_chained.1 ∙ length-map (T Edges) edge_back;
                      starts = λ R h. (f.rules R h).start;
                      stops = λ R h. (f.rules R h).stop;
                    };
                within = few_own;
                derived = then-derived;
              };
          marks = mark_own;
          returns = mark_derived;
          decides = λ s h. (flags-made s h).1;
          sets = f.sets;
          kept = f.formed.sets;
          modes = f.modes;
          decisions = f.decisions;
          actions = λ i h. both (f.actions i h) (map-all action_read action_back (T Actions) f.formed.actions i h);
        }

pub checks_exactly : (T : Table → List (List ℤ)) (token : ℤ) → ((t : Table) → Every (Wide (width t)) (T t)) → T Scratch ≡ [] → Found T token ↔ ((o : ℕ) × Checked T o)
checks_exactly T token wide scratch = (
  (λ h. (length (own_in T), fine-checked T token ((fine_exactly T token wide scratch).0 h) scratch)),
  (λ c. (fine_exactly T token wide scratch).1 (checked-fine T token c.0 c.1)),
)
