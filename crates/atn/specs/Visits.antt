-- The search from its start to its end, in the words that the code reads: visits of the stack's top, and first colours.
use Rattle.std.specs.Prelude.{◌≡◌, Bool, ◌&&◌, List, [], ◌∷◌, ◌++◌, ◌⊎◌, ◌↔◌, ℕ, zero, suc, ◌+◌, ◌-◌, ◌*◌, ◌≤◌, ◌<◌, ◌^◌, ℤ, pos, negsuc, get_or, set, take, drop}
use Rattle.std.proofs.Math.Path.{refl, ap}
use Rattle.std.proofs.Common.{sym, ◌∙◌, subst, ⊎_elim, arith, take_at, drop_at}
use Rattle.std.proofs.Math.Bool.{true, false}
use Rattle.std.proofs.Math.Logic.{inl, inr}
use Rattle.std.proofs.Math.Dec.{ltb, eqb}
use Rattle.std.proofs.Math.ListN.{length}
use Rattle.std.proofs.lemmas.List.{length-replicate, get_or-replicate, replicate-append-replicate}
use borrow.Author.Tests.{lt-ltb, le-ltb, ltb-true, eq-eqb, eqb-true}
use Rattle.format.specs.Reading.{pick}
use Rattle.format.specs.Sections.{State, Edge, same, size}
use Rattle.format.specs.Tables.{zeros}
use Rattle.format.specs.Links.{first, chain, next, leaving, names, state_at, stop_of, stops, target_of}
use Rattle.laws.specs.Safe.{and_true}
use Rattle.laws.specs.Own.{Own, same_true}
use Rattle.laws.specs.Chains.{Mem, next_in_lem}
use Rattle.tables.specs.Words.{number_of, number_at, number_word, number-one, names-number}
use Rattle.atn.specs.Records.{no_edge, edge_at, state_in, states_of, Chained, Stopped, rows_long, state-at}
use Rattle.atn.specs.Chains.{leaving_few, chain_long, Linking, linking}
use Rattle.atn.specs.Own.{rule_at, stop_at, degree, Leads, same_self}
use Rattle.atn.specs.Search.{colour, left, below, passed, first_colour, Means, Runs, Idle, top_of, Running, Stepped, Met, opened, ended-own, own-next, grey_target}
use Rattle.atn.specs.Steps.{settled, advanced, meets}

-- ---- the next edge

-- The target of the edge e out of the state s, where e is of type 1 and leads to a listed state of the same rule; else the number of states.
unfoldable pub plain_target : List State → ℕ → Edge → ℕ
plain_target ss s e = pick (eqb e.kind 1 && ltb e.target (length ss) && same (rule_at ss e.target) (rule_at ss s)) e.target (length ss)

pub record Plain (ss : List State) (s : ℕ) (e : Edge) : Type 0 where
  pub free : e.kind ≡ 1
  pub listed : e.target < length ss
  pub ruled : rule_at ss e.target ≡ rule_at ss s

module _ (ss : List State) (s : ℕ) (e : Edge) where
  plain_some : Plain ss s e → plain_target ss s e ≡ e.target
  unfolding plain_target
  plain_some p =
      rw (eq-eqb e.kind 1 p.free, lt-ltb e.target (length ss) p.listed, p.ruled, same_self (rule_at ss s)) refl

  plain? : Plain ss s e ⊎ (plain_target ss s e ≡ length ss)
  unfolding plain_target
  plain? = go (eqb e.kind 1 && ltb e.target (length ss) && same (rule_at ss e.target) (rule_at ss s)) refl
    where
      go : (b : Bool) → (eqb e.kind 1 && ltb e.target (length ss) && same (rule_at ss e.target) (rule_at ss s)) ≡ b → Plain ss s e ⊎ (pick b e.target (length ss) ≡ length ss)
      go true q =
          let x = and_true (eqb e.kind 1 && ltb e.target (length ss)) (same (rule_at ss e.target) (rule_at ss s)) q in
          let y = and_true (eqb e.kind 1) (ltb e.target (length ss)) x.0 in
          inl (record { free = eqb-true e.kind 1 y.0; listed = ltb-true e.target (length ss) y.1; ruled = same_true (rule_at ss e.target) (rule_at ss s) x.1 })
      go false q = inr refl

  plain-none : (Plain ss s e → ⊥) → plain_target ss s e ≡ length ss
  plain-none n = ⊎_elim (λ p. absurd (n p)) (λ q. q) plain?

  none-plain : plain_target ss s e ≡ length ss → Plain ss s e → ⊥
  none-plain q p = omega (arith, plain_some p, p.listed)

  plain_of : (plain_target ss s e ≡ length ss → ⊥) → Plain ss s e
  plain_of n = ⊎_elim (λ p. p) (λ q. absurd (n q)) plain?

-- The edge e out of the state s has the type kind, by its word.
pub record Leaving (ss : List State) (es : List Edge) (n m : ℕ) (st ed : List ℤ) (s e kind : ℕ) : Type 0 where
  pub chained : Chained ss es n m st ed
  pub listed : s < n
  pub edge-listed : e < m
  pub kind_is : kind ≡ number_at ed (8 * e)

module _ {ss : List State} {es : List Edge} {n m : ℕ} {st ed : List ℤ} {s e kind : ℕ} (L : Leaving ss es n m st ed s e kind) where
  typed : kind ≡ (edge_at es e).kind
  typed = L.kind_is ∙ ap number_of (L.chained.edges e L.edge-listed).kind

  none_is : (Plain ss s (edge_at es e) → ⊥) → n ≡ plain_target ss s (edge_at es e)
  none_is f = sym (plain-none ss s (edge_at es e) f ∙ L.chained.all-states)

  pub kind_off : (kind ≡ 1 → ⊥) → n ≡ plain_target ss s (edge_at es e)
  kind_off f = none_is (λ p. f (typed ∙ p.free))

  module _ (t : ℕ) (leads : t ≡ number_at ed (8 * e + 2)) where
    leads_to_lem : t ≡ (edge_at es e).target
    leads_to_lem = leads ∙ ap number_of (L.chained.edges e L.edge-listed).target

    pub target_off : n ≤ t → n ≡ plain_target ss s (edge_at es e)
    target_off q = none_is (λ p. omega (arith, leads_to_lem, p.listed, L.chained.all-states))

    module _ (h : t < n) (ours theirs : ℕ) (has : ours ≡ number_at st (8 * s + 1)) (has' : theirs ≡ number_at st (8 * t + 1)) where
      ours_is : ours ≡ number_of (rule_at ss s)
      ours_is = has ∙ ap number_of (L.chained.states s L.listed).rule

      theirs_is : theirs ≡ number_of (rule_at ss (edge_at es e).target)
      theirs_is = has' ∙ ap number_of (L.chained.states t h).rule ∙ ap (λ (u : ℕ). number_of (rule_at ss u)) leads_to_lem

      pub rule_off : (theirs ≡ ours → ⊥) → n ≡ plain_target ss s (edge_at es e)
      rule_off f = none_is (λ p. f (theirs_is ∙ ap number_of p.ruled ∙ sym ours_is))

      pub plain_on : kind ≡ 1 → theirs ≡ ours → number_at st (8 * s + 1) < 2 ^ 31 → t ≡ plain_target ss s (edge_at es e)
      plain_on q r small =
          leads_to_lem
          ∙ sym (plain_some ss s (edge_at es e) (record {
            free = sym typed ∙ q;
            listed = omega (arith, leads_to_lem, h, L.chained.all-states);
            ruled = number-one (rule_at ss (edge_at es e).target) (rule_at ss s) (sym theirs_is ∙ r ∙ ours_is) (omega (arith, has, ours_is, small));
          }))

-- ---- a visit

-- a rule that exists has a small number
pub rule-small : (ss : List State) (k : ℕ) (R : ℤ) → k < 2 ^ 31 → stops ss k R ≡ true → number_of R < k
rule-small ss k R h e = ltb-true (number_of R) k (sym (names-number k R (omega arith)) ∙ (and_true (names k R) _ e).0)

-- The state s is on top of the stack.
pub record Ready (ss : List State) (es : List Edge) (n m k : ℕ) (st ed ru sc : List ℤ) (s : ℕ) : Type 0 where
  pub chained : Chained ss es n m st ed
  pub stopped : Stopped ss k ru
  pub runs : Running ss k es sc s
  pub listed : s < n

module _ {ss : List State} {es : List Edge} {n m k : ℕ} {st ed ru sc : List ℤ} {s : ℕ} (A : Ready ss es n m k st ed ru sc s) where
  inside : s < length ss
  inside = omega (arith, A.listed, A.chained.all-states)

  whole : (l : List ℕ) × Runs ss k es sc (s ∷ l)
  whole = opened ss k es sc A.runs inside

  pub rule-number : number_at st (8 * s + 1) < 2 ^ 31
  rule-number = omega (arith, A.stopped.few_rules, ap number_of (A.chained.states s A.listed).rule, rule-small ss k (rule_at ss s) A.stopped.few_rules whole.1.stacked.0.way.ends)

  pub visit_done : left sc s ≡ 0 → Stepped ss k es sc (set sc (4 * s) (pos 2)) (below sc s)
  visit_done e = settled ss k es A.runs inside 2 (omega arith) (λ l. ended-own ss k es sc whole.1 e)

  pub visit_lost : (Own ss k es s → ⊥) → Stepped ss k es sc (set sc (4 * s) (pos 3)) (below sc s)
  visit_lost f = settled ss k es A.runs inside 3 (omega arith) (λ l. f)

-- It has u edges left, and e is the next.
pub record Next (ss : List State) (es : List Edge) (n m k : ℕ) (st ed ru sc : List ℤ) (s u e : ℕ) : Type 0 where
  pub ready : Ready ss es n m k st ed ru sc s
  pub left_is : u ≡ left sc s
  pub some : u ≡ 0 → ⊥
  pub next_is : e ≡ number_at sc (4 * s + 1)

module _ {ss : List State} {es : List Edge} {n m k : ℕ} {st ed ru sc : List ℤ} {s u e : ℕ} (N : Next ss es n m k st ed ru sc s u e) where
  abbrev l : List ℕ
  l = (whole N.ready).0

  r : Runs ss k es sc (s ∷ l)
  r = (whole N.ready).1

  some_left : 0 < left sc s
  some_left = omega (arith, N.some, N.left_is)

  unpassed : passed es sc s < degree es s
  unpassed = omega (arith, some_left, r.stacked.0.few)

  linked-next : Linking es s (passed es sc s)
  linked-next = linking es s (passed es sc s) unpassed

  number_is : e ≡ get_or (chain es s) (passed es sc s) 0
  number_is = N.next_is ∙ ap number_of (r.stacked.0.upcoming ∙ linked-next.word_is)

  pub next-listed : e < m
  next-listed = omega (arith, number_is, linked-next.listed, N.ready.chained.all_edges)

  pub left_few : u < 2 ^ 31
  left_few = omega (arith, N.left_is, r.stacked.0.few, leaving_few es s, N.ready.chained.all_edges, N.ready.chained.few_edges)

  edge_is : edge_at es e ≡ get_or (leaving es s) (passed es sc s) no_edge
  edge_is = ap (edge_at es) number_is ∙ linked-next.edge_is

  target_is : (edge_at es e).target ≡ target_of es s (passed es sc s)
  target_is = ap (λ (x : Edge). x.target) edge_is

  -- the word of the edge behind it
  behind : get_or ed (8 * e + 7) (pos 0) ≡ first (drop (suc (passed es sc s)) (chain es s))
  behind =
      (N.ready.chained.edges e next-listed).onward
      ∙ (λ i. next es (edge_at es (number_is i)).source (number_is i))
      ∙ ap (λ (v : ℕ). next es v (get_or (chain es s) (passed es sc s) 0)) linked-next.sourced
      ∙ next_in_lem es s (passed es sc s) (omega (arith, unpassed, chain_long es s))

  own_target : Own ss k es s → Leads ss k es s (passed es sc s)
  own_target o = own-next ss k es sc r some_left o

  own-plain : Own ss k es s → Plain ss s (edge_at es e)
  own-plain o = let y = own_target o in subst (λ (x : Edge). Plain ss s x) (sym edge_is) (record { free = y.free; listed = y.own.listed; ruled = y.ruled })

  pub no_target : (t : ℕ) → t ≡ plain_target ss s (edge_at es e) → t ≡ n → Own ss k es s → ⊥
  no_target t p q o = none-plain ss s (edge_at es e) (sym p ∙ q ∙ sym N.ready.chained.all-states) (own-plain o)

-- That edge leads on to the state t.
pub record Onto (ss : List State) (es : List Edge) (n m k : ℕ) (st ed ru sc : List ℤ) (s u e t : ℕ) : Type 0 where
  pub next : Next ss es n m k st ed ru sc s u e
  pub plain_is : t ≡ plain_target ss s (edge_at es e)
  pub some : t ≡ n → ⊥

module _ {ss : List State} {es : List Edge} {n m k : ℕ} {st ed ru sc : List ℤ} {s u e t : ℕ} (O : Onto ss es n m k st ed ru sc s u e t) where
  abbrev C : Chained ss es n m st ed
  C = O.next.ready.chained

  plain : Plain ss s (edge_at es e)
  plain = plain_of ss s (edge_at es e) (λ q. O.some (O.plain_is ∙ q ∙ C.all-states))

  pub target_listed : t < n
  target_listed = omega (arith, O.plain_is, plain_some ss s (edge_at es e) plain, plain.listed, C.all-states)

  target_inside : t < length ss
  target_inside = omega (arith, target_listed, C.all-states)

  goes_to : t ≡ target_of es s (passed es sc s)
  goes_to = O.plain_is ∙ plain_some ss s (edge_at es e) plain ∙ target_is O.next

  means : Means ss k es (s ∷ l O.next) t (colour sc t)
  means = (r O.next).known t target_inside

  pub visit_passed : colour sc t ≡ 2 → Stepped ss k es sc (set (set sc (4 * s + 1) (get_or ed (8 * e + 7) (pos 0))) (4 * s + 2) (pos (u - 1))) s
  visit_passed q =
      let o : Own ss k es t = subst (λ (c : ℕ). Means ss k es (s ∷ l O.next) t c) q means in
      rw O.next.left_is
      (advanced ss k es O.next.ready.runs (inside O.next.ready) (some_left O.next)
      (record {
        free = ap (λ (x : Edge). x.kind) (sym (edge_is O.next)) ∙ plain.free;
        ruled = ap (rule_at ss) (sym (target_is O.next)) ∙ plain.ruled;
        own = subst (Own ss k es) goes_to o;
      })
      (get_or ed (8 * e + 7) (pos 0)) (behind O.next))

  pub visit_met : colour sc t ≡ 0 → {sc' : List ℤ} {top : ℕ} → Met ss k st sc sc' t s top → Stepped ss k es sc sc' top
  visit_met q m =
      let w = C.states t target_listed in
      (meets ss k es m O.next.ready.runs target_inside q (λ h. (some_left O.next, sym goes_to)) w.starts (w.count ∙ ap pos (chain_long es t))).0

  -- t is grey, or not safe
  pub bad_colour : (colour sc t ≡ 2 → ⊥) → (colour sc t ≡ 0 → ⊥) → Own ss k es s → ⊥
  bad_colour a b o = go (colour sc t) means a b
    where
      go : (c : ℕ) → Means ss k es (s ∷ l O.next) t c → (c ≡ 2 → ⊥) → (c ≡ 0 → ⊥) → ⊥
      go zero m a b = b refl
      go (suc zero) m a b = grey_target ss k es sc (r O.next) (some_left O.next) (subst (λ (v : ℕ). Mem v (s ∷ l O.next)) goes_to m) o
      go (suc (suc zero)) m a b = a refl
      go (suc (suc (suc zero))) m a b = m (subst (Own ss k es) (sym goes_to) (own_target O.next o).own)
      go (suc (suc (suc (suc c)))) m a b = m

-- ---- first colours, by the words that the code reads

-- a word is 7 exactly if its number is
seven : (z : ℤ) → eqb (size z) 7 ≡ eqb (number_of z) 7
seven (pos n) = refl
seven (negsuc n) = refl

-- The state s has the rule R, by its word.
pub record Ruled (n k : ℕ) (st ru : List ℤ) (s R : ℕ) : Type 0 where
  pub few_states : n < 2 ^ 31
  pub stopped : Stopped (states_of n st) k ru
  pub listed : s < n
  pub rule_is : R ≡ number_at st (8 * s + 1)

module _ {n k : ℕ} {st ru : List ℤ} {s R : ℕ} (A : Ruled n k st ru s R) where
  abbrev ss : List State
  ss = states_of n st

  rule_word : rule_at ss s ≡ get_or st (8 * s + 1) (pos 0)
  rule_word = ap (λ (x : State). x.rule) (state-at n st s A.listed)

  exists_is : names k (rule_at ss s) ≡ ltb R k
  exists_is = names-number k (rule_at ss s) (omega (arith, A.stopped.few_rules)) ∙ ap (λ (u : ℕ). ltb u k) (ap number_of rule_word ∙ sym A.rule_is)

  pub first_ruleless : k ≤ R → (c : ℕ) → first_colour ss k c s ≡ 3
  unfolding first_colour
  first_ruleless q c = rw (exists_is, le-ltb R k q) refl

  module _ (q : R < k) (z : ℕ) (stop_is : z ≡ number_at ru (3 * R + 1)) where
    stop_word : stop_of ss (rule_at ss s) ≡ get_or ru (3 * R + 1) (pos 0)
    stop_word = ap (stop_of ss) (rule_word ∙ number_word (get_or st (8 * s + 1) (pos 0)) R (sym A.rule_is) (omega (arith, A.stopped.few_rules))) ∙ sym (A.stopped.stops_at R q)

    stops_is : stops ss k (rule_at ss s) ≡ ltb z n
    stops_is =
        let a = ap number_of stop_word ∙ sym stop_is in
        let b = rows_long (state_in st) 0 n in
        rw (exists_is, lt-ltb R k q) (names-number (length ss) (stop_of ss (rule_at ss s)) (omega (arith, A.few_states)) ∙ (λ i. ltb (a i) (b i)))

    pub first_stopless : n ≤ z → (c : ℕ) → first_colour ss k c s ≡ 3
    unfolding first_colour
    first_stopless l c = rw (stops_is, le-ltb z n l) refl

    pub first_by : z < n → (c : ℕ) → first_colour ss k c s ≡ pick (eqb z s) 2 (pick (eqb (number_at st (8 * s)) 7) 3 (pick (eqb c 0) 3 0))
    unfolding first_colour
    first_by l c =
        let a : stop_at ss s ≡ z = ap size (stop_word ∙ number_word (get_or ru (3 * R + 1) (pos 0)) z (sym stop_is) (omega (arith, A.few_states))) in
        let b : eqb (state_at ss s).kind 7 ≡ eqb (number_at st (8 * s)) 7 = ap (λ (x : State). eqb x.kind 7) (state-at n st s A.listed) ∙ seven (get_or st (8 * s) (pos 0)) in
        rw (stops_is, lt-ltb z n l, a, b) refl

-- ---- the whole search

module _ {ss : List State} {es : List Edge} {n m k : ℕ} {st ed : List ℤ} (C : Chained ss es n m st ed) where
  -- nothing is met yet where all is zero
  pub idle_zeros : (l : ℕ) → 4 * n ≤ l → Idle ss k es (zeros l)
  idle_zeros l h =
      record {
        stacked = tt;
        long = omega (arith, C.all-states, length-replicate l (pos 0));
        known = λ s b. subst (λ (z : ℤ). Means ss k es [] s (number_of z)) (sym (get_or-replicate l (4 * s) (pos 0) (pos 0) (omega (arith, C.all-states)))) tt;
      }

  module _ {sc : List ℤ} where
    -- the search that begins at a white state
    pub search_begins : Idle ss k es sc → {s : ℕ} → s < n → colour sc s ≡ 0 → {sc' : List ℤ} {top : ℕ} → Met ss k st sc sc' s n top → Stepped ss k es sc sc' top × (colour sc' s ≡ 0 → ⊥)
    search_begins r {s} h white m =
        let w = C.states s h in
        meets ss k es m (record { stack = []; runs = r; tops = sym C.all-states }) (omega (arith, C.all-states)) white (λ l. absurd (omega (arith, C.all-states))) w.starts (w.count ∙ ap pos (chain_long es s))

    pub top_listed : {top : ℕ} → Running ss k es sc top → (top ≡ n → ⊥) → top < n
    top_listed {top} x f = go x.stack x.runs x.tops
      where
        go : (l : List ℕ) → Runs ss k es sc l → top ≡ top_of ss l → top < n
        go [] r e = absurd (f (e ∙ C.all-states))
        go (s ∷ l) r e = omega (arith, e, r.stacked.0.way.listed, C.all-states)

    pub search_ends : {top : ℕ} → Running ss k es sc top → top ≡ n → Idle ss k es sc
    search_ends {top} x q = go x.stack x.runs x.tops
      where
        go : (l : List ℕ) → Runs ss k es sc l → top ≡ top_of ss l → Idle ss k es sc
        go [] r e = r
        go (s ∷ l) r e = absurd (omega (arith, e, r.stacked.0.way.listed, C.all-states))

-- the colour 2 is that of a safe state, where it was met
pub idle_decides : {ss : List State} {k : ℕ} {es : List Edge} {sc : List ℤ} → Idle ss k es sc → {s : ℕ} → s < length ss → (colour sc s ≡ 0 → ⊥) → eqb (colour sc s) 2 ≡ true ↔ Own ss k es s
idle_decides {ss} {k} {es} {sc} r {s} h f = go (colour sc s) (r.known s h) f
  where
    go : (c : ℕ) → Means ss k es [] s c → (c ≡ 0 → ⊥) → eqb c 2 ≡ true ↔ Own ss k es s
    go zero m f = absurd (f refl)
    go (suc zero) m f = absurd m
    go (suc (suc zero)) m f = ((λ q. m), (λ q. refl))
    go (suc (suc (suc zero))) m f = ((λ q. absurd (omega (arith, eqb-true 3 2 q))), (λ q. absurd (m q)))
    go (suc (suc (suc (suc c)))) m f = absurd m

-- ---- the words that the search takes: the first a of a scratch that is zero

module _ (xs : List ℤ) (blank : xs ≡ zeros (length xs)) (a : ℕ) (h : a ≤ length xs) where
  split : xs ≡ zeros a ++ zeros (length xs - a)
  split = let e : a + (length xs - a) ≡ length xs = omega arith in blank ∙ sym (replicate-append-replicate a (length xs - a) (pos 0) ∙ ap zeros e)

  pub part-zero : take a xs ≡ zeros a
  part-zero = ap (take a) split ∙ take_at (zeros a) (zeros (length xs - a)) a (length-replicate a (pos 0))

  -- cleared again, they leave all zero
  pub part_cleared : (ys zs : List ℤ) → length ys ≡ a → zs ≡ zeros (length (take a (ys ++ drop a xs))) → zs ++ drop a (ys ++ drop a xs) ≡ zeros (length xs)
  part_cleared ys zs l e =
      let p : zs ≡ zeros a = e ∙ ap (λ (u : List ℤ). zeros (length u)) (take_at ys (drop a xs) a l) ∙ ap zeros l in
      let q : drop a (ys ++ drop a xs) ≡ zeros (length xs - a) = drop_at ys (drop a xs) a l ∙ ap (drop a) split ∙ drop_at (zeros a) (zeros (length xs - a)) a (length-replicate a (pos 0)) in
      (λ i. p i ++ q i) ∙ sym split ∙ blank
