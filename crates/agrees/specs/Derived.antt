-- The derived edges of `format`, state by state, and how many they are. There are n rules.
use Rattle.std.specs.Prelude.{◌≡◌, refl, List, [], ◌∷◌, ◌++◌, Bool, true, false, ◌&&◌, ◌⊎◌, ℕ, zero, suc, ◌+◌, ◌≤◌, ◌<◌, ltb, eqb, pos, length}
use Rattle.std.proofs.Common.{ap, ◌∙◌, append-nil, inl, inr, arith, length-append, eq-eqb, ne_eqb}
use Rattle.format.specs.Reading.{pick}
use Rattle.format.specs.Sections.{State, Edge, edge_of, size}
use Rattle.format.specs.Links.{those, each, leaving, state_at, stop_of, stops, returns, derived}
use Rattle.laws.specs.Gives.{Every}
use Rattle.agrees.specs.Lists.{up_to, each_number, apart, below}
use Rattle.laws.specs.Lists.{each_append, every_append, those-append}

module _ (ss : List State) (n : ℕ) where
  -- An edge has a return edge, and which.
  abbrev pub has_return : Edge → Bool
  has_return e = eqb e.kind 3 && ltb e.target (length ss) && stops ss n (state_at ss e.target).rule

  abbrev pub return_of : Edge → Edge
  return_of e = edge_of 1 (size (stop_of ss (state_at ss e.target).rule)) (size e.q) (pos 0) (pos 0) (pos 0)

  -- The return edges of a state's edges; the derived edges are those of all states in order.
  abbrev pub returns_at : List Edge → ℕ → List Edge
  returns_at es s = each (returns ss n) (leaving es s)

  pub derived_by : (es : List Edge) → derived ss n es ≡ up_to (returns_at es) (length ss)
  unfolding derived
  derived_by es = each_number (returns_at es) ss

  -- ---- a return edge has none itself: those that are found on the way do not count

  abbrev Quiet : Edge → Type 0
  Quiet e = returns ss n e ≡ []

  returns_quiet : (e : Edge) → Every Quiet (returns ss n e)
  returns_quiet e = go (has_return e)
    where
      go : (t : Bool) → Every Quiet (pick t (return_of e ∷ []) [])
      go true = (refl, tt)
      go false = tt

  each_quiet : (l : List Edge) → Every Quiet (each (returns ss n) l)
  each_quiet [] = tt
  each_quiet (e ∷ l) = every_append Quiet (returns ss n e) (each (returns ss n) l) (returns_quiet e) (each_quiet l)

  up_quiet : (es : List Edge) (m : ℕ) → Every Quiet (up_to (returns_at es) m)
  up_quiet es zero = tt
  up_quiet es (suc m) = every_append Quiet (up_to (returns_at es) m) (returns_at es m) (up_quiet es m) (each_quiet (leaving es m))

  quiet_none : (p : Edge → Bool) (l : List Edge) → Every Quiet l → each (returns ss n) (those p l) ≡ []
  quiet_none p [] h = refl
  quiet_none p (e ∷ l) h = go (p e) (quiet_none p l h.1)
    where
      go : (t : Bool) → each (returns ss n) (those p l) ≡ [] → each (returns ss n) (pick t (e ∷ those p l) (those p l)) ≡ []
      go true q = rw h.0 q
      go false q = q

  -- those of a state are the same with derived edges behind
  pub at_more : (es : List Edge) (m s : ℕ) → returns_at (es ++ up_to (returns_at es) m) s ≡ returns_at es s
  at_more es m s =
      ap (each (returns ss n)) (those-append (λ (e : Edge). eqb e.source s) es (up_to (returns_at es) m))
      ∙ each_append (returns ss n) (leaving es s) (leaving (up_to (returns_at es) m) s)
      ∙ ap (λ (l : List Edge). returns_at es s ++ l) (quiet_none (λ (e : Edge). eqb e.source s) (up_to (returns_at es) m) (up_quiet es m))
      ∙ append-nil (returns_at es s)

  -- ---- how many: each edge leaves one state

  at_own : (e : Edge) (es : List Edge) (m : ℕ) → e.source ≡ m → returns_at (e ∷ es) m ≡ returns ss n e ++ returns_at es m
  at_own e es m q = ap (λ (t : Bool). each (returns ss n) (pick t (e ∷ leaving es m) (leaving es m))) (eq-eqb e.source m q)

  at_other : (e : Edge) (es : List Edge) (m : ℕ) → (e.source ≡ m → ⊥) → returns_at (e ∷ es) m ≡ returns_at es m
  at_other e es m q = ap (λ (t : Bool). each (returns ss n) (pick t (e ∷ leaving es m) (leaving es m))) (ne_eqb e.source m q)

  -- one edge more in front counts from its source on
  count-before : (e : Edge) (es : List Edge) (m : ℕ) → m ≤ e.source → length (up_to (returns_at (e ∷ es)) m) ≡ length (up_to (returns_at es) m)
  count-before e es zero h = refl
  count-before e es (suc m) h =
      omega (
        arith,
        length-append (up_to (returns_at (e ∷ es)) m) (returns_at (e ∷ es) m),
        length-append (up_to (returns_at es) m) (returns_at es m),
        count-before e es m (omega arith),
        ap length (at_other e es m (λ q. omega arith)),
      )

  count-behind : (e : Edge) (es : List Edge) (m : ℕ) → e.source < m → length (up_to (returns_at (e ∷ es)) m) ≡ length (returns ss n e) + length (up_to (returns_at es) m)
  count-behind e es zero h = absurd (omega arith)
  count-behind e es (suc m) h = go (apart e.source m) (count-behind e es m)
    where
      go : (e.source ≡ m → ⊥) ⊎ (e.source ≡ m) → (e.source < m → length (up_to (returns_at (e ∷ es)) m) ≡ length (returns ss n e) + length (up_to (returns_at es) m))
          → length (up_to (returns_at (e ∷ es)) m ++ returns_at (e ∷ es) m) ≡ length (returns ss n e) + length (up_to (returns_at es) m ++ returns_at es m)
      go (inl q) ih =
          omega (
            arith,
            length-append (up_to (returns_at (e ∷ es)) m) (returns_at (e ∷ es) m),
            length-append (up_to (returns_at es) m) (returns_at es m),
            ih (below e.source m (omega arith) q),
            ap length (at_other e es m q),
          )
      go (inr q) ih =
          omega (
            arith,
            length-append (up_to (returns_at (e ∷ es)) m) (returns_at (e ∷ es) m),
            length-append (up_to (returns_at es) m) (returns_at es m),
            length-append (returns ss n e) (returns_at es m),
            count-before e es m (omega arith),
            ap length (at_own e es m q),
          )

  count_none : (m : ℕ) → length (up_to (returns_at []) m) ≡ 0
  count_none zero = refl
  count_none (suc m) = omega (arith, length-append (up_to (returns_at []) m) [], count_none m)

  -- as many as all edges have
  pub count-all : (es : List Edge) → Every (λ e. e.source < length ss) es → length (derived ss n es) ≡ length (each (returns ss n) es)
  count-all es h = ap length (derived_by es) ∙ go es h
    where
      go : (es : List Edge) → Every (λ e. e.source < length ss) es → length (up_to (returns_at es) (length ss)) ≡ length (each (returns ss n) es)
      go [] h = count_none (length ss)
      go (e ∷ es) h = count-behind e es (length ss) h.0 ∙ omega (arith, go es h.1, length-append (returns ss n e) (each (returns ss n) es))
