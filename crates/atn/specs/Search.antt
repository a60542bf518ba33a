-- The search in depth for the states that are safe for their own rule, as it stands in the scratch: four words for each state, its colour,
-- its next edge, how many of its edges are left, and the state below it on the stack. A state is white (0) until it is met, grey (1) while
-- it is on the stack, and then safe (2) or not (3). Two branches may meet at a safe state; an edge to a grey one closes a cycle.
use Rattle.std.specs.Prelude.{◌≡◌, refl, List, [], ◌∷◌, ℕ, zero, suc, ◌+◌, ◌-◌, ◌*◌, ◌≤◌, ◌<◌, eqb, ℤ, pos, length, get_or, set, drop}
use Rattle.std.proofs.Common.{sym, inl, arith}
use Rattle.std.proofs.Math.Path.{subst}
use Rattle.std.proofs.Math.Logic.{inr}
use Rattle.format.specs.Reading.{pick}
use Rattle.format.specs.Sections.{State, Edge}
use Rattle.format.specs.Links.{first, chain, state_at, stops, target_of}
use Rattle.laws.specs.Own.{Own}
use Rattle.laws.specs.Chains.{Mem}
use Rattle.tables.specs.Words.{number_at}
use Rattle.atn.specs.declared.search.Colour.{Colour}
use Rattle.atn.specs.declared.search.Colour.TheVariants.{Unmet, OnStack, Safe, Unsafe}
use Rattle.atn.specs.Own.{rule_at, stop_at, degree, Leads, Way, own-leads, leads-own, Into, no_cycle}

abbrev pub colour : List ℤ → ℕ → ℕ
colour sc s = number_at sc (4 * s)

-- the colours by name
abbrev pub colour_number : Colour → ℕ
colour_number Unmet = 0
colour_number OnStack = 1
colour_number Safe = 2
colour_number Unsafe = 3

abbrev pub left : List ℤ → ℕ → ℕ
left sc s = number_at sc (4 * s + 2)

abbrev pub below : List ℤ → ℕ → ℕ
below sc s = number_at sc (4 * s + 3)

-- How many edges were passed: the number of the next one among the state's edges.
abbrev pub passed : List Edge → List ℤ → ℕ → ℕ
passed es sc s = degree es s - left sc s

-- A state goes on the stack: w is the word of its first edge, z its edge count.
abbrev pub pushed : List ℤ → ℕ → ℤ → ℤ → ℕ → List ℤ
pushed sc s w z below = set (set (set (set sc (4 * s) (pos 1)) (4 * s + 1) w) (4 * s + 2) z) (4 * s + 3) (pos below)

-- The colour that a state gets when it is met: 2 at its rule's stop, 3 where it cannot be passed whatever its edges are, else 0: its edges
-- decide, and it goes on the stack. It has so many edges.
unfoldable pub first_colour : List State → ℕ → ℕ → ℕ → ℕ
first_colour ss k edges s =
    pick (stops ss k (rule_at ss s)) (pick (eqb (stop_at ss s) s) 2 (pick (eqb (state_at ss s).kind 7) 3 (pick (eqb edges 0) 3 0))) 3

-- What a colour says of the state s, with l on the stack. White says nothing: the state was not met.
abbrev pub Means : List State → ℕ → List Edge → List ℕ → ℕ → ℕ → Type 0
Means ss k es l s zero = Unit {0}
Means ss k es l s (suc zero) = Mem s l
Means ss k es l s (suc (suc zero)) = Own ss k es s
Means ss k es l s (suc (suc (suc zero))) = Own ss k es s → ⊥
Means ss k es l s (suc (suc (suc (suc c)))) = ⊥

-- A state on the stack: every edge that was passed leads to a safe state.
pub record Grey (ss : List State) (k : ℕ) (es : List Edge) (sc : List ℤ) (s : ℕ) : Type 0 where
  pub grey : colour sc s ≡ 1
  pub way : Way ss k es s
  pub few : left sc s ≤ degree es s
  pub upcoming : get_or sc (4 * s + 1) (pos 0) ≡ first (drop (passed es sc s) (chain es s))
  pub safe : (i : ℕ) → i < passed es sc s → Leads ss k es s i

-- s stands on l: the next edge of the state below leads to s. No state is below the last.
abbrev pub Above : List State → List Edge → List ℤ → ℕ → List ℕ → Type 0
Above ss es sc s [] = below sc s ≡ length ss
Above ss es sc s (p ∷ l) = (below sc s ≡ p) × ((0 < left sc p) × (target_of es p (passed es sc p) ≡ s))

abbrev pub Fresh : ℕ → List ℕ → Type 0
Fresh s [] = Unit {0}
Fresh s (p ∷ l) = (p ≡ s → ⊥) × Fresh s l

abbrev pub Stacked : List State → ℕ → List Edge → List ℤ → List ℕ → Type 0
Stacked ss k es sc [] = Unit {0}
Stacked ss k es sc (s ∷ l) = Grey ss k es sc s × (Fresh s l × (Above ss es sc s l × Stacked ss k es sc l))

-- The search with the stack l.
pub record Runs (ss : List State) (k : ℕ) (es : List Edge) (sc : List ℤ) (l : List ℕ) : Type 0 where
  pub known : (s : ℕ) → s < length ss → Means ss k es l s (colour sc s)
  pub stacked : Stacked ss k es sc l
  pub long : 4 * length ss ≤ length sc

-- Between two searches: the stack is empty.
abbrev pub Idle : List State → ℕ → List Edge → List ℤ → Type 0
Idle ss k es sc = Runs ss k es sc []

-- The stack's top; the number of states where the stack is empty.
abbrev pub top_of : List State → List ℕ → ℕ
top_of ss [] = length ss
top_of ss (s ∷ l) = s

pub record Running (ss : List State) (k : ℕ) (es : List Edge) (sc : List ℤ) (top : ℕ) : Type 0 where
  pub stack : List ℕ
  pub runs : Runs ss k es sc stack
  pub tops : top ≡ top_of ss stack

-- ---- the work that is left: each step takes one off one state's share

abbrev pub share : ℕ → ℕ → ℕ → ℕ
share zero edges left = edges + 2
share (suc zero) edges left = left + 1
share (suc (suc c)) edges left = 0

abbrev pub share_of : List Edge → List ℤ → ℕ → ℕ
share_of es sc s = share (colour sc s) (degree es s) (left sc s)

abbrev pub total : (ℕ → ℕ) → ℕ → ℕ
total f zero = 0
total f (suc n) = f n + total f n

abbrev pub work : List Edge → List ℤ → ℕ → ℕ
work es sc n = total (share_of es sc) n

-- A step of the search, to another scratch and top: no state becomes white again.
pub record Stepped (ss : List State) (k : ℕ) (es : List Edge) (sc sc' : List ℤ) (top' : ℕ) : Type 0 where
  pub runs : Running ss k es sc' top'
  pub less : work es sc' (length ss) < work es sc (length ss)
  pub kept : (s : ℕ) → s < length ss → (colour sc s ≡ 0 → ⊥) → colour sc' s ≡ 0 → ⊥
  pub size : length sc' ≡ length sc

pub stepped_as : {ss : List State} {k : ℕ} {es : List Edge} {sc a b : List ℤ} {top top' : ℕ} → top ≡ top' → a ≡ b → Stepped ss k es sc b top' → Stepped ss k es sc a top
stepped_as p q x = rw (p, q) x

-- The white state t is met, with `top` on top of the stack: if its first colour is 0 it goes on the stack, else that colour is its last.
pub record Met (ss : List State) (k : ℕ) (st sc sc' : List ℤ) (t top top' : ℕ) : Type 0 where
  pub pushes : first_colour ss k (number_at st (8 * t + 7)) t ≡ 0 → (top' ≡ t) × (sc' ≡ pushed sc t (get_or st (8 * t + 5) (pos 0)) (get_or st (8 * t + 7) (pos 0)) top)
  pub settles : (first_colour ss k (number_at st (8 * t + 7)) t ≡ 0 → ⊥) → (top' ≡ top) × (sc' ≡ set sc (4 * t) (pos (first_colour ss k (number_at st (8 * t + 7)) t)))

-- ---- what the stack's top says

module _ (ss : List State) (k : ℕ) (es : List Edge) (sc : List ℤ) where
  -- the stack has its top, and what stands below that
  pub opened : {s : ℕ} → Running ss k es sc s → s < length ss → (l : List ℕ) × Runs ss k es sc (s ∷ l)
  opened {s} x h = go x.stack x.runs x.tops
    where
      go : (st : List ℕ) → Runs ss k es sc st → s ≡ top_of ss st → (l : List ℕ) × Runs ss k es sc (s ∷ l)
      go [] r e = absurd (omega arith)
      go (p ∷ l) r e = (l, subst (λ (q : ℕ). Runs ss k es sc (q ∷ l)) (sym e) r)

  pub top_below : (s : ℕ) (l : List ℕ) → Above ss es sc s l → below sc s ≡ top_of ss l
  top_below s [] a = a
  top_below s (p ∷ l) a = a.0

  -- states of which each has its next edge to the one above it
  climbs : (P : ℕ → Type 0) (s : ℕ) (l : List ℕ) → Above ss es sc s l → Stacked ss k es sc l → P s → ((u : ℕ) → Mem u l → P u) → (u : ℕ) → Mem u l → Into ss k es P u
  climbs P s [] a st h all u m = absurd m
  climbs P s (p ∷ l) a st h all u (inl e) =
      subst (λ (q : ℕ). Into ss k es P q) (sym e)
      (record { other = st.0.way.other; index = passed es sc p; inside = omega (arith, st.0.few, a.1.0); goes = subst P (sym a.1.1) h })
  climbs P s (p ∷ l) a st h all u (inr m) = climbs P p l st.1.1.0 st.1.1.1 (all p (inl refl)) (λ v w. all v (inr w)) u m

  module _ {s : ℕ} {l : List ℕ} (r : Runs ss k es sc (s ∷ l)) where
    top : Grey ss k es sc s
    top = r.stacked.0

    -- no edge is left
    pub ended-own : left sc s ≡ 0 → Own ss k es s
    unfolding top
    ended-own e = leads-own ss k es top.way (λ i h. top.safe i (omega arith))

    module _ (some : 0 < left sc s) where
      inside : passed es sc s < degree es s
      unfolding top
      inside = omega (arith, top.few)

      pub own-next : Own ss k es s → Leads ss k es s (passed es sc s)
      own-next o = own-leads ss k es top.way o (passed es sc s) inside

      -- the next edge leads to a state on the stack
      pub grey_target : Mem (target_of es s (passed es sc s)) (s ∷ l) → Own ss k es s → ⊥
      unfolding top
      grey_target m = no_cycle ss k es (λ u. Mem u (s ∷ l)) each (inl refl)
        where
          each : (u : ℕ) → Mem u (s ∷ l) → Into ss k es (λ v. Mem v (s ∷ l)) u
          each u (inl e) =
              subst (λ (q : ℕ). Into ss k es (λ v. Mem v (s ∷ l)) q) (sym e)
              (record { other = top.way.other; index = passed es sc s; inside = inside; goes = m })
          each u (inr w) = climbs (λ v. Mem v (s ∷ l)) s l r.stacked.1.1.0 r.stacked.1.1.1 (inl refl) (λ v z. inr z) u w
