-- Return edges, by the words of the tables: st the states', ed the edges', ru the rules'; n states, m edges, k rules.
use Rattle.std.specs.Prelude.{◌≡◌, List, Bool, true, ◌&&◌, eqb, ltb, ℤ}
use Rattle.std.proofs.Math.Path.{refl, sym}
use Rattle.std.proofs.Common.{ap, ◌∙◌}
use Rattle.std.proofs.Math.Bool.{and-false}
use Prim.Native.Nat.{ℕ, zero, suc, ◌+◌, ◌-◌, ◌*◌, ◌≤◌, ◌<◌}
use native.Mathlib.Omega.{arith}
use Rattle.std.proofs.Math.Numerals.{add-one}
use borrow.Author.Tests.{lt-ltb, le-ltb}
use Rattle.format.specs.Reading.{pick}
use Rattle.format.specs.Sections.{size}
use Rattle.format.specs.Places.{st_first, st_count, ed_kind, ed_source, ed_target, ed_q, ed_next}
use Rattle.inplace.specs.Rows.{word_of}
use Rattle.inplace.specs.Links.{net, returning, stop_for}
use Rattle.tables.specs.Words.{number_at}
use Rattle.links.specs.Returns.{return_stop, has_return_lem, no_return}

-- The edge j is an epsilon edge from a stop to a follow state.
abbrev pub is_return : List ℤ → ℕ → ℕ → ℕ → Bool
is_return ed j stop follow = eqb (number_at ed (8 * j + ed_kind)) 1 && eqb (number_at ed (8 * j + ed_source)) stop && eqb (number_at ed (8 * j + ed_target)) follow

-- The first o edges are not derived.
module _ (n m k : ℕ) (st ed ru : List ℤ) (o : ℕ) where
  -- Behind the return edge of the edge e, if it is one of those and has one: one further than j, if j is that; else m + 1.
  unfoldable pub met : ℕ → ℕ → ℕ
  met e j =
      let here = is_return ed j (size (stop_for ru (net st ed) e)) (size (word_of 8 ed e ed_q)) in
      pick (ltb e o && returning n k ru (net st ed) e) (pick (ltb j m && here) (j + 1) (m + 1)) j

  -- Behind those of `left` edges from e on.
  unfoldable pub met_on : ℕ → ℕ → ℕ → ℕ
  met_on zero e j = j
  met_on (suc left) e j =
      let on = met_on left (number_at ed (8 * e + ed_next)) (met e j) in
      pick (ltb e m) on (m + 1)

  abbrev pub met_along : ℕ → ℕ → ℕ
  met_along s j = met_on (size (word_of 8 st s st_count)) (number_at st (8 * s + st_first)) j

  -- Behind those of the first s states.
  unfoldable pub met_from : ℕ → ℕ
  met_from zero = o
  met_from (suc s) = met_along s (met_from s)

  abbrev pub returns_fine : Bool
  returns_fine = eqb (met_from n) m

-- ---- one edge more

module _ (n m k : ℕ) (st ed ru : List ℤ) (o : ℕ) where
  abbrev stop_here : ℕ → ℕ
  stop_here e = return_stop n k ru (net st ed) e

  pub met-derived : (e j : ℕ) → o ≤ e → met n m k st ed ru o e j ≡ j
  unfolding met
  met-derived e j h = rw (le-ltb e o h) refl

  pub met-none : (e j : ℕ) {stop : ℕ} → stop ≡ stop_here e → n ≤ stop → met n m k st ed ru o e j ≡ j
  unfolding met
  met-none e j q h = rw (no_return n k ru (net st ed) e (omega (arith, q)), and-false (ltb e o)) refl

  module _ (e j : ℕ) {stop : ℕ} (own : e < o) (q : stop ≡ stop_here e) (h : stop < n) where
    returns : returning n k ru (net st ed) e ≡ true
    returns = has_return_lem n k ru (net st ed) e (omega (arith, q))

    its_stop : stop ≡ size (stop_for ru (net st ed) e)
    its_stop = q ∙ rw returns refl

    -- no edge is left to be it
    pub met_late : m ≤ j → met n m k st ed ru o e j ≡ m + 1
    unfolding met
    met_late l = rw (lt-ltb e o own, returns, le-ltb j m l) refl

    -- the edge j is it, or is not
    pub met_there : {follow : ℕ} (b : Bool) → j < m → follow ≡ size (word_of 8 ed e ed_q) → is_return ed j stop follow ≡ b → met n m k st ed ru o e j ≡ pick b (j + 1) (m + 1)
    unfolding met
    met_there b l f r = rw (lt-ltb e o own, returns, lt-ltb j m l, sym its_stop, sym f) (ap (λ (x : Bool). pick x (j + 1) (m + 1)) r)

  pub on_far : (left e j : ℕ) → 0 < left → m ≤ e → met_on n m k st ed ru o left e j ≡ m + 1
  unfolding met_on
  on_far zero e j l h = absurd (omega arith)
  on_far (suc left) e j l h = rw (le-ltb e m h) refl

  pub on_more : (left e j : ℕ) {j' next : ℕ} → 0 < left → e < m → j' ≡ met n m k st ed ru o e j → next ≡ number_at ed (8 * e + ed_next) → met_on n m k st ed ru o left e j ≡ met_on n m k st ed ru o (left - 1) next j'
  unfolding met_on
  on_more zero e j l h p q = absurd (omega arith)
  on_more (suc left) e j l h p q = let one : suc left - 1 ≡ left = omega arith in rw (lt-ltb e m h, one, p, q) refl

  pub on_end : (left e j : ℕ) → left ≤ 0 → met_on n m k st ed ru o left e j ≡ j
  unfolding met_on
  on_end zero e j h = refl
  on_end (suc left) e j h = absurd (omega arith)

  pub from_more : (s : ℕ) → met_from n m k st ed ru o (s + 1) ≡ met_along n m k st ed ru o s (met_from n m k st ed ru o s)
  unfolding met_from
  from_more s = rw add-one refl

  pub from_start : met_from n m k st ed ru o 0 ≡ o
  unfolding met_from
  from_start = refl
