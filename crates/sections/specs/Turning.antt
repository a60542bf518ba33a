-- A loop of reading: after i of n turns the run from the first word goes on as the run from here.
use Rattle.std.specs.Prelude.{◌≡◌, List, ℕ, ◌+◌, ◌-◌, ◌≤◌, ◌<◌, ℤ}
use Rattle.std.proofs.Common.{sym, ap, ◌∙◌, arith}
use Rattle.format.specs.Reading.{Table, ok, no, Prog, run}
use Rattle.format.specs.declared.Refusal.{Refusal}
use Rattle.laws.specs.Running.{turns, turn_ok, turn_no, turns-over}

-- n turns of p over the table t₀, from the place first on: i turns left the table t, and at is the place of the next word
abbrev pub Turned : (ℕ → List ℤ → Prog (List ℤ)) → ℕ → List ℤ → List ℤ → ℕ → ℕ → List ℤ → ℕ → Type 0
Turned p n ws t₀ first i t at = (rooms : Table → ℕ) → run (turns n 0 p t₀) ws rooms first ≡ run (turns (n - i) i p t) ws rooms at

module _ (p : ℕ → List ℤ → Prog (List ℤ)) (n : ℕ) (ws t₀ : List ℤ) (first : ℕ) where
  pub turned_none : Turned p n ws t₀ first 0 t₀ first
  turned_none rooms = let e : n ≡ n - 0 = omega arith in ap (λ (k : ℕ). run (turns k 0 p t₀) ws rooms first) e

  module _ (i : ℕ) (t : List ℤ) (at : ℕ) (so : Turned p n ws t₀ first i t at) where
    pub turned_more : i < n → {u : List ℤ} {m : ℕ} → ((rooms : Table → ℕ) → ok u m ≡ run (p i t) ws rooms at) → Turned p n ws t₀ first (i + 1) u m
    turned_more h e rooms = so rooms ∙ turn_ok p ws rooms n i t at h (e rooms)

    pub turned_no : i < n → {r : Refusal} → ((rooms : Table → ℕ) → no r ≡ run (p i t) ws rooms at) → (rooms : Table → ℕ) → no r ≡ run (turns n 0 p t₀) ws rooms first
    turned_no h e rooms = sym (so rooms ∙ turn_no p ws rooms n i t at h (e rooms))

    pub turned_all : n ≤ i → (rooms : Table → ℕ) → ok t at ≡ run (turns n 0 p t₀) ws rooms first
    turned_all h rooms = sym (so rooms ∙ turns-over p ws rooms n i t at h)
