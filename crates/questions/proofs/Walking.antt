-- The walk along a chain, a step at a time.
use Rattle.std.specs.Prelude.{Ok, Err}
use mathlib.Core.Path.{◌≡◌, refl, ap}
use mathlib.Core.List.{List}
use mathlib.Core.Bool.{true, false}
use Prim.Native.Nat.{ℕ, zero, suc, ◌-◌, ◌<◌, ◌≤◌}
use native.Mathlib.Omega.{arith}
use lib.IntN.{ℤ}
use Rattle.format.specs.Reading.{Edges}
use Rattle.format.specs.Links.{names}
use Rattle.format.specs.Questions.{at, walk, contradiction}

module _ (es : List ℤ) (m : ℕ) where
  pub walk_on : (left : ℕ) (e : ℤ) → 0 < left → names m e ≡ true → walk es m left e ≡ walk es m (left - 1) (at Edges es e 7)
  unfolding walk
  walk_on zero e h t = absurd (omega arith)
  walk_on (suc n) e h t = let k : n ≡ suc n - 1 = omega arith in rw t (ap (λ (i : ℕ). walk es m i (at Edges es e 7)) k)

  pub walk_off : (left : ℕ) (e : ℤ) → names m e ≡ false → walk es m left e ≡ Err contradiction
  unfolding walk
  walk_off zero e t = rw t refl
  walk_off (suc n) e t = rw t refl

  pub walk_end : (left : ℕ) (e : ℤ) → left ≤ 0 → names m e ≡ true → walk es m left e ≡ Ok e
  unfolding walk
  walk_end zero e h t = rw t refl
  walk_end (suc n) e h t = absurd (omega arith)
