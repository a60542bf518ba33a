-- The steps of `contains`, on a list of words: they are the steps of `halve`.
use mathlib.Core.Path.{◌≡◌, sym, ap, ◌∙◌}
use mathlib.Core.Bool.{Bool, true, false}
use mathlib.Core.List.{List}
use Prim.Native.Nat.{ℕ, zero, suc, ◌+◌, ◌-◌, ◌*◌, ◌/◌, ◌≤◌, ◌<◌}
use native.Mathlib.Omega.{arith}
use lib.Dec.{leb}
use lib.IntN.{ℤ, pos}
use lib.Signed.{le_z}
use mir.Syntax.{w32}
use mir.Val.{SFits, to_z, of_z}
use mir.ValLaws.{to_z-of_z}
use Rattle.laws.specs.Order.{le_z_key}
use lib.ListN.{length, get_or}
use borrow.Author.Tests.{lt-ltb, le-ltb}
use Rattle.format.specs.Sets.{Range, key, at, halve, found, holds, ranges_of}
use Rattle.format.specs.Questions.{lookup}
use Rattle.ranges.specs.Words.{ranges_long, ranges_at_lem}

-- the halving of the whole list comes to where that between low and high comes
abbrev Reaches : List Range → ℤ → ℕ → ℕ → Type 0
Reaches l v low high = (f : ℕ) × ((high ≤ low + f) × (halve f l v low high ≡ halve (length l) l v 0 (length l)))

pub record Halving (ws : List ℤ) (v : ℤ) (low high : ℕ) : Type 0 where
  pub order : low ≤ high
  pub inside : high ≤ length ws / 2
  pub reaches : Reaches (ranges_of ws) v low high

pub halving : (ws : List ℤ) (v : ℤ) → Halving ws v 0 (length ws / 2)
halving ws v =
    let l = ranges_of ws in
    record {
      order = omega arith;
      inside = omega arith;
      reaches = (length l, (omega (arith, ranges_long ws), ap (λ (n : ℕ). halve (length l) l v 0 n) (sym (ranges_long ws))));
    }

module _ (l : List Range) (v : ℤ) (low high : ℕ) (h : low < high) where
  step-up : Reaches l v low high → leb (key (at l (low + (high - low) / 2)).start) (key v) ≡ true → Reaches l v (low + (high - low) / 2 + 1) high
  unfolding halve
  step-up (zero, r) t = absurd (omega arith)
  step-up (suc f, r) t = (f, (omega arith, rw (lt-ltb low high h, t) at r.1))

  step_down : Reaches l v low high → leb (key (at l (low + (high - low) / 2)).start) (key v) ≡ false → Reaches l v low (low + (high - low) / 2)
  unfolding halve
  step_down (zero, r) t = absurd (omega arith)
  step_down (suc f, r) t = (f, (omega arith, rw (lt-ltb low high h, t) at r.1))

-- a test of two words that went through locals, the second of which stays one
pub tested : (x y : ℤ) → SFits w32 x → SFits w32 y → {t : Bool} → le_z (to_z w32 (of_z w32 x)) (to_z w32 (of_z w32 y)) ≡ t → leb (key x) (key (to_z w32 (of_z w32 y))) ≡ t
tested x y f g e = rw (to_z-of_z w32 y g) (sym (le_z_key x y f g) ∙ (rw (to_z-of_z w32 x f, to_z-of_z w32 y g) at e))

met : (l : List Range) (v : ℤ) (low high : ℕ) → high ≤ low → Reaches l v low high → holds l v ≡ found l v low
unfolding halve holds
met l v low high h (zero, r) = ap (found l v) (sym r.1)
met l v low high h (suc f, r) = ap (found l v) (sym (rw (le-ltb low high h) at r.1))

module _ {ws : List ℤ} {v : ℤ} {low high : ℕ} (g : Halving ws v low high) where
  module _ (h : low < high) {t : Bool} (q : leb (key (get_or ws (2 * (low + (high - low) / 2)) (pos 0))) (key v) ≡ t) where
    start_is : leb (key (at (ranges_of ws) (low + (high - low) / 2)).start) (key v) ≡ t
    start_is = ap (λ (r : Range). leb (key r.start) (key v)) (ranges_at_lem ws (low + (high - low) / 2) (omega (arith, g.inside))) ∙ q

  pub turn_up : (h : low < high) → leb (key (get_or ws (2 * (low + (high - low) / 2)) (pos 0))) (key v) ≡ true → Halving ws v (low + (high - low) / 2 + 1) high
  turn_up h q = record { order = omega arith; inside = g.inside; reaches = step-up (ranges_of ws) v low high h g.reaches (start_is h q) }

  pub turn_down : (h : low < high) → leb (key (get_or ws (2 * (low + (high - low) / 2)) (pos 0))) (key v) ≡ false → Halving ws v low (low + (high - low) / 2)
  turn_down h q = record { order = omega arith; inside = omega (arith, g.inside); reaches = step_down (ranges_of ws) v low high h g.reaches (start_is h q) }

  pub met-none : high ≤ low → low ≡ 0 → lookup ws v ≡ false
  unfolding lookup
  met-none h e = met (ranges_of ws) v low high h g.reaches ∙ rw (le-ltb 0 low (omega arith))

  pub met_some : high ≤ low → 0 < low → lookup ws v ≡ leb (key v) (key (get_or ws (2 * (low - 1) + 1) (pos 0)))
  unfolding lookup
  met_some h k =
      met (ranges_of ws) v low high h g.reaches
      ∙ rw (lt-ltb 0 low k) (ap (λ (r : Range). leb (key v) (key r.stop)) (ranges_at_lem ws (low - 1) (omega (arith, g.order, g.inside))))
