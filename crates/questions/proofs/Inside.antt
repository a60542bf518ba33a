-- A set's part, test by test, and that it lies inside the ranges.
use Rattle.std.specs.Prelude.{Ok, Err}
use mathlib.Core.Path.{◌≡◌, refl}
use mathlib.Core.List.{List}
use mathlib.Core.Bool.{Bool, true, false, not, ◌&&◌}
use Prim.Native.Nat.{ℕ, ◌+◌, ◌*◌, ◌/◌, ◌≤◌}
use native.Mathlib.Omega.{arith}
use lib.Dec.{leb}
use lib.IntN.{ℤ, pos}
use lib.ListN.{length}
use lib.Signed.{le_z}
use borrow.Author.Tests.{leb-true}
use Rattle.format.specs.Reading.{Sets, Ranges, pick}
use Rattle.format.specs.Sections.{size}
use Rattle.format.specs.Links.{names}
use Rattle.format.specs.Questions.{contradiction, missing, fits, at, set_part}
use Rattle.questions.specs.Parts.{part_at, Within}

both_right : (a b : Bool) → (a && b) ≡ true → b ≡ true
both_right true b e = e
both_right false b e = absurd (let z : ◌≡◌ {A = ℕ} 0 1 = cc in omega arith)

part-within : (a n : ℤ) (m : ℕ) (rs : List ℤ) → leb m (length rs / 2) ≡ true → Within rs (part_at a n m)
part-within a n m rs f = by (le_z (pos 0) a && le_z (pos 0) n && leb (size a + size n) m) refl
  where
    by : (t : Bool) → (le_z (pos 0) a && le_z (pos 0) n && leb (size a + size n) m) ≡ t → Within rs (pick (not t) (Err contradiction) (Ok ((2 * size a), (2 * size n))))
    by false e = tt
    by true e = omega (arith, leb-true m (length rs / 2) f, leb-true (size a + size n) m (both_right (le_z (pos 0) a && le_z (pos 0) n) (leb (size a + size n) m) e))

-- every part that is answered lies inside the ranges
pub set-within : (ls : List ℤ) (n : ℕ) (rs : List ℤ) (m : ℕ) (k : ℤ) → Within rs (set_part ls n rs m k)
unfolding set_part
set-within ls n rs m k = by (fits Sets n ls && fits Ranges m rs) (names n k) refl
  where
    by : (f t : Bool) → (fits Sets n ls && fits Ranges m rs) ≡ f → Within rs (pick (not f) (Err contradiction) (pick (not t) (Err (missing k)) (part_at (at Sets ls k 0) (at Sets ls k 1) m)))
    by false t e = tt
    by true false e = tt
    by true true e = part-within (at Sets ls k 0) (at Sets ls k 1) m rs (both_right (fits Sets n ls) (fits Ranges m rs) e)

-- and so its end is no greater than their number
pub room : (ls : List ℤ) (n : ℕ) (rs : List ℤ) (m : ℕ) (k : ℤ) {a l : ℕ} → Ok (a, l) ≡ set_part ls n rs m k → a + l ≤ length rs
room ls n rs m k e = rw (← e) at (set-within ls n rs m k)
