-- Signed words: what the sign test, the casts and a store through a field leave.
use mathlib.Core.Path.{◌≡◌}
use mathlib.Core.Bool.{false}
use Prim.Native.Nat.{ℕ, zero, suc, ◌<◌, ◌^◌}
use native.Mathlib.Omega.{arith}
use lib.Dec.{T}
use lib.IntN.{ℤ, pos, negsuc, nat_abs, suc_ℤ, ◌+ℤ◌, +ℤ_one}
use lib.Signed.{mag, lt_z, non_neg}
use mir.Syntax.{w32, w64}
use mir.Val.{SFits, Fits, to_z, of_z}
use mir.ValLaws.{to_z-of_z}

pub fits_nat : (z : ℤ) → SFits w32 z → lt_z z (pos 0) ≡ false → T (non_neg z) × Fits w64 (nat_abs z)
fits_nat (pos n) f t = (tt, record { fits = let h : n < 2 ^ 31 = f.sfits in omega arith })
fits_nat (negsuc n) f t = absurd (let e : ◌≡◌ {A = ℕ} 0 1 = cc in omega arith)

pub wider : (z : ℤ) → SFits w32 z → SFits w64 z
wider z f = record { sfits = let h : mag z < 2 ^ 31 = f.sfits in omega arith }

-- a signed number that went through a local is itself
pub back32 : (z : ℤ) → mag z < 2 ^ 31 → to_z w32 (of_z w32 z) ≡ z
back32 z h = to_z-of_z w32 z (record { sfits = h })

pub back64 : (z : ℤ) → mag z < 2 ^ 63 → to_z w64 (of_z w64 z) ≡ z
back64 z h = to_z-of_z w64 z (record { sfits = h })

-- one more than a word fits twice the width
pub one_more_lem : (z : ℤ) → SFits w32 z → SFits w64 (z +ℤ pos 1)
one_more_lem z f = record { sfits = rw (+ℤ_one z) (by z f.sfits) }
  where
    by : (z : ℤ) → mag z < 2 ^ 31 → mag (suc_ℤ z) < 2 ^ 63
    by (pos n) h = omega arith
    by (negsuc zero) h = omega arith
    by (negsuc (suc n)) h = omega arith
