-- The records of a table, of w words each: how long one is, and the first of those that are left.
use Rattle.std.specs.Prelude.{◌≡◌, refl, List, ◌∷◌, ℕ, suc, ◌+◌, ◌-◌, ◌*◌, ◌≤◌, ◌<◌, ℤ, length, drop}
use Rattle.std.proofs.Common.{arith, mul-suc, add-one, length-drop, length-take-le, drop-drop}
use Rattle.format.specs.Tables.{row_at}
use Rattle.format.specs.Writing.{rows_of}

pub row_long : (w : ℕ) (t : List ℤ) (i : ℕ) → w * i + w ≤ length t → length (row_at w t i) ≡ w
row_long w t i h = length-take-le w (drop (w * i) t) (omega (arith, length-drop (w * i) t))

-- Of k records those from i on.
abbrev pub rows_from : ℕ → ℕ → List ℤ → ℕ → List (List ℤ)
rows_from w k t i = rows_of w (k - i) (drop (w * i) t)

pub rows_next : (w k : ℕ) (t : List ℤ) (i : ℕ) → i < k → rows_from w k t i ≡ row_at w t i ∷ rows_from w k t (i + 1)
rows_next w k t i h =
    let e : k - i ≡ suc (k - (i + 1)) = omega arith in
    let d : w * (i + 1) ≡ w * i + w = rw add-one (omega (arith, mul-suc w i)) in
    rw (e, d, drop-drop) refl
