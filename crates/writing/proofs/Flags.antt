-- Flags 1 and 2 are bits of a state's flags, as format has them.
use mathlib.Core.Path.{◌≡◌, refl, ap}
use mathlib.Core.List.{List, [], ◌∷◌}
use mathlib.Core.Bool.{Bool}
use Prim.Native.Nat.{ℕ, zero, suc, ◌≤◌, ◌<◌}
use native.Mathlib.Omega.{arith}
use lib.IntN.{ℤ}
use borrow.Author.Tests.{le-ltb, ne_eqb}
use Rattle.format.specs.Sections.{among}
use Rattle.format.specs.Links.{numbers}
use Rattle.format.specs.Places.{st_flags}
use Rattle.format.specs.Writing.{cell_size, flag1, flag2}
use Rattle.writing.specs.Parts.{has, has_flag}

-- what holds of each number below 8, and of all others
eight : (P : ℕ → Type 0) → P 0 → P 1 → P 2 → P 3 → P 4 → P 5 → P 6 → P 7 → ((s : ℕ) → 8 ≤ s → P s) → (s : ℕ) → P s
eight P a b c d e f g h r zero = a
eight P a b c d e f g h r (suc zero) = b
eight P a b c d e f g h r (suc (suc zero)) = c
eight P a b c d e f g h r (suc (suc (suc zero))) = d
eight P a b c d e f g h r (suc (suc (suc (suc zero)))) = e
eight P a b c d e f g h r (suc (suc (suc (suc (suc zero))))) = f
eight P a b c d e f g h r (suc (suc (suc (suc (suc (suc zero)))))) = g
eight P a b c d e f g h r (suc (suc (suc (suc (suc (suc (suc zero))))))) = h
eight P a b c d e f g h r (suc (suc (suc (suc (suc (suc (suc (suc s)))))))) = r (suc (suc (suc (suc (suc (suc (suc (suc s)))))))) (omega arith)

none : (flag a b c d : ℕ) → a < 8 → b < 8 → c < 8 → d < 8 → (s : ℕ) → 8 ≤ s → has flag s ≡ among s (a ∷ b ∷ c ∷ d ∷ [])
none flag a b c d h i j k s l =
    rw (le-ltb s 8 l, ne_eqb s a (λ e. omega arith), ne_eqb s b (λ e. omega arith), ne_eqb s c (λ e. omega arith), ne_eqb s d (λ e. omega arith)) refl

one : (s : ℕ) → has 1 s ≡ among s (1 ∷ 3 ∷ 5 ∷ 7 ∷ [])
one =
    eight (λ (s : ℕ). has 1 s ≡ among s (1 ∷ 3 ∷ 5 ∷ 7 ∷ [])) refl refl refl refl refl refl refl refl
    (none 1 1 3 5 7 (omega arith) (omega arith) (omega arith) (omega arith))

two : (s : ℕ) → has 2 s ≡ among s (2 ∷ 3 ∷ 6 ∷ 7 ∷ [])
two =
    eight (λ (s : ℕ). has 2 s ≡ among s (2 ∷ 3 ∷ 6 ∷ 7 ∷ [])) refl refl refl refl refl refl refl refl
    (none 2 2 3 6 7 (omega arith) (omega arith) (omega arith) (omega arith))

pub with-one : (l : List (List ℤ)) → numbers (has_flag 1) l ≡ numbers flag1 l
with-one l = ap (λ (p : List ℤ → Bool). numbers p l) (λ i x. one (cell_size x st_flags) i)

pub with_two : (l : List (List ℤ)) → numbers (has_flag 2) l ≡ numbers flag2 l
with_two l = ap (λ (p : List ℤ → Bool). numbers p l) (λ i x. two (cell_size x st_flags) i)
