-- What is said of two numbers that went through locals.
use mathlib.Core.Path.{◌≡◌}
use lib.IntN.{ℤ}
use mir.Syntax.{w32}
use mir.Val.{SFits, to_z, of_z}
use mir.ValLaws.{to_z-of_z}

pub plain : {X : Type 0} (f : ℤ → ℤ → X) (a b : ℤ) → SFits w32 a → SFits w32 b → {x : X} → x ≡ f (to_z w32 (of_z w32 a)) (to_z w32 (of_z w32 b)) → x ≡ f a b
plain f a b p q h = cc (to_z-of_z w32 a p, to_z-of_z w32 b q)
