-- Signed numbers: equality by their bits, what holds of a negative one, and a listed record's words.
use Rattle.std.specs.Prelude.{Some, None, Result, Ok, Err, ⊤, IsErrAnd}
use Rattle.std.proofs.lemmas.Result.{err_from_is_err_and}
use mathlib.Core.Path.{◌≡◌, refl, sym, ap, ◌∙◌}
use mathlib.Core.Bool.{Bool, true, false}
use Prim.Native.Nat.{ℕ}
use native.Mathlib.Omega.{arith}
use lib.IntN.{ℤ, pos, negsuc}
use lib.Signed.{le_z}
use mir.Syntax.{w32}
use mir.Val.{SFits, to_z, of_z}
use mir.ValLaws.{to_z-of_z}
use borrow.Author.Tests.{le-leb}
use Rattle.format.specs.Sections.{size}
use Rattle.format.specs.Questions.{contradiction}
use Rattle.format.specs.declared.Denial.{Denial}
use Rattle.words.specs.Signs.{index_of}
use Rattle.questions.specs.Parts.{checked}

-- signed numbers that went through locals are themselves
pub plain1 : {A : Type 0} (f : ℤ → A) {x : ℤ} → SFits w32 x → {r : A} → r ≡ f (to_z w32 (of_z w32 x)) → r ≡ f x
plain1 f {x} g e = e ∙ ap f (to_z-of_z w32 x g)

-- a word that is no index is negative; one that is, is that index
pub negative : (z : ℤ) → None ≡ index_of z → le_z (pos 0) z ≡ false
negative (pos n) e = cc
negative (negsuc n) e = refl

pub natural : (z : ℤ) {i : ℕ} → Some i ≡ index_of z → (le_z (pos 0) z ≡ true) × (size z ≡ i)
natural (pos n) e = (le-leb 0 n (omega arith), cc)
natural (negsuc n) e = cc

-- what a test of a count came to, where it was passed and where it was not
pub within : {b : Bool} {u : ⊤} → Ok u ≡ checked b → b ≡ true
within {b = true} e = refl
within {b = false} e = cc

pub beyond : {b : Bool} {d : Denial} {A : Type 0} {r : Result A Denial} → Err d ≡ checked b → IsErrAnd r (λ x. x ≡ d) → (r ≡ Err contradiction) × (b ≡ false)
beyond {b = true} e h = cc
beyond {b = false} {d = d} {r = r} e h = let x = err_from_is_err_and r h in let y : d ≡ contradiction = cc in (x.1 ∙ ap Err (x.2 ∙ y), refl)

-- what a test says that `!` turned round
pub refused : {r b : Bool} → r ≡ b → r ≡ false → b ≡ false
refused e t = sym e ∙ t

pub passed : {r b : Bool} → r ≡ b → r ≡ true → b ≡ true
passed e t = sym e ∙ t
