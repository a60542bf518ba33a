-- What a test came to says of what it tests.
use mathlib.Core.Path.{◌≡◌, sym, ap, ◌∙◌}
use mathlib.Core.List.{List}
use mathlib.Core.Bool.{Bool, true, false}
use lib.IntN.{ℤ}

pub failed : {r b : Bool} → r ≡ b → r ≡ false → b ≡ false
failed e t = sym e ∙ t

pub passed : {r b : Bool} → r ≡ b → r ≡ true → b ≡ true
passed e t = sym e ∙ t

-- the same of a test that was made of a table's record
pub row-failed : (f : List ℤ → Bool) {r : Bool} {x y : List ℤ} → r ≡ f x → x ≡ y → r ≡ false → f y ≡ false
row-failed f e q t = failed (e ∙ ap f q) t

pub row-passed : (f : List ℤ → Bool) {r : Bool} {x y : List ℤ} → r ≡ f x → x ≡ y → r ≡ true → f y ≡ true
row-passed f e q t = passed (e ∙ ap f q) t
