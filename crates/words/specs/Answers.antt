-- What each answer of the code says, as an outcome of a reading program.
use Rattle.std.specs.Prelude.{ℕ, ◌<◌, Result, Ok, Err}
use Rattle.format.specs.Reading.{Outcome, ok, no}
use Rattle.format.specs.declared.Refusal.{Refusal}

-- What was read, and the place of the next word; or why not.
abbrev pub Read : Type 0 → Type 0
Read A = Result (A × ℕ) Refusal

-- The place of the next word, or why not.
abbrev pub Step : Type 0
Step = Result ℕ Refusal

abbrev pub outcome : {A : Type 0} → Read A → Outcome A
outcome (Ok (v, n)) = ok v n
outcome (Err r) = no r

-- A step, with what it left behind: on a refusal nothing is said of that.
abbrev pub told : {X : Type 0} → Step → X → Outcome X
told (Ok n) x = ok x n
told (Err r) x = no r

-- An index that was got is below k.
abbrev pub Below : ℕ → Read ℕ → Type 0
Below k (Ok (v, n)) = v < k
Below k (Err r) = Unit {0}
