-- What the answers of this crate say, as outcomes of reading programs.
use Rattle.std.specs.Prelude.{List, Bool, ℕ, ◌+◌, ◌≤◌, ℤ, Ok, Err}
use Rattle.std.proofs.Common.{arith}
use Rattle.format.specs.Reading.{Outcome, ok, no}
use Rattle.format.specs.Sections.{bit}
use Rattle.inplace.specs.Sets.{Keeping}
use Rattle.words.specs.Answers.{Read, Below}

-- A number, with what was left behind: on a refusal nothing is said of that.
abbrev pub told_ix : {X : Type 0} → Read ℕ → (ℕ → X) → Outcome X
told_ix (Ok (k, n)) x = ok (x k) n
told_ix (Err r) x = no r

-- a number below j is below what j is at most
pub below_more : {j k : ℕ} (r : Read ℕ) → j ≤ k → Below j r → Below k r
below_more (Ok (v, n)) h b = omega arith
below_more (Err q) h b = tt

abbrev pub keeping_of : List ℤ → List ℤ → ℕ → Keeping
keeping_of ra se kept = record { ranges = ra; sets = se; kept = kept }

-- A flag that was got has room, for n ranges besides.
abbrev pub Roomy : ℕ → ℕ → Read Bool → Type 0
Roomy n room (Ok (b, m)) = n + bit b ≤ room
Roomy n room (Err r) = Unit {0}
