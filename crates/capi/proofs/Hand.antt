-- What the exports' answers need of a part of a lent slice, and of a writing's max token type.
use Rattle.std.specs.Prelude.{Ok, Err}
use mathlib.Core.List.{List}
use Prim.Native.Nat.{ℕ, ◌<◌, ◌^◌}
use lib.IntN.{ℤ}
use lib.ListN.{length}
use lib.Signed.{mag}
use mir.Syntax.{w32}
use mir.Val.{to_z, of_z}
use Rattle.words.proofs.Signs.{back32}
use Rattle.format.specs.Reading.{Table}
use Rattle.format.specs.Writing.{Writing, Writes}
use Rattle.format.specs.Results.{SetPart}
use Rattle.questions.specs.Parts.{Within}
use native.Mathlib.Omega.{arith}
use Rattle.capi.specs.Handed.{SmallPart}

-- a part that lies inside a lent slice is small
pub small-part : (rs : List ℤ) (p : SetPart) → length rs < 2 ^ 63 → Within rs p → SmallPart p
small-part rs (Ok (a, n)) h w = (omega arith, omega arith)
small-part rs (Err d) h w = tt

-- the max token type of a writing
pub for_token : {tables : Table → List ℤ} {counts : Table → ℕ} {token : ℤ} {m : ℕ} {x : Writing} → mag token < 2 ^ 31 → Writes tables counts (to_z w32 (of_z w32 token)) m x → Writes tables counts token m x
for_token {tables} {counts} {token} {m} {x} f h = rw (back32 token f) at h
