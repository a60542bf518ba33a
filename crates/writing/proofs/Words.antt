-- A word that was read from a record and put: by value, it is itself.
use mathlib.Core.List.{List, [], ◌∷◌}
use Prim.Native.Nat.{ℕ, ◌<◌, ◌^◌}
use lib.IntN.{ℤ, pos}
use lib.Signed.{mag}
use mir.Syntax.{w32}
use mir.Val.{to_z, of_z}
use Rattle.words.proofs.Signs.{back32}
use Rattle.format.specs.Sections.{size}
use Rattle.writing.specs.Laid.{Lays}

pub word : {at r : ℕ} {z : ℤ} {old new : List ℤ} → Lays 1 at (to_z w32 (of_z w32 z) ∷ []) old new r → mag z < 2 ^ 31 → Lays 1 at (z ∷ []) old new r
word {z = z} a h = rw (back32 z h) at a

pub number : (z : ℤ) {at r : ℕ} {old new : List ℤ} → Lays 1 at (pos (size (to_z w32 (of_z w32 z))) ∷ []) old new r → mag z < 2 ^ 31 → Lays 1 at (pos (size z) ∷ []) old new r
number z a h = rw (back32 z h) at a
