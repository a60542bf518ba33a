-- Document 02, R-2, of `decode` itself, and of `decode_from`: why it refuses, where, and which record it names (laws, Refusals).
use Rattle.std.proofs.Common.{sym}
use Rattle.std.specs.Prelude.{List, ℕ, ℤ, Err}
use Rattle.format.specs.Tables.{room}
use Rattle.format.specs.declared.Refusal.{Refusal}
use Rattle.laws.specs.Demand3.{refusing}
use Rattle.laws.specs.Refusals.{Refused, refused_so}
use Rattle.inplace.specs.Whole.{Tables}
use Rattle.serialized.specs.Rooms.{lengths}
use Rattle.serialized.specs.Answered.{Decodes}

pub refusal-names : {t : Tables} {ws : List ℤ} {at : ℕ} {q : Refusal} {u : Tables} → Decodes t ws at (Err q) u → Refused ws (room (lengths t)) at q
refusal-names {t} {ws} {at} {q} a = refused_so ws (room (lengths t)) at q (refusing (lengths t) ws at q (sym a.told))
