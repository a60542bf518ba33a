-- A decode's answer is small: the words read are no more than the words, the other counts no more than the room, and a refusal's place and
-- record no more than the words and 4.
use Rattle.std.specs.Prelude.{◌≡◌, refl, List, ℕ, ◌<◌, ◌^◌, ℤ, length}
use Rattle.std.proofs.Common.{arith, length-append}
use Rattle.format.specs.Reading.{Table, Outcome, ok, no, run}
use Rattle.format.specs.Sections.{Read}
use Rattle.format.specs.Decode.{dialect, answer, decoded}
use Rattle.format.specs.Tables.{room, counts_of, derived_of}
use Rattle.laws.specs.Reading.{within}
use Rattle.laws.specs.Refusals.{refused_so}
use Rattle.laws.specs.Fits.{read_roomed}
use Rattle.capi.specs.Handed.{Small}

pub small : (lent : Table → ℕ) (ws : List ℤ) → length ws < 2 ^ 62 → Small (decoded lent ws 0).told
unfolding decoded counts_of
small lent ws h = go (run dialect ws (room lent) 0) refl
  where
    go : (o : Outcome Read) → run dialect ws (room lent) 0 ≡ o → Small (answer lent 0 o).told
    go (ok r n) e =
        let m = read_roomed lent ws 0 r n e in
        let w = within dialect ws (room lent) 0 (omega arith) e in
        record { words = omega (arith, w); states = omega (arith, m.states); edges = omega (arith, m.edges, length-append r.edges (derived_of r)); derived = omega (arith, m.edges); ranges = omega (arith, m.ranges); sets = omega (arith, m.sets); rules = omega (arith, m.rules); modes = omega (arith, m.modes); decisions = omega (arith, m.decisions); actions = omega (arith, m.actions) }
    go (no q) e = let x = refused_so ws (room lent) 0 q e in (omega (arith, x.near), omega (arith, x.short))
