-- What is known of the tables when they were cleared, filled and kept lent.
use Rattle.std.proofs.Common.{◌≡◌, refl, ◌∙◌, List, ℕ, ℤ, length}
use Rattle.format.specs.Reading.{Table, run}
use Rattle.format.specs.Tables.{room}
use Rattle.format.specs.Results.{Decoded}
use Rattle.inplace.specs.Held.{held}
use Rattle.inplace.specs.Whole.{Tables, blank, filling}
use Rattle.serialized.specs.declared.lent.Lent.{Lent}
use Rattle.serialized.specs.declared.lent.Rooms.{Rooms}
use Rattle.serialized.specs.Rooms.{lengths, rooms_of, Are, they_are}
use Rattle.serialized.specs.Kept.{tables_of, Kept}
use Rattle.serialized.specs.Answered.{Decodes, Settled, filled, concluded}

-- t are the tables when they were cleared, u when they were filled
pub filled_by : (lent : Table → ℕ) (ws : List ℤ) (at : ℕ) (d : Decoded) (t u : Tables) (rooms : Rooms) → rooms ≡ rooms_of lent → t ≡ blank lent
    → ((room : Table → ℕ) → Are room rooms → held d u ≡ run (filling rooms.edges t) ws room at) → held d u ≡ filled lent ws at
filled_by lent ws at d t u rooms r b f = f (room lent) (rw r (they_are lent)) ∙ (λ i. run (filling (r i).edges (b i)) ws (room lent) at)

-- tables of the same lengths are blank alike
pub blank_alike : (l m : Lent) → Kept l m → blank (lengths (tables_of m)) ≡ blank (lengths (tables_of l))
blank_alike l m k = rw (k.states.1, k.edges.1, k.ranges.1, k.sets.1, k.rules.1, k.modes.1, k.decisions.1, k.actions.1, k.scratch.1) refl

-- l lends what was cleared, m what was filled, and u is what settling it left
pub decodes : (t : Tables) (ws : List ℤ) (at : ℕ) (d r : Decoded) (m : Lent) (u : Tables) → held d (tables_of m) ≡ filled (lengths t) ws at
    → length m.scratch.now ≡ length t.scratch → blank (lengths (tables_of m)) ≡ blank (lengths t) → Settled at d (tables_of m) r u → Decodes t ws at r u
decodes t ws at d r m u f h b s = let x = concluded (lengths t) ws at d (tables_of m) r u f h b s in record { told = x.0; left = x.1 }
