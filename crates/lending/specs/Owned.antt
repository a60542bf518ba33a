-- Tables on the heap, as the statements about lent tables take them.
use Rattle.std.specs.Prelude.{List, [], ℕ, ℤ}
use Rattle.format.specs.Reading.{Table}
use Rattle.format.specs.Tables.{nine}
use Rattle.format.specs.declared.Counts.{Counts}
use Rattle.inplace.specs.Whole as W
use Rattle.lending.specs.declared.Tables.{Tables}

-- Every word of the nine tables.
abbrev pub tables_of : Tables → W.Tables
tables_of t =
    W.tables t.states.items t.edges.items t.ranges.items t.sets.items t.rules.items t.modes.items t.decisions.items t.actions.items
    t.scratch.items

-- The same but for the scratch, which a writing doesn't look at.
abbrev pub lists_of : Tables → Table → List ℤ
lists_of t =
    nine t.states.items t.edges.items t.ranges.items t.sets.items t.rules.items t.modes.items t.decisions.items t.actions.items []

-- The records in each of them.
abbrev pub records_of : Counts → Table → ℕ
records_of c = nine c.states c.edges c.ranges c.sets c.rules c.modes c.decisions c.actions 0
