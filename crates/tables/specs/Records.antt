-- The words and the counts of all eight tables, by table.
use Rattle.std.specs.Prelude.{List, [], ℕ, ℤ}
use Rattle.format.specs.Reading.{Table}
use Rattle.format.specs.Tables.{nine}
use Rattle.tables.specs.declared.records.Records.{Records}

abbrev pub words_in : Records → Table → List ℤ
words_in r = nine r.net.states.words.now r.net.edges.words.now r.ranges.words.now r.sets.words.now r.net.rules.words.now r.modes.words.now r.decisions.words.now r.actions.words.now []

-- Of the edges, so many.
abbrev pub counts_with : ℕ → Records → Table → ℕ
counts_with m r = nine r.net.states.count m r.ranges.count r.sets.count r.net.rules.count r.modes.count r.decisions.count r.actions.count 0

abbrev pub counts_in : Records → Table → ℕ
counts_in r = counts_with r.net.edges.count r
