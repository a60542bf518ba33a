-- `deserialize`: the tables are cleared, so that filling them runs over `blank`; what that came to decides the rest (`concluded`).
use Rattle.std.proofs.Common.{subst, rules, ◌∙◌}
use Rattle.inplace.specs.Whole.{Tables, tables}
use Rattle.serialized.specs.Kept.{tables_of}
use Rattle.serialized.specs.Rooms.{lengths}
use Rattle.serialized.specs.Answered.{Decodes, ready}
use Rattle.serialized.proofs.Lending.{filled_by, blank_alike, decodes}
use Rattle.serialized.proofs.deserialize.Goals as goal

pub settle-requires : goal.settle-requires
settle-requires c =
    let a = c.args in
    let ws = a.words.now in
    let lent = lengths (tables a.states.now a.edges.now a.ranges.now a.sets.now a.rules.now a.modes.now a.decisions.now a.actions.now a.scratch.now) in
    let l = c.clear.new.self in
    let f = c.fill-filled in
    let m = f.new.lent in
    ready lent ws a.at f.result (tables_of m)
    (filled_by lent ws a.at f.result (tables_of l) (tables_of m) c.rooms-rooms.result c.rooms-rooms.ensures c.clear.ensures.cleared f.ensures.filled)
    (f.ensures.kept.scratch.1 ∙ c.clear.ensures.kept.scratch.1)

pub returns : goal.returns
returns c =
    let a = c.args in
    let ws = a.words.now in
    let t = tables a.states.now a.edges.now a.ranges.now a.sets.now a.rules.now a.modes.now a.decisions.now a.actions.now a.scratch.now in
    let l = c.clear.new.self in
    let f = c.fill-filled in
    let m = f.new.lent in
    let P : Tables → Type 0 = λ u. Decodes t ws a.at c.settle.result u in
    subst P (search rules)
    (decodes t ws a.at f.result c.settle.result m (tables_of c.settle.new.lent)
    (filled_by (lengths t) ws a.at f.result (tables_of l) (tables_of m) c.rooms-rooms.result c.rooms-rooms.ensures c.clear.ensures.cleared f.ensures.filled)
    (f.ensures.kept.scratch.1 ∙ c.clear.ensures.kept.scratch.1)
    (blank_alike l m f.ensures.kept ∙ blank_alike _ l c.clear.ensures.kept)
    c.settle.ensures.settled)
