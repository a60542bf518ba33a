-- `links::returns::grow` meets its contract: the two ways of `returns`, by the room. Assumes nothing.
use Rattle.std.proofs.Common.{sym, arith, rules}
use Rattle.inplace.specs.Held.{with}
use Rattle.words.proofs.Signs.{back32}
use Rattle.inplace.specs.Links.{net}
use Rattle.links.specs.Returns.{returns_fit, returns-no_room}
use Rattle.links.proofs.returns.grow.Goals as goal

pub returns-then-m-d-clause-says : goal.returns-then-m-d-clause-says
returns-then-m-d-clause-says c =
    λ ws rooms q.
    let a = c.args in
    let h = with a.counts (net a.states.now a.edges.now) in
    rw (c.refused.ensures, back32 c.word_of.result c.word_of.type_inv, c.word_of.ensures)
    (sym (returns-no_room a.room a.rules.now h c.count_returns-d.ensures.counted ws rooms q a.counts.words (omega arith)))

pub returns-clause-says : goal.returns-clause-says
returns-clause-says c =
    λ ws rooms q.
    let a = c.args in
    let h = with a.counts (net a.states.now a.edges.now) in
    rw (back32 a.counts.token (search rules), c.add_all.ensures)
    (sym (returns_fit a.room a.rules.now h c.count_returns-d.ensures.counted ws rooms q a.counts.words (omega arith)))
