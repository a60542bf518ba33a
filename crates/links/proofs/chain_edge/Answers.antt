-- `links::chain_edge` meets its contract: the two halves, one after the other. Assumes nothing.
use Rattle.std.proofs.Common.{ap, ◌∙◌}
use Rattle.inplace.specs.Links.{last_of, chained}
use Rattle.links.proofs.chain_edge.Goals as goal

pub returns : goal.returns
unfolding chained
returns c =
    let a = c.args in
    c.last_of.ensures _ ∙ ap (last_of a.i a.source) c.first_or.ensures
