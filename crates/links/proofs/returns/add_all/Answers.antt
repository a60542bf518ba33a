-- `links::returns::add_all` meets its contract: after s turns the edges of the first s states are followed. Assumes nothing.
use Rattle.std.proofs.Common.{refl, arith}
use Rattle.inplace.specs.Links.{net, growing, returns_from}
use Rattle.links.specs.Returns.{from_on}
use Rattle.links.proofs.returns.add_all.Goals as goal

pub loop-s-init : goal.loop-s-init
unfolding returns_from
loop-s-init c = (omega arith, refl)

pub loop-s-preserved : goal.loop-s-preserved
loop-s-preserved c =
    let a = c.args in
    let l = c.loop-s in
    let r = c.add_along-m in
    (r.ensures.1, from_on a.room a.n a.k a.rules.now l.s (growing (net a.states.now a.edges.now) a.before) l.invariant.1 r.ensures.0)
