-- `links::returns::count_returns` meets its contract: after i turns the return edges of the first i edges are counted. Assumes nothing.
use Rattle.std.proofs.Common.{refl, sym, ◌∙◌, arith}
use Rattle.inplace.specs.Links.{net, returns_of}
use Rattle.links.specs.Returns.{returns-more, returns-same}
use Rattle.links.proofs.returns.count_returns.Goals as goal
use Rattle.links.proofs.returns.count_returns.Goals.{then-has_return, else-has_return}

pub loop-i-init : goal.loop-i-init
unfolding returns_of
loop-i-init c = (refl, omega arith)

pub loop-i-preserved : goal.loop-i-preserved
loop-i-preserved c =
    let n = c.args.net.now in
    let l = c.loop-i in
    let t = net n.states.words.now n.edges.words.now in
    let d = l.invariant.0 in
    elim c.if-has_return.branch [
      | then-has_return w ↦ (w.d-is ∙ returns-more n.states.count n.rules.count n.rules.words.now t l.i d (sym c.has_return.ensures ∙ w.if-has_return.true), omega arith)
      | else-has_return w ↦ (w.d-is ∙ returns-same n.states.count n.rules.count n.rules.words.now t l.i d (sym c.has_return.ensures ∙ w.if-has_return.false), omega arith)
    ]
