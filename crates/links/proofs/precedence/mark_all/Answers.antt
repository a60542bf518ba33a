use Rattle.std.proofs.Common.{refl, rules}
use Rattle.inplace.specs.Links.{decided_in}
use Rattle.links.specs.Precedence.{decided_on}
use Rattle.links.proofs.precedence.mark_all.Goals as goal
use Rattle.links.proofs.precedence.mark_all.Goals.{then-decides, else-decides}

pub loop-s-init : goal.loop-s-init
unfolding decided_in
loop-s-init c = refl

pub loop-s-preserved : goal.loop-s-preserved
loop-s-preserved c =
    let a = c.args in
    let l = c.loop-s in
    decided_on a.n a.m a.k a.rules.now a.edges.now l.s a.states.now l.invariant (rw (← c.decides.ensures) (elim c.if-decides.branch [
      | then-decides w ↦ rw (w.if-decides.true) (search rules)
      | else-decides w ↦ rw (w.if-decides.false) (search rules)
    ]))
