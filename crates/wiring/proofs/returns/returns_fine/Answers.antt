-- `returns::returns_fine` meets its contract: j is behind the return edges of the states before. Assumes nothing.
use Rattle.std.proofs.Common.{sym, ap, ◌∙◌}
use Rattle.wiring.specs.Returns.{met_along, from_more, from_start}
use Rattle.wiring.proofs.returns.returns_fine.Goals as goal

pub loop-s-init : goal.loop-s-init
loop-s-init c =
    let net = c.args.net.now in
    sym (from_start net.states.count net.edges.count net.rules.count net.states.words.now net.edges.words.now net.rules.words.now c.args.o)

pub loop-s-preserved : goal.loop-s-preserved
loop-s-preserved c =
    let net = c.args.net.now in
    let l = c.loop-s in
    c.meet_along-j.ensures
    ∙ ap (met_along net.states.count net.edges.count net.rules.count net.states.words.now net.edges.words.now net.rules.words.now c.args.o l.s) l.invariant
    ∙ sym (from_more net.states.count net.edges.count net.rules.count net.states.words.now net.edges.words.now net.rules.words.now c.args.o l.s)
