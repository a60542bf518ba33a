-- `returns::meet_along` meets its contract: what is left of the chain from the present edge gives what was asked from the first. Assumes nothing.
use Rattle.std.proofs.Common.{◌≡◌, sym, ap, ◌∙◌, ◌+◌, ◌-◌, ℕ, arith}
use Rattle.wiring.specs.Returns.{met_on, on_far, on_more, on_end}
use Rattle.wiring.proofs.returns.meet_along.Goals as goal

pub returns-then-e-net : goal.returns-then-e-net
returns-then-e-net c =
    let a = c.args in
    let net = a.net.now in
    let l = c.loop in
    sym (l.invariant ∙ on_far net.states.count net.edges.count net.rules.count net.states.words.now net.edges.words.now net.rules.words.now a.o (c.size_at-count.result - l.counter) l.e l.j (omega arith) c.if-e-net.true)

pub loop-preserved : goal.loop-preserved
loop-preserved c =
    let a = c.args in
    let net = a.net.now in
    let l = c.loop in
    let on : ℕ → ℕ = λ left. met_on net.states.count net.edges.count net.rules.count net.states.words.now net.edges.words.now net.rules.words.now a.o left c.number_at-e-in-loop.result c.meet-j.result in
    let one : c.size_at-count.result - l.counter - 1 ≡ c.size_at-count.result - (l.counter + 1) = omega arith in
    l.invariant
    ∙ on_more net.states.count net.edges.count net.rules.count net.states.words.now net.edges.words.now net.rules.words.now a.o (c.size_at-count.result - l.counter) l.e l.j (omega arith) (omega arith) c.meet-j.ensures c.number_at-e-in-loop.ensures
    ∙ ap on one

pub returns : goal.returns
returns c =
    let a = c.args in
    let net = a.net.now in
    let l = c.loop in
    sym (l.invariant ∙ on_end net.states.count net.edges.count net.rules.count net.states.words.now net.edges.words.now net.rules.words.now a.o (c.size_at-count.result - l.counter) l.e l.j (omega arith))
