-- `returns::meet` meets its contract: by its tests, in their order. Assumes nothing.
use Rattle.std.proofs.Common.{refl, sym, ◌∙◌, true, false, arith, ◌<◌}
use Rattle.wiring.specs.Returns.{met-derived, met-none, met_late, met_there}
use Rattle.wiring.proofs.returns.meet.Goals as goal
use Rattle.wiring.proofs.returns.meet.Goals.{else-j-net-via-then-j-net+else-is_return, else-j-net-via-else-j-net}

pub returns-then-e-o : goal.returns-then-e-o
returns-then-e-o c =
    let a = c.args in
    let net = a.net.now in
    sym (met-derived net.states.count net.edges.count net.rules.count net.states.words.now net.edges.words.now net.rules.words.now a.o a.e a.j c.if-e-o.true)

pub returns-in_default : goal.returns-in_default
returns-in_default c =
    let a = c.args in
    let net = a.net.now in
    sym (met-none net.states.count net.edges.count net.rules.count net.states.words.now net.edges.words.now net.rules.words.now a.o a.e a.j c.in_default.ensures.starts (omega arith))

pub returns-then-is_return : goal.returns-then-is_return
returns-then-is_return c =
    let a = c.args in
    let net = a.net.now in
    sym (met_there net.states.count net.edges.count net.rules.count net.states.words.now net.edges.words.now net.rules.words.now a.o a.e a.j (omega arith) c.in-Some.ensures.starts (c.in-Some.ensures.listed c.in-Some.stop refl) true c.if-j-net.true c.size_at-follow.ensures.0 (sym c.is_return.ensures ∙ c.if-is_return.true))

pub returns-else-j-net : goal.returns-else-j-net
returns-else-j-net c =
    let a = c.args in
    let net = a.net.now in
    let own : a.e < a.o = omega arith in
    elim c.else-j-net.branch [
      | else-j-net-via-then-j-net+else-is_return w ↦
          sym (met_there net.states.count net.edges.count net.rules.count net.states.words.now net.edges.words.now net.rules.words.now a.o a.e a.j own c.in-Some.ensures.starts (c.in-Some.ensures.listed c.in-Some.stop refl) false w.if-j-net.true c.size_at-follow.ensures.0 (sym w.is_return.ensures ∙ w.if-is_return.false))
      | else-j-net-via-else-j-net w ↦
          sym (met_late net.states.count net.edges.count net.rules.count net.states.words.now net.edges.words.now net.rules.words.now a.o a.e a.j own c.in-Some.ensures.starts (c.in-Some.ensures.listed c.in-Some.stop refl) w.if-j-net.false)
    ]
