-- `links::returns::add_along` meets its contract: what is left of the chain gives what the whole of it gives. Assumes nothing.
use Rattle.std.proofs.Common.{◌≡◌, refl, sym, ◌∙◌, ◌-◌, ◌+◌, arith}
use Rattle.format.specs.Sections.{size}
use Rattle.inplace.specs.Rows.{word_of}
use Rattle.inplace.specs.Links.{net, growing}
use Rattle.links.specs.Returns.{along-over, along_off, along_on}
use Rattle.links.proofs.returns.add_along.Goals as goal

pub loop-init : goal.loop-init
loop-init c =
    let a = c.args in
    let left : c.size_at-end.result - 0 ≡ size (word_of 8 a.states.now a.s 7) = omega (arith, c.size_at-end.ensures.0) in
    (c.requires.3, (word_of 8 a.states.now a.s 5, c.number_at-e.ensures, rw left refl))

pub returns-then-e-m : goal.returns-then-e-m
returns-then-e-m c =
    let a = c.args in
    let l = c.loop in
    let h = l.invariant.1 in
    let x = growing (net l.states l.edges) l.m in (
      sym (h.2 ∙ along_off a.room a.n a.k a.rules.now (c.size_at-end.result - l.counter) h.0 h.1 x c.if-e-m.true),
      l.invariant.0,
    )

pub loop-preserved : goal.loop-preserved
loop-preserved c =
    let a = c.args in
    let l = c.loop in
    let h = l.invariant.1 in
    let r = c.add_return-m in
    let end = c.size_at-end.result in
    let x = growing (net l.states l.edges) l.m in (
      r.ensures.1,
      (
        word_of 8 r.new.edges l.e 7,
        c.number_at-e-in-loop.ensures,
        h.2 ∙ along_on a.room a.n a.k a.rules.now (end - l.counter) h.0 h.1 x (end - (l.counter + 1)) (omega arith) c.if-e-m.false (omega arith) r.ensures.0,
      ),
    )

pub returns : goal.returns
returns c =
    let a = c.args in
    let l = c.loop in
    let h = l.invariant.1 in
    let x = growing (net l.states l.edges) l.m in
    (sym (h.2 ∙ along-over a.room a.n a.k a.rules.now (c.size_at-end.result - l.counter) h.0 h.1 x (omega arith)), l.invariant.0)
