-- `links::returns::add_return` meets its contract: the three ways of `returned`. Assumes nothing.
use Rattle.std.proofs.Common.{◌≡◌, refl, sym, arith}
use Rattle.format.specs.Sections.{size}
use Rattle.inplace.specs.Rows.{word_of}
use Rattle.inplace.specs.Links.{net, growing}
use Rattle.links.specs.Returns.{returned-none, returned_full, returned-one}
use Rattle.links.proofs.returns.add_return.Goals as goal

pub returns-in-Some : goal.returns-in-Some
returns-in-Some c =
    let a = c.args in
    let x = growing (net a.states.now a.edges.now) a.m in
    let f = c.in-Some.ensures in
    let follow : c.size_at-follow.result ≡ size (word_of 8 a.edges.now a.e 4) = c.size_at-follow.ensures.0 in
    (rw (c.link_return.ensures, follow) (sym (returned-one a.room a.n a.k a.rules.now a.e x f.starts (f.listed c.in-Some.stop refl) c.if-m-room.true)), omega arith)

pub returns-in_default : goal.returns-in_default
returns-in_default c =
    let a = c.args in
    let f = c.in-Some.ensures in
    (sym (returned_full a.room a.n a.k a.rules.now a.e (growing (net a.states.now a.edges.now) a.m) f.starts (f.listed c.in-Some.stop refl) c.if-m-room.false), omega arith)

pub returns-in_default-2 : goal.returns-in_default-2
returns-in_default-2 c =
    let a = c.args in
    (sym (returned-none a.room a.n a.k a.rules.now a.e (growing (net a.states.now a.edges.now) a.m) c.in_default.ensures.starts (omega arith)), omega arith)
