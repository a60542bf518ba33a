use Rattle.std.proofs.Common.{◌≡◌, ◌-◌, ◌≤◌, ℤ}
use Rattle.format.specs.Sections.{size}
use Rattle.inplace.specs.Rows.{word_of}
use Rattle.inplace.specs.Links.{net, growing, returns_along}
use Rattle.tables.specs.Words.{number_of}
use Rattle.links.proofs.returns.add_along.Given as goal

abbrev pub invariant-loop : goal.invariant-loop
invariant-loop l = (l.m ≤ l.room)
    × ((z : ℤ)
    × (l.e ≡ number_of z)
    × (returns_along l.room l.n l.k l.rules (size (word_of 8 l.initial.states l.s 7)) (word_of 8 l.initial.states l.s 5) (growing (net l.initial.states l.initial.edges) l.before)
    ≡ returns_along l.room l.n l.k l.rules (l.end - l.counter) z (growing (net l.states l.edges) l.m)))
