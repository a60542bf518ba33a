use Rattle.std.proofs.Common.{◌≡◌, ◌≤◌}
use Rattle.inplace.specs.Links.{net, growing, returns_from}
use Rattle.links.proofs.returns.add_all.Given as goal

abbrev pub invariant-loop-s : goal.invariant-loop-s
invariant-loop-s l = (l.m ≤ l.room)
    × (growing (net l.states l.edges) l.m ≡ returns_from l.room l.n l.k l.rules l.s (growing (net l.initial.states l.initial.edges) l.before))
