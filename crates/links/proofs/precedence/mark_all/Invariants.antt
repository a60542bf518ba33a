use Rattle.std.proofs.Common.{◌≡◌}
use Rattle.inplace.specs.Links.{decided_in}
use Rattle.links.proofs.precedence.mark_all.Given as goal

abbrev pub invariant-loop-s : goal.invariant-loop-s
invariant-loop-s l = l.states ≡ decided_in l.n l.m l.k l.rules l.edges l.s l.initial.states
