use Rattle.std.proofs.Common.{◌≡◌, ◌≤◌}
use Rattle.inplace.specs.Links.{net, returns_of}
use Rattle.links.proofs.returns.count_returns.Given as goal

abbrev pub invariant-loop-i : goal.invariant-loop-i
invariant-loop-i l = (l.d ≡ returns_of l.net.states.count l.net.rules.count l.net.rules.words.now (net l.net.states.words.now l.net.edges.words.now) l.i) × (l.d ≤ l.i)
