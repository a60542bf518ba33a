-- `chains::chains_fine` meets its contract: the states before have their chains, and so many edges. Assumes nothing.
use Rattle.std.proofs.Common.{◌≡◌, true, ◌*◌, ◌^◌, ◌≤◌}
use Rattle.rewriting.specs.Passes.{all}
use Rattle.rewriting.specs.Climbs.{sum}
use Rattle.wiring.specs.Chains.{count_in, chain_fine}
use Rattle.wiring.proofs.chains.chains_fine.Given as goal

abbrev pub invariant-loop-s : goal.invariant-loop-s
invariant-loop-s l = record {
  chained : all l.s (chain_fine l.net.edges.count l.net.states.words.now l.net.edges.words.now) ≡ true;
  counted : l.total ≡ sum l.s (count_in l.net.states.words.now);
  few : l.total ≤ l.s * 2 ^ 31;
}
