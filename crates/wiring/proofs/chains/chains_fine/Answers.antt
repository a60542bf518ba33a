-- `chains::chains_fine` meets its contract: the states before have their chains, and so many edges. Assumes nothing.
use Rattle.std.proofs.Common.{refl, sym, ◌∙◌}
use Rattle.rewriting.specs.All.{all_fails}
use Rattle.wiring.specs.Chains.{chain_fine}
use Rattle.wiring.proofs.chains.chains_fine.Goals as goal

pub returns-then-not-chain_fine : goal.returns-then-not-chain_fine
returns-then-not-chain_fine c =
    let net = c.args.net.now in
    rw (all_fails (chain_fine net.edges.count net.states.words.now net.edges.words.now) net.states.count c.loop-s.s c.loop-s-test.true (sym c.chain_fine.ensures ∙ c.if-not-chain_fine.true)) refl
