-- `passes::states_fine` meets its contract. Assumes nothing.
use Rattle.std.proofs.Common.{rules}
use Rattle.rewriting.specs.Passes.{state_fine}
use Rattle.checking.proofs.Passing.{all_pass}
use Rattle.checking.proofs.passes.states_fine.Goals as goal

pub returns : goal.returns
returns c =
    let r = c.args.states.now in
    all_pass state_fine 8 r.count r.words.now c.all.ensures.ran (search rules) (λ x b q k. search rules)
