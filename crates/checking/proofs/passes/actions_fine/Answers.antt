-- `passes::actions_fine` meets its contract. Assumes nothing.
use Rattle.std.proofs.Common.{rules}
use Rattle.rewriting.specs.Passes.{action_fine}
use Rattle.checking.proofs.Passing.{all_pass}
use Rattle.checking.proofs.passes.actions_fine.Goals as goal

pub returns : goal.returns
returns c =
    let r = c.args.actions.now in
    all_pass action_fine 3 r.count r.words.now c.all.ensures.ran (search rules) (λ x b q k. search rules)
