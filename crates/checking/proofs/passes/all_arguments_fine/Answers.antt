-- `passes::all_arguments_fine` meets its contract. Assumes nothing.
use Rattle.std.proofs.Common.{rules}
use Rattle.format.specs.Writing.{edge_back}
use Rattle.rewriting.specs.Formed.{args_read}
use Rattle.checking.proofs.Passing.{all_pass}
use Rattle.checking.proofs.passes.all_arguments_fine.Goals as goal

pub returns : goal.returns
returns c =
    let r = c.args.edges.now in
    all_pass (λ x. args_read c.args.k (edge_back x)) 8 r.count r.words.now c.all.ensures.ran (search rules) (λ x b q k. search rules)
