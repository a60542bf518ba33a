-- `passes::edges_fine` meets its contract. Assumes nothing.
use Rattle.std.proofs.Common.{rules}
use Rattle.rewriting.specs.Passes.{edge_fine}
use Rattle.checking.proofs.Passing.{all_pass}
use Rattle.checking.proofs.passes.edges_fine.Goals as goal

pub returns : goal.returns
returns c =
    let r = c.args.edges.now in
    all_pass (edge_fine c.args.n) 8 r.count r.words.now c.all.ensures.ran (search rules) (λ x b q k. search rules)
