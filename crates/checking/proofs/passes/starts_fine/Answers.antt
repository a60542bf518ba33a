-- `passes::starts_fine` meets its contract. Assumes nothing.
use Rattle.std.proofs.Common.{rules}
use Rattle.format.specs.Places.{ru_start}
use Rattle.format.specs.Writing.{cell}
use Rattle.rewriting.specs.Formed.{natural}
use Rattle.checking.proofs.Passing.{all_pass}
use Rattle.checking.proofs.passes.starts_fine.Goals as goal

pub returns : goal.returns
returns c =
    let r = c.args.rules.now in
    all_pass (λ x. natural (cell x ru_start)) 3 r.count r.words.now c.all.ensures.ran (search rules) (λ x b q k. search rules)
