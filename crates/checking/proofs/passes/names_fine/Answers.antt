-- `passes::names_fine` meets its contract. Assumes nothing.
use Rattle.std.proofs.Common.{◌∙◌, rules}
use Rattle.format.specs.Places.{na_state}
use Rattle.format.specs.Writing.{cell}
use Rattle.rewriting.specs.Formed.{natural}
use Rattle.checking.specs.Pass.{all_words}
use Rattle.checking.proofs.Passing.{all_pass}
use Rattle.checking.proofs.passes.names_fine.Goals as goal

pub returns : goal.returns
returns c =
    let r = c.args.names.now in
    all_pass (λ x. natural (cell x na_state)) 1 r.count r.words.now c.all.ensures.ran (search rules) (λ x b q k. search rules)
    ∙ all_words natural r.count r.words.now
