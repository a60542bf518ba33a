-- `marks::own_count` meets its contract. Assumes nothing.
use Rattle.std.proofs.Common.{◌≡◌, ◌∙◌, rules}
use Rattle.std.proofs.lemmas.Iterator.{first_from_Range}
use Rattle.wiring.specs.Marks.{mark_in, own_found}
use Rattle.wiring.proofs.marks.own_count.Goals as goal

pub returns : goal.returns
returns c =
    let edges = c.args.edges.now in
    let ed = edges.words.now in
    c.unwrap_or.ensures
    ∙ own_found ed edges.count c.find.result (first_from_Range _ _ _ _ (λ i. mark_in ed i ≡ 1) (λ i. mark_in ed i ≡ 1 → ⊥) c.find.ensures.ran (λ x q k. search rules) (λ x q k. search rules))
