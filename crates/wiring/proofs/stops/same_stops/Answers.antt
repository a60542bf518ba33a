-- `stops::same_stops` meets its contract. Assumes nothing.
use Rattle.std.proofs.Common.{◌∙◌, ℕ, rules, arith}
use Rattle.std.proofs.lemmas.Iterator.{YieldsList-from_range}
use Rattle.std.proofs.lemmas.Iterator.Search.{all_from_yields_List}
use Rattle.format.specs.Places.{ru_stop}
use Rattle.format.specs.Sections.{same}
use Rattle.inplace.specs.Rows.{word_of}
use Rattle.rewriting.specs.All.{all_numbers}
use Rattle.wiring.proofs.stops.same_stops.Goals as goal

pub returns : goal.returns
returns c =
    let a = c.args in
    let test = λ (R : ℕ). same (word_of 3 a.rules.now R ru_stop) (word_of 3 a.found.now R ru_stop) in
    all_from_yields_List test _ _ _ c.all.ensures.ran (YieldsList-from_range 0 a.k a.k (cc) (omega arith)) (λ x b q k. search rules)
    ∙ all_numbers test a.k
