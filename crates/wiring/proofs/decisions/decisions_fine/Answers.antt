-- `decisions::decisions_fine` meets its contract. Assumes nothing.
use Rattle.std.proofs.Common.{◌∙◌, rules, arith}
use Rattle.std.proofs.lemmas.Iterator.{YieldsList-from_range}
use Rattle.std.proofs.lemmas.Iterator.Search.{all_from_yields_List}
use Rattle.rewriting.specs.All.{all_numbers}
use Rattle.wiring.specs.Decisions.{decision_fine}
use Rattle.wiring.proofs.decisions.decisions_fine.Goals as goal

pub returns : goal.returns
returns c =
    let net = c.args.net.now in
    let fine = decision_fine net.states.count net.edges.count net.rules.count net.states.words.now net.edges.words.now net.rules.words.now in
    all_from_yields_List fine _ _ _ c.all.ensures.ran (YieldsList-from_range 0 net.states.count net.states.count (cc) (omega arith)) (λ x b q k. search rules)
    ∙ all_numbers fine net.states.count
