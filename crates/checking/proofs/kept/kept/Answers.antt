-- `kept::kept` meets its contract. Assumes nothing.
use Rattle.std.proofs.Common.{◌∙◌, rules, ◌/◌, length, arith}
use Rattle.std.proofs.lemmas.Iterator.{serves_from_Range, YieldsList-from_range}
use Rattle.std.proofs.lemmas.Iterator.Search.{all_from_yields_List}
use Rattle.checking.specs.Kept.{in_row, kept_all}
use Rattle.checking.proofs.kept.kept.Goals as goal

pub all-requires-clause-callable : goal.all-requires-clause-callable
all-requires-clause-callable c = serves_from_Range (λ x q k. search rules) (λ x l h. search rules)

pub returns : goal.returns
returns c =
    let v = c.args.part.now in
    all_from_yields_List (in_row v) _ _ _ c.all.ensures.ran (YieldsList-from_range 0 (length v / 2) (length v / 2) (cc) (omega arith)) (λ x b q k. search rules)
    ∙ kept_all v
