use Rattle.std.proofs.Common.{sym, ◌∙◌, rules}
use Rattle.words.specs.Laws.{index_ok, index_no, handed_on}
use Rattle.words.proofs.Signs.{back32}
use Rattle.words.proofs.read_usize.Goals as goal

pub returns-in_err-value-clause-says : goal.returns-in_err-value-clause-says
returns-in_err-value-clause-says c =
    let a = c.args in
    λ rooms. rw (handed_on c.from_residual.result c.in_err-value.field-0.0 c.from_residual.ensures.1)
    (index_no a.spot a.words.now rooms a.at (c.in_err-value.ensures rooms))

pub returns-clause-says : goal.returns-clause-says
returns-clause-says c =
    let a = c.args in
    λ rooms. (rw (back32 c.in_ok-value.value (search rules)) at (c.read_index.ensures.says a.words.now rooms)) ∙ sym (index_ok a.spot a.words.now rooms a.at (c.in_ok-value.ensures rooms))
