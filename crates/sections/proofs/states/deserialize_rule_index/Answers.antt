-- `sections::states::deserialize_rule_index` meets its contract: the rule is read, then a link if two words follow. Assumes nothing.
use Rattle.std.proofs.Common.{rules, ◌≡◌, ◌∙◌}
use Rattle.format.specs.Kinds.{state_number}
use Rattle.words.specs.Laws.{handed_on}
use Rattle.words.proofs.Signs.{back32}
use Rattle.sections.specs.States.{rule_ok, link_ok, rule_no}
use Rattle.sections.proofs.states.deserialize_rule_index.Goals as goal

pub returns-in_err-word : goal.returns-in_err-word
returns-in_err-word c = λ rooms.
    let a = c.args in
    rw (handed_on c.from_residual.result c.in_err-word.field-0.0 c.from_residual.ensures.1)
    (rule_no a.«record» (state_number a.kind) a.words.now rooms a.at a.follow c.requires (c.in_err-word.ensures rooms))

pub returns-then-follow-eq1 : goal.returns-then-follow-eq1
returns-then-follow-eq1 c = λ rooms.
    let a = c.args in
    let f : a.follow ≡ 1 = c.if-follow-eq1.true in
    rw (c.state_row.ensures, back32 c.or_none-rule.result c.or_none-rule.type_inv, c.or_none-rule.ensures, back32 c.in_ok-word.word (search rules), f)
    (rule_ok a.«record» (state_number a.kind) a.words.now rooms a.at (c.in_ok-word.ensures rooms))

pub returns : goal.returns
returns c = λ rooms.
    let a = c.args in
    let o = c.or_none-rule in
    (rw (back32 o.result o.type_inv, o.ensures, back32 c.in_ok-word.word (search rules)) at (c.deserialize_link.ensures rooms))
    ∙ link_ok a.«record» (state_number a.kind) a.words.now rooms a.at a.follow c.requires c.if-follow-eq1.false (c.in_ok-word.ensures rooms)
