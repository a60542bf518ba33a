-- `sections::states::deserialize_link` meets its contract: the link is read at its field, and stored in its word. Assumes nothing.
use Rattle.std.proofs.Common.{rules, ◌≡◌}
use Rattle.format.specs.Kinds.{state_number}
use Rattle.words.specs.Laws.{handed_on}
use Rattle.words.proofs.Signs.{back32}
use Rattle.sections.specs.States.{back_ok, back_no, end_ok, end_no}
use Rattle.sections.proofs.states.deserialize_link.Goals as goal

pub returns-in_err-back : goal.returns-in_err-back
returns-in_err-back c = λ rooms.
    let a = c.args in
    let e : state_number a.kind ≡ 12 = search rules in
    rw (handed_on c.from_residual.result c.in_err-back.field-0.0 c.from_residual.ensures.1)
    (back_no a.«record» (state_number a.kind) a.words.now rooms a.at a.rule e (c.in_err-back.ensures.says rooms))

pub returns-in_ok-back : goal.returns-in_ok-back
returns-in_ok-back c = λ rooms.
    let a = c.args in
    let e : state_number a.kind ≡ 12 = search rules in
    rw (c.state_row.ensures, back32 a.rule c.ranges.rule.sfits, back32 c.word_of.result c.word_of.type_inv, c.word_of.ensures)
    (back_ok a.«record» (state_number a.kind) a.words.now rooms a.at a.rule e (c.in_ok-back.ensures.says rooms))

pub returns-in_err-end : goal.returns-in_err-end
returns-in_err-end c = λ rooms.
    let a = c.args in
    let n : state_number a.kind ≡ 12 → ⊥ = search rules in
    let f = c.from_residual-in_err-end in
    rw (handed_on f.result c.in_err-end.field-0.0 f.ensures.1)
    (end_no a.«record» (state_number a.kind) a.words.now rooms a.at a.rule n (c.in_err-end.ensures.says rooms))

pub returns-in_ok-end : goal.returns-in_ok-end
returns-in_ok-end c = λ rooms.
    let a = c.args in
    let n : state_number a.kind ≡ 12 → ⊥ = search rules in
    let w = c.word_of-else-eq in
    rw (c.state_row-else-eq.ensures, back32 a.rule c.ranges.rule.sfits, back32 w.result w.type_inv, w.ensures)
    (end_ok a.«record» (state_number a.kind) a.words.now rooms a.at a.rule n (c.in_ok-end.ensures.says rooms))
