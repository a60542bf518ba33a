-- `sections::actions::deserialize_lexer_action` meets its contract, word by word. Assumes nothing.
use Rattle.std.proofs.Common.{rules, ◌∙◌}
use Rattle.words.specs.Laws.{handed_on}
use Rattle.words.proofs.Signs.{back32}
use Rattle.sections.specs.Actions.{after-three, first_ends, second-ends, third-ends}
use Rattle.sections.proofs.actions.deserialize_lexer_action.Goals as goal

pub returns-in_err-kind : goal.returns-in_err-kind
returns-in_err-kind c = λ rooms.
    let a = c.args in
    rw (handed_on c.from_residual.result c.in_err-kind.field-0.0 c.from_residual.ensures.1)
    (first_ends a.«record» a.words.now rooms a.at (c.in_err-kind.ensures rooms))

pub returns-in_err-d1 : goal.returns-in_err-d1
returns-in_err-d1 c = λ rooms.
    let a = c.args in
    let f = c.from_residual-in_err-d1 in
    rw (handed_on f.result c.in_err-d1.field-0.0 f.ensures.1)
    (second-ends a.«record» a.words.now rooms a.at (c.in_ok-kind.ensures rooms) (c.in_err-d1.ensures rooms))

pub returns-in_err-d2 : goal.returns-in_err-d2
returns-in_err-d2 c = λ rooms.
    let a = c.args in
    let f = c.from_residual-in_err-d2 in
    rw (handed_on f.result c.in_err-d2.field-0.0 f.ensures.1)
    (third-ends a.«record» a.words.now rooms a.at (c.in_ok-kind.ensures rooms) (c.in_ok-d1.ensures rooms) (c.in_err-d2.ensures rooms))

pub returns : goal.returns
returns c = λ rooms.
    let a = c.args in
    (rw (back32 c.in_ok-kind.kind (search rules), back32 c.in_ok-d1.d1 (search rules), back32 c.in_ok-d2.d2 (search rules))
    at (c.decode_lexer_action.ensures a.words.now rooms))
    ∙ after-three a.«record» a.words.now rooms a.at (c.in_ok-kind.ensures rooms) (c.in_ok-d1.ensures rooms) (c.in_ok-d2.ensures rooms)
