-- `sections::states::decode_state_kind` meets its contract: a word is read, then tested. Assumes nothing.
use Rattle.std.proofs.Common.{rules, ◌≡◌, sym, ◌∙◌, pos}
use Rattle.format.specs.Reading.{spot, known}
use Rattle.format.specs.Kinds.{state_number}
use Rattle.words.specs.Laws.{handed_on, run_done, run_refuse}
use Rattle.words.proofs.Signs.{back32}
use Rattle.sections.specs.Through.{word_ok, word_no}
use Rattle.sections.proofs.Named.{known_named, known_unnamed, state_below}
use Rattle.sections.proofs.states.decode_state_kind.Goals as goal

pub returns-in_err-word : goal.returns-in_err-word
returns-in_err-word c = λ rooms.
    let a = c.args in
    rw (handed_on c.from_residual.result c.in_err-word.field-0.0 c.from_residual.ensures.1)
    (sym (word_no (spot 5 a.«record») (known 6 0 12 (spot 5 a.«record»)) a.words.now rooms a.at (c.in_err-word.ensures rooms)))

pub returns-in-Ok : goal.returns-in-Ok
returns-in-Ok c = λ rooms.
    let a = c.args in
    let w = c.in_ok-word in
    let n = state_number c.in-Ok.kind in
    let e : w.word ≡ pos n = search rules in
    run_done (known_named 6 12 (spot 5 a.«record») a.at n w.word e (state_below c.in-Ok.kind)) a.words.now rooms w.next
    ∙ sym (word_ok (spot 5 a.«record») (known 6 0 12 (spot 5 a.«record»)) a.words.now rooms a.at (w.ensures rooms))

pub returns-in-Err : goal.returns-in-Err
returns-in-Err c = λ rooms.
    let a = c.args in
    let w = c.in_ok-word in
    let b = back32 w.word (search rules) in
    rw (c.refused.ensures, b)
    (run_refuse (known_unnamed 6 12 (spot 5 a.«record») a.at w.word (rw b at c.in-Err.ensures.1)) a.words.now rooms w.next
    ∙ sym (word_ok (spot 5 a.«record») (known 6 0 12 (spot 5 a.«record»)) a.words.now rooms a.at (w.ensures rooms)))
