-- `sections::states::deserialize_state` meets its contract: the type is read, then what follows it. Assumes nothing.
use Rattle.std.proofs.Common.{sym, ◌∙◌, List, ℕ, ℤ, get_or}
use Rattle.format.specs.Reading.{Prog, done, word, spot, known}
use Rattle.format.specs.Sections.{State, follows, following, state}
use Rattle.inplace.specs.Rows.{state_row}
use Rattle.words.specs.Laws.{handed_on}
use Rattle.sections.specs.Through.{ok_through, no_through}
use Rattle.sections.proofs.states.deserialize_state.Goals as goal

rest : ℕ → ℕ → Prog State
rest i k = following i (get_or follows k 0) k

row : State → Prog (List ℤ)
row x = done (state_row x)

pub returns-in_err-kind : goal.returns-in_err-kind
unfolding state rest row
returns-in_err-kind c = λ rooms.
    let a = c.args in
    rw (handed_on c.from_residual.result c.in_err-kind.field-0.0 c.from_residual.ensures.1)
    (sym (no_through (word (spot 5 a.«record») (known 6 0 12 (spot 5 a.«record»))) (rest a.«record») row a.words.now rooms a.at (c.in_err-kind.ensures rooms)))

pub returns : goal.returns
unfolding state rest row
returns c = λ rooms.
    let a = c.args in
    c.deserialize_following.ensures rooms
    ∙ sym (ok_through (word (spot 5 a.«record») (known 6 0 12 (spot 5 a.«record»))) (rest a.«record») row a.words.now rooms a.at (c.in_ok-kind.ensures rooms))
