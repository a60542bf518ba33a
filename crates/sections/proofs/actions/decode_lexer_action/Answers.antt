-- `sections::actions::decode_lexer_action` meets its contract: the type is tested, and what it keeps stored. Assumes nothing.
use Rattle.std.proofs.Common.{rules, ◌≡◌, refl, pos, sym, List, ℕ, ℤ}
use Rattle.format.specs.Reading.{Prog, done, run, ◌>>=◌, spot, known}
use Rattle.format.specs.Kinds.{action_number}
use Rattle.format.specs.Sections.{Action, action_of}
use Rattle.format.specs.Tables.{action_words}
use Rattle.words.specs.Laws.{run_done, run_refuse}
use Rattle.words.proofs.Signs.{back32}
use Rattle.sections.specs.Through.{ok_through, no_through}
use Rattle.sections.proofs.Named.{known_named, known_unnamed, action_below}
use Rattle.sections.proofs.actions.decode_lexer_action.Goals as goal

abbrev kept : ℤ → ℤ → ℕ → Prog Action
kept d1 d2 k = done (action_of k d1 d2)

abbrev row : Action → Prog (List ℤ)
row x = done (action_words x)

pub returns-in-Ok : goal.returns-in-Ok
unfolding run ◌>>=◌
returns-in-Ok c = λ ws rooms.
    let a = c.args in
    let k = c.in-Ok.kind in
    let n = action_number k in
    let e : a.word ≡ pos n = search rules in
    let f = c.ranges in
    let d = c.first_kept in
    let s = c.second_kept in
    rw (back32 a.word f.word.sfits, back32 d.result d.type_inv, d.ensures, back32 a.d1 f.d1.sfits, back32 s.result s.type_inv, s.ensures, back32 a.d2 f.d2.sfits, e)
    (sym (ok_through (known 11 0 7 (spot 33 a.«record») a.place (pos n)) (kept a.d1 a.d2) row ws rooms a.next
    (run_done (known_named 11 7 (spot 33 a.«record») a.place n (pos n) refl (action_below k)) ws rooms a.next)))

pub returns-in-Err : goal.returns-in-Err
returns-in-Err c = λ ws rooms.
    let a = c.args in
    let b = back32 a.word c.ranges.word.sfits in
    rw (c.refused.ensures, b)
    (sym (no_through (known 11 0 7 (spot 33 a.«record») a.place a.word) (kept a.d1 a.d2) row ws rooms a.next
    (run_refuse (known_unnamed 11 7 (spot 33 a.«record») a.place a.word (rw b at c.in-Err.ensures.1)) ws rooms a.next)))
