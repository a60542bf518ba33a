-- `sections::records::deserialize_number` meets its contract: an index is read, and stored. Assumes nothing.
use Rattle.std.proofs.Common.{sym}
use Rattle.format.specs.Reading.{run, index, done}
use Rattle.format.specs.Tables.{state_word}
use Rattle.laws.specs.Running.{ok_then, no_then}
use Rattle.laws.specs.Lists.{all_set}
use Rattle.words.specs.Laws.{handed_on}
use Rattle.words.proofs.Signs.{back32}
use Rattle.sections.proofs.records.deserialize_number.Goals as goal

pub returns-in_err-s : goal.returns-in_err-s
returns-in_err-s c = λ rooms.
    let a = c.args in
    rw (handed_on c.from_residual.result c.in_err-s.field-0.0 c.from_residual.ensures.1)
    (sym (no_then (index a.spot) (λ s. done (state_word s)) a.words.now rooms a.at (c.in_err-s.ensures.says rooms)))

pub returns : goal.returns
unfolding run
returns c = λ rooms.
    let a = c.args in
    rw (back32 c.word_of.result c.word_of.type_inv, c.word_of.ensures, all_set (state_word c.in_ok-s.s) a.part.now c.requires)
    (sym (ok_then (index a.spot) (λ s. done (state_word s)) a.words.now rooms a.at (c.in_ok-s.ensures.says rooms)))
