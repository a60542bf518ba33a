-- `sections::flags::flag_one` meets its contract: a state is named, and flagged. Assumes nothing.
use Rattle.std.proofs.Common.{sym}
use Rattle.format.specs.Reading.{done, run}
use Rattle.format.specs.Sections.{named}
use Rattle.laws.specs.Running.{ok_then, no_then}
use Rattle.words.specs.Laws.{handed_on}
use Rattle.inplace.specs.Rows.{flag_at}
use Rattle.inplace.specs.Sections.{flag_one}
use Rattle.sections.proofs.flags.flag_one.Goals as goal

pub returns-in_err-s : goal.returns-in_err-s
unfolding flag_one
returns-in_err-s c = λ rooms.
    let a = c.args in
    rw (handed_on c.from_residual.result c.in_err-s.field-0.0 c.from_residual.ensures.1)
    (sym (no_then (named a.n a.spot) (λ s. done (flag_at a.bit s a.states.now)) a.words.now rooms a.at (c.in_err-s.ensures.says rooms)))

pub returns : goal.returns
unfolding run flag_one
returns c = λ rooms.
    let a = c.args in
    rw c.set_flag.ensures
    (sym (ok_then (named a.n a.spot) (λ s. done (flag_at a.bit s a.states.now)) a.words.now rooms a.at (c.in_ok-s.ensures.says rooms)))
