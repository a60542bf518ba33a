-- `sections::flags::flag_counted` meets its contract: a count, then so many states. Assumes nothing.
use Rattle.std.proofs.Common.{rules}
use Rattle.inplace.specs.Held.{with}
use Rattle.words.specs.Laws.{handed_on}
use Rattle.words.proofs.Signs.{back32}
use Rattle.sections.specs.Filling.{flags_ok, flags_stop, flags-uncounted}
use Rattle.sections.proofs.flags.flag_counted.Goals as goal

pub returns-in_err-k : goal.returns-in_err-k
returns-in_err-k c = λ rooms.
    let a = c.args in
    rw (handed_on c.from_residual.result c.in_err-k.field-0.0 c.from_residual.ensures.1)
    (flags-uncounted a.bit a.field (with a.counts a.states.now) a.words.now rooms a.counts.words (c.in_err-k.ensures.says rooms))

pub returns-in_err-end : goal.returns-in_err-end
returns-in_err-end c = λ rooms.
    let a = c.args in
    let f = c.from_residual-in_err-end in
    rw (handed_on f.result c.in_err-end.field-0.0 f.ensures.1)
    (flags_stop a.bit a.field (with a.counts a.states.now) a.words.now rooms a.counts.words (c.in_ok-k.ensures.says rooms) (c.in_err-end.ensures rooms))

pub returns : goal.returns
returns c = λ rooms.
    let a = c.args in
    rw (back32 a.counts.token (search rules))
    (flags_ok a.bit a.field (with a.counts a.states.now) a.words.now rooms a.counts.words (c.in_ok-k.ensures.says rooms) (c.in_ok-end.ensures rooms))
