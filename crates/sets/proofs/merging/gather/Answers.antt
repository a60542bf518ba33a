-- `merging::gather` meets its contract. The loop's invariant: the run goes on from here after i records. Assumes nothing.
use Rattle.std.proofs.Common.{sym, ◌∙◌, ◌+◌}
use Rattle.laws.specs.Running.{turn_ok, turn_no, turns-over}
use Rattle.words.specs.Laws.{handed_on}
use Rattle.sets.specs.Merging.{gather_one}
use Rattle.sets.proofs.merging.gather.Goals as goal

pub returns-in_err-at : goal.returns-in_err-at
returns-in_err-at c =
    let a = c.args in
    let l = c.loop-i in
    λ rooms. rw (handed_on c.from_residual.result c.in_err-at.field-0.0 c.from_residual.ensures.1)
    (sym (l.invariant rooms ∙ turn_no (gather_one a.«record») a.words.now rooms (a.n + a.first) l.i l.part l.at c.loop-i-test.true (c.in_err-at.ensures rooms)))

pub loop-i-preserved : goal.loop-i-preserved
loop-i-preserved c =
    let a = c.args in
    let l = c.loop-i in
    λ rooms. l.invariant rooms ∙ turn_ok (gather_one a.«record») a.words.now rooms (a.n + a.first) l.i l.part l.at c.loop-i-test.true (c.in_ok-at.ensures rooms)

pub returns : goal.returns
returns c =
    let a = c.args in
    let l = c.loop-i in
    λ rooms. sym (l.invariant rooms ∙ turns-over (gather_one a.«record») a.words.now rooms (a.n + a.first) l.i l.part l.at c.loop-i-test.false)
