-- `merging::deserialize_interval` meets its contract. Assumes nothing.
use Rattle.std.proofs.Common.{rules}
use Rattle.words.specs.Laws.{handed_on}
use Rattle.words.proofs.Signs.{back32}
use Rattle.sets.specs.Merging.{one_ok, one_half, one_no}
use Rattle.sets.proofs.merging.deserialize_interval.Goals as goal

pub returns : goal.returns
returns c =
    let a = c.args in
    let start = c.in_ok-start.start in
    let stop = c.in_ok-stop.stop in
    λ rooms. rw (c.put.ensures, back32 start (search rules), back32 stop (search rules))
    (one_ok a.«record» a.k a.part.now a.words.now rooms a.at (c.in_ok-start.ensures rooms) (c.in_ok-stop.ensures rooms))

pub returns-in_err-stop : goal.returns-in_err-stop
returns-in_err-stop c =
    let a = c.args in
    let r = c.from_residual-in_err-stop in
    λ rooms. rw (handed_on r.result c.in_err-stop.field-0.0 r.ensures.1)
    (one_half a.«record» a.k a.part.now a.words.now rooms a.at (c.in_ok-start.ensures rooms) (c.in_err-stop.ensures rooms))

pub returns-in_err-start : goal.returns-in_err-start
returns-in_err-start c =
    let a = c.args in
    λ rooms. rw (handed_on c.from_residual.result c.in_err-start.field-0.0 c.from_residual.ensures.1)
    (one_no a.«record» a.k a.part.now a.words.now rooms a.at (c.in_err-start.ensures rooms))
