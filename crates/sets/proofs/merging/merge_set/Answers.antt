-- `merging::merge_set` meets its contract. Assumes nothing.
use Rattle.std.proofs.Common.{◌+◌, arith}
use Rattle.words.specs.Laws.{handed_on}
use Rattle.sets.specs.Merging.{set_ok, set_no, kept_few}
use Rattle.sets.proofs.merging.merge_set.Goals as goal

pub returns-clause-says : goal.returns-clause-says
returns-clause-says c =
    let a = c.args in
    let b = c.begin_set-first in
    let z = c.normalize.ensures in
    λ rooms. rw (z.part_after, z.value) (set_ok a.«record» a.flagged a.n b.result a.part.now b.new.part a.words.now rooms a.at (omega arith) b.ensures.value b.ensures.part_after (c.in_ok-next.ensures rooms))

pub returns-clause-bounded : goal.returns-clause-bounded
returns-clause-bounded c = omega (arith, c.normalize.ensures.value, c.begin_set-first.ensures.value, kept_few c.gather.new.part (c.args.n + c.begin_set-first.result))

pub returns-in_err-next-clause-says : goal.returns-in_err-next-clause-says
returns-in_err-next-clause-says c =
    let a = c.args in
    let b = c.begin_set-first in
    λ rooms. rw (handed_on c.from_residual.result c.in_err-next.field-0.0 c.from_residual.ensures.1)
    (set_no a.«record» a.flagged a.n b.result a.part.now b.new.part a.words.now rooms a.at (omega arith) b.ensures.value b.ensures.part_after (c.in_err-next.ensures rooms))
