-- `deserialize_set` meets its contract. Assumes nothing.
use Rattle.std.proofs.Common.{sym, ◌∙◌}
use Rattle.words.specs.Laws.{handed_on}
use Rattle.sets.specs.Answers.{keeping_of}
use Rattle.sets.specs.Sets.{set_ok, set_unflagged, set_no}
use Rattle.sets.proofs.deserialize_set.Goals as goal

pub returns-clause-says : goal.returns-clause-says
returns-clause-says c =
    let a = c.args in
    let x = keeping_of a.ranges.now a.sets.now a.kept in
    λ rooms q. c.keep_set.ensures.says rooms
    ∙ sym (set_ok a.i x a.words.now rooms a.at (c.in_ok-n.ensures.says rooms) (c.in_ok-flagged.ensures.says rooms q))

pub returns-in_err-flagged-clause-says : goal.returns-in_err-flagged-clause-says
returns-in_err-flagged-clause-says c =
    let a = c.args in
    let r = c.from_residual-in_err-flagged in
    λ rooms q. rw (handed_on r.result c.in_err-flagged.field-0.0 r.ensures.1)
    (set_unflagged a.i (keeping_of a.ranges.now a.sets.now a.kept) a.words.now rooms a.at (c.in_ok-n.ensures.says rooms) (c.in_err-flagged.ensures.says rooms q))

pub returns-in_err-n-clause-says : goal.returns-in_err-n-clause-says
returns-in_err-n-clause-says c =
    let a = c.args in
    λ rooms q. rw (handed_on c.from_residual.result c.in_err-n.field-0.0 c.from_residual.ensures.1)
    (set_no a.i (keeping_of a.ranges.now a.sets.now a.kept) a.words.now rooms a.at (c.in_err-n.ensures.says rooms))
