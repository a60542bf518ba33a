use Rattle.words.specs.Laws.{count_ok, count_full, count_no, handed_on}
use Rattle.words.proofs.Signs.{back32}
use Rattle.words.proofs.read_count.Goals as goal

pub returns-in_err-n-clause-says : goal.returns-in_err-n-clause-says
returns-in_err-n-clause-says c =
    let a = c.args in
    λ rooms t q. rw (handed_on c.from_residual.result c.in_err-n.field-0.0 c.from_residual.ensures.1)
    (count_no a.field a.words.now rooms a.at t (c.in_err-n.ensures.says rooms))

pub returns-then-n-room-clause-says : goal.returns-then-n-room-clause-says
returns-then-n-room-clause-says c =
    let a = c.args in
    λ rooms t q. count_ok a.field a.words.now rooms a.at t (c.in_ok-n.ensures.says rooms) (rw q c.if-n-room.true)

pub returns-else-n-room-clause-says : goal.returns-else-n-room-clause-says
returns-else-n-room-clause-says c =
    let a = c.args in
    let w = c.word_of in
    λ rooms t q. rw (c.refused.ensures, back32 w.result w.type_inv, w.ensures) (count_full a.field a.words.now rooms a.at t (c.in_ok-n.ensures.says rooms) (rw q c.if-n-room.false))
