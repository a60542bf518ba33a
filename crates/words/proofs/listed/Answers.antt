use Rattle.words.specs.Laws.{listed_ok, listed_no, run_done, run_refuse}
use Rattle.words.proofs.Signs.{back32}
use Rattle.words.proofs.listed.Goals as goal

pub returns-then-n-end-clause-says : goal.returns-then-n-end-clause-says
returns-then-n-end-clause-says c =
    let a = c.args in
    λ ws rooms. run_done (listed_ok a.number a.end a.spot a.place a.n c.if-n-end.true) ws rooms a.next

pub returns-else-n-end-clause-says : goal.returns-else-n-end-clause-says
returns-else-n-end-clause-says c =
    let a = c.args in
    let w = c.word_of in
    λ ws rooms. rw (c.refused.ensures, back32 w.result w.type_inv, w.ensures) (run_refuse (listed_no a.number a.end a.spot a.place a.n c.if-n-end.false) ws rooms a.next)
