-- `edges::edge::edge_kind` meets its contract: a type's number is one of 1 to 10, and one of these is a type's. Assumes nothing.
use Rattle.std.proofs.Common.{refl}
use Rattle.format.specs.Kinds.{edge_number}
use Rattle.words.specs.Laws.{known_ok, run_done, run_refuse}
use Rattle.words.proofs.Signs.{back32}
use Rattle.edges.proofs.Types.{first_type, last_type, unknown}
use Rattle.edges.proofs.edge.edge_kind.Goals as goal

pub returns-in-Ok : goal.returns-in-Ok
returns-in-Ok c =
    let a = c.args in
    let k = c.in-Ok.kind in
    let is = rw (back32 a.word c.ranges.word.sfits) at c.in-Ok.ensures in
    λ ws rooms. run_done (known_ok 8 1 10 a.spot a.place a.word (edge_number k) (rw is refl) (first_type k) (last_type k)) ws rooms a.next

pub returns-in-Err : goal.returns-in-Err
returns-in-Err c =
    let a = c.args in
    let b = back32 a.word c.ranges.word.sfits in
    let none = rw b at c.in-Err.ensures.1 in
    λ ws rooms. rw (c.refused.ensures, b) (run_refuse (unknown a.spot a.place a.word none) ws rooms a.next)
