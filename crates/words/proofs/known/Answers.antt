use Rattle.std.proofs.Common.{sym, ◌∙◌}
use Rattle.words.specs.Laws.{known_ok, known-low, known_high, known_no, run_done, run_refuse}
use Rattle.words.proofs.Signs.{back32}
use Rattle.words.proofs.known.Goals as goal
use Rattle.words.proofs.known.Goals.{in_default-via-in-Some+then-from-n+else-n-to, in_default-via-in-Some+else-from-n, in_default-via-in_default}

pub returns-in-Some-clause-says : goal.returns-in-Some-clause-says
returns-in-Some-clause-says c =
    let a = c.args in
    let s = sym (rw (back32 a.value c.ranges.value.sfits) at c.index_of.ensures) ∙ c.in-Some.is in
    λ ws rooms. run_done (known_ok a.number a.from a.to a.spot a.place a.value c.in-Some.n s c.if-from-n.true c.if-n-to.true) ws rooms a.next

pub returns-in_default-clause-says : goal.returns-in_default-clause-says
returns-in_default-clause-says c =
    let a = c.args in
    let b = back32 a.value c.ranges.value.sfits in
    let e = sym (rw b at c.index_of.ensures) in
    let m = a.number in
    λ ws rooms. rw (c.refused.ensures, b) (elim c.in_default.branch [
      | in_default-via-in-Some+then-from-n+else-n-to w ↦ run_refuse (known_high m a.from a.to a.spot a.place a.value w.in-Some.n (e ∙ w.in-Some.is) w.if-from-n.true w.if-n-to.false) ws rooms a.next
      | in_default-via-in-Some+else-from-n w ↦ run_refuse (known-low m a.from a.to a.spot a.place a.value w.in-Some.n (e ∙ w.in-Some.is) w.if-from-n.false) ws rooms a.next
      | in_default-via-in_default w ↦ run_refuse (known_no m a.from a.to a.spot a.place a.value (e ∙ w.in_default.is)) ws rooms a.next
    ])
