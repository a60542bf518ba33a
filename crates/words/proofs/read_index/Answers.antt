use Rattle.std.proofs.Common.{sym, ◌∙◌}
use Rattle.words.specs.Laws.{natural_ok, natural_no, run_done, run_refuse}
use Rattle.words.proofs.Signs.{back32}
use Rattle.words.proofs.read_index.Goals as goal

pub returns-in-Some-clause-says : goal.returns-in-Some-clause-says
returns-in-Some-clause-says c =
    let a = c.args in
    let h = a.value in
    λ ws rooms. run_done (natural_ok a.spot a.place c.in-Some.n a.value (sym (rw (back32 a.value c.ranges.value.sfits) at c.index_of.ensures) ∙ c.in-Some.is)) ws rooms a.next

pub returns-in-None-clause-says : goal.returns-in-None-clause-says
returns-in-None-clause-says c =
    let a = c.args in
    let b = back32 a.value c.ranges.value.sfits in
    λ ws rooms. rw (c.refused.ensures, b) (run_refuse (natural_no a.spot a.place a.value (sym (rw b at c.index_of.ensures) ∙ c.in-None.is)) ws rooms a.next)
