use Rattle.std.proofs.Common.{◌≡◌, ◌<◌, ◌≤◌, pos, rules, get_or, length}
use Rattle.words.specs.Laws.{get_ok, get_no}
use Rattle.words.proofs.Signs.{back32}
use Rattle.words.proofs.read.Goals as goal

pub returns-in-Some : goal.returns-in-Some
returns-in-Some c =
    let a = c.args in
    let h : a.at < length a.words.now = search rules in
    let e : c.in-Some.field-0.now ≡ get_or a.words.now a.at (pos 0) = search rules in
    λ rooms. rw (back32 c.in-Some.field-0.now (search rules), e) (get_ok a.spot a.words.now rooms a.at h)

pub returns-in-None : goal.returns-in-None
returns-in-None c =
    let a = c.args in
    let h : length a.words.now ≤ a.at = search rules in
    λ rooms. rw (c.refused.ensures) (get_no a.spot a.words.now rooms a.at h)
