-- `sections::header::read_version` meets its contract. Assumes nothing.
use Rattle.std.proofs.Common.{rules, ◌≡◌, pos, false, refl}
use Rattle.format.specs.Sections.{same}
use Rattle.words.specs.Laws.{handed_on}
use Rattle.words.proofs.Signs.{back32}
use Rattle.sections.specs.Header.{version_ok, version_other, version_no}
use Rattle.sections.proofs.header.read_version.Goals as goal

pub returns-in_err-version : goal.returns-in_err-version
returns-in_err-version c = λ rooms.
    let a = c.args in
    rw (handed_on c.from_residual.result c.in_err-version.field-0.0 c.from_residual.ensures.1)
    (version_no a.words.now rooms a.at (c.in_err-version.ensures rooms))

pub returns-then-version-eq-VERSION : goal.returns-then-version-eq-VERSION
returns-then-version-eq-VERSION c = λ rooms.
    let a = c.args in
    let v = c.in_ok-version.version in
    let e : v ≡ pos 4 = search rules in
    rw (back32 v (search rules)) (version_ok a.words.now rooms a.at (c.in_ok-version.ensures rooms) (rw e refl))

pub returns-else-version-eq-VERSION : goal.returns-else-version-eq-VERSION
returns-else-version-eq-VERSION c = λ rooms.
    let a = c.args in
    let v = c.in_ok-version.version in
    let e : same v (pos 4) ≡ false = search rules in
    rw (c.refused.ensures, back32 v (search rules)) (version_other a.words.now rooms a.at (c.in_ok-version.ensures rooms) e)
