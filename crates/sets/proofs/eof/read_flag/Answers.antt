-- `eof::read_flag` meets its contract. Assumes nothing.
use Rattle.std.proofs.Common.{◌≡◌, refl, ap, ◌∙◌, arith, Bool, true, false, rules}
use mir.Val.{bool_byte}
use Rattle.format.specs.Sections.{bit, raised}
use Rattle.words.specs.Laws.{handed_on}
use Rattle.words.proofs.Signs.{back32}
use Rattle.sets.specs.Sets.{flag_ok, flag_full, flag_no}
use Rattle.sets.proofs.eof.read_flag.Goals as goal

its_bit : (b : Bool) → bool_byte b ≡ bit b
its_bit true = refl
its_bit false = refl

pub returns-then-needed-room-clause-says : goal.returns-then-needed-room-clause-says
returns-then-needed-room-clause-says c =
    let a = c.args in
    let v = c.in_ok-word.word in
    let f : c.raised-flagged.result ≡ raised v = rw (back32 v (search rules)) at c.raised-flagged.ensures in
    let b : c.from.result ≡ bit (raised v) = c.from.ensures ∙ its_bit c.raised-flagged.result ∙ ap bit f in
    λ rooms q. rw f (flag_ok a.«record» a.kept a.n a.words.now rooms a.at (c.in_ok-word.ensures rooms) (omega arith))

pub returns-else-needed-room-clause-says : goal.returns-else-needed-room-clause-says
returns-else-needed-room-clause-says c =
    let a = c.args in
    let v = c.in_ok-word.word in
    let f : c.raised-flagged.result ≡ raised v = rw (back32 v (search rules)) at c.raised-flagged.ensures in
    let b : c.from.result ≡ bit (raised v) = c.from.ensures ∙ its_bit c.raised-flagged.result ∙ ap bit f in
    λ rooms q. rw (c.no_room.ensures, b) (flag_full a.«record» a.kept a.n a.words.now rooms a.at (c.in_ok-word.ensures rooms) (omega arith))

pub returns-in_err-word-clause-says : goal.returns-in_err-word-clause-says
returns-in_err-word-clause-says c =
    let a = c.args in
    λ rooms q. rw (handed_on c.from_residual.result c.in_err-word.field-0.0 c.from_residual.ensures.1)
    (flag_no a.«record» a.kept a.n a.words.now rooms a.at (c.in_err-word.ensures rooms))
