-- `sections::states::deserialize_following` meets its contract: as many words are read as the table says. Assumes nothing.
use Rattle.std.proofs.Common.{rules, ◌≡◌, get_or}
use Rattle.format.specs.Kinds.{state_number}
use Rattle.format.specs.Sections.{follows}
use Rattle.sections.specs.States.{none_ok}
use Rattle.sections.proofs.states.deserialize_following.Goals as goal

pub returns-then-follow-eq0 : goal.returns-then-follow-eq0
returns-then-follow-eq0 c = λ rooms.
    let k = state_number c.args.kind in
    let f : get_or follows k 0 ≡ 0 = search rules in
    rw (c.state_row.ensures, f) (none_ok c.args.«record» k c.args.words.now rooms c.args.at)
