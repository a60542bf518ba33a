-- `edges::reading::refuse_edge` meets its contract: the first two words as they are read, and then the words end. Assumes nothing.
use Rattle.std.proofs.Common.{◌≡◌, sym, ◌∙◌, ◌+◌, ◌-◌, ◌<◌, arith, length}
use Rattle.format.specs.Reading.{spot}
use Rattle.laws.specs.Running.{ok_then, no_then}
use Rattle.words.specs.Laws.{handed_on}
use Rattle.edges.specs.Edge.{six_words}
use Rattle.edges.specs.Laws.{index-next, index_there, type_ended}
use Rattle.edges.proofs.reading.refuse_edge.Goals as goal

pub returns-in_err-second-clause-says : goal.returns-in_err-second-clause-says
unfolding six_words
returns-in_err-second-clause-says c = λ rooms. rw (handed_on c.from_residual.result c.in_err-second.field-0.0 c.from_residual.ensures.1)
    (sym (no_then _ _ _ _ _ (c.in_err-second.ensures.says rooms)))

pub returns-in_err-read_usize-clause-says : goal.returns-in_err-read_usize-clause-says
unfolding six_words
returns-in_err-read_usize-clause-says c =
    let r = c.from_residual-in_err-read_usize in
    λ rooms. rw (handed_on r.result c.in_err-read_usize.field-0.0 r.ensures.1)
    (sym (ok_then _ _ _ _ _ (c.in_ok-second.ensures.says rooms) ∙ no_then _ _ _ _ _ (c.in_err-read_usize.ensures.says rooms)))

pub overflow_sub-missing : goal.overflow_sub-missing
overflow_sub-missing c =
    let a = c.args in
    omega (arith, index_there (spot 24 a.«record») a.words.now (λ t. 0) a.at (c.in_ok-second.ensures.says (λ t. 0)))

pub returns-clause-says : goal.returns-clause-says
unfolding six_words
returns-clause-says c =
    let a = c.args in
    let ws = a.words.now in
    let second = c.in_ok-second.second in
    let one = c.in_ok-second.ensures.says in
    let two = c.in_ok-read_usize.ensures.says in
    let third = c.in_ok-read_usize.field-0.1 in
    let p : second ≡ a.at + 1 = index-next (spot 24 a.«record») ws (λ t. 0) a.at (one (λ t. 0)) in
    let q : third ≡ second + 1 = index-next (spot 25 a.«record») ws (λ t. 0) second (two (λ t. 0)) in
    let l : second < length ws = index_there (spot 25 a.«record») ws (λ t. 0) second (two (λ t. 0)) in
    let e : 24 + (length ws - a.at) ≡ 26 + (length ws - third) = omega arith in
    λ rooms. rw (c.refused.ensures, e) (type_ended a.«record» ws rooms third _ _ (omega arith) (omega arith)) ∙ sym (ok_then _ _ _ _ _ (one rooms) ∙ ok_then _ _ _ _ _ (two rooms))
