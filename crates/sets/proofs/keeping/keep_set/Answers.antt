-- `keeping::keep_set` meets its contract: the rest of the range table is lent, and put back. Assumes nothing.
use Rattle.std.proofs.Common.{◌≡◌, List, ◌++◌, append-nil, ℕ, ◌-◌, ◌*◌, arith, ℤ, length, take, drop, length-drop, drop_of_length-le, take_all}
use borrow.Rule.Slice.PartMut.{mid_of, put_mid}
use Rattle.words.specs.Laws.{handed_on}
use Rattle.sets.specs.Answers.{keeping_of}
use Rattle.sets.specs.Sets.{rest_ok, rest_no}
use Rattle.sets.proofs.keeping.keep_set.Goals as goal

rest_of : (a : ℕ) (t : List ℤ) → mid_of a (length t - a) t ≡ drop a t
rest_of a t = take_all (length t - a) (drop a t) (omega (arith, length-drop a t))

rest_put : (a : ℕ) (t z : List ℤ) → put_mid a (length t - a) t z ≡ take a t ++ z
rest_put a t z = rw (drop_of_length-le (drop a t) {i = length t - a} (omega (arith, length-drop a t)), append-nil z)

pub returns-clause-says : goal.returns-clause-says
returns-clause-says c =
    let a = c.args in
    let t = a.ranges.now in λ rooms.
    rw (rest_put (2 * a.kept) t c.merge_set.new.part, c.put_set.ensures)
    (rest_ok a.i (keeping_of t a.sets.now a.kept) a.n a.flagged a.words.now rooms a.at
    (rw (rest_of (2 * a.kept) t) at (c.in_ok-count.ensures.says rooms)))

pub returns-in_err-count-clause-says : goal.returns-in_err-count-clause-says
returns-in_err-count-clause-says c =
    let a = c.args in
    let t = a.ranges.now in λ rooms.
    rw (handed_on c.from_residual.result c.in_err-count.field-0.0 c.from_residual.ensures.1)
    (rest_no a.i (keeping_of t a.sets.now a.kept) a.n a.flagged a.words.now rooms a.at
    (rw (rest_of (2 * a.kept) t) at (c.in_err-count.ensures.says rooms)))
