-- `kept::sets_fine` meets its contract: the first sets are fine, with `before` ranges in them. Assumes nothing.
use Rattle.std.proofs.Common.{◌≡◌, ◌∙◌, ap, List, [], ℕ, ◌<◌, ℤ, arith, get_or, length}
use Rattle.format.specs.Places.{se_count}
use Rattle.format.specs.Tables.{row_at}
use Rattle.format.specs.Writing.{cell_size, rows_of}
use Rattle.rewriting.specs.Held.{rows_at, rows_long}
use Rattle.checking.specs.Kept.{set_fine, counted-more, counted-not, counted-whole}
use Rattle.checking.proofs.Tested.{row-failed, row-passed}
use Rattle.checking.proofs.kept.sets_fine.Goals as goal

inside : {sets : List (List ℤ)} (n i : ℕ) (t : List ℤ) → sets ≡ rows_of 2 n t → i < length sets → i < n
inside n i t e h = omega (arith, ap length e, rows_long 2 n t)

row : {sets : List (List ℤ)} (n i : ℕ) (t : List ℤ) → sets ≡ rows_of 2 n t → i < length sets → get_or sets i [] ≡ row_at 2 t i
row n i t e h = ap (λ l. get_or l i []) e ∙ rows_at 2 n t i (inside n i t e h)

pub returns-then-not-set_fine : goal.returns-then-not-set_fine
returns-then-not-set_fine c =
    let r = c.args.ranges.now in
    let s = c.args.sets.now in
    let below = inside s.count c.loop-row.row-index s.words.now c.counted-row-items.ensures c.loop-row-test.true in
    let it = row s.count c.loop-row.row-index s.words.now c.counted-row-items.ensures c.loop-row-test.true in
    counted-not c.loop-row.invariant below (row-failed (set_fine r.count r.words.now c.loop-row.before) c.set_fine.ensures it c.if-not-set_fine.true)

pub loop-row-preserved : goal.loop-row-preserved
loop-row-preserved c =
    let r = c.args.ranges.now in
    let s = c.args.sets.now in
    let below = inside s.count c.loop-row.row-index s.words.now c.counted-row-items.ensures c.loop-row-test.true in
    let it = row s.count c.loop-row.row-index s.words.now c.counted-row-items.ensures c.loop-row-test.true in
    rw (c.size_at-before.ensures.0 ∙ ap (λ x. cell_size x se_count) it)
    (counted-more c.loop-row.invariant below (row-passed (set_fine r.count r.words.now c.loop-row.before) c.set_fine.ensures it c.if-not-set_fine.false))

pub returns : goal.returns
returns c =
    let s = c.args.sets.now in
    counted-whole c.loop-row.invariant (omega (arith, ap length c.counted-row-items.ensures, rows_long 2 s.count s.words.now, c.loop-row-test.false))
