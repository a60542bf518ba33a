-- `kept::set_fine` meets its contract: the ranges that are looked at are the set's. Assumes nothing.
use Rattle.std.proofs.Common.{◌≡◌, ◌+◌, ◌-◌, ◌*◌, arith, rules, pos}
use Rattle.format.specs.Places.{se_first, se_count}
use Rattle.format.specs.Sections.{same}
use Rattle.format.specs.Writing.{cell, cell_size}
use Rattle.rewriting.specs.Formed.{natural}
use Rattle.checking.specs.Kept.{set-within}
use Rattle.checking.proofs.kept.set_fine.Goals as goal

pub returns : goal.returns
returns c =
    let a = c.args in
    let first : c.is_number.result ≡ same (cell a.row.now se_first) (pos a.before) = search rules in
    let count : c.natural.result ≡ natural (cell a.row.now se_count) = search rules in
    let long : 2 * a.before + 2 * c.size_at-count.result - 2 * a.before ≡ 2 * cell_size a.row.now se_count = omega arith in
    rw (first, count, c.kept.ensures, long)
    (set-within a.ranges.now.count a.ranges.now.words.now a.before a.row.now (omega arith))
