-- `merge` meets its contract. Assumes nothing.
use Rattle.std.proofs.Common.{arith}
use Rattle.ranges.proofs.Normal.{merged_few, merged_once, merged_twice}
use Rattle.ranges.proofs.merge.Goals as goal

pub returns-then-first : goal.returns-then-first
returns-then-first c = merged_once c.requires c.join-first.auto.part c.join-first.ensures c.if-first.true

pub sort-requires : goal.sort-requires
sort-requires c = omega (arith, merged_few c.requires c.join-first.auto.part c.join-first.ensures)

pub join-requires : goal.join-requires
join-requires c = omega (arith, merged_few c.requires c.join-first.auto.part c.join-first.ensures)

pub returns : goal.returns
returns c = merged_twice c.requires c.join-first.auto.part c.join-first.ensures c.sort.ensures.moved c.sort.ensures.rising c.join.ensures
