-- `write_set` meets its contract: after i turns the words of the first i ranges are laid behind the count and 0. Assumes nothing.
use Rattle.format.specs.Links.{each}
use Rattle.format.specs.Tables.{range_words}
use Rattle.format.specs.Writing.{range_back}
use Rattle.writing.proofs.Rows.{Turned}
use Rattle.writing.proofs.set_words.write_set.Given as goal

abbrev pub invariant-loop-range : goal.invariant-loop-range
invariant-loop-range l = Turned (each (λ x. range_words (range_back x))) 2 2 l.ranges.count l.ranges.words.now l.initial.next l.initial.out l.out l.next l.range-index
