-- `write_sets` meets its contract: after i turns the words of the first i sets are laid behind the count. Assumes nothing.
use Rattle.writing.proofs.Cuts.{Cut}
use Rattle.writing.proofs.set_words.write_sets.Given as goal

abbrev pub invariant-loop-set : goal.invariant-loop-set
invariant-loop-set l = Cut l.sets.count l.ranges.count l.sets.words.now l.ranges.words.now l.initial.next l.initial.out l.out l.next l.first l.set-index
