-- `write_flagged` meets its contract: after i turns those of the first i states are laid that have the flag. Assumes nothing.
use Rattle.format.specs.Links.{numbers, each}
use Rattle.format.specs.Tables.{state_word}
use Rattle.writing.specs.Parts.{has_flag}
use Rattle.writing.proofs.Rows.{Turned}
use Rattle.writing.proofs.counted.write_flagged.Given as goal

abbrev pub invariant-loop-i : goal.invariant-loop-i
invariant-loop-i l = Turned (λ rows. each state_word (numbers (has_flag l.flag) rows)) 1 8 l.states.count l.states.words.now l.initial.next l.initial.out l.out l.next l.i
