-- `write_records` meets its contract: after i turns the words of the first i records are laid behind the count. Assumes nothing.
use Rattle.format.specs.Links.{each}
use Rattle.writing.proofs.Rows.{Turned}
use Rattle.writing.proofs.counted.write_records.Given as goal

abbrev pub invariant-loop-row : goal.invariant-loop-row
invariant-loop-row g l = Turned (each g.R.Record.form) 6 g.row.W l.rows.count l.rows.words.now l.initial.next l.initial.out l.out l.next l.row-index
