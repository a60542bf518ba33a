-- `sections::filling::fill` meets its contract. The loop's invariant: after i turns the run goes on from here. Assumes nothing.
use Rattle.format.specs.Tables.{width}
use Rattle.laws.specs.Collect.{puts}
use Rattle.inplace.specs.Sections.{row_of}
use Rattle.sections.specs.Turning.{Turned}
use Rattle.sections.proofs.filling.fill.Given as goal

abbrev pub invariant-loop-i : goal.invariant-loop-i
invariant-loop-i g l = let t = g.S.Section.fills in Turned (puts (width t) (row_of t)) l.n l.words l.initial.table l.first l.i l.table l.at
