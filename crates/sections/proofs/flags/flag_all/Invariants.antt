-- `sections::flags::flag_all` meets its contract. The loop's invariant: after i turns the run goes on from here. Assumes nothing.
use Rattle.inplace.specs.Sections.{flag_one}
use Rattle.sections.specs.Turning.{Turned}
use Rattle.sections.proofs.flags.flag_all.Given as goal

abbrev pub invariant-loop-i : goal.invariant-loop-i
invariant-loop-i l = Turned (flag_one l.bit l.n l.field) l.k l.words l.initial.states l.first l.i l.states l.at
