-- `words_of` meets its contract: the words so far are put. Assumes nothing.
use Rattle.std.proofs.Common.{◌≡◌}
use Rattle.loading.specs.Bytes.{filled}
use Rattle.loading.proofs.words_of.Given as goal

abbrev pub invariant-loop-i : goal.invariant-loop-i
invariant-loop-i l = l.out ≡ filled l.i l.bytes l.initial.out
