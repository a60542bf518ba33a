-- `handing::hand` meets its contract: so far, the first values are handed over. Assumes nothing.
use Rattle.std.proofs.Common.{◌≡◌, take}
use Rattle.capi.specs.Handed.{handed}
use Rattle.capi.proofs.handing.hand.Given as goal

abbrev pub invariant-loop-i : goal.invariant-loop-i
invariant-loop-i l = l.answer ≡ handed (take l.i l.values) l.fn.answer
