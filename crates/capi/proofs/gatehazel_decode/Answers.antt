-- `gatehazel_decode` meets its contract: the answer is small, since slices are. Assumes nothing.
use Rattle.std.proofs.Common.{sym, subst, arith}
use Rattle.capi.specs.Handed.{Small}
use Rattle.capi.specs.Places.{small}
use Rattle.capi.proofs.gatehazel_decode.Goals as goal

pub decoded-requires : goal.decoded-requires
decoded-requires c = subst Small (sym c.decode-found.ensures.told) (small _ c.args.words.now (omega (arith, c.well_formed.0.1)))
