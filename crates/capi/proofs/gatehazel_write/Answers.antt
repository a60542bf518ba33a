-- `gatehazel_write` meets its contract: what is told is handed over, and it is small, since slices are. Assumes nothing.
use Rattle.std.proofs.Common.{arith}
use Rattle.capi.specs.Written.{small}
use Rattle.capi.proofs.Hand.{for_token}
use Rattle.capi.proofs.gatehazel_write.Goals as goal

pub written-requires : goal.written-requires
written-requires c = small (omega (arith, c.well_formed)) c.write-found.ensures

pub returns : goal.returns
returns c =
    record { told = c.write-found.result; writes = for_token c.ranges.max_token_type.sfits c.write-found.ensures; hands = c.written.ensures }
