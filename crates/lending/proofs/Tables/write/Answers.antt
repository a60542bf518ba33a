-- `Tables::write` meets its contract: what is lent is what these tables hold. Assumes nothing.
use Rattle.std.proofs.Common.{sym, arith, w32, to_z-of_z}
use Rattle.lending.proofs.Tables.write.Goals as goal

pub returns : goal.returns
returns c =
    rw (sym (to_z-of_z {w = w32} {z = c.args.counts.token} (record { sfits = omega arith })), sym c.deref.ensures.value, sym c.deref-2.ensures.value, sym c.deref-3.ensures.value, sym c.deref-4.ensures.value, sym c.deref-5.ensures.value, sym c.deref-6.ensures.value, sym c.deref-7.ensures.value, sym c.deref-8.ensures.value) c.write.ensures
