-- `joining::join` meets its contract: its loop takes the turns of `join_on`. Assumes nothing.
use Rattle.std.proofs.Common.{rules, w32, ◌≡◌, refl, sym, ◌∙◌, arith, leb, false}
use mir.ValLaws.{to_z-of_z}
use Rattle.laws.specs.Order.{le_z_key}
use Rattle.format.specs.Reading.{pick}
use Rattle.format.specs.Sets.{range, key}
use Rattle.ranges.proofs.Sweep.{going, step-apart, step_joined, finish}
use Rattle.ranges.proofs.joining.join.Goals as goal
use Rattle.ranges.proofs.joining.join.Goals.{then-rising, else-rising, then-meets, else-meets}

pub loop-i-init : goal.loop-i-init
loop-i-init c =
    let first = c.read-last.ensures in
    going c.args.part.now c.args.n c.requires (omega arith) first.low.fits (λ k. range (first.low.is k) (first.high.is k))

pub loop-i-preserved : goal.loop-i-preserved
loop-i-preserved c =
    let l = c.loop-i in
    let next = c.read-next.ensures in
    let still : c.if-rising.rising ≡ pick l.rising (leb (key l.last.low) (key c.read-next.result.low)) false = elim c.if-rising.branch [ then-rising w ↦ rw (w.if-rising.true) (w.rising-is ∙ rw (to_z-of_z w32 l.last.low (search rules), to_z-of_z w32 c.read-next.result.low (search rules)) (le_z_key l.last.low c.read-next.result.low (search rules) (search rules))) | else-rising w ↦ rw (w.rising-is, w.if-rising.false) refl ] in
    elim c.if-meets.branch [
      | then-meets w ↦ rw (w.part-is, w.out-is, w.last-is, w.joined-last.ensures.low, w.joined-last.ensures.high)
          (step_joined l.invariant c.requires (λ k. range (next.low.is k) (next.high.is k)) still next.low.fits c.loop-i-test.true (sym c.meets.ensures ∙ w.if-meets.true))
      | else-meets w ↦ rw (w.part-is, w.out-is, w.last-is, w.store.ensures)
          (step-apart l.invariant c.requires (λ k. range (next.low.is k) (next.high.is k)) still next.low.fits c.loop-i-test.true (sym c.meets.ensures ∙ w.if-meets.false))
    ]

pub returns : goal.returns
returns c = rw c.store-2.ensures (finish c.loop-i.invariant c.requires c.loop-i-test.false refl)
