-- `mark_tail_calls` meets its contract: its loop is the fold that `marked` is, between searches. Assumes nothing.
use Rattle.std.proofs.Common.{refl, sym, ◌∙◌, true, false}
use Rattle.atn.specs.Marks.{marking_starts, marking_turns, then_idle, now_linked, now_idle}
use Rattle.atn.proofs.mark_tail_calls.Goals as goal
use Rattle.atn.proofs.mark_tail_calls.Goals.{then-tail_call_follow_is_safe, else-tail_call_follow_is_safe}

pub loop-e-init : goal.loop-e-init
loop-e-init c = (marking_starts c.requires.linked.chained, c.requires.idle, refl)

pub invariant_of-network : goal.invariant_of-network
invariant_of-network c = record { linked = now_linked c.loop-e.invariant.0 c.requires.linked.stopped }

pub tail_call_follow_is_safe-requires-clause-idle : goal.tail_call_follow_is_safe-requires-clause-idle
tail_call_follow_is_safe-requires-clause-idle c = now_idle c.loop-e.invariant.0 c.loop-e.invariant.1

pub loop-e-preserved : goal.loop-e-preserved
loop-e-preserved c =
    let marking = c.loop-e.invariant.0 in
    let found = c.tail_call_follow_is_safe in (
      elim c.if-tail_call_follow_is_safe.branch [
        | then-tail_call_follow_is_safe w ↦ rw (w.edges-is, w.store.ensures) (marking_turns marking true (sym w.if-tail_call_follow_is_safe.true ∙ found.ensures.value) c.loop-e-test.true)
        | else-tail_call_follow_is_safe w ↦ rw w.edges-is (marking_turns marking false (sym w.if-tail_call_follow_is_safe.false ∙ found.ensures.value) c.loop-e-test.true)
      ],
      then_idle marking found.ensures.idle_again,
      found.auto.scratch ∙ c.loop-e.invariant.2,
    )
