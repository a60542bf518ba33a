-- `sections::stops::find_stops` meets its contract. The loop's invariant: the stops are those by the states before s. Assumes nothing.
use Rattle.std.proofs.Common.{◌≡◌, refl, ap, ◌∙◌, List, ℕ, suc, ◌+◌, ℤ, add-one}
use Rattle.inplace.specs.Sections.{stop_at, stops_in}
use Rattle.sections.proofs.stops.find_stops.Goals as goal

one_more_lem : (s t k : ℕ) (st ru : List ℤ) → t ≡ suc s → stop_at k st s (stops_in s k st ru) ≡ stops_in t k st ru
unfolding stops_in
one_more_lem s t k st ru e = rw e refl

pub loop-s-init : goal.loop-s-init
unfolding stops_in
loop-s-init c = refl

pub loop-s-preserved : goal.loop-s-preserved
loop-s-preserved c =
    let a = c.args in
    let s = c.loop-s.s in
    c.stop_at.ensures ∙ ap (stop_at a.k a.states.now s) c.loop-s.invariant ∙ one_more_lem s (s + 1) a.k a.states.now a.rules.now (add-one s)
