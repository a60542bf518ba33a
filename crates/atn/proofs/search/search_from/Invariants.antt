-- `search::search_from` meets its contract: the search runs on, and s stays met. Assumes nothing.
use Rattle.std.proofs.Common.{◌≡◌, length}
use Rattle.atn.specs.Networks.{states_in, edges_in}
use Rattle.atn.specs.Search.{colour, Running, work}
use Rattle.atn.proofs.search.search_from.Given as goal

abbrev pub invariant-loop-top : goal.invariant-loop-top
invariant-loop-top l = Running (states_in l.network) l.network.rule_count (edges_in l.network) l.scratch l.top × (colour l.scratch l.s ≡ 0 → ⊥) × (length l.scratch ≡ length l.initial.scratch)

abbrev pub decreases-loop-top : goal.decreases-loop-top
decreases-loop-top l = work (edges_in l.network) l.scratch (length (states_in l.network))
