-- `chain::walk` meets its contract: what is left to walk from the present edge gives what was asked from the first. Assumes nothing.
use Rattle.std.proofs.Common.{◌≡◌, ◌-◌}
use Rattle.format.specs.Questions.{walk}
use Rattle.questions.proofs.chain.walk.Given as goal

abbrev pub invariant-loop : goal.invariant-loop
invariant-loop l = walk l.edges l.edge_count l.steps l.first ≡ walk l.edges l.edge_count (l.steps - l.counter) l.edge
