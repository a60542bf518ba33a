-- The nine tables behind what lends them; and that what lends them keeps lending the same nine, each as long as it was.
use Rattle.std.specs.Prelude.{◌≡◌, List, ℤ, length}
use Rattle.std.specs.Borrow.{MutBor}
use Rattle.inplace.specs.Whole.{Tables, tables}
use Rattle.serialized.specs.declared.lent.Lent.{Lent}

abbrev pub tables_of : Lent → Tables
tables_of l = tables l.states.now l.edges.now l.ranges.now l.sets.now l.rules.now l.modes.now l.decisions.now l.actions.now l.scratch.now

abbrev pub Still : MutBor (List ℤ) → MutBor (List ℤ) → Type 0
Still t u = (u.ghost_name ≡ t.ghost_name) × (length u.now ≡ length t.now)

pub record Kept (l m : Lent) : Type 0 where
  pub states : Still l.states m.states
  pub edges : Still l.edges m.edges
  pub ranges : Still l.ranges m.ranges
  pub sets : Still l.sets m.sets
  pub rules : Still l.rules m.rules
  pub modes : Still l.modes m.modes
  pub decisions : Still l.decisions m.decisions
  pub actions : Still l.actions m.actions
  pub scratch : Still l.scratch m.scratch
