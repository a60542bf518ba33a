-- What each section asks of the tables lent, from the rooms that suit them and the counts within those rooms.
use Rattle.std.specs.Prelude.{ℕ, ◌*◌, ◌≤◌, Ok, Err}
use Rattle.std.proofs.Common.{arith}
use Rattle.format.specs.Reading.{Table, States, Edges, Rules}
use Rattle.format.specs.Results.{Decoded}
use Rattle.sections.specs.Tables as sections
use Rattle.edges.specs.Lent as edges
use Rattle.links.specs.Lent as links
use Rattle.serialized.specs.Within.{Roomed}

-- n records of w words in a table of so many words
abbrev Lies : ℕ → ℕ → ℕ → Type 0
Lies w n words = (w * n ≤ words) × (n ≤ 65536)

module _ (rooms : Table → ℕ) where
  pub states_in_lem : (d : Decoded) (st : ℕ) → Roomed rooms d → Lies 8 (rooms States) st → sections.StatesIn st d
  states_in_lem (Ok c) st w h = (omega (arith, w.states, h.0), omega (arith, w.states, h.1))
  states_in_lem (Err r) st w h = tt

  pub rules_in_lem : (d : Decoded) (ru : ℕ) → Roomed rooms d → Lies 3 (rooms Rules) ru → sections.RulesIn ru d
  rules_in_lem (Ok c) ru w h = (omega (arith, w.rules, h.0), omega (arith, w.rules, h.1))
  rules_in_lem (Err r) ru w h = tt

  pub edges_in_lem : (d : Decoded) (st : ℕ) → Roomed rooms d → Lies 8 (rooms States) st → edges.StatesIn st d
  edges_in_lem (Ok c) st w h = omega (arith, w.states, h.0)
  edges_in_lem (Err r) st w h = tt

  pub lent_to : (d : Decoded) (st ed ru : ℕ) → Roomed rooms d → Lies 8 (rooms States) st → Lies 8 (rooms Edges) ed → Lies 3 (rooms Rules) ru → links.LentTo d (rooms Edges) st ed ru
  lent_to (Ok c) st ed ru w s e r = (
    record { all = omega (arith, w.states, s.0); few = omega (arith, w.states, s.1) },
    record { all = e.0; few = e.1 },
    record { all = omega (arith, w.rules, r.0); few = omega (arith, w.rules, r.1) },
    w.edges,
  )
  lent_to (Err q) st ed ru w s e r = tt

  pub counted_in : (d : Decoded) (st ed ru : ℕ) → Roomed rooms d → Lies 8 (rooms States) st → Lies 8 (rooms Edges) ed → Lies 3 (rooms Rules) ru → links.CountedIn d st ed ru
  counted_in (Ok c) st ed ru w s e r = (
    record { all = omega (arith, w.states, s.0); few = omega (arith, w.states, s.1) },
    record { all = omega (arith, w.edges, e.0); few = omega (arith, w.edges, e.1) },
    record { all = omega (arith, w.rules, r.0); few = omega (arith, w.rules, r.1) },
  )
  counted_in (Err q) st ed ru w s e r = tt
