-- What the code asks of the tables that it is lent. Their lengths are in words.
use Rattle.std.specs.Prelude.{ℕ, ◌*◌, ◌≤◌, Ok, Err}
use Rattle.format.specs.Results.{Decoded}

-- n records of w words lie in a table, and are no more than "65,536 at most".
pub record Listed (w n table : ℕ) : Type 0 where
  pub all : w * n ≤ table
  pub few : n ≤ 65536

-- The states, rules and edges so far lie in their tables, with room for so many edges.
abbrev pub LentTo : Decoded → ℕ → ℕ → ℕ → ℕ → Type 0
LentTo (Ok c) room states edges rules = Listed 8 c.states states × Listed 8 room edges × Listed 3 c.rules rules × (c.edges ≤ room)
LentTo (Err r) room states edges rules = Unit {0}

-- The same, where no edge is to be added.
abbrev pub CountedIn : Decoded → ℕ → ℕ → ℕ → Type 0
CountedIn (Ok c) states edges rules = Listed 8 c.states states × Listed 8 c.edges edges × Listed 3 c.rules rules
CountedIn (Err r) states edges rules = Unit {0}
