-- What the section asks of the tables that it is lent.
use Rattle.std.specs.Prelude.{ℕ, ◌*◌, ◌≤◌, Ok, Err}
use Rattle.format.specs.Results.{Decoded}

-- The states counted lie in a table of n words.
abbrev pub StatesIn : ℕ → Decoded → Type 0
StatesIn n (Ok c) = 8 * c.states ≤ n
StatesIn n (Err r) = Unit {0}
