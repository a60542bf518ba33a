-- What was counted: the place behind it, and that it lies within a lent table.
use Rattle.std.specs.Prelude.{◌≡◌, refl, List, ℕ, ◌*◌, ◌≤◌, ℤ, Ok, Err}
use Rattle.format.specs.Reading.{Table, States, Edges, Ranges, Sets, Rules, Modes, Decisions, Actions, Scratch, ok}
use Rattle.format.specs.declared.Counts.{Counts}
use Rattle.format.specs.Results.{Decoded}
use Rattle.inplace.specs.Held.{with, held}
use Rattle.inplace.specs.Sections.{counted}

-- whichever records were counted, the next word is the one behind them
pub held-counted : (s : Table) (c : Counts) (n p : ℕ) (t : List ℤ) → held (Ok (counted s c n p)) t ≡ ok (with (counted s c n p) t) p
held-counted States c n p t = refl
held-counted Edges c n p t = refl
held-counted Ranges c n p t = refl
held-counted Sets c n p t = refl
held-counted Rules c n p t = refl
held-counted Modes c n p t = refl
held-counted Decisions c n p t = refl
held-counted Actions c n p t = refl
held-counted Scratch c n p t = refl

-- The records counted, of w words each, lie in a table of n words, and are no more than a table may hold.
abbrev pub Within : ℕ → (Counts → ℕ) → ℕ → Decoded → Type 0
Within w count n (Ok c) = (w * count c ≤ n) × (count c ≤ 65536)
Within w count n (Err r) = Unit {0}

abbrev pub StatesIn : ℕ → Decoded → Type 0
StatesIn = Within 8 (λ c. c.states)

abbrev pub RulesIn : ℕ → Decoded → Type 0
RulesIn = Within 3 (λ c. c.rules)
