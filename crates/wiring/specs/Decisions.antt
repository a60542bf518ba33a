-- Precedence decisions, by the words of the tables: st the states', ed the edges', ru the rules'; n states, m edges, k rules.
use Rattle.std.specs.Prelude.{List, Bool, ℕ, ◌+◌, ◌*◌, leb, ltb, ℤ}
use Rattle.format.specs.Reading.{pick}
use Rattle.format.specs.Places.{st_flags}
use Rattle.inplace.specs.Links.{decides_at}
use Rattle.tables.specs.Words.{number_at}
use Rattle.rewriting.specs.Passes.{all}

-- Flags of 0 to 7 have flag 4 exactly if they are 4 or more.
abbrev pub decision_fine : ℕ → ℕ → ℕ → List ℤ → List ℤ → List ℤ → ℕ → Bool
decision_fine n m k st ed ru s =
    let flags = number_at st (8 * s + st_flags) in
    pick (decides_at n m k ru ed st s) (leb 4 flags) (ltb flags 4)

abbrev pub decisions_fine : ℕ → ℕ → ℕ → List ℤ → List ℤ → List ℤ → Bool
decisions_fine n m k st ed ru = all n (decision_fine n m k st ed ru)
