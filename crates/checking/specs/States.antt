-- A state's rule and link, by the number of words that follow its type (format: `follows`).
use Rattle.std.specs.Prelude.{[], ◌∷◌, Bool, ◌&&◌, ℕ, ℤ, get_or}
use Rattle.rewriting.specs.Formed.{natural, absent, or_absent}

abbrev pub following : ℕ → ℤ → ℤ → Bool
following after rule link = get_or ((absent rule && absent link) ∷ (or_absent rule && absent link) ∷ []) after (or_absent rule && natural link)
