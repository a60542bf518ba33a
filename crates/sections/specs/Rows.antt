-- What a program reads, as its record's words.
use Rattle.std.specs.Prelude.{List, ℕ, ℤ, Ok, Err}
use Rattle.format.specs.declared.Spot.{Spot}
use Rattle.format.specs.Reading.{Outcome, ok, no, Prog, done, ◌>>=◌, spot, known, index}
use Rattle.format.specs.Sections.{State, Action, action_of}
use Rattle.format.specs.Tables.{state_word, action_words}
use Rattle.words.specs.Answers.{Read}
use Rattle.inplace.specs.Rows.{state_row}

-- What was read, by its number.
abbrev pub numbered : {A : Type 0} → (A → ℕ) → Read A → Outcome ℕ
numbered number (Ok (v, n)) = ok (number v) n
numbered number (Err r) = no r

abbrev pub as_row : Prog State → Prog (List ℤ)
as_row p = p >>= (λ x. done (state_row x))

-- The number of a state, the word of the spot f.
abbrev pub number_row : Spot → Prog (List ℤ)
number_row f = index f >>= (λ s. done (state_word s))

abbrev pub action_row : Prog Action → Prog (List ℤ)
action_row p = p >>= (λ x. done (action_words x))

-- What is left of the i-th action when its three words are read, the first at the place p.
abbrev pub decoded : ℕ → ℕ → ℤ → ℤ → ℤ → Prog Action
decoded i p w d1 d2 = known 11 0 7 (spot 33 i) p w >>= (λ k. done (action_of k d1 d2))
