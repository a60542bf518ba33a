-- One action: its three words are read before its type is tested.
use Rattle.std.specs.Prelude.{◌≡◌, List, ℕ, ℤ}
use Rattle.std.proofs.Math.Path.{refl}
use Rattle.std.proofs.Common.{sym, ◌∙◌}
use Rattle.format.specs.Reading.{Table, ok, no, Prog, done, run, ◌>>=◌, spot, get}
use Rattle.format.specs.Sections.{Action, action}
use Rattle.format.specs.Tables.{action_words}
use Rattle.format.specs.declared.Refusal.{Refusal}
use Rattle.sections.specs.Rows.{action_row, decoded}
use Rattle.sections.specs.Through.{ok_through, no_through}

-- what is left when one and two words are read, the first at the place p
abbrev third : ℕ → ℕ → ℤ → ℤ → Prog Action
third i p w d1 = get (spot 35 i) >>= decoded i p w d1

abbrev second : ℕ → ℕ → ℤ → Prog Action
second i p w = get (spot 34 i) >>= third i p w

abbrev row : Action → Prog (List ℤ)
row x = done (action_words x)

module _ (i : ℕ) (ws : List ℤ) (rooms : Table → ℕ) (p : ℕ) where
  action_is : run (action_row (action i)) ws rooms p ≡ run (action_row (get (spot 33 i) >>= second i p)) ws rooms p
  unfolding run action ◌>>=◌
  action_is = refl

  after_one : {w : ℤ} {a : ℕ} → ok w a ≡ run (get (spot 33 i)) ws rooms p → run (action_row (action i)) ws rooms p ≡ run (action_row (second i p w)) ws rooms a
  after_one e = action_is ∙ ok_through (get (spot 33 i)) (second i p) row ws rooms p e

  after_two : {w d1 : ℤ} {a b : ℕ} → ok w a ≡ run (get (spot 33 i)) ws rooms p → ok d1 b ≡ run (get (spot 34 i)) ws rooms a → run (action_row (action i)) ws rooms p ≡ run (action_row (third i p w d1)) ws rooms b
  after_two {w} {d1} {a} {b} e f = after_one e ∙ ok_through (get (spot 34 i)) (third i p w) row ws rooms a f

  pub after-three : {w d1 d2 : ℤ} {a b n : ℕ} → ok w a ≡ run (get (spot 33 i)) ws rooms p → ok d1 b ≡ run (get (spot 34 i)) ws rooms a → ok d2 n ≡ run (get (spot 35 i)) ws rooms b
      → run (action_row (decoded i p w d1 d2)) ws rooms n ≡ run (action_row (action i)) ws rooms p
  after-three {w} {d1} {d2} {a} {b} e f g = sym (after_two e f ∙ ok_through (get (spot 35 i)) (decoded i p w d1) row ws rooms b g)

  pub first_ends : {r : Refusal} → no r ≡ run (get (spot 33 i)) ws rooms p → no r ≡ run (action_row (action i)) ws rooms p
  first_ends e = sym (action_is ∙ no_through (get (spot 33 i)) (second i p) row ws rooms p e)

  pub second-ends : {w : ℤ} {a : ℕ} {r : Refusal} → ok w a ≡ run (get (spot 33 i)) ws rooms p → no r ≡ run (get (spot 34 i)) ws rooms a → no r ≡ run (action_row (action i)) ws rooms p
  second-ends {w} {a} e f = sym (after_one e ∙ no_through (get (spot 34 i)) (third i p w) row ws rooms a f)

  pub third-ends : {w d1 : ℤ} {a b : ℕ} {r : Refusal} → ok w a ≡ run (get (spot 33 i)) ws rooms p → ok d1 b ≡ run (get (spot 34 i)) ws rooms a → no r ≡ run (get (spot 35 i)) ws rooms b → no r ≡ run (action_row (action i)) ws rooms p
  third-ends {w} {d1} {a} {b} e f g = sym (after_two e f ∙ no_through (get (spot 35 i)) (decoded i p w d1) row ws rooms b g)
