-- How a program goes on behind a word that was read, and inside a longer program.
use Rattle.std.specs.Prelude.{◌≡◌, List, ℕ, ℤ, Ok, Err}
use Rattle.std.proofs.Math.Path.{refl}
use Rattle.std.proofs.Common.{sym, ap, ◌∙◌}
use Rattle.format.specs.Reading.{Table, Outcome, ok, no, Prog, word, run, ◌>>=◌, get}
use Rattle.format.specs.declared.Refusal.{Refusal}
use Rattle.format.specs.declared.Spot.{Spot}
use Rattle.laws.specs.Running.{after, run_bind, ok_then, no_then}
use Rattle.words.specs.Answers.{Step, told}

-- a word, and what its value leads to
module _ {A : Type 0} (f : Spot) (k : ℕ → ℤ → Prog A) (ws : List ℤ) (room : Table → ℕ) (at : ℕ) where
  word_is : run (word f k) ws room at ≡ run (get f >>= k at) ws room at
  unfolding run get ◌>>=◌
  word_is = refl

  pub word_ok : {v : ℤ} {n : ℕ} → ok v n ≡ run (get f) ws room at → run (word f k) ws room at ≡ run (k at v) ws room n
  word_ok e = word_is ∙ ok_then (get f) (k at) ws room at e

  pub word_no : {r : Refusal} → no r ≡ run (get f) ws room at → run (word f k) ws room at ≡ no r
  word_no e = word_is ∙ no_then (get f) (k at) ws room at e

-- a program's first part is over, and its rest and what follows are ahead
module _ {A B C : Type 0} (p : Prog A) (k : A → Prog B) (f : B → Prog C) (ws : List ℤ) (room : Table → ℕ) (at : ℕ) where
  abbrev on : Outcome B → Outcome C
  on o = after o (λ b n. run (f b) ws room n)

  pub ok_through : {a : A} {n : ℕ} → ok a n ≡ run p ws room at → run ((p >>= k) >>= f) ws room at ≡ run (k a >>= f) ws room n
  ok_through {a} {n} e = run_bind (p >>= k) f ws room at ∙ ap on (ok_then p k ws room at e) ∙ sym (run_bind (k a) f ws room n)

  pub no_through : {r : Refusal} → no r ≡ run p ws room at → run ((p >>= k) >>= f) ws room at ≡ no r
  no_through e = run_bind (p >>= k) f ws room at ∙ ap on (no_then p k ws room at e)

-- a step that changes the table alone
pub told_map : (r : Step) (l : List ℤ) (f : List ℤ → List ℤ) → told r (f l) ≡ after (told r l) (λ t n. ok (f t) n)
told_map (Ok n) l f = refl
told_map (Err q) l f = refl
