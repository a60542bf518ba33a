-- How a program goes on after an answer, and turns over a state: what the code's loops are held to.
use Rattle.std.specs.Prelude.{◌≡◌, refl, List, Bool, true, false, ltb, leb, ℤ, pos, length, get_or}
use Rattle.std.proofs.Common.{sym, ap, ◌∙◌}
use Prim.Native.Nat.{ℕ, zero, suc, ◌+◌, ◌-◌, ◌≤◌, ◌<◌}
use native.Mathlib.Omega.{arith}
use Rattle.format.specs.declared.Refusal.{Refusal}
use Rattle.format.specs.Reading.{Table, Outcome, ok, no, Prog, done, refuse, word, need, here, run, ◌>>=◌, pick}

abbrev pub after : {A B : Type 0} → Outcome A → (A → ℕ → Outcome B) → Outcome B
after (ok a n) k = k a n
after (no r) k = no r

after-pick : {A B : Type 0} (b : Bool) (x y : Outcome A) (k : A → ℕ → Outcome B) → after (pick b x y) k ≡ pick b (after x k) (after y k)
after-pick true x y k = refl
after-pick false x y k = refl

pub run_bind : {A B : Type 0} (p : Prog A) (k : A → Prog B) (ws : List ℤ) (room : Table → ℕ) (at : ℕ) → run (p >>= k) ws room at ≡ after (run p ws room at) (λ a n. run (k a) ws room n)
unfolding run ◌>>=◌
run_bind (done a) k ws room at = refl
run_bind (refuse r) k ws room at = refl
run_bind (word f j) k ws room at = rw (run_bind (j at (get_or ws at (pos 0))) k ws room (at + 1)) (sym (after-pick (ltb at (length ws)) _ _ _))
run_bind (need t n f p q) k ws room at = rw (run_bind q k ws room at) (sym (after-pick (leb n (room t)) _ _ _))
run_bind (here j) k ws room at = run_bind (j at) k ws room at

module _ {A B : Type 0} (p : Prog A) (k : A → Prog B) (ws : List ℤ) (room : Table → ℕ) (at : ℕ) where
  pub ok_then : {a : A} {n : ℕ} → ok a n ≡ run p ws room at → run (p >>= k) ws room at ≡ run (k a) ws room n
  ok_then e = run_bind p k ws room at ∙ rw (← e) refl

  pub no_then : {r : Refusal} → no r ≡ run p ws room at → run (p >>= k) ws room at ≡ no r
  no_then e = run_bind p k ws room at ∙ rw (← e) refl

-- n turns over a state; a turn is told its number, which counts up from i
unfoldable pub turns : {S : Type 0} → ℕ → ℕ → (ℕ → S → Prog S) → S → Prog S
turns zero i p s = done s
turns (suc n) i p s = p i s >>= (λ t. turns n (i + 1) p t)

module _ {S : Type 0} (p : ℕ → S → Prog S) (ws : List ℤ) (room : Table → ℕ) (n i : ℕ) (s : S) (at : ℕ) where
  turns-suc : i < n → turns (n - i) i p s ≡ (p i s >>= (λ t. turns (n - (i + 1)) (i + 1) p t))
  unfolding turns
  turns-suc h = let e : n - i ≡ suc (n - (i + 1)) = omega arith in rw e

  -- a turn that goes on
  pub turn_ok : i < n → {t : S} {m : ℕ} → ok t m ≡ run (p i s) ws room at → run (turns (n - i) i p s) ws room at ≡ run (turns (n - (i + 1)) (i + 1) p t) ws room m
  turn_ok h e = ap (λ (q : Prog S). run q ws room at) (turns-suc h) ∙ ok_then (p i s) (λ t. turns (n - (i + 1)) (i + 1) p t) ws room at e

  -- a turn that refuses
  pub turn_no : i < n → {r : Refusal} → no r ≡ run (p i s) ws room at → run (turns (n - i) i p s) ws room at ≡ no r
  turn_no h e = ap (λ (q : Prog S). run q ws room at) (turns-suc h) ∙ no_then (p i s) (λ t. turns (n - (i + 1)) (i + 1) p t) ws room at e

  -- no turn left
  pub turns-over : n ≤ i → run (turns (n - i) i p s) ws room at ≡ ok s at
  unfolding turns run
  turns-over h = let e : n - i ≡ 0 = omega arith in rw e
