-- The decode so far: the counts with what is held of the tables, and how one section goes on after another.
use Rattle.std.specs.Prelude.{◌≡◌, refl, List, ℕ, ℤ, Ok, Err}
use Rattle.std.proofs.Math.Path.{sym, ap}
use Rattle.std.proofs.Common.{◌∙◌}
use Rattle.format.specs.Reading.{Table, Outcome, ok, no, Prog, done, run, ◌>>=◌}
use Rattle.format.specs.declared.Counts.{Counts}
use Rattle.format.specs.Results.{Decoded}
use Rattle.laws.specs.Running.{after, run_bind}

-- The counts so far, in which `words` is the place of the next word; and a table, or several.
pub record Held (X : Type 0) : Type 0 where
  pub counts : Counts
  pub table : X

abbrev pub with : {X : Type 0} → Counts → X → Held X
with c x = record { counts = c; table = x }

-- What the code has come to, with the tables that it left: on a refusal nothing is said of them.
abbrev pub held : {X : Type 0} → Decoded → X → Outcome (Held X)
held (Ok c) x = ok (with c x) c.words
held (Err r) x = no r

-- A program after an outcome.
abbrev pub onward : {A B : Type 0} → (A → Prog B) → List ℤ → (Table → ℕ) → Outcome A → Outcome B
onward k ws rooms o = after o (λ a n. run (k a) ws rooms n)

-- A program on a part of what is held.
unfoldable pub wide : {X Y : Type 0} → (Held X → Prog (Held X)) → (Y → X) → (X → Y → Y) → Held Y → Prog (Held Y)
wide p part put h = p (with h.counts (part h.table)) >>= (λ k. done (with k.counts (put k.table h.table)))

held-map : {X Y : Type 0} (r : Decoded) (x : X) (put : X → Y → Y) (y : Y) → held r (put x y) ≡ after (held r x) (λ k n. ok (with k.counts (put k.table y)) n)
held-map (Ok c) x put y = refl
held-map (Err q) x put y = refl

module _ {X Y : Type 0} (p : Held X → Prog (Held X)) (part : Y → X) (put : X → Y → Y) (ws : List ℤ) (rooms : Table → ℕ) where
  -- what a section says of its part it says of all that is held
  pub lift : (s r : Decoded) (y : Y) (x : X) → held r x ≡ onward p ws rooms (held s (part y)) → held r (put x y) ≡ onward (wide p part put) ws rooms (held s y)
  unfolding wide run
  lift (Ok c) r y x e =
      held-map r x put y
      ∙ ap (λ (o : Outcome (Held X)). after o (λ k n. ok (with k.counts (put k.table y)) n)) e
      ∙ sym (run_bind (p (with c (part y))) (λ k. done (with k.counts (put k.table y))) ws rooms c.words)
  lift (Err q) r y x e = held-map r x put y ∙ ap (λ (o : Outcome (Held X)). after o (λ k n. ok (with k.counts (put k.table y)) n)) e

-- one section more
pub chain : {A B : Type 0} (p : Prog A) (k : A → Prog B) (ws : List ℤ) (rooms : Table → ℕ) (at : ℕ) {o : Outcome A} {u : Outcome B} → o ≡ run p ws rooms at → u ≡ onward k ws rooms o → u ≡ run (p >>= k) ws rooms at
chain p k ws rooms at e f = f ∙ ap (onward k ws rooms) e ∙ sym (run_bind p k ws rooms at)
