-- What every accepted result of a program has, where every word has W, and the tables have room.
use Rattle.std.specs.Prelude.{◌≡◌, Bool, ℤ, pos, negsuc, get_or}
use Rattle.std.proofs.Math.Path.{refl, subst}
use Rattle.std.proofs.Common.{sym, ap, arith, ltb-true, leb-true}
use mathlib.Core.List.{List, [], ◌∷◌}
use Rattle.std.proofs.Math.Bool.{true, false}
use Prim.Native.Nat.{ℕ, zero, suc, ◌+◌, ◌≤◌, ◌<◌}
use Rattle.std.proofs.Math.Dec.{ltb, leb}
use Rattle.std.proofs.Math.ListN.{length}
use Rattle.format.specs.Reading.{Table, ok, no, Prog, done, refuse, word, need, here, run, ◌>>=◌, times, spot, natural, count, ended, no_room, pick}
use Rattle.laws.specs.Reading.{clash}

unfoldable pub Gives : {A : Type 0} → (ℤ → Type 0) → (Table → ℕ) → (A → Type 0) → Prog A → Type 0
Gives W room P (done a) = P a
Gives W room P (refuse r) = Unit {0}
Gives W room P (word f k) = (p : ℕ) (v : ℤ) → W v → Gives W room P (k p v)
Gives W room P (need t n f p q) = n ≤ room t → Gives W room P q
Gives W room P (here k) = (p : ℕ) → Gives W room P (k p)

abbrev pub Any : {A : Type 0} → A → Type 0
Any a = Unit {0}

-- every member of a list
abbrev pub Every : {A : Type 0} → (A → Type 0) → List A → Type 0
Every P [] = Unit {0}
Every P (a ∷ l) = P a × Every P l

pub every-at : {A : Type 0} (P : A → Type 0) (l : List A) (d : A) (i : ℕ) → Every P l → i < length l → P (get_or l i d)
every-at P [] d i h k = absurd (omega arith)
every-at P (a ∷ l) d zero h k = h.0
every-at P (a ∷ l) d (suc i) h k = every-at P l d i h.1 (omega arith)

module _ (W : ℤ → Type 0) (room : Table → ℕ) where
  pub gives_any : {A : Type 0} (p : Prog A) → Gives W room Any p
  unfolding Gives
  gives_any (done a) = tt
  gives_any (refuse r) = tt
  gives_any (word f k) = λ p v h. gives_any (k p v)
  gives_any (need t n f p q) = λ h. gives_any q
  gives_any (here k) = λ p. gives_any (k p)

  pub gives_done : {A : Type 0} (P : A → Type 0) (a : A) → P a → Gives W room P (done a)
  unfolding Gives
  gives_done P a h = h

  pub gives_bind : {A B : Type 0} (Q : A → Type 0) (P : B → Type 0) (p : Prog A) (k : A → Prog B) → Gives W room Q p → ((a : A) → Q a → Gives W room P (k a)) → Gives W room P (p >>= k)
  unfolding Gives ◌>>=◌
  gives_bind Q P (done a) k h g = g a h
  gives_bind Q P (refuse r) k h g = tt
  gives_bind Q P (word f j) k h g = λ p v x. gives_bind Q P (j p v) k (h p v x) g
  gives_bind Q P (need t n f p q) k h g = λ x. gives_bind Q P q k (h x) g
  gives_bind Q P (here j) k h g = λ p. gives_bind Q P (j p) k (h p) g

  -- whatever the first program gave
  pub then : {A B : Type 0} (P : B → Type 0) (p : Prog A) (k : A → Prog B) → ((a : A) → Gives W room P (k a)) → Gives W room P (p >>= k)
  then P p k g = gives_bind Any P p k (gives_any p) (λ a x. g a)

  pub gives_run : {A : Type 0} (P : A → Type 0) (p : Prog A) → Gives W room P p → (ws : List ℤ) (at : ℕ) → ((i : ℕ) → i < length ws → W (get_or ws i (pos 0))) → {a : A} {n : ℕ} → run p ws room at ≡ ok a n → P a
  unfolding Gives run
  gives_run P (done b) g ws at w {a} e = let q : b ≡ a = cc in subst P q g
  gives_run P (refuse r) g ws at w e = clash (sym e)
  gives_run {A} P (word f k) g ws at w {a} {n} e = go (λ x. gives_run P (k at (get_or ws at (pos 0))) (g at (get_or ws at (pos 0)) (w at x)) ws (at + 1) w) (ltb at (length ws)) refl e
    where
      go : (at < length ws → run (k at (get_or ws at (pos 0))) ws room (at + 1) ≡ ok a n → P a) → (b : Bool) → ltb at (length ws) ≡ b → pick b (run (k at (get_or ws at (pos 0))) ws room (at + 1)) (no (ended f (length ws))) ≡ ok a n → P a
      go ih true t q = ih (ltb-true at (length ws) t) q
      go ih false t q = clash (sym q)
  gives_run {A} P (need t m f p q) g ws at w {a} {n} e = go (λ x. gives_run P q (g x) ws at w) (leb m (room t)) refl e
    where
      go : (m ≤ room t → run q ws room at ≡ ok a n → P a) → (b : Bool) → leb m (room t) ≡ b → pick b (run q ws room at) (no (no_room f p m)) ≡ ok a n → P a
      go ih true u x = ih (leb-true m (room t) u) x
      go ih false u x = clash (sym x)
  gives_run P (here k) g ws at w e = gives_run P (k at) (g at) ws at w e

  -- n turns give n results, and each has what a turn gives
  pub gives_times : {A : Type 0} (P : A → Type 0) (n i : ℕ) (p : ℕ → Prog A) → ((j : ℕ) → Gives W room P (p j)) → Gives W room (λ l. (length l ≡ n) × Every P l) (times n i p)
  unfolding Gives ◌>>=◌ times
  gives_times P zero i p g = (refl, tt)
  gives_times {A} P (suc n) i p g =
      gives_bind P (λ l. (length l ≡ suc n) × Every P l) (p i) (λ a. times n (i + 1) p >>= (λ l. done (a ∷ l))) (g i)
      (λ a x. gives_bind (λ (l : List A). (length l ≡ n) × Every P l) (λ l. (length l ≡ suc n) × Every P l) (times n (i + 1) p) (λ l. done (a ∷ l)) (gives_times P n (i + 1) p g) (λ l y. (ap suc y.0, (x, y.1))))

  -- a count that was read has room
  pub gives_count : (t : Table) (f : ℕ) → Gives W room (λ n. n ≤ room t) (count t f)
  unfolding Gives ◌>>=◌ count
  gives_count t f = λ p v x. go p v
    where
      go : (p : ℕ) (v : ℤ) → Gives W room (λ n. n ≤ room t) (natural (spot f 0) p v >>= (λ n. need t n (spot f 0) p (done n)))
      go p (pos n) = λ h. h
      go p (negsuc n) = tt

  pub weaker : {A : Type 0} (P Q : A → Type 0) → ((a : A) → P a → Q a) → (p : Prog A) → Gives W room P p → Gives W room Q p
  unfolding Gives
  weaker P Q h (done a) g = h a g
  weaker P Q h (refuse r) g = tt
  weaker P Q h (word f k) g = λ p v x. weaker P Q h (k p v) (g p v x)
  weaker P Q h (need t n f p q) g = λ x. weaker P Q h q (g x)
  weaker P Q h (here k) g = λ p. weaker P Q h (k p) (g p)

  -- so many records as were counted
  pub gives_counted : {A : Type 0} (t : Table) (f : ℕ) (p : ℕ → Prog A) → Gives W room (λ l. length l ≤ room t) (count t f >>= (λ n. times n 0 p))
  gives_counted {A} t f p =
      gives_bind (λ n. n ≤ room t) (λ (l : List A). length l ≤ room t) (count t f) (λ n. times n 0 p) (gives_count t f)
      (λ n h. weaker (λ l. (length l ≡ n) × Every Any l) (λ l. length l ≤ room t) (λ l x. omega (arith, x.0)) (times n 0 p) (gives_times Any n 0 p (λ i. gives_any (p i))))
