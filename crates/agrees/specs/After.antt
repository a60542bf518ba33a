-- One program gives what another gives, laid out: how that is passed on from section to section.
use Rattle.std.specs.Prelude.{◌≡◌, refl, List, ◌∷◌, ℕ, zero, suc, ◌+◌, ℤ, length}
use Rattle.std.proofs.Common.{sym, ◌∙◌}
use Rattle.std.proofs.Math.Path.{ap, fun_ext}
use Rattle.format.specs.Reading.{Table, Outcome, ok, no, Prog, done, refuse, word, need, here, run, ◌>>=◌, times}
use Rattle.format.specs.Tables.{numbered}
use Rattle.laws.specs.Running.{after, run_bind}
use Rattle.laws.specs.Gives.{Gives, Any, Every, gives_any, gives_run, gives_times}
use Rattle.inplace.specs.Held.{Held, with, wide}

-- Every accepted result of a program has P, whatever the words are.
abbrev pub Given : {A : Type 0} → (Table → ℕ) → (A → Type 0) → Prog A → Type 0
Given rooms P p = Gives Any rooms P p

pub given : {A : Type 0} (rooms : Table → ℕ) (P : A → Type 0) (p : Prog A) → Given rooms P p → (ws : List ℤ) (at : ℕ) {a : A} {n : ℕ} → run p ws rooms at ≡ ok a n → P a
given rooms P p g ws at e = gives_run Any rooms P p g ws at (λ i h. tt) e

pub after_same : {A B : Type 0} (o : Outcome A) (f g : A → ℕ → Outcome B) → ((a : A) (n : ℕ) → o ≡ ok a n → f a n ≡ g a n) → after o f ≡ after o g
after_same (ok a n) f g h = h a n refl
after_same (no q) f g h = refl

pub after-after : {A B C : Type 0} (o : Outcome A) (f : A → ℕ → Outcome B) (g : B → ℕ → Outcome C) → after (after o f) g ≡ after o (λ a n. after (f a n) g)
after-after (ok a n) f g = refl
after-after (no q) f g = refl

pub bind_bind : {A B C : Type 0} (p : Prog A) (k : A → Prog B) (j : B → Prog C) → (p >>= k >>= j) ≡ (p >>= (λ a. k a >>= j))
unfolding ◌>>=◌
bind_bind (done a) k j = refl
bind_bind (refuse r) k j = refl
bind_bind {C} (word f l) k j = ap (λ (x : ℕ → ℤ → Prog C). word f x) (fun_ext (λ p. fun_ext (λ v. bind_bind (l p v) k j)))
bind_bind (need t n f p q) k j = ap (need t n f p) (bind_bind q k j)
bind_bind {C} (here l) k j = ap (λ (x : ℕ → Prog C). here x) (fun_ext (λ p. bind_bind (l p) k j))

module _ (ws : List ℤ) (rooms : Table → ℕ) (at : ℕ) where
  -- p gives what q gives, laid out by x. So does all that follows, if what follows does.
  pub laid-first : {A B C D : Type 0} (p : Prog B) (j : B → Prog D) (q : Prog A) (k : A → Prog C) (x : A → ℕ → B) (F : C → ℕ → Outcome D)
      → run p ws rooms at ≡ after (run q ws rooms at) (λ a n. ok (x a n) n)
      → ((a : A) (n : ℕ) → run q ws rooms at ≡ ok a n → run (j (x a n)) ws rooms n ≡ after (run (k a) ws rooms n) F)
      → run (p >>= j) ws rooms at ≡ after (run (q >>= k) ws rooms at) F
  laid-first {B} {C} p j q k x F e h =
      run_bind p j ws rooms at
      ∙ ap (λ (o : Outcome B). after o (λ b n. run (j b) ws rooms n)) e
      ∙ after-after (run q ws rooms at) (λ a n. ok (x a n) n) (λ b n. run (j b) ws rooms n)
      ∙ after_same (run q ws rooms at) (λ a n. run (j (x a n)) ws rooms n) (λ a n. after (run (k a) ws rooms n) F) h
      ∙ sym (after-after (run q ws rooms at) (λ a n. run (k a) ws rooms n) F)
      ∙ ap (λ (o : Outcome C). after o F) (sym (run_bind q k ws rooms at))

  -- The same program first: so does all that follows, if what follows does.
  pub same_first : {A C D : Type 0} (p : Prog A) (j : A → Prog D) (k : A → Prog C) (F : C → ℕ → Outcome D)
      → ((a : A) (n : ℕ) → run p ws rooms at ≡ ok a n → run (j a) ws rooms n ≡ after (run (k a) ws rooms n) F)
      → run (p >>= j) ws rooms at ≡ after (run (p >>= k) ws rooms at) F
  same_first p j k F h = laid-first p j p k (λ a n. a) F (itself (run p ws rooms at)) h
    where
      itself : {A : Type 0} (o : Outcome A) → o ≡ after o (λ a n. ok a n)
      itself (ok a n) = refl
      itself (no q) = refl

  -- What a program gives, by g, and then F.
  pub after_map : {A B C : Type 0} (p : Prog A) (g : A → B) (F : B → ℕ → Outcome C) → after (run (p >>= (λ a. done (g a))) ws rooms at) F ≡ after (run p ws rooms at) (λ a n. F (g a) n)
  unfolding run
  after_map {B} p g F =
      ap (λ (o : Outcome B). after o F) (run_bind p (λ a. done (g a)) ws rooms at)
      ∙ after-after (run p ws rooms at) (λ a n. ok (g a) n) F

  -- The same of a section p on a part of what is held.
  pub wide-first : {A C D X Y : Type 0} (p : Held X → Prog (Held X)) (part : Y → X) (put : X → Y → Y) (h : Held Y) (j : Held Y → Prog D) (q : Prog A) (k : A → Prog C) (x : A → ℕ → Held X) (F : C → ℕ → Outcome D)
      → run (p (with h.counts (part h.table))) ws rooms at ≡ after (run q ws rooms at) (λ a n. ok (x a n) n)
      → ((a : A) (n : ℕ) → run q ws rooms at ≡ ok a n → run (j (with (x a n).counts (put (x a n).table h.table))) ws rooms n ≡ after (run (k a) ws rooms n) F)
      → run (wide p part put h >>= j) ws rooms at ≡ after (run (q >>= k) ws rooms at) F
  unfolding wide run
  wide-first {X} p part put h j q k x F e f =
      laid-first (wide p part put h) j q k (λ a n. with (x a n).counts (put (x a n).table h.table)) F
      (run_bind (p (with h.counts (part h.table))) (λ y. done (with y.counts (put y.table h.table))) ws rooms at
      ∙ ap (λ (o : Outcome (Held X)). after o (λ y n. ok (with y.counts (put y.table h.table)) n)) e
      ∙ after-after (run q ws rooms at) (λ a n. ok (x a n) n) (λ y n. ok (with y.counts (put y.table h.table)) n))
      f

pub times_long : {A : Type 0} (p : ℕ → Prog A) (n i : ℕ) (ws : List ℤ) (rooms : Table → ℕ) (at : ℕ) {l : List A} {m : ℕ} → run (times n i p) ws rooms at ≡ ok l m → length l ≡ n
times_long {A} p n i ws rooms at e =
    (given rooms (λ (l : List A). (length l ≡ n) × Every Any l) (times n i p) (gives_times Any rooms Any n i p (λ j. gives_any Any rooms (p j))) ws at e).0

-- What n turns of p gave, each by f.
pub times-map : {A B : Type 0} (p : ℕ → Prog A) (f : A → B) (ws : List ℤ) (rooms : Table → ℕ) (n i at : ℕ)
    → run (times n i (λ j. p j >>= (λ a. done (f a)))) ws rooms at ≡ after (run (times n i p) ws rooms at) (λ l m. ok (numbered i (λ j a. f a) l) m)
unfolding run times
times-map p f ws rooms zero i at = refl
times-map p f ws rooms (suc n) i at =
    laid-first ws rooms at (p i >>= (λ a. done (f a))) (λ b. times n (i + 1) (λ j. p j >>= (λ a. done (f a))) >>= (λ l. done (b ∷ l))) (p i) (λ a. times n (i + 1) p >>= (λ l. done (a ∷ l))) (λ a m. f a)
    (λ l m. ok (numbered i (λ j a. f a) l) m)
    (run_bind (p i) (λ a. done (f a)) ws rooms at)
    (λ a m e. laid-first ws rooms m (times n (i + 1) (λ j. p j >>= (λ a. done (f a)))) (λ l. done (f a ∷ l)) (times n (i + 1) p) (λ l. done (a ∷ l)) (λ l k. numbered (i + 1) (λ j a. f a) l) (λ l m. ok (numbered i (λ j a. f a) l) m)
    (times-map p f ws rooms n (i + 1) m) (λ l k d. refl))
