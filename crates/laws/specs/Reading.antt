-- What holds of every program that reads words, once for all: demand 3, by induction over `Prog`.
use Rattle.std.specs.Prelude.{◌≡◌, refl, List, ◌++◌, Bool, true, false, ℕ, ◌+◌, ◌≤◌, ◌<◌, ltb, leb, ℤ, pos, length, get_or}
use Rattle.std.proofs.Common.{sym, ap, ◌∙◌, arith, length-append, lt-ltb, le-ltb, ltb-true, ltb-false, leb-true, le-leb}
use Rattle.std.proofs.Math.ListN.{get_or-append}
use Rattle.format.specs.declared.Refusal.{Refusal}
use Rattle.format.specs.declared.Spot.{Spot}
use Rattle.format.specs.Reading.{Table, Outcome, ok, no, Prog, done, refuse, word, need, here, run, ended, no_room, pick}

pub clash : {A : Type 0} {a : A} {n : ℕ} {r : Refusal} {X : Type 0} → ok a n ≡ no r → X
clash e = absurd (let z : ◌≡◌ {A = ℕ} 0 1 = cc in omega arith)

no_inj : {A : Type 0} {r s : Refusal} → ◌≡◌ {A = Outcome A} (no r) (no s) → r ≡ s
no_inj e = cc

-- two word lists that agree below n
pub record Agree (ws vs : List ℤ) (n : ℕ) : Type 0 where
  pub words : (i : ℕ) → i < n → get_or vs i (pos 0) ≡ get_or ws i (pos 0)

-- what comes of a program's first word, and of its first need
module _ {A : Type 0} (f : Spot) (k : ℕ → ℤ → Prog A) (ws : List ℤ) (room : Table → ℕ) (at : ℕ) where
  pub word_ok : at < length ws → run (word f k) ws room at ≡ run (k at (get_or ws at (pos 0))) ws room (at + 1)
  unfolding run
  word_ok h = rw (lt-ltb at (length ws) h)

  pub word_no : length ws ≤ at → run (word f k) ws room at ≡ no (ended f (length ws))
  unfolding run
  word_no h = rw (le-ltb at (length ws) h)

module _ {A : Type 0} (t : Table) (n : ℕ) (f : Spot) (p : ℕ) (k : Prog A) (ws : List ℤ) (room : Table → ℕ) (at : ℕ) where
  pub need_ok : n ≤ room t → run (need t n f p k) ws room at ≡ run k ws room at
  unfolding run
  need_ok h = rw (le-leb n (room t) h)

-- a program's run ends at or behind the place where it starts
pub forward : {A : Type 0} (p : Prog A) (ws : List ℤ) (room : Table → ℕ) (at : ℕ) {a : A} {n : ℕ} → run p ws room at ≡ ok a n → at ≤ n
unfolding run
forward (done b) ws room at {a} {n} e = let q : at ≡ n = cc in omega arith
forward (refuse r) ws room at e = clash (sym e)
forward {A} (word f k) ws room at {a} {n} e = go (forward (k at (get_or ws at (pos 0))) ws room (at + 1)) (ltb at (length ws)) e
  where
    go : (run (k at (get_or ws at (pos 0))) ws room (at + 1) ≡ ok a n → at + 1 ≤ n) → (b : Bool) → pick b (run (k at (get_or ws at (pos 0))) ws room (at + 1)) (no (ended f (length ws))) ≡ ok a n → at ≤ n
    go ih true q = omega (arith, ih q)
    go ih false q = clash (sym q)
forward {A} (need t m f p k) ws room at {a} {n} e = go (forward k ws room at) (leb m (room t)) e
  where
    go : (run k ws room at ≡ ok a n → at ≤ n) → (b : Bool) → pick b (run k ws room at) (no (no_room f p m)) ≡ ok a n → at ≤ n
    go ih true q = ih q
    go ih false q = clash (sym q)
forward (here k) ws room at e = forward (k at) ws room at e

-- and at or before the end of the words
pub within : {A : Type 0} (p : Prog A) (ws : List ℤ) (room : Table → ℕ) (at : ℕ) {a : A} {n : ℕ} → at ≤ length ws → run p ws room at ≡ ok a n → n ≤ length ws
unfolding run
within (done b) ws room at {a} {n} h e = let q : at ≡ n = cc in omega arith
within (refuse r) ws room at h e = clash (sym e)
within {A} (word f k) ws room at {a} {n} h e = go (within (k at (get_or ws at (pos 0))) ws room (at + 1)) (ltb at (length ws)) refl e
  where
    go : (at + 1 ≤ length ws → run (k at (get_or ws at (pos 0))) ws room (at + 1) ≡ ok a n → n ≤ length ws) → (b : Bool) → ltb at (length ws) ≡ b → pick b (run (k at (get_or ws at (pos 0))) ws room (at + 1)) (no (ended f (length ws))) ≡ ok a n → n ≤ length ws
    go ih true t q = ih (omega (arith, ltb-true at (length ws) t)) q
    go ih false t q = clash (sym q)
within {A} (need t m f p k) ws room at {a} {n} h e = go (within k ws room at h) (leb m (room t)) e
  where
    go : (run k ws room at ≡ ok a n → n ≤ length ws) → (b : Bool) → pick b (run k ws room at) (no (no_room f p m)) ≡ ok a n → n ≤ length ws
    go ih true q = ih q
    go ih false q = clash (sym q)
within (here k) ws room at h e = within (k at) ws room at h e

-- (a) what was accepted after n words is accepted with any words that agree on those n
pub again : {A : Type 0} (p : Prog A) (ws vs : List ℤ) (room : Table → ℕ) (at : ℕ) {a : A} {n : ℕ} → run p ws room at ≡ ok a n → n ≤ length vs → Agree ws vs n → run p vs room at ≡ ok a n
unfolding run
again (done b) ws vs room at e h g = e
again (refuse r) ws vs room at e h g = clash (sym e)
again {A} (word f k) ws vs room at {a} {n} e h g = go (again (k at (get_or ws at (pos 0))) ws vs room (at + 1)) (ltb at (length ws)) e
  where
    go : (run (k at (get_or ws at (pos 0))) ws room (at + 1) ≡ ok a n → n ≤ length vs → Agree ws vs n → run (k at (get_or ws at (pos 0))) vs room (at + 1) ≡ ok a n)
        → (b : Bool) → pick b (run (k at (get_or ws at (pos 0))) ws room (at + 1)) (no (ended f (length ws))) ≡ ok a n → run (word f k) vs room at ≡ ok a n
    go ih true q =
        let l : at + 1 ≤ n = forward (k at (get_or ws at (pos 0))) ws room (at + 1) q in
        word_ok f k vs room at (omega arith) ∙ ap (λ (v : ℤ). run (k at v) vs room (at + 1)) (g.words at (omega arith)) ∙ ih q h g
    go ih false q = clash (sym q)
again {A} (need t m f p k) ws vs room at {a} {n} e h g = go (again k ws vs room at) (leb m (room t)) refl e
  where
    go : (run k ws room at ≡ ok a n → n ≤ length vs → Agree ws vs n → run k vs room at ≡ ok a n) → (b : Bool) → leb m (room t) ≡ b → pick b (run k ws room at) (no (no_room f p m)) ≡ ok a n → run (need t m f p k) vs room at ≡ ok a n
    go ih true u q = need_ok t m f p k vs room at (leb-true m (room t) u) ∙ ih q h g
    go ih false u q = clash (sym q)
again (here k) ws vs room at e h g = again (k at) ws vs room at e h g

-- (b) a shorter run is refused as ended, at its own length
pub cut : {A : Type 0} (p : Prog A) (ws vs : List ℤ) (room : Table → ℕ) (at : ℕ) {a : A} {n : ℕ} → run p ws room at ≡ ok a n → at ≤ length vs → length vs < n → Agree ws vs (length vs) → (f : Spot) × (run p vs room at ≡ no (ended f (length vs)))
unfolding run
cut (done b) ws vs room at {a} {n} e l h g = absurd (let q : at ≡ n = cc in omega arith)
cut (refuse r) ws vs room at e l h g = clash (sym e)
cut {A} (word f k) ws vs room at {a} {n} e l h g = go (cut (k at (get_or ws at (pos 0))) ws vs room (at + 1)) (ltb at (length ws)) e (ltb at (length vs)) refl
  where
    go : (run (k at (get_or ws at (pos 0))) ws room (at + 1) ≡ ok a n → at + 1 ≤ length vs → length vs < n → Agree ws vs (length vs) → (f : Spot) × (run (k at (get_or ws at (pos 0))) vs room (at + 1) ≡ no (ended f (length vs))))
        → (b : Bool) → pick b (run (k at (get_or ws at (pos 0))) ws room (at + 1)) (no (ended f (length ws))) ≡ ok a n → (c : Bool) → ltb at (length vs) ≡ c → (f' : Spot) × (run (word f k) vs room at ≡ no (ended f' (length vs)))
    go ih true q true u =
        let x : at < length vs = ltb-true at (length vs) u in
        let y = ih q (omega arith) h g in
        (y.0, word_ok f k vs room at x ∙ ap (λ (v : ℤ). run (k at v) vs room (at + 1)) (g.words at x) ∙ y.1)
    go ih true q false u = (f, word_no f k vs room at (ltb-false at (length vs) u))
    go ih false q c u = clash (sym q)
cut {A} (need t m f p k) ws vs room at {a} {n} e l h g = go (cut k ws vs room at) (leb m (room t)) refl e
  where
    go : (run k ws room at ≡ ok a n → at ≤ length vs → length vs < n → Agree ws vs (length vs) → (f : Spot) × (run k vs room at ≡ no (ended f (length vs)))) → (b : Bool) → leb m (room t) ≡ b → pick b (run k ws room at) (no (no_room f p m)) ≡ ok a n → (f' : Spot) × (run (need t m f p k) vs room at ≡ no (ended f' (length vs)))
    go ih true u q = let y = ih q l h g in (y.0, need_ok t m f p k vs room at (leb-true m (room t) u) ∙ y.1)
    go ih false u q = clash (sym q)
cut (here k) ws vs room at e l h g = cut (k at) ws vs room at e l h g

-- (c) a refusal other than 1 survives added words
pub survives : {A : Type 0} (p : Prog A) (ws zs : List ℤ) (room : Table → ℕ) (at : ℕ) {r : Refusal} → run p ws room at ≡ no r → (r.number ≡ 1 → ⊥) → run p (ws ++ zs) room at ≡ no r
unfolding run
survives (done a) ws zs room at e n1 = clash e
survives (refuse q) ws zs room at e n1 = e
survives {A} (word f k) ws zs room at {r} e n1 = go (survives (k at (get_or ws at (pos 0))) ws zs room (at + 1)) (ltb at (length ws)) refl e
  where
    go : (run (k at (get_or ws at (pos 0))) ws room (at + 1) ≡ no r → (r.number ≡ 1 → ⊥) → run (k at (get_or ws at (pos 0))) (ws ++ zs) room (at + 1) ≡ no r)
        → (b : Bool) → ltb at (length ws) ≡ b → pick b (run (k at (get_or ws at (pos 0))) ws room (at + 1)) (no (ended f (length ws))) ≡ no r → run (word f k) (ws ++ zs) room at ≡ no r
    go ih true t q =
        let x : at < length ws = ltb-true at (length ws) t in
        word_ok f k (ws ++ zs) room at (omega (arith, length-append ws zs)) ∙ ap (λ (v : ℤ). run (k at v) (ws ++ zs) room (at + 1)) (get_or-append ws zs (pos 0) at x) ∙ ih q n1
    go ih false t q = absurd (n1 (ap (λ (x : Refusal). x.number) (sym (no_inj q))))
survives {A} (need u n f q k) ws zs room at {r} e n1 = go (survives k ws zs room at) (leb n (room u)) refl e
  where
    go : (run k ws room at ≡ no r → (r.number ≡ 1 → ⊥) → run k (ws ++ zs) room at ≡ no r) → (b : Bool) → leb n (room u) ≡ b → pick b (run k ws room at) (no (no_room f q n)) ≡ no r → run (need u n f q k) (ws ++ zs) room at ≡ no r
    go ih true t x = need_ok u n f q k (ws ++ zs) room at (leb-true n (room u) t) ∙ ih x n1
    go ih false t x = rw t x
survives (here k) ws zs room at e n1 = survives (k at) ws zs room at e n1

-- (d) more room changes nothing but 12
abbrev pub Roomy : {A : Type 0} → Outcome A → Type 0
Roomy (ok a n) = Unit {0}
Roomy (no r) = r.number ≡ 12 → ⊥

pub roomier : {A : Type 0} (p : Prog A) (ws : List ℤ) (room more : Table → ℕ) (at : ℕ) → ((t : Table) → room t ≤ more t) → Roomy (run p ws room at) → run p ws more at ≡ run p ws room at
unfolding run
roomier (done a) ws room more at g h = refl
roomier (refuse q) ws room more at g h = refl
roomier {A} (word f k) ws room more at g h = go (roomier (k at (get_or ws at (pos 0))) ws room more (at + 1) g) (ltb at (length ws)) h
  where
    go : (Roomy (run (k at (get_or ws at (pos 0))) ws room (at + 1)) → run (k at (get_or ws at (pos 0))) ws more (at + 1) ≡ run (k at (get_or ws at (pos 0))) ws room (at + 1))
        → (b : Bool) → Roomy (pick b (run (k at (get_or ws at (pos 0))) ws room (at + 1)) (no (ended f (length ws)))) → pick b (run (k at (get_or ws at (pos 0))) ws more (at + 1)) (no (ended f (length ws))) ≡ pick b (run (k at (get_or ws at (pos 0))) ws room (at + 1)) (no (ended f (length ws)))
    go ih true x = ih x
    go ih false x = refl
roomier {A} (need t n f q k) ws room more at g h = go (roomier k ws room more at g) (leb n (room t)) refl h
  where
    go : (Roomy (run k ws room at) → run k ws more at ≡ run k ws room at) → (b : Bool) → leb n (room t) ≡ b → Roomy (pick b (run k ws room at) (no (no_room f q n))) → pick (leb n (more t)) (run k ws more at) (no (no_room f q n)) ≡ pick b (run k ws room at) (no (no_room f q n))
    go ih true u x = rw (le-leb n (more t) (omega (arith, leb-true n (room t) u, g t))) (ih x)
    go ih false u x = absurd (x refl)
roomier (here k) ws room more at g h = roomier (k at) ws room more at g h
