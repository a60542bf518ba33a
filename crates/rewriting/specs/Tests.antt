-- What the small tests say.
use Rattle.std.specs.Prelude.{◌≡◌, refl, List, [], ◌∷◌, Bool, true, false, ◌&&◌, ◌||◌, ℕ, ℤ, pos, negsuc}
use Rattle.std.proofs.Common.{sym, arith, eq-eqb}
use Rattle.format.specs.Reading.{Table, States, Edges, Ranges, Sets, Rules, Modes, Decisions, Actions, Scratch, pick}
use Rattle.format.specs.Sections.{none, same, size, or_none}
use Rattle.format.specs.Links.{every}
use Rattle.format.specs.Writing.{eight, same_words, same_rows}
use Rattle.laws.specs.Gives.{Every}
use Rattle.laws.specs.Own.{same_true}
use Rattle.rewriting.specs.Formed.{natural, absent, or_absent}

pub lie : {A : Type 0} → false ≡ true → A
lie e = absurd (let z : ◌≡◌ {A = ℕ} 0 1 = cc in omega arith)

pub both : {a b : Bool} → a ≡ true → b ≡ true → (a && b) ≡ true
both p q = rw (p, q) refl

pub left : (a b : Bool) → (a && b) ≡ true → a ≡ true
left true b e = refl
left false b e = lie e

pub right : (a b : Bool) → (a && b) ≡ true → b ≡ true
right true b e = e
right false b e = lie e

pub either : {C : Type 0} (a b : Bool) → (a || b) ≡ true → (a ≡ true → C) → (b ≡ true → C) → C
either true b e f g = f refl
either false b e f g = g e

pub every-all : {A : Type 0} (p : A → Bool) (l : List A) → every p l ≡ true → Every (λ a. p a ≡ true) l
every-all p [] e = tt
every-all {A} p (a ∷ l) e = go (every-all p l) (p a) refl e
  where
    go : (every p l ≡ true → Every (λ x. p x ≡ true) l) → (b : Bool) → p a ≡ b → pick b (every p l) false ≡ true → (p a ≡ true) × Every (λ x. p x ≡ true) l
    go ih true q h = (q, ih h)
    go ih false q h = lie h

pub all-every : {A : Type 0} (p : A → Bool) (l : List A) → Every (λ a. p a ≡ true) l → every p l ≡ true
all-every p [] h = refl
all-every p (a ∷ l) h = rw h.0 (all-every p l h.1)

pub same_self : (v : ℤ) → same v v ≡ true
same_self (pos n) = eq-eqb n n refl
same_self (negsuc n) = eq-eqb n n refl

pub natural-size : (v : ℤ) → natural v ≡ true → pos (size v) ≡ v
natural-size (pos n) e = refl
natural-size (negsuc n) e = lie e

pub absent_none : (v : ℤ) → absent v ≡ true → none ≡ v
absent_none v e = sym (same_true v none e)

pub absent_or : (v : ℤ) → or_absent v ≡ true → or_none v ≡ v
absent_or (pos n) e = refl
absent_or (negsuc n) e = absent_none (negsuc n) e

pub or_absent_lem : (v : ℤ) → or_absent (or_none v) ≡ true
or_absent_lem (pos n) = refl
or_absent_lem (negsuc n) = refl

-- six tests
pub six : (a b c d e g : Bool) → (a && b && c && d && e && g) ≡ true → (a ≡ true) × (b ≡ true) × (c ≡ true) × (d ≡ true) × (e ≡ true) × (g ≡ true)
six a b c d e g h =
    let h5 = left (a && b && c && d && e) g h in
    let h4 = left (a && b && c && d) e h5 in
    let h3 = left (a && b && c) d h4 in
    let h2 = left (a && b) c h3 in
    (left a b h2, right a b h2, right (a && b) c h3, right (a && b && c) d h4, right (a && b && c && d) e h5, right (a && b && c && d && e) g h)

-- ---- tests of tables

pub all-eight : (f : Table → Bool) → ((t : Table) → f t ≡ true) → eight f ≡ true
all-eight f h = both (both (both (both (both (both (both (h States) (h Edges)) (h Ranges)) (h Sets)) (h Rules)) (h Modes)) (h Decisions)) (h Actions)

pub eight-all : (f : Table → Bool) → f Scratch ≡ true → eight f ≡ true → (t : Table) → f t ≡ true
eight-all f z h = go
  where
    first : (f States && f Edges && f Ranges && f Sets && f Rules && f Modes && f Decisions) ≡ true
    first = left (f States && f Edges && f Ranges && f Sets && f Rules && f Modes && f Decisions) (f Actions) h

    rest : (f States ≡ true) × (f Edges ≡ true) × (f Ranges ≡ true) × (f Sets ≡ true) × (f Rules ≡ true) × (f Modes ≡ true)
    rest = six (f States) (f Edges) (f Ranges) (f Sets) (f Rules) (f Modes) (left (f States && f Edges && f Ranges && f Sets && f Rules && f Modes) (f Decisions) first)

    go : (t : Table) → f t ≡ true
    go States = rest.0
    go Edges = rest.1
    go Ranges = rest.2
    go Sets = rest.3
    go Rules = rest.4
    go Modes = rest.5
    go Decisions = right (f States && f Edges && f Ranges && f Sets && f Rules && f Modes) (f Decisions) first
    go Actions = right (f States && f Edges && f Ranges && f Sets && f Rules && f Modes && f Decisions) (f Actions) h
    go Scratch = z

-- ---- equal lists

pub same_words_lem : (l m : List ℤ) → same_words l m ≡ true → l ≡ m
same_words_lem [] [] e = refl
same_words_lem [] (b ∷ m) e = lie e
same_words_lem (a ∷ l) [] e = lie e
same_words_lem (a ∷ l) (b ∷ m) e = let p = same_true a b (left (same a b) (same_words l m) e) in let q = same_words_lem l m (right (same a b) (same_words l m) e) in λ i. p i ∷ q i

pub words_same : (l : List ℤ) → same_words l l ≡ true
words_same [] = refl
words_same (a ∷ l) = both (same_self a) (words_same l)

pub same-rows : (l m : List (List ℤ)) → same_rows l m ≡ true → l ≡ m
same-rows [] [] e = refl
same-rows [] (b ∷ m) e = lie e
same-rows (a ∷ l) [] e = lie e
same-rows (a ∷ l) (b ∷ m) e = let p = same_words_lem a b (left (same_words a b) (same_rows l m) e) in let q = same-rows l m (right (same_words a b) (same_rows l m) e) in λ i. p i ∷ q i

pub rows_same : (l : List (List ℤ)) → same_rows l l ≡ true
rows_same [] = refl
rows_same (a ∷ l) = both (words_same a) (rows_same l)
