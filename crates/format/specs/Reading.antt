-- Document 01, "Reading order and fields" and "Refusal numbers": how words are read and refused.
use Rattle.std.specs.Prelude.{List, [], ◌∷◌, Bool, true, false, ◌&&◌, ℕ, zero, suc, ◌+◌, ltb, leb, ℤ, pos, negsuc, length, get_or}
use Rattle.format.specs.declared.Refusal.{Refusal}
use Rattle.format.specs.declared.Spot.{Spot}

-- "Lent tables": the nine of them.
pub data Table : Type 0 where
  States Edges Ranges Sets Rules Modes Decisions Actions Scratch : Table

-- "The answer of a decode is either an acceptance .. or a refusal": what a program gives, and the place of the next word; or why not.
pub data Outcome (A : Type 0) : Type 0 where
  ok : A → ℕ → Outcome A
  no : Refusal → Outcome A

-- "Each word read shall know the number of the record it belongs to" (document 02, R-2): the word of field f in the record with the number i.
abbrev pub spot : ℕ → ℕ → Spot
spot f i = record { field = f; «record» = i }

-- A program that reads words: it is done; it refuses; it reads the word of a spot and goes on by that word's place and value;
-- it needs room for so many records in a table (spot, place), and goes on; it goes on by the place of the next word.
pub data Prog (A : Type 0) : Type 0 where
  done : A → Prog A
  refuse : Refusal → Prog A
  word : Spot → (ℕ → ℤ → Prog A) → Prog A
  need : Table → ℕ → Spot → ℕ → Prog A → Prog A
  here : (ℕ → Prog A) → Prog A

abbrev pub pick {ℓ} : {A : Type ℓ} → Bool → A → A → A
pick true a b = a
pick false a b = b

-- "Place is the refused word's position from 0. The value is a signed 64-bit number."
abbrev pub refusal : ℕ → Spot → ℕ → ℤ → Refusal
refusal n f p v = record { number = n; field = f.field; «record» = f.«record»; place = p; value = v }

-- "Refusals from here on hold 0 in what isn't named" (document 02): one that names its number alone
abbrev pub bare : ℕ → Refusal
bare n = refusal n (spot 0 0) 0 (pos 0)

-- "1: words ended; place is the slice's length": value 0
abbrev pub ended : Spot → ℕ → Refusal
ended f n = refusal 1 f n (pos 0)

-- "12: no room": value the records needed
abbrev pub no_room : Spot → ℕ → ℕ → Refusal
no_room f p n = refusal 12 f p (pos n)

-- A program's run over words, with room for so many records in each table, from a place on.
unfoldable pub run : {A : Type 0} → Prog A → List ℤ → (Table → ℕ) → ℕ → Outcome A
run (done a) ws room at = ok a at
run (refuse r) ws room at = no r
run (word f k) ws room at =
    let on = run (k at (get_or ws at (pos 0))) ws room (at + 1) in
    pick (ltb at (length ws)) on (no (ended f (length ws)))
run (need t n f p k) ws room at =
    let on = run k ws room at in
    pick (leb n (room t)) on (no (no_room f p n))
run (here k) ws room at = run (k at) ws room at

-- One program, then another.
infixl 20 ◌>>=◌
unfoldable pub ◌>>=◌ : {A B : Type 0} → Prog A → (A → Prog B) → Prog B
◌>>=◌ (done a) k = k a
◌>>=◌ (refuse r) k = refuse r
◌>>=◌ (word f j) k = word f (λ p v. j p v >>= k)
◌>>=◌ (need t n f p q) k = need t n f p (q >>= k)
◌>>=◌ (here j) k = here (λ p. j p >>= k)

infixl 20 ◌>>◌
abbrev pub ◌>>◌ : {A B : Type 0} → Prog A → Prog B → Prog B
◌>>◌ p q = p >>= (λ a. q)

-- One program n times, and what each turn gave. A turn is told its number, which counts up from i.
unfoldable pub times : {A : Type 0} → ℕ → ℕ → (ℕ → Prog A) → Prog (List A)
times zero i p = done []
times (suc n) i p = do
  a ← p i
  l ← times n (i + 1) p
  done (a ∷ l)

-- ---- single words

-- The word v of spot f at place p is refused with number n.
abbrev pub fail : {A : Type 0} → ℕ → Spot → ℕ → ℤ → Prog A
fail n f p v = refuse (refusal n f p v)

-- "2: negative word in 4, 7 to 14 (not 15), 16 to 19, 23 to 25, 30 to 32; ..": the fields that are read by this, here and in Sections
abbrev pub natural : Spot → ℕ → ℤ → Prog ℕ
natural f p (pos n) = done n
natural f p (negsuc n) = fail 2 f p (negsuc n)

-- A word that is one of from..to, else the refusal with the given number.
abbrev pub known : ℕ → ℕ → ℕ → Spot → ℕ → ℤ → Prog ℕ
known number from to f p (pos n) = pick (leb from n && leb n to) (done n) (fail number f p (pos n))
known number from to f p (negsuc n) = fail number f p (negsuc n)

-- A number that is below n, else the refusal with the given number.
abbrev pub listed : ℕ → ℕ → Spot → ℕ → ℕ → Prog ℕ
listed number n f p k = pick (ltb k n) (done k) (fail number f p (pos k))

-- A word; a word that is not negative.
unfoldable pub get : Spot → Prog ℤ
get f = word f (λ p v. done v)

unfoldable pub index : Spot → Prog ℕ
index f = word f (natural f)

-- "Room is tested as soon as a count is known good: states, rules, modes, sets, edges, decisions, actions at their count"
-- A count belongs to no record: "the other counts .. carry 0".
unfoldable pub count : Table → ℕ → Prog ℕ
count t f = word (spot f 0) (λ p v. natural (spot f 0) p v >>= (λ n. need t n (spot f 0) p (done n)))
