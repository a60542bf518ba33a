-- A word as a record's number, and a table whose words were stored.
use Rattle.std.specs.Prelude.{◌≡◌, refl, List, [], ◌∷◌, ◌++◌, ℕ, zero, suc, ◌+◌, ◌<◌, ◌^◌, ltb, ℤ, pos, negsuc, length, get_or, set, drop, replicate}
use Rattle.std.proofs.Common.{sym, ap, ◌∙◌, arith, add-one, get_or-set_same, get_or-set_other, le-ltb}
use Rattle.format.specs.Links.{names}

-- ""None" is −1": no table has so many records that it would be one of them.
abbrev pub number_of : ℤ → ℕ
number_of (pos n) = n
number_of (negsuc n) = 4294967295

-- Word i of a table, as a record's number.
abbrev pub number_at : List ℤ → ℕ → ℕ
number_at t i = number_of (get_or t i (pos 0))

-- a small number is of that word alone
pub number_word : (z : ℤ) (n : ℕ) → number_of z ≡ n → n < 2 ^ 31 → z ≡ pos n
number_word (pos m) n e h = ap pos e
number_word (negsuc m) n e h = absurd (omega arith)

-- two words of one small number are one word
pub number-one : (a b : ℤ) → number_of a ≡ number_of b → number_of b < 2 ^ 31 → a ≡ b
number-one a b e h = number_word a (number_of b) e h ∙ sym (number_word b (number_of b) refl h)

-- a word names one of n records exactly if its number is below n
pub names-number : (n : ℕ) (z : ℤ) → n < 2 ^ 32 → names n z ≡ ltb (number_of z) n
names-number n (pos k) h = refl
names-number n (negsuc k) h = sym (le-ltb 4294967295 n (omega arith))

-- ---- after a store

pub number_same : (t : List ℤ) (i : ℕ) (z : ℤ) → i < length t → number_at (set t i z) i ≡ number_of z
number_same t i z h = ap number_of (get_or-set_same t i z (pos 0) h)

pub number_other : (t : List ℤ) (i j : ℕ) (z : ℤ) → (j ≡ i → ⊥) → number_at (set t i z) j ≡ number_at t j
number_other t i j z n = ap number_of (get_or-set_other t i j z (pos 0) n)

-- ---- clearing

-- the first n words are v, the others as they were
filled-suc : (n : ℕ) (v : ℤ) (t : List ℤ) → n < length t → set (replicate n v ++ drop n t) n v ≡ replicate (suc n) v ++ drop (suc n) t
filled-suc n v [] h = absurd (omega arith)
filled-suc zero v (x ∷ t) h = refl
filled-suc (suc n) v (x ∷ t) h = ap (λ (l : List ℤ). v ∷ l) (filled-suc n v t (omega arith))

pub filled_more : (n : ℕ) (v : ℤ) (t : List ℤ) → n < length t → set (replicate n v ++ drop n t) n v ≡ replicate (n + 1) v ++ drop (n + 1) t
filled_more n v t h = rw add-one (filled-suc n v t h)

pub filled-all : (v : ℤ) (t : List ℤ) → replicate (length t) v ++ drop (length t) t ≡ replicate (length t) v
filled-all v [] = refl
filled-all v (x ∷ t) = ap (λ (l : List ℤ). v ∷ l) (filled-all v t)
