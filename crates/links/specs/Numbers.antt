-- The tests of a word, by the record's number that it is.
use Rattle.std.specs.Prelude.{◌≡◌, refl, Bool, true, false, ◌&&◌, ℕ, ◌+◌, ◌≤◌, ◌<◌, ◌^◌, ℤ, pos, negsuc, Some, None}
use Rattle.std.proofs.Common.{sym, ◌∙◌, arith, ltb-true, lt-ltb, le-ltb, eq-eqb, ne_eqb}
use Rattle.format.specs.Reading.{pick}
use Rattle.format.specs.Sections.{same, size}
use Rattle.format.specs.Links.{names}
use Rattle.inplace.specs.Rows.{one_more}
use Rattle.tables.specs.Words.{number_of, number_word}
use Rattle.words.specs.Signs.{index_of}
use Rattle.words.specs.Laws.{natural-size}

module _ (z : ℤ) {i : ℕ} (n : ℕ) (e : i ≡ number_of z) where
  -- a number below n, of at most so many as any table has
  pub names_yes : i < n → n ≤ 2 ^ 31 → names n z ≡ true
  names_yes h b = rw (number_word z i (sym e) (omega arith)) (lt-ltb i n h)

  pub names-size : i < n → n ≤ 2 ^ 31 → size z ≡ i
  names-size h b = rw (number_word z i (sym e) (omega arith)) refl

pub names_no : (z : ℤ) {i : ℕ} (n : ℕ) → i ≡ number_of z → n ≤ i → names n z ≡ false
names_no (pos k) n e h = le-ltb k n (omega arith)
names_no (negsuc k) n e h = refl

pub names-below : (n : ℕ) (z : ℤ) → names n z ≡ true → size z < n
names-below n (pos k) h = ltb-true k n h
names-below n (negsuc k) h = absurd (let q : ◌≡◌ {A = ℕ} 0 1 = cc in omega arith)

pub and_both : (a b : Bool) → (a && b) ≡ true → (a ≡ true) × (b ≡ true)
and_both true b h = (refl, h)
and_both false b h = absurd (let q : ◌≡◌ {A = ℕ} 0 1 = cc in omega arith)

pub pick-below : (b : Bool) (x n : ℕ) → pick b x n < n → b ≡ true
pick-below true x n h = refl
pick-below false x n h = absurd (omega arith)

pub pick_end : (b : Bool) (x n : ℕ) → (b ≡ true → x < n) → n ≤ pick b x n → b ≡ false
pick_end true x n f h = absurd (omega (arith, f refl))
pick_end false x n f h = refl

-- a number that is k, or is not
pub same_yes : (z : ℤ) {i : ℕ} (k : ℕ) → i ≡ number_of z → i ≡ k → k < 2 ^ 31 → same z (pos k) ≡ true
same_yes z k e h b = rw (number_word z k (sym e ∙ h) b) (eq-eqb k k refl)

pub same_no : (z : ℤ) {i : ℕ} (k : ℕ) → i ≡ number_of z → (i ≡ k → ⊥) → same z (pos k) ≡ false
same_no (pos m) k e h = ne_eqb m k (λ q. h (e ∙ q))
same_no (negsuc m) k e h = refl

-- ---- by the sign

module _ (z : ℤ) {n : ℕ} (e : index_of z ≡ Some n) where
  pub one_more_is : n < 2147483647 → one_more z ≡ pos (n + 1)
  one_more_is h = rw (natural-size z n e, lt-ltb n 2147483647 h) refl

  pub one_more-most : 2147483647 ≤ n → one_more z ≡ z
  one_more-most h = rw (natural-size z n e, le-ltb n 2147483647 h) refl

pub one_more_nonsense : (z : ℤ) → index_of z ≡ None → one_more z ≡ z
one_more_nonsense (pos n) e = absurd (let q : ◌≡◌ {A = ℕ} 0 1 = cc in omega arith)
one_more_nonsense (negsuc n) e = refl

pub size_is : (z : ℤ) {n : ℕ} → index_of z ≡ Some n → size z ≡ n
size_is z {n} e = rw (natural-size z n e) refl

pub size_nonsense : (z : ℤ) → index_of z ≡ None → size z ≡ 0
size_nonsense (pos n) e = absurd (let q : ◌≡◌ {A = ℕ} 0 1 = cc in omega arith)
size_nonsense (negsuc n) e = refl
