-- How the tests of a word come out, by its sign; and what reading a word, an index and a count amount to.
use Rattle.std.specs.Prelude.{◌≡◌, Result, Ok, Err, IsErrAnd, List, Bool, true, false, ◌&&◌, ℕ, ◌+◌, ◌≤◌, ◌<◌, leb, ℤ, pos, negsuc, length, get_or, Some, None}
use Rattle.std.proofs.Math.Path.{refl, sym}
use Rattle.std.proofs.Common.{ap, ◌∙◌, arith, lt-ltb, le-ltb, le-leb}
use Rattle.std.specs.Int.Signed.{mag}
use Rattle.std.proofs.lemmas.Bool.{lt-leb}
use Rattle.format.specs.Reading.{Table, ok, no, Prog, done, refuse, need, run, spot, ended, no_room, ◌>>=◌, pick, get, index, count, natural, known, listed, refusal}
use Rattle.format.specs.declared.Refusal.{Refusal}
use Rattle.format.specs.declared.Spot.{Spot}
use Rattle.laws.specs.Reading.{need_ok}
use Rattle.laws.specs.Running.{ok_then, no_then}
use Rattle.words.specs.Signs.{index_of}

-- ---- by the sign

pub natural-size : (z : ℤ) (i : ℕ) → index_of z ≡ Some i → z ≡ pos i
natural-size (pos m) i s = let q : m ≡ i = cc in ap pos q
natural-size (negsuc m) i s = absurd (let q : ◌≡◌ {A = ℕ} 0 1 = cc in omega arith)

pub below-zero : (z : ℤ) → index_of z ≡ None → (n : ℕ) × (z ≡ negsuc n)
below-zero (pos m) s = absurd (let q : ◌≡◌ {A = ℕ} 0 1 = cc in omega arith)
below-zero (negsuc m) s = (m, refl)

pub natural-small : (z : ℤ) (i k : ℕ) → index_of z ≡ Some i → mag z < k → i < k
natural-small (pos m) i k s h = let q : m ≡ i = cc in omega arith
natural-small (negsuc m) i k s h = absurd (let q : ◌≡◌ {A = ℕ} 0 1 = cc in omega arith)

pub natural_ok : (f : Spot) (p i : ℕ) (v : ℤ) → index_of v ≡ Some i → natural f p v ≡ done i
natural_ok f p i v s = rw (natural-size v i s) refl

pub natural_no : (f : Spot) (p : ℕ) (v : ℤ) → index_of v ≡ None → natural f p v ≡ refuse (refusal 2 f p v)
natural_no f p (pos n) s = absurd (let z : ◌≡◌ {A = ℕ} 0 1 = cc in omega arith)
natural_no f p (negsuc n) s = refl

module _ (number from to : ℕ) (f : Spot) (p : ℕ) (v : ℤ) where
  known_by : (b : Bool) (i : ℕ) → index_of v ≡ Some i → (leb from i && leb i to) ≡ b → known number from to f p v ≡ pick b (done i) (refuse (refusal number f p v))
  known_by b i s e = rw (natural-size v i s, e) refl

  pub known_ok : (i : ℕ) → index_of v ≡ Some i → from ≤ i → i ≤ to → known number from to f p v ≡ done i
  known_ok i s h k = known_by true i s (rw (le-leb from i h, le-leb i to k) refl)

  pub known-low : (i : ℕ) → index_of v ≡ Some i → i < from → known number from to f p v ≡ refuse (refusal number f p v)
  known-low i s h = known_by false i s (rw (lt-leb from i h) refl)

  pub known_high : (i : ℕ) → index_of v ≡ Some i → from ≤ i → to < i → known number from to f p v ≡ refuse (refusal number f p v)
  known_high i s h k = known_by false i s (rw (le-leb from i h, lt-leb i to k) refl)

  pub known_no : index_of v ≡ None → known number from to f p v ≡ refuse (refusal number f p v)
  known_no s = by v s
    where
      by : (v : ℤ) → index_of v ≡ None → known number from to f p v ≡ refuse (refusal number f p v)
      by (pos n) s = absurd (let z : ◌≡◌ {A = ℕ} 0 1 = cc in omega arith)
      by (negsuc n) s = refl

module _ (number end : ℕ) (f : Spot) (p i : ℕ) where
  pub listed_ok : i < end → listed number end f p i ≡ done i
  listed_ok h = rw (lt-ltb i end h) refl

  pub listed_no : end ≤ i → listed number end f p i ≡ refuse (refusal number f p (pos i))
  listed_no h = rw (le-ltb i end h) refl

-- ---- reading

module _ (f : Spot) (ws : List ℤ) (room : Table → ℕ) (at : ℕ) where
  pub get_ok : at < length ws → ok (get_or ws at (pos 0)) (at + 1) ≡ run (get f) ws room at
  unfolding run get
  get_ok h = rw (lt-ltb at (length ws) h)

  pub get_no : length ws ≤ at → no (ended f (length ws)) ≡ run (get f) ws room at
  unfolding run get
  get_no h = rw (le-ltb at (length ws) h)

  -- an index is a word, and its test
  pub index_is : run (index f) ws room at ≡ run (get f >>= natural f at) ws room at
  unfolding run get index ◌>>=◌
  index_is = refl

  pub index_ok : {v : ℤ} {n : ℕ} → ok v n ≡ run (get f) ws room at → run (index f) ws room at ≡ run (natural f at v) ws room n
  index_ok e = index_is ∙ ok_then (get f) (natural f at) ws room at e

  pub index_no : {r : Refusal} → no r ≡ run (get f) ws room at → no r ≡ run (index f) ws room at
  index_no e = sym (index_is ∙ no_then (get f) (natural f at) ws room at e)

-- a count is an index, and its room
module _ (f : ℕ) (ws : List ℤ) (room : Table → ℕ) (at : ℕ) (t : Table) where
  abbrev roomy : ℕ → Prog ℕ
  roomy n = need t n (spot f 0) at (done n)

  pub count_is : run (count t f) ws room at ≡ run (index (spot f 0) >>= roomy) ws room at
  unfolding run index count ◌>>=◌
  count_is = refl

  pub count_ok : {i n : ℕ} → ok i n ≡ run (index (spot f 0)) ws room at → i ≤ room t → ok i n ≡ run (count t f) ws room at
  unfolding run
  count_ok {i} {n} e h = sym (count_is ∙ ok_then (index (spot f 0)) roomy ws room at e ∙ need_ok t i (spot f 0) at (done i) ws room n h)

  pub count_full : {i n : ℕ} → ok i n ≡ run (index (spot f 0)) ws room at → room t < i → no (no_room (spot f 0) at i) ≡ run (count t f) ws room at
  unfolding run
  count_full {i} e h = sym (count_is ∙ ok_then (index (spot f 0)) roomy ws room at e ∙ rw (lt-leb i (room t) h) refl)

  pub count_no : {r : Refusal} → no r ≡ run (index (spot f 0)) ws room at → no r ≡ run (count t f) ws room at
  count_no e = sym (count_is ∙ no_then (index (spot f 0)) roomy ws room at e)

-- what `?` hands on: the refusal, and nothing else
pub handed_on : {A : Type 0} (r : Result A Refusal) (q : Refusal) → IsErrAnd r (λ e. e ≡ q) → r ≡ Err q
handed_on (Ok a) q h = elim h [ ]
handed_on (Err e) q h = ap Err h

-- what a program gives by itself, whatever the words
pub run_done : {A : Type 0} {p : Prog A} {a : A} → p ≡ done a → (ws : List ℤ) (room : Table → ℕ) (at : ℕ) → ok a at ≡ run p ws room at
unfolding run
run_done e ws room at = rw e refl

pub run_refuse : {A : Type 0} {p : Prog A} {q : Refusal} → p ≡ refuse q → (ws : List ℤ) (room : Table → ℕ) (at : ℕ) → no q ≡ run p ws room at
unfolding run
run_refuse e ws room at = rw e refl
