-- How a state's type and rule, as record numbers, decide whether it is a rule's stop.
use Rattle.std.specs.Prelude.{◌≡◌, refl, Bool, true, false, ◌&&◌, List, ℕ, ◌≤◌, ◌<◌, ℤ, pos, negsuc}
use Rattle.std.proofs.Common.{arith, lt-ltb, le-ltb, eq-eqb, ne_eqb}
use Rattle.format.specs.Reading.{pick}
use Rattle.format.specs.Sections.{same, size}
use Rattle.format.specs.Links.{names}
use Rattle.tables.specs.Words.{number_of}

same_number : (z : ℤ) → number_of z ≡ 7 → same z (pos 7) ≡ true
same_number (pos n) e = eq-eqb n 7 e
same_number (negsuc n) e = absurd (omega arith)

other_number : (z : ℤ) → (number_of z ≡ 7 → ⊥) → same z (pos 7) ≡ false
other_number (pos n) e = ne_eqb n 7 e
other_number (negsuc n) e = refl

module _ (k : ℕ) (h : k ≤ 65536) where
  names-number_of : (y : ℤ) → number_of y < k → names k y ≡ true
  names-number_of (pos n) e = lt-ltb n k e
  names-number_of (negsuc n) e = absurd (omega arith)

  size-number_of : (y : ℤ) → number_of y < k → size y ≡ number_of y
  size-number_of (pos n) e = refl
  size-number_of (negsuc n) e = absurd (omega arith)

outside-number_of : (k : ℕ) (y : ℤ) → k ≤ number_of y → names k y ≡ false
outside-number_of k (pos n) e = le-ltb n k e
outside-number_of k (negsuc n) e = refl

-- the word z is a state's type, y its rule, one of k: f is the table in which the state is that rule's stop
module _ (k : ℕ) (z y : ℤ) (f : ℕ → List ℤ) (ru : List ℤ) where
  abbrev stopped : List ℤ
  stopped = pick (same z (pos 7) && names k y) (f (size y)) ru

  pub stop_found : k ≤ 65536 → number_of z ≡ 7 → number_of y < k → f (number_of y) ≡ stopped
  stop_found h e l = rw (same_number z e, names-number_of k h y l, size-number_of k h y l) refl

  pub stop_outside : k ≤ number_of y → ru ≡ stopped
  stop_outside l = rw (outside-number_of k y l) (either (same z (pos 7)))
    where
      either : (b : Bool) → ru ≡ pick (b && false) (f (size y)) ru
      either true = refl
      either false = refl

  pub stop_other : (number_of z ≡ 7 → ⊥) → ru ≡ stopped
  stop_other n = rw (other_number z n) refl
