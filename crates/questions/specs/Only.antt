-- No second result: what each question states is an equation of its result with one definition.
use Rattle.std.specs.Prelude.{◌≡◌, List, ℕ, ℤ}
use Rattle.std.proofs.Common.{sym, ◌∙◌}
use Rattle.format.specs.Questions.{nth_edge, set_part, part_of, matches}
use Rattle.format.specs.Results.{NthEdge, SetPart, Matching}

only : {A : Type 0} {x y z : A} → x ≡ z → y ≡ z → x ≡ y
only p q = p ∙ sym q

pub only-edge : (ss : List ℤ) (n : ℕ) (es : List ℤ) (m : ℕ) (s k : ℤ) (x y : NthEdge)
    → x ≡ nth_edge ss n es m s k → y ≡ nth_edge ss n es m s k → x ≡ y
only-edge ss n es m s k x y p q = only p q

pub only_part : (ls : List ℤ) (n : ℕ) (rs : List ℤ) (m : ℕ) (k : ℤ) (x y : SetPart)
    → x ≡ set_part ls n rs m k → y ≡ set_part ls n rs m k → x ≡ y
only_part ls n rs m k x y p q = only p q

pub only_ranges : (ls : List ℤ) (n : ℕ) (rs : List ℤ) (m : ℕ) (k : ℤ) (x y : List ℤ)
    → x ≡ part_of rs (set_part ls n rs m k) → y ≡ part_of rs (set_part ls n rs m k) → x ≡ y
only_ranges ls n rs m k x y p q = only p q

pub only-matching : (es : List ℤ) (c : ℕ) (ls : List ℤ) (n : ℕ) (rs : List ℤ) (m : ℕ) (e v lo hi : ℤ) (x y : Matching)
    → x ≡ matches es c ls n rs m e v lo hi → y ≡ matches es c ls n rs m e v lo hi → x ≡ y
only-matching es c ls n rs m e v lo hi x y p q = only p q
