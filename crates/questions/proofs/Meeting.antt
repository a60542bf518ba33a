-- How a listed edge meets a symbol: its type, its set's part, and what is left where it has no set.
use Rattle.std.specs.Prelude.{Ok, Err}
use mathlib.Core.Path.{◌≡◌, refl, sym, ap, ◌∙◌}
use mathlib.Core.List.{List}
use mathlib.Core.Bool.{Bool, true, false, not, ◌&&◌, ◌||◌, and-false}
use mathlib.Core.Logic.{◌⊎◌, ⊎_elim}
use Prim.Native.Nat.{ℕ, ◌<◌}
use native.Mathlib.Omega.{arith}
use lib.Dec.{eqb, leb}
use borrow.Author.Tests.{lt-leb}
use lib.IntN.{ℤ, pos, negsuc}
use lib.Signed.{le_z}
use Rattle.format.specs.Reading.{Sets, Ranges, pick}
use Rattle.format.specs.Sections.{size}
use Rattle.format.specs.Links.{names}
use Rattle.format.specs.Questions.{contradiction, missing, fits, inside, part_start, part_length, part_of, set_part, lookup, matching, setting}
use Rattle.format.specs.declared.Denial.{Denial}
use Rattle.format.specs.Kinds.{edge_number}
use Rattle.format.specs.declared.kinds.EdgeKind.{EdgeKind}
use Rattle.format.specs.declared.kinds.EdgeKind.TheVariants as Ed
use Rattle.questions.specs.Parts.{looked_up, meets}

-- a type from 1 to 10 is a natural number
pub typed : (k : ℤ) → (le_z (pos 1) k && le_z k (pos 10)) ≡ true → k ≡ pos (size k)
typed (pos j) t = refl
typed (negsuc j) t = absurd (let e : ◌≡◌ {A = ℕ} 0 1 = cc in omega arith)

-- a word that names no type is none from 1 to 10
pub untyped : (k : ℤ) → ((n : ℕ) → k ≡ pos n → (n < 1) ⊎ (10 < n)) → (le_z (pos 1) k && le_z k (pos 10)) ≡ false
untyped (pos n) f = ⊎_elim (λ h. rw (lt-leb 1 n h) refl) (λ h. rw (lt-leb n 10 h) (simp and-false)) (f n refl)
untyped (negsuc n) f = refl

-- the types by name: all are from 1 to 10, and two have a set
pub named : (k : EdgeKind) → (leb 1 (edge_number k) && leb (edge_number k) 10) ≡ true
named Ed.Epsilon = refl
named Ed.Range = refl
named Ed.Rule = refl
named Ed.Predicate = refl
named Ed.Atom = refl
named Ed.Action = refl
named Ed.Set = refl
named Ed.NotSet = refl
named Ed.Wildcard = refl
named Ed.Precedence = refl

pub with_set : (k : EdgeKind) → (k ≡ Ed.Set) ⊎ (k ≡ Ed.NotSet) → setting (pos (edge_number k)) ≡ true
with_set k h = ⊎_elim (λ e. rw e refl) (λ e. rw e refl) h

pub setless : (k : EdgeKind) → (k ≡ Ed.Set → ⊥) → (k ≡ Ed.NotSet → ⊥) → setting (pos (edge_number k)) ≡ false
setless Ed.Epsilon a b = refl
setless Ed.Range a b = refl
setless Ed.Rule a b = refl
setless Ed.Predicate a b = refl
setless Ed.Atom a b = refl
setless Ed.Action a b = refl
setless Ed.Set a b = absurd (a refl)
setless Ed.NotSet a b = absurd (b refl)
setless Ed.Wildcard a b = refl
setless Ed.Precedence a b = refl

neither : (a b : Bool) → (a || b) ≡ false → (a ≡ false) × (b ≡ false)
neither true b e = absurd (let z : ◌≡◌ {A = ℕ} 0 1 = cc in omega arith)
neither false b e = (refl, e)

module _ (k p q : ℤ) (ls : List ℤ) (n : ℕ) (rs : List ℤ) (m : ℕ) (v lo hi : ℤ) where
  pub meets_unknown : (le_z (pos 1) k && le_z k (pos 10)) ≡ false → meets k p q ls n rs m v lo hi ≡ Err contradiction
  unfolding meets
  meets_unknown t = rw t refl

  module _ (t : (le_z (pos 1) k && le_z k (pos 10)) ≡ true) where
    -- the types 7 and 8, by what the lookup came to
    module _ (f : fits Sets n ls ≡ true) (g : fits Ranges m rs ≡ true) (s : setting k ≡ true) where
      abbrev found : Bool
      found = lookup (part_of rs (Ok ((part_start ls p), (part_length ls p)))) v

      pub meets-found : (hit : Bool) → Ok hit ≡ looked_up rs (set_part ls n rs m p) v → Ok (matching (size k) p q hit v lo hi) ≡ meets k p q ls n rs m v lo hi
      unfolding set_part meets
      meets-found hit e = rw (t, s) (by (names n p) (inside ls m p) (rw (f, g) at e))
        where
          by : (x y : Bool) → Ok hit ≡ looked_up rs (pick (not x) (Err (missing p)) (pick (not y) (Err contradiction) (Ok ((part_start ls p), (part_length ls p))))) v
              → Ok (matching (size k) p q hit v lo hi) ≡ pick (not (x && y)) (Err contradiction) (Ok (matching (size k) p q found v lo hi))
          by false y e = cc
          by true false e = cc
          by true true e = let z : hit ≡ found = cc in ap (λ (h : Bool). Ok (matching (size k) p q h v lo hi)) z

      pub meets_none : (d : Denial) → Err d ≡ looked_up rs (set_part ls n rs m p) v → Err d ≡ meets k p q ls n rs m v lo hi
      unfolding set_part meets
      meets_none d e = rw (t, s) (by (names n p) (inside ls m p) (rw (f, g) at e))
        where
          by : (x y : Bool) → Err d ≡ looked_up rs (pick (not x) (Err (missing p)) (pick (not y) (Err contradiction) (Ok ((part_start ls p), (part_length ls p))))) v
              → Err d ≡ pick (not (x && y)) (Err contradiction) (Ok (matching (size k) p q found v lo hi))
          by false y e = e
          by true false e = e
          by true true e = cc

    -- all others, where no lookup counts
    pub meets-plain : setting k ≡ false → Ok (matching (size k) p q false v lo hi) ≡ meets k p q ls n rs m v lo hi
    unfolding meets
    meets-plain s =
        let x = neither (eqb (size k) 7) (eqb (size k) 8) (sym (ap setting (typed k t)) ∙ s) in
        rw (t, s, x.0, x.1) refl
