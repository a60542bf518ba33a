-- Words laid over those of a lent output from a place on, as far as it goes: what every function here does, and how one goes on behind another.
use Rattle.std.specs.Prelude.{◌≡◌, refl, List, [], ◌∷◌, ◌++◌, ℕ, suc, ◌+◌, ◌≤◌, ◌<◌, ℤ, length, drop, set}
use Rattle.std.proofs.Common.{ap, ◌∙◌, add-zero, zero-add, add-one, arith, length-append}
use Rattle.std.proofs.lemmas.List.Edits.{sets, sets-eq}
use Rattle.std.proofs.Math.Seq.{length-sets}
use Rattle.std.proofs.lemmas.List.{set_comm}

-- The words ws over those of old from `at` on. A store behind old's end is none.
unfoldable pub laid : ℕ → List ℤ → List ℤ → List ℤ
laid at ws old = sets old at ws

-- The words ws, `most` of them at most, were laid over old from `at` on; r is the place behind them, also where old does not go so far.
pub record Lays (most at : ℕ) (ws old new : List ℤ) (r : ℕ) : Type 0 where
  pub words : new ≡ laid at ws old
  pub next : r ≡ at + length ws
  pub few : length ws ≤ most

pub laid_long : (at : ℕ) (ws old : List ℤ) → length (laid at ws old) ≡ length old
unfolding laid
laid_long at ws old = length-sets old at ws

-- words that fit
pub laid-fits : (ws old : List ℤ) → length ws ≤ length old → laid 0 ws old ≡ ws ++ drop (length ws) old
unfolding laid
laid-fits ws old h = sets-eq ws old 0 (omega arith) ∙ rw zero-add refl

-- ---- words behind words

sets_then : (us vs l : List ℤ) (i : ℕ) → sets (sets l i us) (i + length us) vs ≡ sets l i (us ++ vs)
sets_then [] vs l i = rw add-zero refl
sets_then (u ∷ us) vs l i =
    let e : i + suc (length us) ≡ suc i + length us = omega arith in
    ap (λ (k : ℕ). sets (sets (set l i u) (suc i) us) k vs) e ∙ sets_then us vs (set l i u) (suc i)

pub laid_then : (at : ℕ) (us vs old : List ℤ) → laid (at + length us) vs (laid at us old) ≡ laid at (us ++ vs) old
unfolding laid
laid_then at us vs old = sets_then us vs old at

pub lays_none : {at : ℕ} {old : List ℤ} → Lays 0 at [] old old at
unfolding laid
lays_none = record { words = refl; next = omega arith; few = omega arith }

pub lays_more : {j k at r : ℕ} {ws old new : List ℤ} → j ≤ k → Lays j at ws old new r → Lays k at ws old new r
lays_more h a = record { words = a.words; next = a.next; few = omega (arith, a.few) }

pub lays_long : {k at r : ℕ} {ws old new : List ℤ} → Lays k at ws old new r → length new ≡ length old
lays_long {at = at} {ws = ws} {old = old} a = ap length a.words ∙ laid_long at ws old

pub lays_then : {j k at r s : ℕ} {us vs old mid new : List ℤ} → Lays j at us old mid r → Lays k r vs mid new s → Lays (j + k) at (us ++ vs) old new s
lays_then {us = us} {vs = vs} a b =
    record {
      words = b.words ∙ rw (a.words, a.next) (laid_then _ us vs _);
      next = omega (arith, length-append us vs, a.next, b.next);
      few = omega (arith, length-append us vs, a.few, b.few);
    }

-- ---- a word before words that were laid already

sets-before : (vs l : List ℤ) (i j : ℕ) (v : ℤ) → i < j → set (sets l j vs) i v ≡ sets (set l i v) j vs
sets-before [] l i j v h = refl
sets-before (w ∷ vs) l i j v h =
    sets-before vs (set l j w) i (suc j) v (omega arith) ∙ ap (λ (x : List ℤ). sets x (suc j) vs) (set_comm l j i w v (λ e. omega arith))

pub lays_before : {j k at r s : ℕ} {v : ℤ} {ws old mid new : List ℤ} → Lays k (at + 1) ws old mid s → Lays j at (v ∷ []) mid new r → Lays (k + 1) at (v ∷ ws) old new s
unfolding laid
lays_before {at = at} {v = v} {ws = ws} {old = old} a b =
    record {
      words = b.words ∙ ap (λ (x : List ℤ). set x at v) a.words ∙ sets-before ws old at (at + 1) v (omega arith) ∙ rw add-one refl;
      next = omega (arith, a.next);
      few = omega (arith, a.few);
    }
