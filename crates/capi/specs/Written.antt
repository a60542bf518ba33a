-- What `gatehazel_write` hands over (document 02, R-1), and that no second result meets it.
use Rattle.std.specs.Prelude.{◌≡◌, List, Bool, ◌&&◌, ℕ, ◌<◌, ◌^◌, ℤ, length}
use Rattle.std.proofs.Math.Path.{refl}
use Rattle.std.proofs.Common.{sym, ap, ◌∙◌, subst}
use Rattle.std.proofs.Math.Bool.{true, false}
use native.Mathlib.Omega.{arith}
use Rattle.std.proofs.Math.Dec.{ltb}
use borrow.Author.Tests.{ltb-false}
use Rattle.format.specs.Reading.{Table, pick}
use Rattle.format.specs.Answers.{of_written}
use Rattle.format.specs.Writing.{writing, given, inside, words_for, Writing, wrote, unwritten, Writes, comes, write}
use Rattle.format.specs.Results.{Written}
use Rattle.rewriting.specs.Written.{writes-only}
use Rattle.capi.specs.Handed.{Hands, only, SmallWritten}

-- What is returned, r; the lent answer, a before and b afterwards; and the output afterwards, o, of m words. What was told, and o, are a writing
-- of these tables; and what was told is handed over.
pub record HandsWriting (tables : Table → List ℤ) (counts : Table → ℕ) (token : ℤ) (m r : ℕ) (a b o : List ℤ) : Type 0 where
  pub told : Written
  pub writes : Writes tables counts token m (writing told o)
  pub hands : Hands (of_written told) r a b

module _ (tables : Table → List ℤ) (counts : Table → ℕ) (token : ℤ) (m : ℕ) where
  abbrev ws : List ℤ
  ws = words_for tables counts token

  small-write : m < 2 ^ 63 → SmallWritten (write tables counts token m).told
  unfolding write
  small-write l = go (inside tables counts && comes (given tables counts) token) (ltb m (length ws)) refl
    where
      go : (i b : Bool) → ltb m (length ws) ≡ b → SmallWritten (pick i (pick b (unwritten 16 m) (wrote ws m)) (unwritten 15 m)).told
      go true true e = omega arith
      go true false e = omega (arith, ltb-false m (length ws) e)
      go false b e = omega arith

-- what is told is small where the output is
pub small : {tables : Table → List ℤ} {counts : Table → ℕ} {token : ℤ} {m : ℕ} {x : Writing} → m < 2 ^ 63 → Writes tables counts token m x → SmallWritten x.told
small {tables} {counts} {token} {m} {x} l h = subst (λ (y : Writing). SmallWritten y.told) (sym (writes-only tables counts token m x h)) (small-write tables counts token m l)

-- no second result, no other words in the answer and none in the output meet it
pub only-writing : {tables : Table → List ℤ} {counts : Table → ℕ} {token : ℤ} {m r r' : ℕ} {a b b' o o' : List ℤ}
    → HandsWriting tables counts token m r a b o → HandsWriting tables counts token m r' a b' o' → (r ≡ r') × (b ≡ b') × (o ≡ o')
only-writing {tables} {counts} {token} {m} {r} {r'} {a} {b} x y =
    let e = writes-only tables counts token m _ x.writes ∙ sym (writes-only tables counts token m _ y.writes) in
    let t = only (subst (λ (w : Written). Hands (of_written w) r a b) (ap (λ (z : Writing). z.told) e) x.hands) y.hands in
    (t.0, t.1, ap (λ (z : Writing). z.left) e)
