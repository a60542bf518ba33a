-- `finish` meets its contract: what was laid is the words if they fit, and behind them the output is cleared. Assumes nothing.
use Rattle.std.specs.Prelude.{Ok, Err}
use Rattle.std.proofs.Common.{◌≡◌, refl, sym, ◌∙◌, List, [], append-nil, ℕ, ◌-◌, ◌≤◌, ◌<◌, arith, ℤ, length, take, drop, take_at, lt-ltb, le-ltb}
use lib.Seq.{drop-length}
use borrow.Rule.Slice.PartMut.{mid_of, post_of, put_mid, Post-is, mid_len}
use Rattle.format.specs.Writing.{writing}
use Rattle.format.specs.Reading.{bare}
use Rattle.format.specs.Tables.{zeros}
use Rattle.format.specs.declared.Refusal.{Refusal}
use Rattle.writing.specs.Laid.{Lays, lays_long, laid-fits}
use Rattle.writing.specs.Whole.{answer}
use Rattle.writing.proofs.finish.Goals as goal

module _ {most n : ℕ} {ws old out : List ℤ} (x : Lays most 0 ws old out n) where
  count : n ≡ length ws
  count = omega (arith, x.next)

  short : {q : Refusal} {new : List ℤ} → length out < n → q ≡ bare 16 → new ≡ zeros (length out) → writing (Err q) new ≡ answer ws (length old)
  short h e z = rw (lt-ltb (length old) (length ws) (omega (arith, count, lays_long x)), e, z, lays_long x) refl

  front : n ≤ length out → take n out ≡ ws
  front h = rw (x.words, laid-fits ws old (omega (arith, count, lays_long x))) (take_at ws (drop (length ws) old) n (sym count))

  behind : n ≤ length out → post_of n (length out - n) out ≡ []
  behind h = Post-is n (length out) out h ∙ drop-length out

  whole : {zs : List ℤ} → n ≤ length out → zs ≡ zeros (length (mid_of n (length out - n) out)) → writing (Ok n) (put_mid n (length out - n) out zs) ≡ answer ws (length old)
  whole {zs} h z =
      rw (le-ltb (length old) (length ws) (omega (arith, count, lays_long x)), front h, behind h, append-nil zs, z, mid_len n (length out) out (omega arith), lays_long x, count) refl

pub returns-then-out-n : goal.returns-then-out-n
returns-then-out-n c = λ most ws old x. short x c.if-out-n.true c.bare.ensures c.clear.ensures

pub returns : goal.returns
returns c = λ most ws old x. whole x c.if-out-n.false c.clear-2.ensures
