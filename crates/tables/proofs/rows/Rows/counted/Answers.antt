-- `Rows::counted` meets its contract: the chunks of a table are its records. Assumes nothing.
use Rattle.std.proofs.Common.{◌≡◌, ◌∙◌, ap, arith, refl, ℕ, zero, suc, ◌≤◌, ℤ, List, ◌∷◌, length, take, drop}
use Rattle.std.proofs.lemmas.Nat.{le-div}
use Rattle.std.proofs.Math.Nat.{mul_comm}
use Rattle.std.specs.Simd.{first_chunks}
use Rattle.format.specs.Writing.{rows_of}
use Rattle.tables.proofs.rows.Rows.counted.Goals as goal

-- the first n of k
first : (w n k : ℕ) (t : List ℤ) → n ≤ k → take n (first_chunks w k t) ≡ rows_of w n t
first w zero k t h = refl
first w (suc n) zero t h = absurd (omega arith)
first w (suc n) (suc k) t h = ap (λ l. take w t ∷ l) (first w n k (drop w t) (omega arith))

pub returns : goal.returns
returns g c =
    let r = c.args.self.now in
    let w = g.row.W in
    ap (take r.count) c.as_chunks.ensures.front
    ∙ first w r.count _ r.words.now (le-div r.count (length r.words.now) w c.requires (omega (arith, mul_comm r.count w, r.lie)))
