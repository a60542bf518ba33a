-- "touching ones joined (stop + 1 saturates at 2,147,483,647)": a merge whose stop + 1 saturates keeps the same sets, so that
-- `add`, which counts in keys, may go without it.
use Rattle.std.specs.Prelude.{◌≡◌, refl, Bool, true, false, List, [], ◌∷◌, ℕ, zero, suc, ◌+◌, ◌-◌, min, ltb, ℤ, pos, negsuc}
use Rattle.std.proofs.Common.{sym, ap, ◌∙◌, arith, SFits, ltb-true, ltb-false, lt-ltb, le-ltb}
use Rattle.std.specs.Int.{w32}
use Rattle.format.specs.Reading.{pick}
use Rattle.format.specs.Sets.{Range, range, key, lower, upper, add, add_any, keep_onto, keep}
use Rattle.laws.specs.Canonical.{Fit}
use Rattle.laws.specs.Kept.{fit_lower, fit_upper, add_fit}

-- z + 1, which saturates
abbrev pub up : ℤ → ℤ
up (pos n) = pos (min (n + 1) 2147483647)
up (negsuc zero) = pos 0
up (negsuc (suc n)) = negsuc n

-- `add` and `keep`, with it
unfoldable pub add_up : ℤ → ℤ → List Range → List Range
add_up s e [] = range s e ∷ []
add_up s e (r ∷ l) =
    let before = add_up s e l in
    let behind = add_up r.start r.stop l in
    let joined = add_up (lower s r.start) (upper e r.stop) l in
    pick (ltb (key (up r.stop)) (key s)) (r ∷ before)
    (pick (ltb (key (up e)) (key r.start)) (range s e ∷ behind) joined)

unfoldable pub keep_up_onto : List Range → List Range → List Range
keep_up_onto l [] = l
keep_up_onto l (r ∷ rs) = keep_up_onto (add_up (lower r.start r.stop) (upper r.start r.stop) l) rs

-- no 32-bit number lies behind the largest
same_test : (z s : ℤ) → SFits w32 z → SFits w32 s → ltb (key (up z)) (key s) ≡ ltb (key z + 1) (key s)
same_test (pos n) (pos m) f g = by (ltb (2147483648 + n + 1) (2147483648 + m)) refl
  where
    by : (b : Bool) → ltb (2147483648 + n + 1) (2147483648 + m) ≡ b → ltb (2147483648 + min (n + 1) 2147483647) (2147483648 + m) ≡ b
    by true e = lt-ltb (2147483648 + min (n + 1) 2147483647) (2147483648 + m) (omega (arith, ltb-true (2147483648 + n + 1) (2147483648 + m) e))
    by false e = le-ltb (2147483648 + min (n + 1) 2147483647) (2147483648 + m) (omega (arith, ltb-false (2147483648 + n + 1) (2147483648 + m) e, f.sfits, g.sfits))
same_test (pos n) (negsuc m) f g =
    le-ltb (2147483648 + min (n + 1) 2147483647) (2147483647 - m) (omega arith) ∙ sym (le-ltb (2147483648 + n + 1) (2147483647 - m) (omega arith))
same_test (negsuc zero) s f g = refl
same_test (negsuc (suc n)) s f g = ap (λ (k : ℕ). ltb k (key s)) (omega (arith, f.sfits))

add_same : (l : List Range) (s e : ℤ) → Fit l → SFits w32 s → SFits w32 e → add_up s e l ≡ add s e l
unfolding add_up add
add_same [] s e f fs fe = refl
add_same (r ∷ l) s e f fs fe =
    rw (
      same_test r.stop s f.1.0 fs,
      same_test e r.start fe f.0,
      add_same l s e f.1.1 fs fe,
      add_same l r.start r.stop f.1.1 f.0 f.1.0,
      add_same l (lower s r.start) (upper e r.stop) f.1.1 (fit_lower s r.start fs f.0) (fit_upper e r.stop fe f.1.0),
    ) refl

onto_same : (rs l : List Range) → Fit rs → Fit l → keep_up_onto l rs ≡ keep_onto l rs
unfolding keep_up_onto keep_onto
onto_same [] l g f = refl
onto_same (r ∷ rs) l g f =
    let a = fit_lower r.start r.stop g.0 g.1.0 in
    let b = fit_upper r.start r.stop g.0 g.1.0 in
    rw (add_same l (lower r.start r.stop) (upper r.start r.stop) f a b)
    (onto_same rs (add_any r l) g.1.1 (add_fit l f (lower r.start r.stop) (upper r.start r.stop) a b))

-- saturation never changes what a set keeps
pub keep_saturates : (rs : List Range) → Fit rs → keep_up_onto [] rs ≡ keep rs
keep_saturates rs f = onto_same rs [] f tt
