-- The order of 32-bit signed numbers, as an order of naturals: `key z` is z + 2^31, which `omega` reads.
use Rattle.std.specs.Prelude.{◌≡◌, refl, Bool, true, false, ◌⊎◌, ℕ, zero, suc, ◌+◌, ◌-◌, ◌≤◌, ◌<◌, ltb, leb, ℤ, pos, negsuc, ◌+ℤ◌}
use Rattle.std.proofs.Common.{sym, ap, ◌∙◌, subst, inl, inr, arith, SFits, lt-ltb, le-ltb, leb-true, le-leb, leb-false}
use Rattle.std.proofs.Math.IntN.{sub_ℕ}
use Rattle.std.specs.Int.Signed.{le_z, lt_z}
use Rattle.format.specs.Sets.{key}
use Rattle.std.specs.Int.{w32}
use Rattle.std.proofs.lemmas.Bool.{lt-leb}

pub dec : (t : Bool) → (t ≡ true) ⊎ (t ≡ false)
dec true = inl refl
dec false = inr refl

pub order : (a b : ℕ) → (a ≤ b) ⊎ (b < a)
order a b = go (leb a b) refl
  where
    go : (t : Bool) → leb a b ≡ t → (a ≤ b) ⊎ (b < a)
    go true e = inl (leb-true a b e)
    go false e = inr (leb-false a b e)

-- two tests of one fact
pub same_leb : (a b c d : ℕ) → (a ≤ b → c ≤ d) → (b < a → d < c) → leb a b ≡ leb c d
same_leb a b c d f g = go (leb a b) refl
  where
    go : (t : Bool) → leb a b ≡ t → leb a b ≡ leb c d
    go true e = e ∙ sym (le-leb c d (f (leb-true a b e)))
    go false e = e ∙ sym (lt-leb c d (g (leb-false a b e)))

pub le_z_key : (a b : ℤ) → SFits w32 a → SFits w32 b → le_z a b ≡ leb (key a) (key b)
le_z_key (pos a) (pos b) f g = same_leb a b (2147483648 + a) (2147483648 + b) (omega arith) (omega arith)
le_z_key (pos a) (negsuc b) f g = sym (lt-leb (2147483648 + a) (2147483647 - b) (omega arith))
le_z_key (negsuc a) (pos b) f g = sym (le-leb (2147483647 - a) (2147483648 + b) (omega arith))
le_z_key (negsuc a) (negsuc b) f g = same_leb b a (2147483647 - a) (2147483647 - b) (omega arith) (omega (arith, f.sfits, g.sfits))

pub lt_z_key : (a b : ℤ) → SFits w32 a → SFits w32 b → lt_z a b ≡ ltb (key a) (key b)
lt_z_key (pos a) (pos b) f g = same_leb (suc a) b (suc (2147483648 + a)) (2147483648 + b) (omega arith) (omega arith)
lt_z_key (pos a) (negsuc b) f g = sym (le-ltb (2147483648 + a) (2147483647 - b) (omega arith))
lt_z_key (negsuc a) (pos b) f g = sym (lt-ltb (2147483647 - a) (2147483648 + b) (omega arith))
lt_z_key (negsuc a) (negsuc b) f g = same_leb (suc b) a (suc (2147483647 - a)) (2147483647 - b) (omega (arith, f.sfits, g.sfits)) (omega arith)

-- two numbers of one key are one number
pub key_one : (a b : ℤ) → SFits w32 a → SFits w32 b → key a ≡ key b → a ≡ b
key_one (pos a) (pos b) f g e = ap pos (omega arith)
key_one (pos a) (negsuc b) f g e = absurd (omega arith)
key_one (negsuc a) (pos b) f g e = absurd (omega arith)
key_one (negsuc a) (negsuc b) f g e = ap negsuc (omega (arith, f.sfits, g.sfits))

pub record Next (a : ℤ) : Type 0 where
  pub fits : SFits w32 (a +ℤ pos 1)
  pub moves : key (a +ℤ pos 1) ≡ key a + 1

-- one more than a number that is below another
pub next : (a b : ℤ) → SFits w32 a → SFits w32 b → key a < key b → Next a
next (pos a) (pos b) f g h = record { fits = record { sfits = omega (arith, g.sfits) }; moves = omega arith }
next (pos a) (negsuc b) f g h = absurd (omega arith)
next (negsuc zero) b f g h = record { fits = record { sfits = omega arith }; moves = refl }
next (negsuc (suc a)) b f g h =
    let e : sub_ℕ 1 (suc (suc a)) ≡ negsuc a = rw (lt-ltb 1 (suc (suc a)) (omega arith)) (ap negsuc (omega arith)) in
    record { fits = subst (λ (z : ℤ). SFits w32 z) (sym e) (record { sfits = omega (arith, f.sfits) }); moves = ap key e ∙ omega (arith, f.sfits) }
