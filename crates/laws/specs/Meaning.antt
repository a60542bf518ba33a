-- The same in the order of ℤ: what is said by keys is said of 32-bit numbers.
use Rattle.std.specs.Prelude.{◌≡◌, refl, Bool, true, false, List, [], ◌∷◌, ◌++◌, ◌⊎◌, ◌↔◌, ℕ, ◌-◌, ◌≤◌, ◌<◌, T, ℤ, pos, negsuc, ◌≤ℤ◌}
use Rattle.std.proofs.Common.{sym, ap, ◌∙◌, subst, inl, inr, ⊎_elim, arith, SFits, leb-true, le-leb}
use Rattle.std.specs.Int.Signed.{le_z}
use Rattle.std.specs.Int.{w32}
use Rattle.format.specs.Sets.{Range, key, lower, upper, keep, holds}
use Rattle.format.specs.Sections.{none, eof}
use Rattle.laws.specs.Order.{order, le_z_key, key_one}
use Rattle.laws.specs.Canonical.{Canonical, Within, In, Fit, Given}
use Rattle.laws.specs.Kept.{unique, key-lower, key-upper, keep_members, keep_fit}
use Rattle.laws.specs.Lookup.{lookup_in}

pub to_T : {b : Bool} → b ≡ true → T b
to_T e = subst T (sym e) tt

pub of_t : (b : Bool) → T b → b ≡ true
of_t true t = refl
of_t false t = absurd t

pub key_le : (a b : ℤ) → SFits w32 a → SFits w32 b → (a ≤ℤ b) ↔ (key a ≤ key b)
key_le a b f g = (
  (λ x. leb-true (key a) (key b) (sym (le_z_key a b f g) ∙ of_t (le_z a b) x.le)),
  (λ x. record { le = to_T (le_z_key a b f g ∙ le-leb (key a) (key b) x) }),
)

-- v is in one of the ranges
abbrev pub InZ : ℤ → List Range → Type 0
InZ v [] = ⊥
InZ v (r ∷ l) = ((r.start ≤ℤ v) × (v ≤ℤ r.stop)) ⊎ InZ v l

pub in_means : (v : ℤ) (l : List Range) → SFits w32 v → Fit l → In (key v) l ↔ InZ v l
in_means v [] f g = ((λ x. x), (λ x. x))
in_means v (r ∷ l) f g = (
  (λ x. ⊎_elim (λ y. inl ((key_le r.start v g.0 f).1 y.0, (key_le v r.stop f g.1.0).1 y.1)) (λ y. inr ((in_means v l f g.1.1).0 y)) x),
  (λ x. ⊎_elim (λ y. inl ((key_le r.start v g.0 f).0 y.0, (key_le v r.stop f g.1.0).0 y.1)) (λ y. inr ((in_means v l f g.1.1).1 y)) x),
)

-- v is in one of the intervals given, its ends in either order
abbrev pub GivenZ : ℤ → List Range → Type 0
GivenZ v [] = ⊥
GivenZ v (r ∷ rs) = (((r.start ≤ℤ v) × (v ≤ℤ r.stop)) ⊎ ((r.stop ≤ℤ v) × (v ≤ℤ r.start))) ⊎ GivenZ v rs

-- between the lower and the upper of two numbers: between them in one order or the other
either_way : (a b v : ℤ) → SFits w32 a → SFits w32 b → SFits w32 v
    → Within (key v) (lower a b) (upper a b) ↔ (((a ≤ℤ v) × (v ≤ℤ b)) ⊎ ((b ≤ℤ v) × (v ≤ℤ a)))
either_way a b v fa fb fv = (to, fro)
  where
    to : Within (key v) (lower a b) (upper a b) → ((a ≤ℤ v) × (v ≤ℤ b)) ⊎ ((b ≤ℤ v) × (v ≤ℤ a))
    to w =
        ⊎_elim
        (λ h. inl ((key_le a v fa fv).1 (omega (arith, key-lower a b)), (key_le v b fv fb).1 (omega (arith, key-upper a b))))
        (λ h. inr ((key_le b v fb fv).1 (omega (arith, key-lower a b)), (key_le v a fv fa).1 (omega (arith, key-upper a b))))
        (order (key a) (key b))

    fro : ((a ≤ℤ v) × (v ≤ℤ b)) ⊎ ((b ≤ℤ v) × (v ≤ℤ a)) → Within (key v) (lower a b) (upper a b)
    fro (inl x) = let p = (key_le a v fa fv).0 x.0 in let q = (key_le v b fv fb).0 x.1 in (omega (arith, key-lower a b), omega (arith, key-upper a b))
    fro (inr x) = let p = (key_le b v fb fv).0 x.0 in let q = (key_le v a fv fa).0 x.1 in (omega (arith, key-lower a b), omega (arith, key-upper a b))

given_means : (v : ℤ) (rs : List Range) → SFits w32 v → Fit rs → Given (key v) rs ↔ GivenZ v rs
given_means v [] f g = ((λ x. x), (λ x. x))
given_means v (r ∷ rs) f g =
    let one = either_way r.start r.stop v g.0 g.1.0 f in
    let on = given_means v rs f g.1.1 in (
      (λ x. ⊎_elim (λ y. inl (one.0 y)) (λ y. inr (on.0 y)) x),
      (λ x. ⊎_elim (λ y. inl (one.1 y)) (λ y. inr (on.1 y)) x),
    )

pub fit_eof : (b : Bool) (l : List Range) → Fit l → Fit (eof b ++ l)
fit_eof true l h = (record { sfits = omega arith }, (record { sfits = omega arith }, h))
fit_eof false l h = h

none_only : (v : ℤ) → SFits w32 v → key v ≡ key none → v ≡ none
none_only v f e = key_one v none f (record { sfits = omega arith }) e

-- a set's members: −1 if it is flagged, and those of its intervals
pub set_means : (b : Bool) (l : List Range) (v : ℤ) → Fit l → SFits w32 v → InZ v (keep (eof b ++ l)) ↔ (((b ≡ true) × (v ≡ none)) ⊎ GivenZ v l)
set_means b l v f g = (
  (λ x. of-given b ((keep_members (eof b ++ l) (key v)).0 ((in_means v (keep (eof b ++ l)) g (keep_fit (eof b ++ l) (fit_eof b l f))).1 x))),
  (λ x. (in_means v (keep (eof b ++ l)) g (keep_fit (eof b ++ l) (fit_eof b l f))).0 ((keep_members (eof b ++ l) (key v)).1 (to_given b x))),
)
  where
    of-given : (b : Bool) → Given (key v) (eof b ++ l) → ((b ≡ true) × (v ≡ none)) ⊎ GivenZ v l
    of-given true (inl w) = inl (refl, none_only v g (omega arith))
    of-given true (inr w) = inr ((given_means v l g f).0 w)
    of-given false w = inr ((given_means v l g f).0 w)

    to_given : (b : Bool) → ((b ≡ true) × (v ≡ none)) ⊎ GivenZ v l → Given (key v) (eof b ++ l)
    to_given true (inl x) = let e : key v ≡ key none = ap key x.1 in inl (omega arith)
    to_given true (inr x) = inr ((given_means v l g f).1 x)
    to_given false (inl x) = absurd (let z : ◌≡◌ {A = ℕ} 0 1 = cc in omega arith)
    to_given false (inr x) = (given_means v l g f).1 x

-- the lookup of a canonical list is membership
pub lookup_means : (l : List Range) (v : ℤ) → Canonical l → Fit l → SFits w32 v → holds l v ≡ true ↔ InZ v l
lookup_means l v c f g = ((λ e. (in_means v l g f).0 ((lookup_in l v c).0 e)), (λ x. (lookup_in l v c).1 ((in_means v l g f).1 x)))

-- every key below 2^32 is a number's
record Of (k : ℕ) : Type 0 where
  number : ℤ
  is : key number ≡ k
  fits : SFits w32 number

of : (k : ℕ) → k < 4294967296 → Of k
of k h = ⊎_elim (λ x. record { number = pos (k - 2147483648); is = omega arith; fits = record { sfits = omega arith } }) (λ x. record { number = negsuc (2147483647 - k); is = omega arith; fits = record { sfits = omega arith } }) (order 2147483648 k)

key_below : (z : ℤ) → SFits w32 z → key z < 4294967296
key_below (pos n) f = omega (arith, f.sfits)
key_below (negsuc n) f = omega arith

in_below : (k : ℕ) (l : List Range) → Fit l → In k l → k < 4294967296
in_below k [] f x = absurd x
in_below k (r ∷ l) f (inl x) = omega (arith, key_below r.stop f.1.0)
in_below k (r ∷ l) f (inr x) = in_below k l f.1.1 x

-- canonical lists with the same 32-bit members are one list
pub unique_means : (l m : List Range) → Fit l → Fit m → Canonical l → Canonical m → ((v : ℤ) → SFits w32 v → InZ v l ↔ InZ v m) → l ≡ m
unique_means l m f g c d h = unique 0 0 l m f g c d (λ k x. go l m f g (λ v s. (h v s).0) k x) (λ k x. go m l g f (λ v s. (h v s).1) k x)
  where
    go : (l m : List Range) → Fit l → Fit m → ((v : ℤ) → SFits w32 v → InZ v l → InZ v m) → (k : ℕ) → In k l → In k m
    go l m f g h k x =
        let o = of k (in_below k l f x) in
        subst (λ (j : ℕ). In j m) o.is ((in_means o.number m o.fits g).1 (h o.number o.fits ((in_means o.number l o.fits f).0 (subst (λ (j : ℕ). In j l) (sym o.is) x))))
