-- What the definitions of sets amount to.
use Rattle.std.specs.Prelude.{◌≡◌, refl, Bool, true, false, List, [], ◌∷◌, ◌⊎◌, ◌↔◌, ℕ, ◌+◌, ◌≤◌, ◌<◌, min, max, ltb, leb, ℤ}
use Rattle.std.proofs.Common.{sym, inl, inr, ⊎_elim, arith, SFits, ltb-true, ltb-false, leb-true, leb-false}
use Rattle.std.specs.Int.{w32}
use Rattle.format.specs.Sets.{key}
use Rattle.format.specs.Reading.{pick}
use Rattle.laws.specs.Order.{order, key_one}
use Rattle.format.specs.Sets.{Range, range, lower, upper, add}
use Rattle.format.specs.Sets.{add_any, keep_onto, keep}
use Rattle.laws.specs.Canonical.{Given, From, Canonical, Within, In, Fit}

pub key-lower : (a b : ℤ) → key (lower a b) ≡ min (key a) (key b)
key-lower a b = go (leb (key a) (key b)) refl
  where
    go : (t : Bool) → leb (key a) (key b) ≡ t → key (pick t a b) ≡ min (key a) (key b)
    go true e = omega (arith, leb-true (key a) (key b) e)
    go false e = omega (arith, leb-false (key a) (key b) e)

pub key-upper : (a b : ℤ) → key (upper a b) ≡ max (key a) (key b)
key-upper a b = go (leb (key a) (key b)) refl
  where
    go : (t : Bool) → leb (key a) (key b) ≡ t → key (pick t b a) ≡ max (key a) (key b)
    go true e = omega (arith, leb-true (key a) (key b) e)
    go false e = omega (arith, leb-false (key a) (key b) e)

pub from_less : {b c : ℕ} (l : List Range) → b ≤ c → From c l → From b l
from_less [] h f = tt
from_less (r ∷ l) h f = (omega arith, f.1)

-- the three ways of `add`, one at a time
pub data Way (s e : ℤ) (r : Range) (l : List Range) : List Range → Type 0 where
  before : key r.stop + 1 < key s → Way s e r l (r ∷ add s e l)
  behind : key s ≤ key r.stop + 1 → key e + 1 < key r.start → Way s e r l (range s e ∷ add r.start r.stop l)
  joined : key s ≤ key r.stop + 1 → key r.start ≤ key e + 1 → Way s e r l (add (lower s r.start) (upper e r.stop) l)

pub way : (s e : ℤ) (r : Range) (l : List Range) → Way s e r l (add s e (r ∷ l))
unfolding add
way s e r l = go (ltb (key r.stop + 1) (key s)) refl
  where
    go2 : key s ≤ key r.stop + 1 → (t : Bool) → ltb (key e + 1) (key r.start) ≡ t → Way s e r l (pick t (range s e ∷ add r.start r.stop l) (add (lower s r.start) (upper e r.stop) l))
    go2 h true q = behind h (ltb-true (key e + 1) (key r.start) q)
    go2 h false q = joined h (ltb-false (key e + 1) (key r.start) q)

    go : (t : Bool) → ltb (key r.stop + 1) (key s) ≡ t → Way s e r l (pick t (r ∷ add s e l) (pick (ltb (key e + 1) (key r.start)) (range s e ∷ add r.start r.stop l) (add (lower s r.start) (upper e r.stop) l)))
    go true q = before (ltb-true (key r.stop + 1) (key s) q)
    go false q = go2 (ltb-false (key r.stop + 1) (key s) q) (ltb (key e + 1) (key r.start)) refl

-- added to a canonical list, a range leaves it canonical
abbrev pub AddFrom : List Range → Type 0
AddFrom l = (b : ℕ) (s e : ℤ) → From b l → b ≤ key s → key s ≤ key e → From b (add s e l)

from_way : {s e : ℤ} {r : Range} {l out : List Range} (b : ℕ) → Way s e r l out → AddFrom l → From b (r ∷ l) → b ≤ key s → key s ≤ key e → From b out
from_way {s} {e} {r} {l} b (before p) ih f h k = (f.0, (f.1.0, ih (key r.stop + 2) s e f.1.1 (omega arith) k))
from_way {s} {e} {r} {l} b (behind p q) ih f h k =
    (h, (k, ih (key e + 2) r.start r.stop (from_less l (omega arith) f.1.1) (omega arith) f.1.0))
from_way {s} {e} {r} {l} b (joined p q) ih f h k =
    ih b (lower s r.start) (upper e r.stop) (from_less l (omega arith) f.1.1)
    (omega (arith, key-lower s r.start, f)) (omega (arith, key-lower s r.start, key-upper e r.stop))

pub add_from : (l : List Range) → AddFrom l
unfolding add
add_from [] b s e f h k = (h, (k, tt))
add_from (r ∷ l) b s e f h k = from_way b (way s e r l) (add_from l) f h k

-- two ranges that meet or touch have, as one, the members of both
pub two_in : (k : ℕ) (s e a b : ℤ) → key s ≤ key e → key a ≤ key b → key a ≤ key e + 1 → key s ≤ key b + 1 → Within k (lower s a) (upper e b) ↔ (Within k s e ⊎ Within k a b)
two_in k s e a b h i m n = (to, fro)
  where
    to : Within k (lower s a) (upper e b) → Within k s e ⊎ Within k a b
    to w = ⊎_elim (λ x. ⊎_elim (λ y. inl (x, y)) (λ y. inr (omega (arith, key-upper e b))) (order k (key e))) (λ x. inr (omega (arith, key-lower s a))) (order (key s) k)

    fro : Within k s e ⊎ Within k a b → Within k (lower s a) (upper e b)
    fro (inl w) = omega (arith, key-lower s a, key-upper e b)
    fro (inr w) = omega (arith, key-lower s a, key-upper e b)

-- one of two that come to a third, or a fourth
pub or_split : {A B C D : Type 0} → D ↔ (A ⊎ B) → (D ⊎ C) ↔ (A ⊎ (B ⊎ C))
or_split {A} {B} {C} {D} e = (to, fro)
  where
    to : D ⊎ C → A ⊎ (B ⊎ C)
    to (inl x) = ⊎_elim (λ y. inl y) (λ y. inr (inl y)) (e.0 x)
    to (inr x) = inr (inr x)

    fro : A ⊎ (B ⊎ C) → D ⊎ C
    fro (inl x) = inl (e.1 (inl x))
    fro (inr (inl x)) = inl (e.1 (inr x))
    fro (inr (inr x)) = inr x

-- its members are those that were there and those of the range
abbrev pub AddIn : List Range → Type 0
AddIn l = (b : ℕ) (s e : ℤ) (k : ℕ) → From b l → key s ≤ key e → In k (add s e l) ↔ (Within k s e ⊎ In k l)

in_way : {s e : ℤ} {r : Range} {l out : List Range} (b k : ℕ) → Way s e r l out → AddIn l → From b (r ∷ l) → key s ≤ key e → In k out ↔ (Within k s e ⊎ In k (r ∷ l))
in_way {s} {e} {r} {l} b k (before p) ih f h = (to, fro)
  where
    i : In k (add s e l) ↔ (Within k s e ⊎ In k l)
    i = ih (key r.stop + 2) s e k f.1.1 h

    to : In k (r ∷ add s e l) → Within k s e ⊎ In k (r ∷ l)
    to (inl w) = inr (inl w)
    to (inr w) = ⊎_elim (λ x. inl x) (λ x. inr (inr x)) (i.0 w)

    fro : Within k s e ⊎ In k (r ∷ l) → In k (r ∷ add s e l)
    fro (inl w) = inr (i.1 (inl w))
    fro (inr (inl w)) = inl w
    fro (inr (inr w)) = inr (i.1 (inr w))
in_way {s} {e} {r} {l} b k (behind p q) ih f h = (to, fro)
  where
    i : In k (add r.start r.stop l) ↔ In k (r ∷ l)
    i = ih (key r.stop + 2) r.start r.stop k f.1.1 f.1.0

    to : In k (range s e ∷ add r.start r.stop l) → Within k s e ⊎ In k (r ∷ l)
    to (inl w) = inl w
    to (inr w) = inr (i.0 w)

    fro : Within k s e ⊎ In k (r ∷ l) → In k (range s e ∷ add r.start r.stop l)
    fro (inl w) = inl w
    fro (inr w) = inr (i.1 w)
in_way {s} {e} {r} {l} b k (joined p q) ih f h =
    let i = ih (key r.stop + 2) (lower s r.start) (upper e r.stop) k f.1.1 (omega (arith, key-lower s r.start, key-upper e r.stop)) in
    let o = or_split (two_in k s e r.start r.stop h f.1.0 q p) in
    ((λ w. o.0 (i.0 w)), (λ w. i.1 (o.1 w)))

pub add_in : (l : List Range) → AddIn l
unfolding add
add_in [] b s e k f h = (λ w. w, λ w. w)
add_in (r ∷ l) b s e k f h = in_way b k (way s e r l) (add_in l) f h

-- the members of a canonical list from b on are at least b
in_from : (b k : ℕ) (l : List Range) → From b l → In k l → b ≤ k
in_from b k [] f w = absurd w
in_from b k (r ∷ l) f (inl w) = omega arith
in_from b k (r ∷ l) f (inr w) = omega (arith, in_from (key r.stop + 2) k l f.1.1 w)

abbrev pub Same : List Range → List Range → Type 0
Same l m = (k : ℕ) → In k l → In k m

-- a member of a canonical list's first range or behind it
first_start : (b c : ℕ) (r q : Range) (l m : List Range) → From b (r ∷ l) → From c (q ∷ m) → Same (r ∷ l) (q ∷ m) → key q.start ≤ key r.start
first_start b c r q l m f g h = go (h (key r.start) (inl (omega arith)))
  where
    go : In (key r.start) (q ∷ m) → key q.start ≤ key r.start
    go (inl w) = w.0
    go (inr w) = omega (arith, in_from (key q.stop + 2) (key r.start) m g.1.1 w)

first_stop : (b c : ℕ) (r q : Range) (l m : List Range) → From b (r ∷ l) → From c (q ∷ m) → Same (r ∷ l) (q ∷ m) → key q.start ≡ key r.start → key r.stop ≤ key q.stop
first_stop b c r q l m f g h e = ⊎_elim (λ x. x) (λ x. go x (h (key q.stop + 1) (inl (omega arith)))) (order (key r.stop) (key q.stop))
  where
    go : key q.stop < key r.stop → In (key q.stop + 1) (q ∷ m) → key r.stop ≤ key q.stop
    go x (inl w) = omega arith
    go x (inr w) = omega (arith, in_from (key q.stop + 2) (key q.stop + 1) m g.1.1 w)

same_rest : (b c : ℕ) (r q : Range) (l m : List Range) → From b (r ∷ l) → From c (q ∷ m) → Same (r ∷ l) (q ∷ m) → key q.stop ≡ key r.stop → Same l m
same_rest b c r q l m f g h e k w = go (h k (inr w))
  where
    go : In k (q ∷ m) → In k m
    go (inl x) = absurd (omega (arith, in_from (key r.stop + 2) k l f.1.1 w))
    go (inr x) = x

-- two canonical lists with the same members are one list
pub unique : (b c : ℕ) (l m : List Range) → Fit l → Fit m → From b l → From c m → Same l m → Same m l → l ≡ m
unique b c [] [] fl fm f g h j = refl
unique b c [] (q ∷ m) fl fm f g h j = absurd (j (key q.start) (inl (omega arith)))
unique b c (r ∷ l) [] fl fm f g h j = absurd (h (key r.start) (inl (omega arith)))
unique b c (r ∷ l) (q ∷ m) fl fm f g h j =
    let es : key q.start ≡ key r.start = omega (arith, first_start b c r q l m f g h, first_start c b q r m l g f j) in
    let ee : key q.stop ≡ key r.stop = omega (arith, first_stop b c r q l m f g h es, first_stop c b q r m l g f j (sym es)) in
    let ps : r.start ≡ q.start = key_one r.start q.start fl.0 fm.0 (sym es) in
    let pe : r.stop ≡ q.stop = key_one r.stop q.stop fl.1.0 fm.1.0 (sym ee) in
    let rest : l ≡ m = unique (key r.stop + 2) (key q.stop + 2) l m fl.1.1 fm.1.1 f.1.1 g.1.1 (same_rest b c r q l m f g h ee) (same_rest c b q r m l g f j (sym ee)) in
    λ i. record { start = ps i; stop = pe i } ∷ rest i

-- ---- what a set keeps of the intervals that it is given; and no second result

in_order : (r : Range) → key (lower r.start r.stop) ≤ key (upper r.start r.stop)
in_order r = omega (arith, key-lower r.start r.stop, key-upper r.start r.stop)

onto_from : (rs l : List Range) → Canonical l → Canonical (keep_onto l rs)
unfolding keep_onto
onto_from [] l c = c
onto_from (r ∷ rs) l c = onto_from rs (add_any r l) (add_from l 0 (lower r.start r.stop) (upper r.start r.stop) c (omega arith) (in_order r))

onto_in : (rs l : List Range) (k : ℕ) → Canonical l → In k (keep_onto l rs) ↔ (In k l ⊎ Given k rs)
unfolding keep_onto
onto_in [] l k c = ((λ x. inl x), (λ x. ⊎_elim (λ y. y) (λ y. absurd y) x))
onto_in (r ∷ rs) l k c = both_ways (onto_in rs (add_any r l) k (add_from l 0 (lower r.start r.stop) (upper r.start r.stop) c (omega arith) (in_order r)))
  where
    one : In k (add_any r l) ↔ (Within k (lower r.start r.stop) (upper r.start r.stop) ⊎ In k l)
    one = add_in l 0 (lower r.start r.stop) (upper r.start r.stop) k c (in_order r)

    both_ways : In k (keep_onto (add_any r l) rs) ↔ (In k (add_any r l) ⊎ Given k rs) → In k (keep_onto (add_any r l) rs) ↔ (In k l ⊎ Given k (r ∷ rs))
    both_ways rest = (to, fro)
      where
        to : In k (keep_onto (add_any r l) rs) → In k l ⊎ Given k (r ∷ rs)
        to x = ⊎_elim (λ y. ⊎_elim (λ z. inr (inl z)) (λ z. inl z) (one.0 y)) (λ y. inr (inr y)) (rest.0 x)

        fro : In k l ⊎ Given k (r ∷ rs) → In k (keep_onto (add_any r l) rs)
        fro (inl y) = rest.1 (inl (one.1 (inr y)))
        fro (inr (inl y)) = rest.1 (inl (one.1 (inl y)))
        fro (inr (inr y)) = rest.1 (inr y)

pub keep_canonical : (rs : List Range) → Canonical (keep rs)
keep_canonical rs = onto_from rs [] tt

pub keep_members : (rs : List Range) (k : ℕ) → In k (keep rs) ↔ Given k rs
keep_members rs k = ((λ x. ⊎_elim (λ y. absurd y) (λ y. y) ((onto_in rs [] k tt).0 x)), (λ x. (onto_in rs [] k tt).1 (inr x)))

-- ---- everything keeps to 32 bits

pub fit_lower : (a b : ℤ) → SFits w32 a → SFits w32 b → SFits w32 (lower a b)
fit_lower a b f g = go (leb (key a) (key b))
  where
    go : (t : Bool) → SFits w32 (pick t a b)
    go true = f
    go false = g

pub fit_upper : (a b : ℤ) → SFits w32 a → SFits w32 b → SFits w32 (upper a b)
fit_upper a b f g = go (leb (key a) (key b))
  where
    go : (t : Bool) → SFits w32 (pick t b a)
    go true = g
    go false = f

fit_way : {s e : ℤ} {r : Range} {l out : List Range} → Way s e r l out → ((s e : ℤ) → SFits w32 s → SFits w32 e → Fit (add s e l)) → SFits w32 s → SFits w32 e → Fit (r ∷ l) → Fit out
fit_way {s} {e} {r} {l} (before p) ih fs fe f = (f.0, (f.1.0, ih s e fs fe))
fit_way {s} {e} {r} {l} (behind p q) ih fs fe f = (fs, (fe, ih r.start r.stop f.0 f.1.0))
fit_way {s} {e} {r} {l} (joined p q) ih fs fe f = ih (lower s r.start) (upper e r.stop) (fit_lower s r.start fs f.0) (fit_upper e r.stop fe f.1.0)

pub add_fit : (l : List Range) → Fit l → (s e : ℤ) → SFits w32 s → SFits w32 e → Fit (add s e l)
unfolding add
add_fit [] f s e fs fe = (fs, (fe, tt))
add_fit (r ∷ l) f s e fs fe = fit_way (way s e r l) (add_fit l f.1.1) fs fe f

onto_fit : (rs l : List Range) → Fit l → Fit rs → Fit (keep_onto l rs)
unfolding keep_onto
onto_fit [] l f g = f
onto_fit (r ∷ rs) l f g = onto_fit rs (add_any r l) (add_fit l f (lower r.start r.stop) (upper r.start r.stop) (fit_lower r.start r.stop g.0 g.1.0) (fit_upper r.start r.stop g.0 g.1.0)) g.1.1

-- whatever yields a canonical list with the members of the intervals given yields `keep` of them
pub keep-only : (rs m : List Range) → Fit rs → Fit m → Canonical m → ((k : ℕ) → In k m ↔ Given k rs) → m ≡ keep rs
keep-only rs m f g c h =
    unique 0 0 m (keep rs) g (onto_fit rs [] tt f) c (keep_canonical rs) (λ k x. (keep_members rs k).1 ((h k).0 x)) (λ k x. (h k).1 ((keep_members rs k).0 x))

pub keep_fit : (rs : List Range) → Fit rs → Fit (keep rs)
keep_fit rs f = onto_fit rs [] tt f
