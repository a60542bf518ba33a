-- What `join_all` makes of intervals: the same members; and, where the starts rose, what the set keeps.
use mathlib.Core.Path.{◌≡◌, refl}
use mathlib.Core.Bool.{Bool, true, false}
use mathlib.Core.List.{List, [], ◌∷◌}
use mathlib.Core.Logic.{◌⊎◌, ⊎_map, ◌↔◌}
use Prim.Native.Nat.{ℕ, suc, ◌+◌, ◌≤◌, ◌<◌, min, max}
use native.Mathlib.Omega.{arith}
use lib.Dec.{leb, ltb}
use lib.ListN.{length}
use mir.Syntax.{w32}
use mir.Val.{SFits}
use borrow.Author.Tests.{leb-true, leb-false, le-leb, ltb-true, ltb-false}
use Rattle.format.specs.Reading.{pick}
use Rattle.format.specs.Sets.{Range, key, keep}
use Rattle.laws.specs.Canonical.{From, Canonical, Within, In, Fit, Given}
use Rattle.laws.specs.Kept.{key-lower, key-upper, two_in, or_split, fit_lower, fit_upper, keep-only}
use Rattle.laws.specs.Gives.{Every}
use Rattle.ranges.specs.Joining.{straight, meets, both, join_on, join_all, rises_on, rises_all}

-- ---- one range

-- of 32-bit numbers, and its ends in order
pub record Good (r : Range) : Type 0 where
  pub start : SFits w32 r.start
  pub stop : SFits w32 r.stop
  pub formed : key r.start ≤ key r.stop

formed_straight : (r : Range) → key (straight r).start ≤ key (straight r).stop
formed_straight r = omega (arith, key-lower r.start r.stop, key-upper r.start r.stop)

good_straight : (r : Range) → SFits w32 r.start → SFits w32 r.stop → Good (straight r)
good_straight r f g = record { start = fit_lower r.start r.stop f g; stop = fit_upper r.start r.stop f g; formed = formed_straight r }

module _ (p q : Range) where
  both_keys : (key (both p q).start ≡ min (key p.start) (key q.start)) × (key (both p q).stop ≡ max (key p.stop) (key q.stop))
  both_keys = (key-lower p.start q.start, key-upper p.stop q.stop)

  good_both : Good p → Good q → Good (both p q)
  good_both f g =
      record {
        start = fit_lower p.start q.start f.start g.start;
        stop = fit_upper p.stop q.stop f.stop g.stop;
        formed = omega (arith, both_keys, f.formed, g.formed);
      }

  -- the three ways in which two ranges lie
  data Way : Bool → Type 0 where
    joined : key q.start ≤ key p.stop + 1 → key p.start ≤ key q.stop + 1 → Way true
    behind : key p.stop + 1 < key q.start → Way false
    before : key q.stop + 1 < key p.start → Way false

  way : Way (meets p q)
  way = go (ltb (key p.stop + 1) (key q.start)) refl (ltb (key q.stop + 1) (key p.start)) refl
    where
      go : (t : Bool) → ltb (key p.stop + 1) (key q.start) ≡ t → (u : Bool) → ltb (key q.stop + 1) (key p.start) ≡ u → Way (pick t false (pick u false true))
      go true e u f = behind (ltb-true (key p.stop + 1) (key q.start) e)
      go false e true f = before (ltb-true (key q.stop + 1) (key p.start) f)
      go false e false f = joined (ltb-false (key p.stop + 1) (key q.start) e) (ltb-false (key q.stop + 1) (key p.start) f)

-- ---- what is left of them

-- its members are theirs
on_in : (l : List Range) (p : Range) (k : ℕ) → key p.start ≤ key p.stop → In k (join_on p l) ↔ (Within k p.start p.stop ⊎ Given k l)
unfolding join_on
on_in [] p k h = ((λ w. w), (λ w. w))
on_in (r ∷ l) p k h = go (λ x. on_in l x k) (meets p q) (way p q)
  where
    q : Range
    q = straight r

    go : ((x : Range) → key x.start ≤ key x.stop → In k (join_on x l) ↔ (Within k x.start x.stop ⊎ Given k l))
        → (t : Bool) → Way p q t → In k (pick t (join_on (both p q) l) (p ∷ join_on q l)) ↔ (Within k p.start p.stop ⊎ Given k (r ∷ l))
    go ih true (joined m n) =
        let i = ih (both p q) (omega (arith, both_keys p q, h, formed_straight r)) in
        let o = or_split (two_in k p.start p.stop q.start q.stop h (formed_straight r) m n) in
        ((λ w. o.0 (i.0 w)), (λ w. i.1 (o.1 w)))
    go ih false w = let i = ih q (formed_straight r) in (⊎_map (λ x. x) i.0, ⊎_map (λ x. x) i.1)

pub all_in : (l : List Range) (k : ℕ) → In k (join_all l) ↔ Given k l
all_in [] k = ((λ w. w), (λ w. w))
all_in (r ∷ l) k = on_in l (straight r) k (formed_straight r)

-- all of it is good
on_good : (l : List Range) (p : Range) → Fit l → Good p → Every Good (join_on p l)
unfolding join_on
on_good [] p f g = (g, tt)
on_good (r ∷ l) p f g = go (on_good l) (meets p q)
  where
    q : Range
    q = straight r

    good_q : Good q
    good_q = good_straight r f.0 f.1.0

    go : ((x : Range) → Fit l → Good x → Every Good (join_on x l)) → (t : Bool) → Every Good (pick t (join_on (both p q) l) (p ∷ join_on q l))
    go ih true = ih (both p q) f.1.1 (good_both p q g good_q)
    go ih false = (g, ih q f.1.1 good_q)

pub all_good : (l : List Range) → Fit l → Every Good (join_all l)
all_good [] f = tt
all_good (r ∷ l) f = on_good l (straight r) f.1.1 (good_straight r f.0 f.1.0)

-- where the starts rose it is canonical
on_from : (l : List Range) (p : Range) (b : ℕ) → rises_on p l ≡ true → b ≤ key p.start → key p.start ≤ key p.stop → From b (join_on p l)
unfolding join_on rises_on
on_from [] p b t h k = (h, (k, tt))
on_from (r ∷ l) p b t h k = go (on_from l) (leb (key p.start) (key q.start)) refl (meets p q) (way p q) t
  where
    q : Range
    q = straight r

    go : ((x : Range) (b : ℕ) → rises_on x l ≡ true → b ≤ key x.start → key x.start ≤ key x.stop → From b (join_on x l))
        → (u : Bool) → leb (key p.start) (key q.start) ≡ u → (m : Bool) → Way p q m → pick u (pick m (rises_on (both p q) l) (rises_on q l)) false ≡ true
        → From b (pick m (join_on (both p q) l) (p ∷ join_on q l))
    go ih true e true w s =
        let f = leb-true (key p.start) (key q.start) e in
        ih (both p q) b s (omega (arith, both_keys p q)) (omega (arith, both_keys p q))
    go ih true e false w s = (h, (k, ih q (key p.stop + 2) s (gap w) (formed_straight r)))
      where
        gap : Way p q false → key p.stop + 2 ≤ key q.start
        gap (behind d) = omega arith
        gap (before d) = absurd (omega (arith, leb-true (key p.start) (key q.start) e, formed_straight r))
    go ih false e m w s = absurd (let z : ◌≡◌ {A = ℕ} 0 1 = cc in omega arith)

all_from : (l : List Range) → rises_all l ≡ true → Canonical (join_all l)
all_from [] t = tt
all_from (r ∷ l) t = on_from l (straight r) 0 t (omega arith) (formed_straight r)

-- it is no more than they were
on_short : (l : List Range) (p : Range) → length (join_on p l) ≤ length l + 1
unfolding join_on
on_short [] p = omega arith
on_short (r ∷ l) p = go (on_short l) (meets p (straight r))
  where
    go : ((x : Range) → length (join_on x l) ≤ length l + 1) → (t : Bool) → length (pick t (join_on (both p (straight r)) l) (p ∷ join_on (straight r) l)) ≤ suc (length l) + 1
    go ih true = omega (arith, ih (both p (straight r)))
    go ih false = omega (arith, ih (straight r))

pub all_short : (l : List Range) → length (join_all l) ≤ length l
all_short [] = omega arith
all_short (r ∷ l) = omega (arith, on_short l (straight r))

-- ---- what the set keeps

fit_good : (l : List Range) → Every Good l → Fit l
fit_good [] g = tt
fit_good (r ∷ l) g = (g.0.start, (g.0.stop, fit_good l g.1))

-- the starts rose
pub kept_rising : (rs : List Range) → Fit rs → rises_all rs ≡ true → join_all rs ≡ keep rs
kept_rising rs f t = keep-only rs (join_all rs) f (fit_good (join_all rs) (all_good rs f)) (all_from rs t) (all_in rs)

-- No start is below b or below the one before it.
abbrev pub Ascending : ℕ → List Range → Type 0
Ascending b [] = Unit {0}
Ascending b (r ∷ l) = (b ≤ key r.start) × Ascending (key r.start) l

ascending_less : {b c : ℕ} (l : List Range) → b ≤ c → Ascending c l → Ascending b l
ascending_less [] h f = tt
ascending_less (r ∷ l) h f = (omega arith, f.1)

-- good ranges in order rise
on_rises : (l : List Range) (p : Range) → Every Good l → Ascending (key p.start) l → rises_on p l ≡ true
unfolding rises_on
on_rises [] p g a = refl
on_rises (r ∷ l) p g a = go (on_rises l) (leb (key p.start) (key q.start)) refl (meets p q)
  where
    q : Range
    q = straight r

    on : Ascending (key q.start) l
    on = ascending_less l (omega (arith, key-lower r.start r.stop)) a.1

    go : ((x : Range) → Every Good l → Ascending (key x.start) l → rises_on x l ≡ true)
        → (u : Bool) → leb (key p.start) (key q.start) ≡ u → (m : Bool) → pick u (pick m (rises_on (both p q) l) (rises_on q l)) false ≡ true
    go ih true e true = ih (both p q) g.1 (ascending_less l (omega (arith, both_keys p q)) on)
    go ih true e false = ih q g.1 on
    go ih false e m = absurd (omega (arith, leb-false (key p.start) (key q.start) e, key-lower r.start r.stop, g.0.formed, a.0))

all_rises : (l : List Range) → Every Good l → Ascending 0 l → rises_all l ≡ true
all_rises [] g a = refl
all_rises (r ∷ l) g a = on_rises l (straight r) g.1 (ascending_less l (omega (arith, key-lower r.start r.stop)) a.1)

-- of good ranges the members are those given
given_in : (l : List Range) (k : ℕ) → Every Good l → Given k l ↔ In k l
given_in [] k g = ((λ w. w), (λ w. w))
given_in (r ∷ l) k g =
    let i = given_in l k g.1 in
    rw (le-leb (key r.start) (key r.stop) g.0.formed) (⊎_map (λ x. x) i.0, ⊎_map (λ x. x) i.1)

-- what was left of them was put in order, and joined again
pub kept_sorted : (rs l : List Range) → Fit rs → Every Good l → Ascending 0 l → ((k : ℕ) → In k l ↔ In k (join_all rs)) → join_all l ≡ keep rs
kept_sorted rs l f g a same =
    let fits = fit_good l g in
    keep-only rs (join_all l) f (fit_good (join_all l) (all_good l fits)) (all_from l (all_rises l g a))
    (λ k. ((λ w. (all_in rs k).0 ((same k).0 ((given_in l k g).0 ((all_in l k).0 w)))), (λ w. (all_in l k).1 ((given_in l k g).1 ((same k).1 ((all_in rs k).1 w))))))
