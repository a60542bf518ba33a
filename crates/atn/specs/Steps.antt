-- The steps of the search, on the words of the scratch: the top is settled, its next edge is passed, or a white state is met.
use Rattle.std.proofs.Math.Path.{◌≡◌, refl}
use Rattle.std.proofs.Common.{sym, ap, ◌∙◌, subst, inl, inr, ⊎_elim, length-set, get_or-set_same, get_or-set_other}
use Rattle.std.specs.Prelude.{Bool, List, [], ◌∷◌, ◌⊎◌, ℕ, zero, suc, ◌+◌, ◌-◌, ◌*◌, ◌≤◌, ◌<◌, ℤ, pos, length, get_or, set, drop}
use Rattle.std.proofs.Math.Bool.{true, false}
use native.Mathlib.Omega.{arith}
use Rattle.std.proofs.Math.Dec.{eqb}
use borrow.Author.Tests.{eqb-true, eqb-false}
use Rattle.format.specs.Sections.{State, Edge}
use Rattle.format.specs.Reading.{pick}
use Rattle.format.specs.Links.{first, chain, state_at, stops, target_of}
use Rattle.laws.specs.Chains.{Mem}
use Rattle.tables.specs.Words.{number_of, number_at, number_same, number_other}
use Rattle.atn.specs.Own.{rule_at, stop_at, degree, Leads, Way, stop_own, own-way}
use Rattle.atn.specs.Search.{colour, left, below, passed, pushed, first_colour, Means, Grey, Above, Fresh, Stacked, Runs, top_of, Running, share, share_of, total, Stepped, stepped_as, Met, opened, top_below}

same? : (t s : ℕ) → (t ≡ s) ⊎ (t ≡ s → ⊥)
same? t s = go (eqb t s) refl
  where
    go : (b : Bool) → eqb t s ≡ b → (t ≡ s) ⊎ (t ≡ s → ⊥)
    go true e = inl (eqb-true t s e)
    go false e = inr (eqb-false t s e)

-- ---- shares

share_done : (c edges left : ℕ) → 2 ≤ c → share c edges left ≡ 0
share_done zero edges left h = absurd (omega arith)
share_done (suc zero) edges left h = absurd (omega arith)
share_done (suc (suc c)) edges left h = refl

total-same : (f g : ℕ → ℕ) (n : ℕ) → ((t : ℕ) → t < n → g t ≡ f t) → total g n ≡ total f n
total-same f g zero h = refl
total-same f g (suc n) h = omega (arith, h n (omega arith), total-same f g n (λ t l. h t (omega arith)))

total_less : (f g : ℕ → ℕ) (n s : ℕ) → s < n → ((t : ℕ) → (t ≡ s → ⊥) → g t ≡ f t) → g s < f s → total g n < total f n
total_less f g zero s h o k = absurd (omega arith)
total_less f g (suc n) s h o k =
    ⊎_elim (λ e. omega (arith, total-same f g n (λ t j. o t (λ q. omega arith)), subst (λ (m : ℕ). g m < f m) (sym e) k))
    (λ e. omega (arith, o n e, total_less f g n s (omega arith) o k)) (same? n s)

-- ---- a change at one state

-- the four words of the state t are the same
pub record SameAt (sc sc' : List ℤ) (t : ℕ) : Type 0 where
  pub colours : get_or sc' (4 * t) (pos 0) ≡ get_or sc (4 * t) (pos 0)
  pub edges : get_or sc' (4 * t + 1) (pos 0) ≡ get_or sc (4 * t + 1) (pos 0)
  pub lefts : get_or sc' (4 * t + 2) (pos 0) ≡ get_or sc (4 * t + 2) (pos 0)
  pub belows : get_or sc' (4 * t + 3) (pos 0) ≡ get_or sc (4 * t + 3) (pos 0)

same_set : (sc : List ℤ) (s i : ℕ) (z : ℤ) → 4 * s ≤ i → i < 4 * s + 4 → (t : ℕ) → (t ≡ s → ⊥) → SameAt sc (set sc i z) t
same_set sc s i z lo hi t n =
    record {
      colours = get_or-set_other sc i (4 * t) z (pos 0) (λ q. n (omega arith));
      edges = get_or-set_other sc i (4 * t + 1) z (pos 0) (λ q. n (omega arith));
      lefts = get_or-set_other sc i (4 * t + 2) z (pos 0) (λ q. n (omega arith));
      belows = get_or-set_other sc i (4 * t + 3) z (pos 0) (λ q. n (omega arith));
    }

same_then : {a b c : List ℤ} {t : ℕ} → SameAt a b t → SameAt b c t → SameAt a c t
same_then x y = record { colours = y.colours ∙ x.colours; edges = y.edges ∙ x.edges; lefts = y.lefts ∙ x.lefts; belows = y.belows ∙ x.belows }

module _ (ss : List State) (k : ℕ) (es : List Edge) where
  means_map : (l l' : List ℕ) (t c : ℕ) → (Mem t l → Mem t l') → Means ss k es l t c → Means ss k es l' t c
  means_map l l' t zero f m = m
  means_map l l' t (suc zero) f m = f m
  means_map l l' t (suc (suc zero)) f m = m
  means_map l l' t (suc (suc (suc zero))) f m = m
  means_map l l' t (suc (suc (suc (suc c)))) f m = m

  -- a state that is not grey is not on the stack
  fresh_of : (sc : List ℤ) (t : ℕ) (l : List ℕ) → Stacked ss k es sc l → (colour sc t ≡ 1 → ⊥) → Fresh t l
  fresh_of sc t [] st n = tt
  fresh_of sc t (s ∷ l) st n = ((λ e. n (ap (colour sc) (sym e) ∙ st.0.grey)), fresh_of sc t l st.1.1.1 n)

  module _ (sc sc' : List ℤ) (s : ℕ) (b : (t : ℕ) → (t ≡ s → ⊥) → SameAt sc sc' t) where
    left-same : (p : ℕ) → (p ≡ s → ⊥) → left sc' p ≡ left sc p
    left-same p n = ap number_of (b p n).lefts

    passed-same : (p : ℕ) → (p ≡ s → ⊥) → passed es sc' p ≡ passed es sc p
    passed-same p n = ap (λ (u : ℕ). degree es p - u) (left-same p n)

    grey_same : (p : ℕ) → (p ≡ s → ⊥) → Grey ss k es sc p → Grey ss k es sc' p
    grey_same p n y =
        let e = passed-same p n in
        record {
          grey = ap number_of (b p n).colours ∙ y.grey;
          way = y.way;
          few = omega (arith, y.few, left-same p n);
          upcoming = (b p n).edges ∙ y.upcoming ∙ ap (λ (u : ℕ). first (drop u (chain es p))) (sym e);
          safe = λ i h. y.safe i (omega arith);
        }

    -- what stands below s is the same, where that is not s
    onto_same : (p t : ℕ) → (p ≡ s → ⊥) → (0 < left sc p) × (target_of es p (passed es sc p) ≡ t) → (0 < left sc' p) × (target_of es p (passed es sc' p) ≡ t)
    onto_same p t n a = (omega (arith, a.0, left-same p n), ap (target_of es p) (passed-same p n) ∙ a.1)

    above_same : (t : ℕ) (l : List ℕ) → Fresh s l → below sc' t ≡ below sc t → Above ss es sc t l → Above ss es sc' t l
    above_same t [] f e a = e ∙ a
    above_same t (p ∷ l) f e a = (e ∙ a.0, onto_same p t f.0 a.1)

    stacked_same : (l : List ℕ) → Fresh s l → Stacked ss k es sc l → Stacked ss k es sc' l
    stacked_same [] f st = tt
    stacked_same (p ∷ l) f st =
        (grey_same p f.0 st.0, (st.1.0, (above_same p l f.1 (ap number_of (b p f.0).belows) st.1.1.0, stacked_same l f.1 st.1.1.1)))

    known_same : (l l' : List ℕ) → ((t : ℕ) → t < length ss → Means ss k es l t (colour sc t)) → ((t : ℕ) → (t ≡ s → ⊥) → Mem t l → Mem t l')
        → Means ss k es l' s (colour sc' s) → (t : ℕ) → t < length ss → Means ss k es l' t (colour sc' t)
    known_same l l' x f m t h =
        ⊎_elim (λ e. subst (λ (u : ℕ). Means ss k es l' u (colour sc' u)) (sym e) m)
        (λ n. subst (λ (c : ℕ). Means ss k es l' t c) (sym (ap number_of (b t n).colours)) (means_map l l' t (colour sc t) (f t n) (x t h))) (same? t s)

    -- a step that changes the state s
    module _ (h : s < length ss) (size : length sc' ≡ length sc) (l l' : List ℕ) (r : Runs ss k es sc l) where
      change : ((t : ℕ) → (t ≡ s → ⊥) → Mem t l → Mem t l') → Means ss k es l' s (colour sc' s) → (colour sc' s ≡ 0 → ⊥) → Stacked ss k es sc' l'
          → (top : ℕ) → top ≡ top_of ss l' → share_of es sc' s < share_of es sc s → Stepped ss k es sc sc' top
      change f m c st top e w =
          record {
            size = size;
            kept = λ t q z y. ⊎_elim (λ u. c (ap (colour sc') (sym u) ∙ y)) (λ u. z (sym (ap number_of (b t u).colours) ∙ y)) (same? t s);
            less = total_less (share_of es sc) (share_of es sc') (length ss) s h (λ t u. λ i. share (number_of ((b t u).colours i)) (degree es t) (number_of ((b t u).lefts i))) w;
            runs = record { stack = l'; tops = e; runs = record { known = known_same l l' r.known f m; stacked = st; long = omega (arith, r.long) } };
          }

  -- ---- the steps

  -- the top gets its last colour, and leaves the stack
  pub settled : {sc : List ℤ} {s : ℕ} → Running ss k es sc s → s < length ss → (v : ℕ) → 2 ≤ v → ((l : List ℕ) → Means ss k es l s v) → Stepped ss k es sc (set sc (4 * s) (pos v)) (below sc s)
  settled {sc} {s} x h v lo m =
      let o = opened ss k es sc x h in
      let l = o.0 in
      let st = o.1.stacked in
      let sc' = set sc (4 * s) (pos v) in
      let b = same_set sc s (4 * s) (pos v) (omega arith) (omega arith) in
      let e : colour sc' s ≡ v = number_same sc (4 * s) (pos v) (omega (arith, o.1.long)) in
      change sc sc' s b h (length-set sc (4 * s) (pos v)) (s ∷ l) l o.1
      (λ t n w. ⊎_elim (λ q. absurd (n q)) (λ q. q) w)
      (subst (λ (c : ℕ). Means ss k es l s c) (sym e) (m l))
      (λ q. omega arith)
      (stacked_same sc sc' s b l st.1.0 st.1.1.1)
      (below sc s) (top_below ss k es sc s l st.1.1.0)
      (omega (arith, share_done (colour sc' s) (degree es s) (left sc' s) (omega arith), ap (λ (c : ℕ). share c (degree es s) (left sc s)) st.0.grey))

  -- the top's next edge is passed: w is the word of the edge behind it
  pub advanced : {sc : List ℤ} {s : ℕ} → Running ss k es sc s → s < length ss → 0 < left sc s → Leads ss k es s (passed es sc s) → (w : ℤ) → w ≡ first (drop (suc (passed es sc s)) (chain es s))
      → Stepped ss k es sc (set (set sc (4 * s + 1) w) (4 * s + 2) (pos (left sc s - 1))) s
  advanced {sc} {s} x h some y w e =
      let o = opened ss k es sc x h in
      let l = o.0 in
      let st = o.1.stacked in
      let g = st.0 in
      let v = pos (left sc s - 1) in
      let mid = set sc (4 * s + 1) w in
      let sc' = set mid (4 * s + 2) v in
      let b : (t : ℕ) → (t ≡ s → ⊥) → SameAt sc sc' t = (λ t n. same_then (same_set sc s (4 * s + 1) w (omega arith) (omega arith) t n) (same_set mid s (4 * s + 2) v (omega arith) (omega arith) t n)) in
      let c : colour sc' s ≡ 1 = number_other mid (4 * s + 2) (4 * s) v (λ q. omega arith) ∙ number_other sc (4 * s + 1) (4 * s) w (λ q. omega arith) ∙ g.grey in
      let d : get_or sc' (4 * s + 1) (pos 0) ≡ w = get_or-set_other mid (4 * s + 2) (4 * s + 1) v (pos 0) (λ q. omega arith) ∙ get_or-set_same sc (4 * s + 1) w (pos 0) (omega (arith, o.1.long)) in
      let n : left sc' s ≡ left sc s - 1 = number_same mid (4 * s + 2) v (omega (arith, o.1.long, length-set sc (4 * s + 1) w)) in
      let u : below sc' s ≡ below sc s = number_other mid (4 * s + 2) (4 * s + 3) v (λ q. omega arith) ∙ number_other sc (4 * s + 1) (4 * s + 3) w (λ q. omega arith) in
      let p : passed es sc' s ≡ suc (passed es sc s) = omega (arith, n, g.few) in
      change sc sc' s b h (length-set mid (4 * s + 2) v ∙ length-set sc (4 * s + 1) w) (s ∷ l) (s ∷ l) o.1
      (λ t q z. z)
      (subst (λ (a : ℕ). Means ss k es (s ∷ l) s a) (sym c) (inl refl))
      (λ q. omega arith) (
        record {
          grey = c;
          way = g.way;
          few = omega (arith, n, g.few);
          upcoming = d ∙ e ∙ ap (λ (a : ℕ). first (drop a (chain es s))) (sym p);
          safe = λ i q. ⊎_elim (λ a. subst (λ (j : ℕ). Leads ss k es s j) (sym a) y) (λ a. g.safe i (omega arith)) (same? i (passed es sc s));
        },
        (st.1.0, (above_same sc sc' s b s l st.1.0 u st.1.1.0, stacked_same sc sc' s b l st.1.0 st.1.1.1)),
      )
      s refl
      (omega (arith, n, ap (λ (a : ℕ). share a (degree es s) (left sc' s)) c, ap (λ (a : ℕ). share a (degree es s) (left sc s)) g.grey))

  -- a white state gets its last colour at once
  coloured : {sc : List ℤ} {top : ℕ} → Running ss k es sc top → (t : ℕ) → t < length ss → colour sc t ≡ 0 → (v : ℕ) → 2 ≤ v → ((l : List ℕ) → Means ss k es l t v) → Stepped ss k es sc (set sc (4 * t) (pos v)) top
  coloured {sc} {top} x t h white v lo m =
      let r = x.runs in
      let l = x.stack in
      let sc' = set sc (4 * t) (pos v) in
      let b = same_set sc t (4 * t) (pos v) (omega arith) (omega arith) in
      let e : colour sc' t ≡ v = number_same sc (4 * t) (pos v) (omega (arith, r.long)) in
      change sc sc' t b h (length-set sc (4 * t) (pos v)) l l r
      (λ u n w. w)
      (subst (λ (c : ℕ). Means ss k es l t c) (sym e) (m l))
      (λ q. omega arith)
      (stacked_same sc sc' t b l (fresh_of sc t l r.stacked (λ q. omega arith)) r.stacked)
      top x.tops
      (omega (arith, share_done (colour sc' t) (degree es t) (left sc' t) (omega arith), ap (λ (a : ℕ). share a (degree es t) (left sc t)) white))

  -- a white state goes on the stack: at its first edge, with all of them left
  goes_on : {sc : List ℤ} {top : ℕ} → Running ss k es sc top → (t : ℕ) → t < length ss → colour sc t ≡ 0 → Way ss k es t
      → (top < length ss → (0 < left sc top) × (target_of es top (passed es sc top) ≡ t))
      → (w z : ℤ) → w ≡ first (chain es t) → z ≡ pos (degree es t) → Stepped ss k es sc (pushed sc t w z top) t
  goes_on {sc} {top} x t h white way link w z ew ez =
      let r = x.runs in
      let l = x.stack in
      let a1 = set sc (4 * t) (pos 1) in
      let a2 = set a1 (4 * t + 1) w in
      let a3 = set a2 (4 * t + 2) z in
      let sc' = set a3 (4 * t + 3) (pos top) in
      let long : 4 * t + 4 ≤ length sc = omega (arith, r.long) in
      let l1 : length a1 ≡ length sc = length-set sc (4 * t) (pos 1) in
      let l2 : length a2 ≡ length a1 = length-set a1 (4 * t + 1) w in
      let l3 : length a3 ≡ length a2 = length-set a2 (4 * t + 2) z in
      let b : (u : ℕ) → (u ≡ t → ⊥) → SameAt sc sc' u =
      (λ u n. same_then (same_then (same_then (same_set sc t (4 * t) (pos 1) (omega arith) (omega arith) u n) (same_set a1 t (4 * t + 1) w (omega arith) (omega arith) u n))
      (same_set a2 t (4 * t + 2) z (omega arith) (omega arith) u n)) (same_set a3 t (4 * t + 3) (pos top) (omega arith) (omega arith) u n)) in
      let c : colour sc' t ≡ 1 =
      number_other a3 (4 * t + 3) (4 * t) (pos top) (λ q. omega arith) ∙ number_other a2 (4 * t + 2) (4 * t) z (λ q. omega arith)
      ∙ number_other a1 (4 * t + 1) (4 * t) w (λ q. omega arith) ∙ number_same sc (4 * t) (pos 1) (omega arith) in
      let d : get_or sc' (4 * t + 1) (pos 0) ≡ w =
      get_or-set_other a3 (4 * t + 3) (4 * t + 1) (pos top) (pos 0) (λ q. omega arith) ∙ get_or-set_other a2 (4 * t + 2) (4 * t + 1) z (pos 0) (λ q. omega arith)
      ∙ get_or-set_same a1 (4 * t + 1) w (pos 0) (omega arith) in
      let n : left sc' t ≡ degree es t =
      number_other a3 (4 * t + 3) (4 * t + 2) (pos top) (λ q. omega arith) ∙ number_same a2 (4 * t + 2) z (omega arith) ∙ ap number_of ez in
      let u : below sc' t ≡ top = number_same a3 (4 * t + 3) (pos top) (omega arith) in
      let p : passed es sc' t ≡ 0 = omega arith in
      let f : Fresh t l = fresh_of sc t l r.stacked (λ q. omega arith) in
      change sc sc' t b h (length-set a3 (4 * t + 3) (pos top) ∙ l3 ∙ l2 ∙ l1) l (t ∷ l) r
      (λ v q m. inr m)
      (subst (λ (a : ℕ). Means ss k es (t ∷ l) t a) (sym c) (inl refl))
      (λ q. omega arith) (
        record {
          grey = c;
          way = way;
          few = omega arith;
          upcoming = d ∙ ew ∙ ap (λ (a : ℕ). first (drop a (chain es t))) (sym p);
          safe = λ i q. absurd (omega arith);
        },
        (f, (onto sc' b l f r.stacked x.tops u, stacked_same sc sc' t b l f r.stacked)),
      )
      t refl
      (omega (arith, ap (λ (a : ℕ). share a (degree es t) (left sc' t)) c, ap (λ (a : ℕ). share a (degree es t) (left sc t)) white))
    where
      onto : (sc' : List ℤ) → ((u : ℕ) → (u ≡ t → ⊥) → SameAt sc sc' u) → (l : List ℕ) → Fresh t l → Stacked ss k es sc l → top ≡ top_of ss l → below sc' t ≡ top → Above ss es sc' t l
      onto sc' b [] f st e u = u ∙ e
      onto sc' b (p ∷ l) f st e u =
          (u ∙ e, onto_same sc sc' t b p t f.0 (subst (λ (q : ℕ). (0 < left sc q) × (target_of es q (passed es sc q) ≡ t)) e (link (omega (arith, st.0.way.listed)))))

  -- ---- a white state is met

  -- What a first colour says: the state goes on the stack, or is settled.
  abbrev Tells : ℕ → ℕ → Type 0
  Tells s zero = Way ss k es s
  Tells s (suc c) = (1 ≤ c) × ((l : List ℕ) → Means ss k es l s (suc c))

  first_tells : (s edges : ℕ) → s < length ss → edges ≡ degree es s → Tells s (first_colour ss k edges s)
  unfolding first_colour
  first_tells s edges h e = go (stops ss k (rule_at ss s)) (eqb (stop_at ss s) s) (eqb (state_at ss s).kind 7) (eqb edges 0) refl refl refl refl
    where
      go : (a b c d : Bool) → stops ss k (rule_at ss s) ≡ a → eqb (stop_at ss s) s ≡ b → eqb (state_at ss s).kind 7 ≡ c → eqb edges 0 ≡ d → Tells s (pick a (pick b 2 (pick c 3 (pick d 3 0))) 3)
      go true true c d p q u v = (omega arith, λ l. stop_own ss k es s h p (sym (eqb-true (stop_at ss s) s q)))
      go true false true d p q u v = (omega arith, λ l o. (own-way ss k es s (λ w. eqb-false (stop_at ss s) s q (sym w)) o).unstopped (eqb-true (state_at ss s).kind 7 u))
      go true false false true p q u v = (omega arith, λ l o. omega (arith, (own-way ss k es s (λ w. eqb-false (stop_at ss s) s q (sym w)) o).some, eqb-true edges 0 v))
      go true false false false p q u v =
          record {
            listed = h;
            ends = p;
            other = λ w. eqb-false (stop_at ss s) s q (sym w);
            unstopped = eqb-false (state_at ss s).kind 7 u;
            some = omega (arith, eqb-false edges 0 v);
          }
      go false b c d p q u v = (omega arith, λ l o. let z : ◌≡◌ {A = ℕ} 0 1 = cc in omega arith)

  pub meets : {st sc sc' : List ℤ} {t top top' : ℕ} → Met ss k st sc sc' t top top' → Running ss k es sc top → t < length ss → colour sc t ≡ 0
      → (top < length ss → (0 < left sc top) × (target_of es top (passed es sc top) ≡ t))
      → get_or st (8 * t + 5) (pos 0) ≡ first (chain es t) → get_or st (8 * t + 7) (pos 0) ≡ pos (degree es t)
      → Stepped ss k es sc sc' top' × (colour sc' t ≡ 0 → ⊥)
  meets {st} {sc} {sc'} {t} {top} {top'} m x h white link ew ez = go (first_colour ss k (number_at st (8 * t + 7)) t) refl (first_tells t (number_at st (8 * t + 7)) h (ap number_of ez))
    where
      go : (c : ℕ) → first_colour ss k (number_at st (8 * t + 7)) t ≡ c → Tells t c → Stepped ss k es sc sc' top' × (colour sc' t ≡ 0 → ⊥)
      go zero e way =
          let y = m.pushes e in
          let z = stepped_as y.0 y.1 (goes_on x t h white way link (get_or st (8 * t + 5) (pos 0)) (get_or st (8 * t + 7) (pos 0)) ew ez) in
          let o = opened ss k es sc' (subst (λ (u : ℕ). Running ss k es sc' u) y.0 z.runs) h in
          (z, λ q. omega (arith, o.1.stacked.0.grey))
      go (suc c) e w =
          let y = m.settles (λ q. omega arith) in
          let q = y.1 ∙ ap (λ (v : ℕ). set sc (4 * t) (pos v)) e in
          (stepped_as y.0 q (coloured x t h white (suc c) (omega (arith, w.0)) w.1), λ p. omega (arith, ap (λ (l : List ℤ). colour l t) q, number_same sc (4 * t) (pos (suc c)) (omega (arith, x.runs.long))))

pub first_small : (ss : List State) (k edges s : ℕ) → first_colour ss k edges s ≤ 3
unfolding first_colour
first_small ss k edges s = go (stops ss k (rule_at ss s)) (eqb (stop_at ss s) s) (eqb (state_at ss s).kind 7) (eqb edges 0)
  where
    go : (a b c d : Bool) → pick a (pick b 2 (pick c 3 (pick d 3 0))) 3 ≤ 3
    go true true c d = omega arith
    go true false true d = omega arith
    go true false false true = omega arith
    go true false false false = omega arith
    go false b c d = omega arith
