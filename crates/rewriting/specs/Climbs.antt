-- Chains, tested without any other room: each state's edges are followed from the first to the last; they go strictly up, are edges of that
-- state, and are as many as are counted; and all states' counts together are all edges. So no edge was missed.
use Rattle.std.specs.Prelude.{◌≡◌, Bool, ◌&&◌, ◌↔◌, ℤ, pos, negsuc, get_or}
use Rattle.std.proofs.Math.Path.{refl, ap, subst}
use Rattle.std.proofs.Common.{sym, ◌∙◌, inl, inr, arith}
use mathlib.Core.List.{List, [], ◌∷◌}
use Rattle.std.proofs.Math.Bool.{true, false, and-false}
use Rattle.std.proofs.Math.Logic.{⊎_elim}
use Prim.Native.Nat.{ℕ, zero, suc, ◌+◌, ◌≤◌, ◌<◌}
use Rattle.std.proofs.Math.Dec.{ltb, leb, eqb}
use Rattle.std.proofs.Math.ListN.{length}
use borrow.Author.Tests.{lt-ltb, le-ltb, le-leb, ltb-true, leb-true, eqb-true, eq-eqb, ne_eqb}
use Rattle.format.specs.Reading.{pick}
use Rattle.format.specs.Sections.{Edge, edge_of, none, same, size, bit}
use Rattle.format.specs.Links.{those, numbers_from, first, last, chain, next}
use Rattle.laws.specs.Chains.{Mem, Up, chain_are, chain-up}
use Rattle.laws.specs.Order.{order}
use Rattle.laws.specs.Own.{same_true}
use Rattle.rewriting.specs.Formed.{natural}
use Rattle.rewriting.specs.Tests.{lie, both, left, right, same_self, natural-size}

abbrev pub sum : ℕ → (ℕ → ℕ) → ℕ
sum zero f = 0
sum (suc n) f = sum n f + f n

abbrev pub edge_at : List Edge → ℕ → Edge
edge_at es i = get_or es i (edge_of 0 0 0 (pos 0) (pos 0) (pos 0))

-- ---- the walk

-- `left` edges of the state s, from the edge e on and none below `low`; the one before them was `before`, the last is `end`.
-- There are m edges; src is an edge's source, nxt its next edge's word.
unfoldable pub climbs : ℕ → (ℕ → ℕ) → (ℕ → ℤ) → ℕ → ℤ → ℕ → ℕ → ℤ → ℤ → Bool
climbs m src nxt s end zero low e before = same e none && same end before
climbs m src nxt s end (suc k) low (pos j) before =
    let on = climbs m src nxt s end k (j + 1) (nxt j) (pos j) in
    leb low j && ltb j m && eqb (src j) s && on
climbs m src nxt s end (suc k) low (negsuc j) before = false

-- The state's words: first edge, last edge, edge count.
abbrev pub climb : ℕ → (ℕ → ℕ) → (ℕ → ℤ) → ℕ → ℤ → ℤ → ℤ → Bool
climb m src nxt s start end count = natural count && climbs m src nxt s end (size count) 0 start none

abbrev pub sources : List Edge → ℕ → ℕ
sources es j = (edge_at es j).source

-- two edge tables that agree below m
module _ (m : ℕ) (src src' : ℕ → ℕ) (nxt nxt' : ℕ → ℤ) (same_source : (j : ℕ) → j < m → src j ≡ src' j) (same_next : (j : ℕ) → j < m → nxt j ≡ nxt' j) (s : ℕ) (end : ℤ) where
  pub climbs-same : (k low : ℕ) (e before : ℤ) → climbs m src nxt s end k low e before ≡ climbs m src' nxt' s end k low e before
  unfolding climbs
  climbs-same zero low e before = refl
  climbs-same (suc k) low (negsuc j) before = refl
  climbs-same (suc k) low (pos j) before = go (ltb j m) refl (climbs-same k (j + 1) (nxt' j) (pos j))
    where
      go : (b : Bool) → ltb j m ≡ b → climbs m src nxt s end k (j + 1) (nxt' j) (pos j) ≡ climbs m src' nxt' s end k (j + 1) (nxt' j) (pos j)
          → (leb low j && b && eqb (src j) s && climbs m src nxt s end k (j + 1) (nxt j) (pos j)) ≡ (leb low j && b && eqb (src' j) s && climbs m src' nxt' s end k (j + 1) (nxt' j) (pos j))
      go false h ih = rw (and-false (leb low j)) refl
      go true h ih =
          let l = ltb-true j m h in
          let on = ap (λ (v : ℤ). climbs m src nxt s end k (j + 1) v (pos j)) (same_next j l) ∙ ih in
          λ i. leb low j && true && eqb (same_source j l i) s && on i

-- ---- ascending lists

up_above : (c : ℕ) (m : List ℕ) → Up c m → (j : ℕ) → Mem j m → c ≤ j
up_above c [] w j a = absurd a
up_above c (z ∷ m) w j (inl a) = omega (arith, w.0)
up_above c (z ∷ m) w j (inr a) = omega (arith, w.0, up_above (z + 1) m w.1 j a)

sub : (b : ℕ) (l k : List ℕ) → Up b l → Up b k → ((j : ℕ) → Mem j l → Mem j k) → (length l ≤ length k) × (length l ≡ length k → l ≡ k)
sub b [] [] u v h = (omega arith, λ e. refl)
sub b (x ∷ l) [] u v h = absurd (h x (inl refl))
sub b [] (y ∷ k) u v h = (omega arith, λ e. absurd (omega arith))
sub b (x ∷ l) (y ∷ k) u v h = go (h x (inl refl)) (sub (y + 1) l k) (sub (y + 1) (x ∷ l) k)
  where
    Goal : Type 0
    Goal = (suc (length l) ≤ suc (length k)) × (suc (length l) ≡ suc (length k) → x ∷ l ≡ y ∷ k)

    in_rest : (j : ℕ) → y < j → Mem j (y ∷ k) → Mem j k
    in_rest j a (inl z) = absurd (omega arith)
    in_rest j a (inr z) = z

    go : Mem x (y ∷ k) → (Up (y + 1) l → Up (y + 1) k → ((j : ℕ) → Mem j l → Mem j k) → (length l ≤ length k) × (length l ≡ length k → l ≡ k))
        → (Up (y + 1) (x ∷ l) → Up (y + 1) k → ((j : ℕ) → Mem j (x ∷ l) → Mem j k) → (suc (length l) ≤ length k) × (suc (length l) ≡ length k → x ∷ l ≡ k)) → Goal
    go (inl e) one two =
        let r = one (subst (λ (z : ℕ). Up (z + 1) l) e u.1) v.1 (λ j m. in_rest j (omega (arith, up_above (x + 1) l u.1 j m)) (h j (inr m))) in
        (omega (arith, r.0), λ q. let t = r.1 (omega arith) in λ i. e i ∷ t i)
    go (inr m) one two =
        let a : y + 1 ≤ x = up_above (y + 1) k v.1 x m in
        let r = two (a, u.1) v.1 (λ j w. in_rest j (⊎_elim (λ z. omega arith) (λ z. omega (arith, up_above (x + 1) l u.1 j z)) w) (h j w)) in
        (omega (arith, r.0), λ q. absurd (omega (arith, r.0)))

-- the next of each member is the one behind it
abbrev Consec : (ℕ → ℤ) → List ℕ → Type 0
Consec nxt [] = Unit {0}
Consec nxt (j ∷ l) = (nxt j ≡ first l) × Consec nxt l

abbrev last_or : ℤ → List ℕ → ℤ
last_or z [] = z
last_or z (j ∷ l) = last_or (pos j) l

last_or_lem : (j : ℕ) (l : List ℕ) → last (j ∷ l) ≡ last_or (pos j) l
last_or_lem j [] = refl
last_or_lem j (k ∷ l) = last_or_lem k l

last_none : (l : List ℕ) → last l ≡ last_or none l
last_none [] = refl
last_none (j ∷ l) = last_or_lem j l

behind-all : (b i : ℕ) (l : List ℕ) → Up b l → i < b → those (λ j. ltb i j) l ≡ l
behind-all b i [] u h = refl
behind-all b i (n ∷ l) u h = rw (lt-ltb i n (omega (arith, u.0))) (ap (λ (m : List ℕ). n ∷ m) (behind-all (n + 1) i l u.1 (omega (arith, u.0))))

consec_next : (nxt : ℕ → ℤ) (b : ℕ) (l : List ℕ) → Up b l → Consec nxt l → (i : ℕ) → Mem i l → nxt i ≡ first (those (λ j. ltb i j) l)
consec_next nxt b [] u c i m = absurd m
consec_next nxt b (x ∷ l) u c i (inl e) =
    let f : ltb i x ≡ false = le-ltb i x (omega arith) in
    let g : those (λ j. ltb i j) l ≡ l = behind-all (x + 1) i l u.1 (omega arith) in
    rw (f, g) (ap nxt e ∙ c.0)
consec_next nxt b (x ∷ l) u c i (inr m) =
    let f : ltb i x ≡ false = le-ltb i x (omega (arith, up_above (x + 1) l u.1 i m)) in
    rw f (consec_next nxt (x + 1) l u.1 c.1 i m)

next_consec : (nxt : ℕ → ℤ) (b : ℕ) (l : List ℕ) → Up b l → ((i : ℕ) → Mem i l → nxt i ≡ first (those (λ j. ltb i j) l)) → Consec nxt l
next_consec nxt b [] u h = tt
next_consec nxt b (x ∷ l) u h =
    let f : ltb x x ≡ false = le-ltb x x (omega arith) in
    let g : those (λ j. ltb x j) l ≡ l = behind-all (x + 1) x l u.1 (omega arith) in
    let head : nxt x ≡ first (pick (ltb x x) (x ∷ those (λ j. ltb x j) l) (those (λ j. ltb x j) l)) = h x (inl refl) in
    (head ∙ rw (f, g) refl, next_consec nxt (x + 1) l u.1 (λ i m. h i (inr m) ∙ rw (le-ltb i x (omega (arith, up_above (x + 1) l u.1 i m))) refl))

-- ---- what a walk met

module _ (es : List Edge) (nxt : ℕ → ℤ) (s : ℕ) (end : ℤ) where
  abbrev followed : ℕ → ℤ → List ℕ
  followed zero e = []
  followed (suc k) (pos j) = j ∷ followed k (nxt j)
  followed (suc k) (negsuc j) = []

  record Walked (k low : ℕ) (e before : ℤ) (l : List ℕ) : Type 0 where
    long : length l ≡ k
    up : Up low l
    here : (j : ℕ) → Mem j l → (j < length es) × ((edge_at es j).source ≡ s)
    consec : Consec nxt l
    starts : e ≡ first l
    ends : end ≡ last_or before l

  walked : (k low : ℕ) (e before : ℤ) → climbs (length es) (sources es) nxt s end k low e before ≡ true → Walked k low e before (followed k e)
  unfolding climbs
  walked zero low e before h =
      record {
        long = refl;
        up = tt;
        here = λ j m. absurd m;
        consec = tt;
        starts = same_true e none (left (same e none) (same end before) h);
        ends = same_true end before (right (same e none) (same end before) h);
      }
  walked (suc k) low (pos j) before h =
      let a = leb low j in
      let b = ltb j (length es) in
      let c = eqb (edge_at es j).source s in
      let on = climbs (length es) (sources es) nxt s end k (j + 1) (nxt j) (pos j) in
      let w = walked k (j + 1) (nxt j) (pos j) (right (a && b && c) on h) in
      let h3 = left (a && b && c) on h in
      let h2 = left (a && b) c h3 in
      let hj : (j < length es) × ((edge_at es j).source ≡ s) = (ltb-true j (length es) (right a b h2), eqb-true (edge_at es j).source s (right (a && b) c h3)) in
      record {
        long = ap suc w.long;
        up = (leb-true low j (left a b h2), w.up);
        here = λ i m. ⊎_elim (λ z. subst (λ (n : ℕ). (n < length es) × ((edge_at es n).source ≡ s)) (sym z) hj) (λ z. w.here i z) m;
        consec = (w.starts, w.consec);
        starts = refl;
        ends = w.ends;
      }
  walked (suc k) low (negsuc j) before h = lie h

  walks : (l : List ℕ) (low : ℕ) (e before : ℤ) → Walked (length l) low e before l → climbs (length es) (sources es) nxt s end (length l) low e before ≡ true
  unfolding climbs
  walks [] low e before w = both (subst (λ (z : ℤ). same z none ≡ true) (sym w.starts) refl) (subst (λ (z : ℤ). same z before ≡ true) (sym w.ends) (same_self before))
  walks (j ∷ l) low e before w =
      let f = w.here j (inl refl) in
      let on = walks l (j + 1) (nxt j) (pos j) (record { long = refl; up = w.up.1; here = λ i m. w.here i (inr m); consec = w.consec.1; starts = w.consec.0; ends = w.ends }) in
      subst (λ (z : ℤ). climbs (length es) (sources es) nxt s end (suc (length l)) low z before ≡ true) (sym w.starts)
      (both (both (both (le-leb low j w.up.0) (lt-ltb j (length es) f.0)) (eq-eqb (edge_at es j).source s f.1)) on)

-- ---- all edges have a source

sum_more : (n : ℕ) (f g : ℕ → ℕ) → ((s : ℕ) → s < n → f s ≤ g s) → sum n f ≤ sum n g
sum_more zero f g h = omega arith
sum_more (suc n) f g h = omega (arith, sum_more n f g (λ s k. h s (omega arith)), h n (omega arith))

sum_same : (n : ℕ) (f g : ℕ → ℕ) → ((s : ℕ) → s < n → f s ≤ g s) → sum n f ≡ sum n g → (s : ℕ) → s < n → f s ≡ g s
sum_same zero f g h e s k = absurd (omega arith)
sum_same (suc n) f g h e s k =
    let a = sum_more n f g (λ t l. h t (omega arith)) in
    let b = h n (omega arith) in
    ⊎_elim (λ (z : n ≤ s). let q : s ≡ n = omega arith in rw q (let t : f n ≡ g n = omega arith in t))
    (λ z. sum_same n f g (λ t l. h t (omega arith)) (omega arith) s z) (order n s)

sum_plus : (n : ℕ) (f g : ℕ → ℕ) → sum n (λ s. f s + g s) ≡ sum n f + sum n g
sum_plus zero f g = refl
sum_plus (suc n) f g = omega (arith, sum_plus n f g)

pub sum_of : (n : ℕ) (f g : ℕ → ℕ) → ((s : ℕ) → s < n → f s ≡ g s) → sum n f ≡ sum n g
sum_of zero f g h = refl
sum_of (suc n) f g h = omega (arith, sum_of n f g (λ s k. h s (omega arith)), h n (omega arith))

sum-none : (n x : ℕ) → n ≤ x → sum n (λ s. bit (eqb x s)) ≡ 0
sum-none zero x h = refl
sum-none (suc n) x h = rw (ne_eqb x n (λ e. omega arith)) (omega (arith, sum-none n x (omega arith)))

sum_one : (n x : ℕ) → x < n → sum n (λ s. bit (eqb x s)) ≡ 1
sum_one zero x h = absurd (omega arith)
sum_one (suc n) x h =
    ⊎_elim (λ (z : n ≤ x). let q : x ≡ n = omega arith in rw (eq-eqb x n q) (omega (arith, sum-none n x z)))
    (λ z. rw (ne_eqb x n (λ e. omega arith)) (omega (arith, sum_one n x z))) (order n x)

chains_sum : (n i : ℕ) (es : List Edge) → ((j : ℕ) → j < length es → (edge_at es j).source < n) → sum n (λ s. length (numbers_from i (λ e. eqb e.source s) es)) ≡ length es
chains_sum n i [] h = none-sum n
  where
    none-sum : (n : ℕ) → sum n (λ s. 0) ≡ 0
    none-sum zero = refl
    none-sum (suc n) = omega (arith, none-sum n)
chains_sum n i (e ∷ es) h =
    sum_of n (λ s. length (numbers_from i (λ e. eqb e.source s) (e ∷ es))) (λ s. bit (eqb e.source s) + length (numbers_from (i + 1) (λ e. eqb e.source s) es)) (λ s k. go s (eqb e.source s))
    ∙ sum_plus n (λ s. bit (eqb e.source s)) (λ s. length (numbers_from (i + 1) (λ e. eqb e.source s) es))
    ∙ omega (arith, sum_one n e.source (h 0 (omega arith)), chains_sum n (i + 1) es (λ j k. h (suc j) (omega arith)))
  where
    go : (s : ℕ) (b : Bool) → length (pick b (i ∷ numbers_from (i + 1) (λ e. eqb e.source s) es) (numbers_from (i + 1) (λ e. eqb e.source s) es)) ≡ bit b + length (numbers_from (i + 1) (λ e. eqb e.source s) es)
    go s true = omega arith
    go s false = omega arith

-- ---- both ways

-- The words of n states and of all edges are those of the chains.
pub record Chained (n : ℕ) (es : List Edge) (starts ends counts nxt : ℕ → ℤ) : Type 0 where
  pub first_edge : (s : ℕ) → s < n → starts s ≡ first (chain es s)
  pub last-edge : (s : ℕ) → s < n → ends s ≡ last (chain es s)
  pub edge_count : (s : ℕ) → s < n → counts s ≡ pos (length (chain es s))
  pub next_edge : (i : ℕ) → i < length es → nxt i ≡ next es (edge_at es i).source i

module _ (n : ℕ) (es : List Edge) (starts ends counts nxt : ℕ → ℤ) (listed : (i : ℕ) → i < length es → (edge_at es i).source < n) where
  pub climbs_exactly : ((s : ℕ) → s < n → climb (length es) (sources es) nxt s (starts s) (ends s) (counts s) ≡ true) × (sum n (λ s. size (counts s)) ≡ length es) ↔ Chained n es starts ends counts nxt
  climbs_exactly = (to, fro)
    where
      to : ((s : ℕ) → s < n → climb (length es) (sources es) nxt s (starts s) (ends s) (counts s) ≡ true) × (sum n (λ s. size (counts s)) ≡ length es) → Chained n es starts ends counts nxt
      to h =
          record {
            first_edge = λ s k. (w s k).starts ∙ ap first (all s k);
            last-edge = λ s k. (w s k).ends ∙ sym (last_none (l s)) ∙ ap last (all s k);
            edge_count = λ s k. sym (natural-size (counts s) (left (natural (counts s)) (climbs (length es) (sources es) nxt s (ends s) (size (counts s)) 0 (starts s) none) (h.0 s k))) ∙ ap pos (sym (w s k).long ∙ ap length (all s k));
            next_edge = λ i k.
                let s = (edge_at es i).source in
                let m : Mem i (chain es (edge_at es i).source) = (chain_are es (edge_at es i).source i).1 (k, refl) in
                consec_next nxt 0 (chain es (edge_at es i).source) (chain-up es (edge_at es i).source) (subst (λ (z : List ℕ). Consec nxt z) (all (edge_at es i).source (listed i k)) (w (edge_at es i).source (listed i k)).consec) i m;
          }
        where
          l : ℕ → List ℕ
          l s = followed es nxt s (ends s) (size (counts s)) (starts s)

          w : (s : ℕ) → s < n → Walked es nxt s (ends s) (size (counts s)) 0 (starts s) none (l s)
          w s k = walked es nxt s (ends s) (size (counts s)) 0 (starts s) none (right (natural (counts s)) (climbs (length es) (sources es) nxt s (ends s) (size (counts s)) 0 (starts s) none) (h.0 s k))

          part : (s : ℕ) (k : s < n) → (length (l s) ≤ length (chain es s)) × (length (l s) ≡ length (chain es s) → l s ≡ chain es s)
          part s k = sub 0 (l s) (chain es s) (w s k).up (chain-up es s) (λ j m. (chain_are es s j).1 ((w s k).here j m))

          all : (s : ℕ) → s < n → l s ≡ chain es s
          all s k =
              (part s k).1
              (sum_same n (λ s. length (l s)) (λ s. length (chain es s)) (λ s k. (part s k).0) (sum_of n (λ s. length (l s)) (λ s. size (counts s)) (λ s k. (w s k).long) ∙ h.1 ∙ sym (chains_sum n 0 es listed)) s k)

      fro : Chained n es starts ends counts nxt → ((s : ℕ) → s < n → climb (length es) (sources es) nxt s (starts s) (ends s) (counts s) ≡ true) × (sum n (λ s. size (counts s)) ≡ length es)
      fro c = (one, sum_of n (λ s. size (counts s)) (λ s. length (chain es s)) (λ s k. ap size (c.edge_count s k)) ∙ chains_sum n 0 es listed)
        where
          one : (s : ℕ) → s < n → climb (length es) (sources es) nxt s (starts s) (ends s) (counts s) ≡ true
          one s k =
              subst (λ (z : ℤ). (natural z && climbs (length es) (sources es) nxt s (ends s) (size z) 0 (starts s) none) ≡ true) (sym (c.edge_count s k))
              (walks es nxt s (ends s) (chain es s) 0 (starts s) none
              (record {
                long = refl;
                up = chain-up es s;
                here = λ j m. (chain_are es s j).0 m;
                consec = next_consec nxt 0 (chain es s) (chain-up es s) (λ i m. let x = (chain_are es s i).0 m in c.next_edge i x.0 ∙ ap (λ (z : ℕ). next es z i) x.1);
                starts = c.first_edge s k;
                ends = c.last-edge s k ∙ last_none (chain es s);
              }))
