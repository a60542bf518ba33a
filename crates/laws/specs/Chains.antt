-- What the numbers of a chain are: the members that pass, ascending; so the first is the least and the last the greatest.
use Rattle.std.specs.Prelude.{◌≡◌, refl, Bool, true, false, ◌&&◌, List, [], ◌∷◌, ◌⊎◌, ◌↔◌, ℕ, zero, suc, ◌+◌, ◌-◌, ◌≤◌, ◌<◌, ltb, eqb, ℤ, pos, negsuc, length, get_or, drop}
use Rattle.std.proofs.Common.{sym, ap, ◌∙◌, subst, inl, inr, ⊎_elim, arith, drop-cons, lt-ltb, le-ltb, eqb-true, eq-eqb}
use Rattle.std.proofs.Math.Seq.{drop-length}
use Rattle.format.specs.Reading.{pick}
use Rattle.format.specs.Sections.{State, Edge, same, edge_of, none}
use Rattle.format.specs.Links.{those, numbers_from, numbers, first, last, chain, next, stop_of}

abbrev pub Mem : ℕ → List ℕ → Type 0
Mem j [] = ⊥
Mem j (n ∷ l) = (j ≡ n) ⊎ Mem j l

-- ascending, from b on
abbrev pub Up : ℕ → List ℕ → Type 0
Up b [] = Unit {0}
Up b (n ∷ l) = (b ≤ n) × Up (n + 1) l

up_less : {b c : ℕ} (l : List ℕ) → b ≤ c → Up c l → Up b l
up_less [] h u = tt
up_less (n ∷ l) h u = (omega (arith, u.0), u.1)

up_from : (b k : ℕ) (l : List ℕ) → Up b l → Mem k l → b ≤ k
up_from b k [] u m = absurd m
up_from b k (n ∷ l) u (inl m) = omega (arith, u.0)
up_from b k (n ∷ l) u (inr m) = omega (arith, u.0, up_from (n + 1) k l u.1 m)

-- ---- the numbers of the members that pass

numbers_up' : {A : Type 0} (p : A → Bool) (l : List A) (i : ℕ) → Up i (numbers_from i p l)
numbers_up' p [] i = tt
numbers_up' {A} p (a ∷ l) i = go (p a) (numbers_up' p l (i + 1))
  where
    go : (b : Bool) → Up (i + 1) (numbers_from (i + 1) p l) → Up i (pick b (i ∷ numbers_from (i + 1) p l) (numbers_from (i + 1) p l))
    go true u = (omega arith, u)
    go false u = up_less (numbers_from (i + 1) p l) (omega arith) u

numbers_to' : {A : Type 0} (p : A → Bool) (d : A) (l : List A) (i j : ℕ) → Mem j (numbers_from i p l) → (i ≤ j) × ((j < i + length l) × (p (get_or l (j - i) d) ≡ true))
numbers_to' p d [] i j m = absurd m
numbers_to' {A} p d (a ∷ l) i j m = go (p a) refl m (numbers_to' p d l (i + 1) j)
  where
    Out : Type 0
    Out = (i ≤ j) × ((j < i + suc (length l)) × (p (get_or (a ∷ l) (j - i) d) ≡ true))

    later : (i + 1 ≤ j) × ((j < i + 1 + length l) × (p (get_or l (j - (i + 1)) d) ≡ true)) → Out
    later x =
        let e : j - i ≡ suc (j - (i + 1)) = omega (arith, x.0) in
        (omega (arith, x.0), (omega (arith, x.1.0), subst (λ (n : ℕ). p (get_or (a ∷ l) n d) ≡ true) (sym e) x.1.1))

    go : (b : Bool) → p a ≡ b → Mem j (pick b (i ∷ numbers_from (i + 1) p l) (numbers_from (i + 1) p l)) → (Mem j (numbers_from (i + 1) p l) → (i + 1 ≤ j) × ((j < i + 1 + length l) × (p (get_or l (j - (i + 1)) d) ≡ true))) → Out
    go true e (inl x) ih = let z : j - i ≡ 0 = omega arith in (omega arith, (omega arith, subst (λ (n : ℕ). p (get_or (a ∷ l) n d) ≡ true) (sym z) e))
    go true e (inr x) ih = later (ih x)
    go false e x ih = later (ih x)

numbers_fro' : {A : Type 0} (p : A → Bool) (d : A) (l : List A) (i k : ℕ) → k < length l → p (get_or l k d) ≡ true → Mem (i + k) (numbers_from i p l)
numbers_fro' p d [] i k h e = absurd (omega arith)
numbers_fro' {A} p d (a ∷ l) i zero h e = go (p a) e
  where
    go : (b : Bool) → b ≡ true → Mem (i + 0) (pick b (i ∷ numbers_from (i + 1) p l) (numbers_from (i + 1) p l))
    go true q = inl (omega arith)
    go false q = absurd (let z : ◌≡◌ {A = ℕ} 0 1 = cc in omega arith)
numbers_fro' {A} p d (a ∷ l) i (suc k) h e = go (p a) (subst (λ (n : ℕ). Mem n (numbers_from (i + 1) p l)) (omega arith) (numbers_fro' p d l (i + 1) k (omega arith) e))
  where
    go : (b : Bool) → Mem (i + suc k) (numbers_from (i + 1) p l) → Mem (i + suc k) (pick b (i ∷ numbers_from (i + 1) p l) (numbers_from (i + 1) p l))
    go true m = inr m
    go false m = m

module _ {A : Type 0} (p : A → Bool) (l : List A) where
  pub numbers_up : Up 0 (numbers p l)
  numbers_up = numbers_up' p l 0

  pub numbers_are : (d : A) (j : ℕ) → Mem j (numbers p l) ↔ ((j < length l) × (p (get_or l j d) ≡ true))
  numbers_are d j = (
    (λ m. let x = numbers_to' p d l 0 j m in let e : j - 0 ≡ j = omega arith in (omega (arith, x.1.0), subst (λ (n : ℕ). p (get_or l n d) ≡ true) e x.1.1)),
    (λ x. subst (λ (n : ℕ). Mem n (numbers p l)) (omega arith) (numbers_fro' p d l 0 j x.0 x.1)),
  )

-- ---- the first is the least, the last the greatest

pub first_least : (b : ℕ) (l : List ℕ) (j : ℕ) → Up b l → first l ≡ pos j → Mem j l × ((k : ℕ) → Mem k l → j ≤ k)
first_least b [] j u e = absurd (let z : ◌≡◌ {A = ℕ} 0 1 = cc in omega arith)
first_least b (n ∷ l) j u e =
    let q : n ≡ j = cc in
    (inl (sym q), λ k m. ⊎_elim (λ x. omega arith) (λ x. omega (arith, up_from (n + 1) k l u.1 x)) m)

pub last_greatest : (b : ℕ) (l : List ℕ) (j : ℕ) → Up b l → last l ≡ pos j → Mem j l × ((k : ℕ) → Mem k l → k ≤ j)
last_greatest b [] j u e = absurd (let z : ◌≡◌ {A = ℕ} 0 1 = cc in omega arith)
last_greatest b (n ∷ []) j u e = let q : n ≡ j = cc in (inl (sym q), λ k m. ⊎_elim (λ x. omega arith) (λ x. absurd x) m)
last_greatest b (n ∷ m ∷ l) j u e =
    let x = last_greatest (n + 1) (m ∷ l) j u.1 e in
    (inr x.0, λ k w. ⊎_elim (λ y. omega (arith, up_from (n + 1) j (m ∷ l) u.1 x.0)) (λ y. x.1 k y) w)

pub first-none : (l : List ℕ) (k : ℕ) → first l ≡ none → Mem k l → ⊥
first-none [] k e m = m
first-none (n ∷ l) k e m = let z : ◌≡◌ {A = ℕ} 0 1 = cc in omega arith

pub last_none : (l : List ℕ) (k : ℕ) → last l ≡ none → Mem k l → ⊥
last_none [] k e m = m
last_none (n ∷ []) k e m = let z : ◌≡◌ {A = ℕ} 0 1 = cc in omega arith
last_none (n ∷ m ∷ l) k e (inl w) = last_none (m ∷ l) m e (inl refl)
last_none (n ∷ m ∷ l) k e (inr w) = last_none (m ∷ l) k e w

-- ---- next: what is behind the i-th member of an ascending list

after_none : (b i : ℕ) (l : List ℕ) → Up b l → i < b → those (λ j. ltb i j) l ≡ l
after_none b i [] u h = refl
after_none b i (n ∷ l) u h = rw (lt-ltb i n (omega (arith, u.0))) (ap (λ (m : List ℕ). n ∷ m) (after_none (n + 1) i l u.1 (omega (arith, u.0))))

pub at_mem : (k : ℕ) (l : List ℕ) → k < length l → Mem (get_or l k 0) l
at_mem k [] h = absurd (omega arith)
at_mem zero (n ∷ l) h = inl refl
at_mem (suc k) (n ∷ l) h = inr (at_mem k l (omega arith))

pub after-at : (b k : ℕ) (l : List ℕ) → Up b l → k < length l → those (λ j. ltb (get_or l k 0) j) l ≡ drop (suc k) l
after-at b k [] u h = absurd (omega arith)
after-at b zero (n ∷ l) u h = rw (le-ltb n n (omega arith)) (after_none (n + 1) n l u.1 (omega arith))
after-at b (suc k) (n ∷ l) u h =
    rw (le-ltb (get_or l k 0) n (omega (arith, up_from (n + 1) (get_or l k 0) l u.1 (at_mem k l (omega arith))))) (after-at (n + 1) k l u.1 (omega arith))

-- ---- chains and stops, in these words

abbrev edge_at : List Edge → ℕ → Edge
edge_at es i = get_or es i (edge_of 0 0 0 (pos 0) (pos 0) (pos 0))

-- the chain of s has exactly the edges with the source s, ascending
pub chain_are : (es : List Edge) (s i : ℕ) → Mem i (chain es s) ↔ ((i < length es) × ((edge_at es i).source ≡ s))
chain_are es s i =
    let x = numbers_are (λ (e : Edge). eqb e.source s) es (edge_of 0 0 0 (pos 0) (pos 0) (pos 0)) i in
    ((λ m. let y = x.0 m in (y.0, eqb-true (edge_at es i).source s y.1)), (λ y. x.1 (y.0, eq-eqb (edge_at es i).source s y.1)))

pub chain-up : (es : List Edge) (s : ℕ) → Up 0 (chain es s)
chain-up es s = numbers_up (λ (e : Edge). eqb e.source s) es

-- the next edge of the k-th of a chain is the first of those behind it
pub next_in_lem : (es : List Edge) (s k : ℕ) → k < length (chain es s) → next es s (get_or (chain es s) k 0) ≡ first (drop (suc k) (chain es s))
next_in_lem es s k h = ap first (after-at 0 k (chain es s) (chain-up es s) h)

-- "A state's edges are chained": n edges of the state s, from the edge e on, each found by the next of the one before
abbrev pub along : List Edge → ℕ → ℕ → ℤ → List ℕ
along es s zero e = []
along es s (suc n) (pos i) = i ∷ along es s n (next es s i)
along es s (suc n) (negsuc i) = []

along-drop : (es : List Edge) (s n k : ℕ) → k + n ≡ length (chain es s) → along es s n (first (drop k (chain es s))) ≡ drop k (chain es s)
along-drop es s zero k e = sym (let h : k ≡ length (chain es s) = omega arith in rw h (drop-length (chain es s)))
along-drop es s (suc n) k e =
    let h : k < length (chain es s) = omega arith in
    ap (λ (l : List ℕ). along es s (suc n) (first l)) (drop-cons (chain es s) k 0 h)
    ∙ ap (λ (l : List ℕ). get_or (chain es s) k 0 ∷ l) (ap (along es s n) (next_in_lem es s k h) ∙ along-drop es s n (suc k) (omega arith))
    ∙ sym (drop-cons (chain es s) k 0 h)

-- followed from the first, as many times as they are counted, they are all its edges, in order
pub chain_followed : (es : List Edge) (s : ℕ) → along es s (length (chain es s)) (first (chain es s)) ≡ chain es s
chain_followed es s = along-drop es s (length (chain es s)) 0 (omega arith)

last-at : (l : List ℕ) (k : ℕ) → suc k ≡ length l → last l ≡ pos (get_or l k 0)
last-at [] k e = absurd (omega arith)
last-at (n ∷ []) zero e = refl
last-at (n ∷ []) (suc k) e = absurd (omega arith)
last-at (n ∷ m ∷ l) zero e = absurd (omega arith)
last-at (n ∷ m ∷ l) (suc k) e = last-at (m ∷ l) k (omega arith)

-- and the last of them is the last, and has no next
pub chain-ends : (es : List Edge) (s k : ℕ) → suc k ≡ length (chain es s) → (last (chain es s) ≡ pos (get_or (chain es s) k 0)) × (next es s (get_or (chain es s) k 0) ≡ none)
chain-ends es s k e = (last-at (chain es s) k e, next_in_lem es s k (omega arith) ∙ rw (e, drop-length (chain es s)) refl)

-- a rule's stop is the greatest state of type 7 with that rule
pub stop_highest : (ss : List State) (R : ℤ) (Z : ℕ) → stop_of ss R ≡ pos Z → Mem Z (numbers (λ s. eqb s.kind 7 && same s.rule R) ss) × ((k : ℕ) → Mem k (numbers (λ s. eqb s.kind 7 && same s.rule R) ss) → k ≤ Z)
stop_highest ss R Z e = last_greatest 0 (numbers (λ s. eqb s.kind 7 && same s.rule R) ss) Z (numbers_up (λ s. eqb s.kind 7 && same s.rule R) ss) e
