-- The chain of a state, by number: its j-th number is that of the state's j-th edge.
use Rattle.std.specs.Prelude.{◌≡◌, refl, Bool, true, false, List, [], ◌∷◌, ℕ, zero, suc, ◌+◌, ◌-◌, ◌≤◌, ◌<◌, eqb, pos, length, get_or, drop}
use Rattle.std.proofs.Common.{sym, ap, ◌∙◌, arith, drop-cons}
use Rattle.format.specs.Reading.{pick}
use Rattle.format.specs.Sections.{Edge}
use Rattle.format.specs.Links.{those, numbers_from, first, leaving, chain}
use Rattle.laws.specs.Chains.{chain_are, at_mem}
use Rattle.atn.specs.Records.{no_edge, edge_at}

numbers_long : {A : Type 0} (i : ℕ) (p : A → Bool) (l : List A) → length (numbers_from i p l) ≡ length (those p l)
numbers_long i p [] = refl
numbers_long {A} i p (a ∷ l) = go (p a) (numbers_long (i + 1) p l)
  where
    go : (b : Bool) → length (numbers_from (i + 1) p l) ≡ length (those p l)
        → length (pick b (i ∷ numbers_from (i + 1) p l) (numbers_from (i + 1) p l)) ≡ length (pick b (a ∷ those p l) (those p l))
    go true e = ap suc e
    go false e = e

those_few : {A : Type 0} (p : A → Bool) (l : List A) → length (those p l) ≤ length l
those_few p [] = omega arith
those_few {A} p (a ∷ l) = go (p a) (those_few p l)
  where
    go : (b : Bool) → length (those p l) ≤ length l → length (pick b (a ∷ those p l) (those p l)) ≤ suc (length l)
    go true h = omega arith
    go false h = omega arith

-- the member with the j-th number, counted from i, is the j-th of those that pass
abbrev At : {A : Type 0} → ℕ → List ℕ → List A → List A → A → ℕ → Type 0
At i ns l those d j = (i ≤ get_or ns j 0) × (get_or l (get_or ns j 0 - i) d ≡ get_or those j d)

numbers-at : {A : Type 0} (i : ℕ) (p : A → Bool) (d : A) (l : List A) (j : ℕ) → j < length (numbers_from i p l) → At i (numbers_from i p l) l (those p l) d j
numbers-at i p d [] j h = absurd (omega arith)
numbers-at {A} i p d (a ∷ l) j h = go (p a) j h (numbers-at (i + 1) p d l)
  where
    ns : List ℕ
    ns = numbers_from (i + 1) p l

    later : (j j' : ℕ) (xs : List ℕ) (ys : List A) → get_or xs j 0 ≡ get_or ns j' 0 → get_or ys j d ≡ get_or (those p l) j' d → At (i + 1) ns l (those p l) d j' → At i xs (a ∷ l) ys d j
    later j j' xs ys e f x =
        let q : get_or xs j 0 - i ≡ suc (get_or ns j' 0 - (i + 1)) = omega (arith, x.0) in
        (omega (arith, x.0), ap (λ (n : ℕ). get_or (a ∷ l) n d) q ∙ x.1 ∙ sym f)

    go : (b : Bool) (j : ℕ) → j < length (pick b (i ∷ ns) ns) → ((j : ℕ) → j < length ns → At (i + 1) ns l (those p l) d j)
        → At i (pick b (i ∷ ns) ns) (a ∷ l) (pick b (a ∷ those p l) (those p l)) d j
    go true zero h ih = let q : i - i ≡ 0 = omega arith in (omega arith, ap (λ (n : ℕ). get_or (a ∷ l) n d) q)
    go true (suc j) h ih = later (suc j) j (i ∷ ns) (a ∷ those p l) refl refl (ih j (omega arith))
    go false j h ih = later j j ns (those p l) refl refl (ih j h)

module _ (es : List Edge) (s : ℕ) where
  pub leaving_few : length (leaving es s) ≤ length es
  leaving_few = those_few (λ (e : Edge). eqb e.source s) es

  pub chain_long : length (chain es s) ≡ length (leaving es s)
  chain_long = numbers_long 0 (λ (e : Edge). eqb e.source s) es

  -- the j-th of a chain, that of a state's edges
  pub record Linking (j : ℕ) : Type 0 where
    pub listed : get_or (chain es s) j 0 < length es
    pub sourced : (edge_at es (get_or (chain es s) j 0)).source ≡ s
    pub edge_is : edge_at es (get_or (chain es s) j 0) ≡ get_or (leaving es s) j no_edge
    pub word_is : first (drop j (chain es s)) ≡ pos (get_or (chain es s) j 0)

  pub linking : (j : ℕ) → j < length (leaving es s) → Linking j
  linking j h =
      let l : j < length (chain es s) = omega (arith, chain_long) in
      let m = (chain_are es s (get_or (chain es s) j 0)).0 (at_mem j (chain es s) l) in
      let q : get_or (chain es s) j 0 - 0 ≡ get_or (chain es s) j 0 = omega arith in
      record {
        listed = m.0;
        sourced = m.1;
        edge_is = ap (λ (n : ℕ). edge_at es n) (sym q) ∙ (numbers-at 0 (λ (e : Edge). eqb e.source s) no_edge es j l).1;
        word_is = ap first (drop-cons (chain es s) j 0 l);
      }
