-- One edge or state more at the end: how chains, nexts and stops change. What the code's loops need, one turn at a time.
use Rattle.std.specs.Prelude.{◌≡◌, refl, Bool, true, false, ◌&&◌, List, [], ◌∷◌, ◌++◌, ℕ, ◌+◌, ◌<◌, ltb, eqb, ℤ, pos, length}
use Rattle.std.proofs.Common.{ap, ◌∙◌, append-nil, arith, length-append, lt-ltb, eq-eqb, ne_eqb}
use Rattle.format.specs.Reading.{pick}
use Rattle.format.specs.Sections.{State, Edge, same, none}
use Rattle.format.specs.Links.{those, numbers, first, last, chain, next, stop_of}
use Rattle.laws.specs.Lists.{those-append, numbers-append}

pub last_more : (l : List ℕ) (n : ℕ) → last (l ++ (n ∷ [])) ≡ pos n
last_more [] n = refl
last_more (m ∷ []) n = refl
last_more (m ∷ k ∷ l) n = last_more (k ∷ l) n

first-keep : (l m : List ℕ) (j : ℕ) → first l ≡ pos j → first (l ++ m) ≡ pos j
first-keep [] m j e = absurd (let z : ◌≡◌ {A = ℕ} 0 1 = cc in omega arith)
first-keep (n ∷ l) m j e = e

first_new : (l m : List ℕ) → first l ≡ none → first (l ++ m) ≡ first m
first_new [] m e = refl
first_new (n ∷ l) m e = absurd (let z : ◌≡◌ {A = ℕ} 0 1 = cc in omega arith)

module _ (es : List Edge) (e : Edge) where
  abbrev grown : List Edge
  grown = es ++ (e ∷ [])

  -- the chain of the edge's source has it at its end; the others stay
  pub chain-own : chain grown e.source ≡ chain es e.source ++ (length es ∷ [])
  chain-own = numbers-append (λ (x : Edge). eqb x.source e.source) 0 es (e ∷ []) ∙ rw (eq-eqb e.source e.source refl) (ap (λ (n : ℕ). chain es e.source ++ (n ∷ [])) (omega arith))

  pub chain_other : (s : ℕ) → (e.source ≡ s → ⊥) → chain grown s ≡ chain es s
  chain_other s h = numbers-append (λ (x : Edge). eqb x.source s) 0 es (e ∷ []) ∙ rw (ne_eqb e.source s h) (append-nil (chain es s))

  -- so its source's last edge is it, one edge more; and its first, if there was none
  pub last-own : last (chain grown e.source) ≡ pos (length es)
  last-own = ap last chain-own ∙ last_more (chain es e.source) (length es)

  pub count-own : length (chain grown e.source) ≡ length (chain es e.source) + 1
  count-own = ap length chain-own ∙ length-append (chain es e.source) (length es ∷ [])

  pub first-own : first (chain es e.source) ≡ none → first (chain grown e.source) ≡ pos (length es)
  first-own h = ap first chain-own ∙ first_new (chain es e.source) (length es ∷ []) h

  pub first_stays : (j : ℕ) → first (chain es e.source) ≡ pos j → first (chain grown e.source) ≡ pos j
  first_stays j h = ap first chain-own ∙ first-keep (chain es e.source) (length es ∷ []) j h

  -- a next edge stays; where there was none, it is the new edge in its source's chain, and none in another
  next_by : (i : ℕ) → next grown e.source i ≡ first (those (λ j. ltb i j) (chain es e.source) ++ those (λ j. ltb i j) (length es ∷ []))
  next_by i = ap (λ (c : List ℕ). first (those (λ j. ltb i j) c)) chain-own ∙ ap first (those-append (λ j. ltb i j) (chain es e.source) (length es ∷ []))

  pub next_stays : (i j : ℕ) → next es e.source i ≡ pos j → next grown e.source i ≡ pos j
  next_stays i j h = next_by i ∙ first-keep (those (λ j. ltb i j) (chain es e.source)) (those (λ j. ltb i j) (length es ∷ [])) j h

  pub next-own : (i : ℕ) → i < length es → next es e.source i ≡ none → next grown e.source i ≡ pos (length es)
  next-own i l h = next_by i ∙ first_new (those (λ j. ltb i j) (chain es e.source)) (those (λ j. ltb i j) (length es ∷ [])) h ∙ rw (lt-ltb i (length es) l) refl

  pub next_other : (s i : ℕ) → (e.source ≡ s → ⊥) → next grown s i ≡ next es s i
  next_other s i h = ap (λ (c : List ℕ). first (those (λ j. ltb i j) c)) (chain_other s h)

-- a state more: it is its rule's stop if it is of type 7, and the stops of other rules stay
module _ (ss : List State) (s : State) where
  abbrev Stops : ℤ → State → Bool
  Stops R x = eqb x.kind 7 && same x.rule R

  stop_by : (R : ℤ) → stop_of (ss ++ (s ∷ [])) R ≡ last (numbers (Stops R) ss ++ pick (Stops R s) (length ss ∷ []) [])
  stop_by R = ap last (numbers-append (Stops R) 0 ss (s ∷ []) ∙ ap (λ (n : ℕ). numbers (Stops R) ss ++ pick (Stops R s) (n ∷ []) []) (omega arith))

  pub stop_new : (R : ℤ) → Stops R s ≡ true → stop_of (ss ++ (s ∷ [])) R ≡ pos (length ss)
  stop_new R h = stop_by R ∙ rw h (last_more (numbers (Stops R) ss) (length ss))

  pub stop_stays : (R : ℤ) → Stops R s ≡ false → stop_of (ss ++ (s ∷ [])) R ≡ stop_of ss R
  stop_stays R h = stop_by R ∙ rw h (ap last (append-nil (numbers (Stops R) ss)))
