-- The records that lent tables hold; and the derived edges as a walk over the chains meets them.
use Rattle.std.specs.Prelude.{◌≡◌, refl, List, [], ◌∷◌, ◌++◌, map, Bool, true, false, ◌↔◌, ℕ, zero, suc, ◌+◌, ◌*◌, ◌/◌, ◌≤◌, ◌<◌, ltb, eqb, ℤ, pos, length, get_or, take, drop}
use Rattle.std.proofs.Common.{sym, ap, ◌∙◌, append-nil, append_assoc, arith, mul-suc, mul-zero, add-one, length-append, length-drop, take-append-drop, get_or-take, get_or-drop, length-take-le, drop-drop, lt-ltb, le-ltb, leb-true}
use Rattle.std.proofs.Math.Seq.{get_or-append_seam}
use Rattle.format.specs.Reading.{Table, States, Edges, Ranges, Sets, Rules, Modes, Decisions, Actions, Scratch, pick}
use Rattle.format.specs.Sections.{State, Edge}
use Rattle.format.specs.Links.{those, numbers_from, numbers, each, leaving, chain, returns, derived}
use Rattle.format.specs.Tables.{nine, width, row_at}
use Rattle.format.specs.Questions.{fits}
use Rattle.format.specs.Writing.{cell, rows_of, given, inside, comes}
use Rattle.laws.specs.Gives.{Every}
use Rattle.laws.specs.Rows.{Wide}
use Rattle.laws.specs.Lists.{those-append, numbers-append}
use Rattle.rewriting.specs.Tests.{eight-all}
use Rattle.rewriting.specs.Found.{found_exactly, comes_exactly}
use Rattle.rewriting.specs.Climbs.{edge_at}
use Rattle.rewriting.specs.Checks.{Checked, checks_exactly}

-- ---- rows of a table

rows-wide : (w n : ℕ) (t : List ℤ) → w * n ≤ length t → Every (Wide w) (rows_of w n t)
rows-wide w zero t h = tt
rows-wide w (suc n) t h =
    let e : w * suc n ≡ w * n + w = mul-suc w n in
    (length-take-le w t (omega (arith, e)), rows-wide w n (drop w t) (omega (arith, e, length-drop w t)))

pub rows_long : (w n : ℕ) (t : List ℤ) → length (rows_of w n t) ≡ n
rows_long w zero t = refl
rows_long w (suc n) t = ap suc (rows_long w n (drop w t))

-- behind the first record
pub drop-row : (w i : ℕ) (t : List ℤ) → drop (w * i) (drop w t) ≡ drop (w * suc i) t
drop-row w i t = let e : w + w * i ≡ w * suc i = omega (arith, mul-suc w i) in drop-drop (w * i) w t ∙ ap (λ (k : ℕ). drop k t) e

-- record i of them
pub rows_at : (w n : ℕ) (t : List ℤ) (i : ℕ) → i < n → get_or (rows_of w n t) i [] ≡ row_at w t i
rows_at w zero t i h = absurd (omega arith)
rows_at w (suc n) t zero h = ap (λ (j : ℕ). take w (drop j t)) (sym (mul-zero w))
rows_at w (suc n) t (suc i) h =
    rows_at w n (drop w t) i (omega arith) ∙ ap (take w) (drop-row w i t)

-- one record more
rows-suc : (w i : ℕ) (t : List ℤ) → rows_of w (suc i) t ≡ rows_of w i t ++ (row_at w t i ∷ [])
rows-suc w zero t = rw mul-zero refl
rows-suc w (suc i) t =
    ap (λ (l : List (List ℤ)). take w t ∷ l)
    (rows-suc w i (drop w t) ∙ ap (λ (x : List ℤ). rows_of w i (drop w t) ++ (take w x ∷ [])) (drop-row w i t))

pub rows_more : (w i : ℕ) (t : List ℤ) → rows_of w (i + 1) t ≡ rows_of w i t ++ (row_at w t i ∷ [])
rows_more w i t = rw add-one (rows-suc w i t)

-- a part of the records
rows_front : {A : Type 0} (g : List ℤ → A) (w n m : ℕ) (t : List ℤ) → n ≤ m → take n (map g (rows_of w m t)) ≡ map g (rows_of w n t)
rows_front g w zero m t h = refl
rows_front g w (suc n) zero t h = absurd (omega arith)
rows_front g w (suc n) (suc m) t h = ap (λ l. g (take w t) ∷ l) (rows_front g w n m (drop w t) (omega arith))

pub rows-part : {A : Type 0} (g : List ℤ → A) (w b n m : ℕ) (t : List ℤ) → b + n ≤ m → take n (drop b (map g (rows_of w m t))) ≡ map g (rows_of w n (drop (w * b) t))
rows-part g w zero n m t h = rw mul-zero (rows_front g w n m t (omega arith))
rows-part g w (suc b) n zero t h = absurd (omega arith)
rows-part g w (suc b) n (suc m) t h = rows-part g w b n m (drop w t) (omega arith) ∙ ap (λ (u : List ℤ). map g (rows_of w n u)) (drop-row w b t)

pub rows_take : (w n m : ℕ) (t : List ℤ) → n ≤ m → take n (rows_of w m t) ≡ rows_of w n t
rows_take w zero m t h = refl
rows_take w (suc n) zero t h = absurd (omega arith)
rows_take w (suc n) (suc m) t h = ap (λ (l : List (List ℤ)). take w t ∷ l) (rows_take w n m (drop w t) (omega arith))

-- its word k
pub row_word : (w : ℕ) (t : List ℤ) (i k : ℕ) → k < w → cell (row_at w t i) k ≡ get_or t (w * i + k) (pos 0)
row_word w t i k h = get_or-take w (drop (w * i) t) k (pos 0) h ∙ get_or-drop (w * i) t k (pos 0)

-- ---- lent tables

-- The counted records lie in the tables.
pub record Lie (tables : Table → List ℤ) (counts : Table → ℕ) : Type 0 where
  pub states : 8 * counts States ≤ length (tables States)
  pub edges : 8 * counts Edges ≤ length (tables Edges)
  pub ranges : 2 * counts Ranges ≤ length (tables Ranges)
  pub sets : 2 * counts Sets ≤ length (tables Sets)
  pub rules : 3 * counts Rules ≤ length (tables Rules)
  pub modes : 1 * counts Modes ≤ length (tables Modes)
  pub decisions : 1 * counts Decisions ≤ length (tables Decisions)
  pub actions : 3 * counts Actions ≤ length (tables Actions)

module _ (tables : Table → List ℤ) (counts : Table → ℕ) where
  abbrev fit : Table → Bool
  fit t = fits t (counts t) (tables t)

  pub inside-lie : inside tables counts ≡ true → Lie tables counts
  inside-lie h =
      let tested = eight-all (nine (fit States) (fit Edges) (fit Ranges) (fit Sets) (fit Rules) (fit Modes) (fit Decisions) (fit Actions) true) refl h in
      record {
        states = omega (arith, leb-true (counts States) (length (tables States) / 8) (tested States));
        edges = omega (arith, leb-true (counts Edges) (length (tables Edges) / 8) (tested Edges));
        ranges = omega (arith, leb-true (counts Ranges) (length (tables Ranges) / 2) (tested Ranges));
        sets = omega (arith, leb-true (counts Sets) (length (tables Sets) / 2) (tested Sets));
        rules = omega (arith, leb-true (counts Rules) (length (tables Rules) / 3) (tested Rules));
        modes = omega (arith, leb-true (counts Modes) (length (tables Modes) / 1) (tested Modes));
        decisions = omega (arith, leb-true (counts Decisions) (length (tables Decisions) / 1) (tested Decisions));
        actions = omega (arith, leb-true (counts Actions) (length (tables Actions) / 3) (tested Actions));
      }

  given-wide : Lie tables counts → (t : Table) → Every (Wide (width t)) (given tables counts t)
  given-wide l States = rows-wide 8 (counts States) (tables States) l.states
  given-wide l Edges = rows-wide 8 (counts Edges) (tables Edges) l.edges
  given-wide l Ranges = rows-wide 2 (counts Ranges) (tables Ranges) l.ranges
  given-wide l Sets = rows-wide 2 (counts Sets) (tables Sets) l.sets
  given-wide l Rules = rows-wide 3 (counts Rules) (tables Rules) l.rules
  given-wide l Modes = rows-wide 1 (counts Modes) (tables Modes) l.modes
  given-wide l Decisions = rows-wide 1 (counts Decisions) (tables Decisions) l.decisions
  given-wide l Actions = rows-wide 3 (counts Actions) (tables Actions) l.actions
  given-wide l Scratch = tt

  -- `comes` of lent tables, as a pass over them
  pub lent_exactly : Lie tables counts → (token : ℤ) → comes (given tables counts) token ≡ true ↔ ((o : ℕ) × Checked (given tables counts) o)
  lent_exactly l token =
      let a = comes_exactly (given tables counts) token refl in
      let b = found_exactly (given tables counts) token in
      let c = checks_exactly (given tables counts) token (given-wide l) refl in
      ((λ h. c.0 (b.1 (a.0 h))), (λ h. a.1 (b.0 (c.1 h))))

-- ---- derived edges

module _ (p : Edge → Bool) where
  those-at : (pre l : List Edge) → those p l ≡ map (edge_at (pre ++ l)) (numbers_from (length pre) p l)
  those-at pre [] = refl
  those-at pre (e ∷ l) =
      let s : (pre ++ (e ∷ [])) ++ l ≡ pre ++ (e ∷ l) = append_assoc pre (e ∷ []) l in
      let n : length (pre ++ (e ∷ [])) ≡ length pre + 1 = length-append pre (e ∷ []) in
      go (p e) (those-at (pre ++ (e ∷ [])) l ∙ (λ i. map (edge_at (s i)) (numbers_from (n i) p l)))
    where
      rest : List ℕ
      rest = numbers_from (length pre + 1) p l

      go : (b : Bool) → those p l ≡ map (edge_at (pre ++ (e ∷ l))) rest → pick b (e ∷ those p l) (those p l) ≡ map (edge_at (pre ++ (e ∷ l))) (pick b (length pre ∷ rest) rest)
      go true q = let x = sym (get_or-append_seam pre e l (edge_at [] 0)) in λ i. x i ∷ q i
      go false q = q

  below_all : (i : ℕ) (l : List Edge) (o : ℕ) → i + length l ≤ o → those (λ j. ltb j o) (numbers_from i p l) ≡ numbers_from i p l
  below_all i [] o h = refl
  below_all i (e ∷ l) o h = go (p e) (below_all (i + 1) l o (omega arith))
    where
      go : (b : Bool) → those (λ j. ltb j o) (numbers_from (i + 1) p l) ≡ numbers_from (i + 1) p l → those (λ j. ltb j o) (pick b (i ∷ numbers_from (i + 1) p l) (numbers_from (i + 1) p l)) ≡ pick b (i ∷ numbers_from (i + 1) p l) (numbers_from (i + 1) p l)
      go true q = rw (lt-ltb i o (omega arith)) (ap (λ (z : List ℕ). i ∷ z) q)
      go false q = q

  below_none : (i : ℕ) (l : List Edge) (o : ℕ) → o ≤ i → those (λ j. ltb j o) (numbers_from i p l) ≡ []
  below_none i [] o h = refl
  below_none i (e ∷ l) o h = go (p e) (below_none (i + 1) l o (omega arith))
    where
      go : (b : Bool) → those (λ j. ltb j o) (numbers_from (i + 1) p l) ≡ [] → those (λ j. ltb j o) (pick b (i ∷ numbers_from (i + 1) p l) (numbers_from (i + 1) p l)) ≡ []
      go true q = rw (le-ltb i o h) q
      go false q = q

pub each_map : {A B C : Type 0} (f : B → List C) (g : A → B) (l : List A) → each f (map g l) ≡ each (λ a. f (g a)) l
each_map f g [] = refl
each_map f g (a ∷ l) = ap (λ x. f (g a) ++ x) (each_map f g l)

-- the first o edges of a state are its chain's below o
own-leaving : (es : List Edge) (o s : ℕ) → o ≤ length es → leaving (take o es) s ≡ map (edge_at es) (those (λ j. ltb j o) (chain es s))
own-leaving es o s h =
    let l : length (take o es) ≡ o = length-take-le o es h in
    let t : take o es ++ drop o es ≡ es = take-append-drop o es in
    let c : those (λ j. ltb j o) (chain es s) ≡ chain (take o es) s =
    ap (λ (z : List Edge). those (λ j. ltb j o) (chain z s)) (sym t)
    ∙ ap (those (λ j. ltb j o)) (numbers-append (λ e. eqb e.source s) 0 (take o es) (drop o es))
    ∙ those-append (λ j. ltb j o) (numbers_from 0 (λ e. eqb e.source s) (take o es)) (numbers_from (0 + length (take o es)) (λ e. eqb e.source s) (drop o es))
    ∙ (λ i. below_all (λ e. eqb e.source s) 0 (take o es) o (omega (arith, l)) i ++ below_none (λ e. eqb e.source s) (0 + length (take o es)) (drop o es) o (omega (arith, l)) i)
    ∙ append-nil (numbers_from 0 (λ e. eqb e.source s) (take o es)) in
    those-at (λ e. eqb e.source s) [] (take o es) ∙ same_edges (chain (take o es) s) (inside-own 0 (take o es)) ∙ ap (map (edge_at es)) (sym c)
  where
    Below : List ℕ → Type 0
    Below l = Every (λ j. j < o) l

    same_edges : (l : List ℕ) → Below l → map (edge_at (take o es)) l ≡ map (edge_at es) l
    same_edges [] b = refl
    same_edges (j ∷ l) b = let x = get_or-take o es j (edge_at [] 0) b.0 in let y = same_edges l b.1 in λ i. x i ∷ y i

    inside_from : (i : ℕ) (l : List Edge) → i + length l ≤ o → Below (numbers_from i (λ e. eqb e.source s) l)
    inside_from i [] k = tt
    inside_from i (e ∷ l) k = go (eqb e.source s) (inside_from (i + 1) l (omega arith))
      where
        go : (b : Bool) → Below (numbers_from (i + 1) (λ e. eqb e.source s) l) → Below (pick b (i ∷ numbers_from (i + 1) (λ e. eqb e.source s) l) (numbers_from (i + 1) (λ e. eqb e.source s) l))
        go true q = (omega arith, q)
        go false q = q

    inside-own : (i : ℕ) (l : List Edge) → Below (chain (take o es) s)
    inside-own i l = inside_from 0 (take o es) (omega (arith, length-take-le o es h))

-- by state, and along its chain as far as the first o edges go
pub derived-along : (ss : List State) (k : ℕ) (es : List Edge) (o : ℕ) → o ≤ length es
    → derived ss k (take o es) ≡ each (λ s. each (λ i. returns ss k (edge_at es i)) (those (λ j. ltb j o) (chain es s))) (numbers (λ s. true) ss)
unfolding derived
derived-along ss k es o h =
    ap (λ (f : ℕ → List Edge). each f (numbers (λ s. true) ss))
    (λ i s. (ap (each (returns ss k)) (own-leaving es o s h) ∙ each_map (returns ss k) (edge_at es) (those (λ j. ltb j o) (chain es s))) i)
