-- An answer's values, handed over in a lent list of words: values and zeros in its first 16, a shorter one gets what fits, the rest stays.
use Rattle.std.specs.Prelude.{◌≡◌, refl, List, [], ◌∷◌, ◌++◌, ℕ, zero, suc, min, ◌+◌, ◌-◌, ◌≤◌, ◌<◌, ◌^◌, ℤ, pos, length, take, drop, set, Ok, Err}
use Rattle.std.proofs.Common.{sym, ap, ◌∙◌, arith, add-one}
use Rattle.std.proofs.lemmas.List.{length-take-le}
use Rattle.format.specs.Tables.{zeros}
use Rattle.format.specs.Answers.{Said}
use Rattle.format.specs.declared.Counts.{Counts}
use Rattle.format.specs.declared.Refusal.{Refusal}
use Rattle.format.specs.Results.{Decoded, SetPart, Written}

-- The values, and zeros up to the 16th.
abbrev pub padded16 : List ℤ → List ℤ
padded16 vs = vs ++ zeros (16 - length vs)

unfoldable pub handed : List ℤ → List ℤ → List ℤ
handed vs a = take (length a) (padded16 vs) ++ drop 16 a

-- What a function returns, and leaves in the lent answer a.
pub record Hands (s : Said) (r : ℕ) (a b : List ℤ) : Type 0 where
  pub told : r ≡ s.number
  pub left : b ≡ handed s.values a

-- no second result, and no other words in the answer, meet it
pub only : {s : Said} {r r' : ℕ} {a b b' : List ℤ} → Hands s r a b → Hands s r' a b' → (r ≡ r') × (b ≡ b')
only x y = (x.told ∙ sym y.told, x.left ∙ sym y.left)

-- ---- the same, word by word: the first n of a

abbrev pub laid : ℕ → List ℤ → List ℤ → List ℤ
laid zero vs a = a
laid (suc n) vs [] = []
laid (suc n) [] (x ∷ a) = pos 0 ∷ laid n [] a
laid (suc n) (v ∷ vs) (x ∷ a) = v ∷ laid n vs a

laid_is : (n : ℕ) (vs a : List ℤ) → length vs ≤ n → take (length a) (vs ++ zeros (n - length vs)) ++ drop n a ≡ laid n vs a
laid_is zero [] [] h = refl
laid_is zero [] (x ∷ a) h = refl
laid_is zero (v ∷ vs) a h = absurd (omega arith)
laid_is (suc n) [] [] h = refl
laid_is (suc n) [] (x ∷ a) h =
    let e : suc n - 0 ≡ suc (n - 0) = omega arith in
    rw e (ap (λ (l : List ℤ). pos 0 ∷ l) (laid_is n [] a (omega arith)))
laid_is (suc n) (v ∷ vs) [] h = refl
laid_is (suc n) (v ∷ vs) (x ∷ a) h =
    let e : suc n - suc (length vs) ≡ n - length vs = omega arith in
    rw e (ap (λ (l : List ℤ). v ∷ l) (laid_is n vs a (omega arith)))

pub handed-laid : (vs a : List ℤ) → length vs ≤ 16 → handed vs a ≡ laid 16 vs a
unfolding handed
handed-laid vs a h = laid_is 16 vs a h

-- the first are cleared, and then the values are put over them: g words are given, and c were cleared
pub laid_over : (n g c : ℕ) (vs a : List ℤ) → length vs ≤ n → g ≡ min (length a) (length vs) → c ≡ min (length a) n → take g vs ++ drop g (zeros c ++ drop c a) ≡ laid n vs a
laid_over zero zero zero [] a h x y = refl
laid_over zero (suc g) c [] a h x y = absurd (omega arith)
laid_over zero g (suc c) [] a h x y = absurd (omega arith)
laid_over zero g c (v ∷ vs) a h x y = absurd (omega arith)
laid_over (suc n) zero zero vs [] h x y = refl
laid_over (suc n) (suc g) c vs [] h x y = absurd (omega arith)
laid_over (suc n) g (suc c) vs [] h x y = absurd (omega arith)
laid_over (suc n) g zero vs (w ∷ a) h x y = absurd (omega arith)
laid_over (suc n) (suc g) c [] (w ∷ a) h x y = absurd (omega arith)
laid_over (suc n) zero (suc c) [] (w ∷ a) h x y = ap (λ (l : List ℤ). pos 0 ∷ l) (laid_over n zero c [] a (omega arith) (omega arith) (omega arith))
laid_over (suc n) zero c (v ∷ vs) (w ∷ a) h x y = absurd (omega arith)
laid_over (suc n) (suc g) (suc c) (v ∷ vs) (w ∷ a) h x y = ap (λ (l : List ℤ). v ∷ l) (laid_over n g c vs a (omega arith) (omega arith) (omega arith))

pub handed_over : (vs a : List ℤ) (g c : ℕ) → length vs ≤ 16 → g ≡ min (length a) (length vs) → c ≡ min (length a) 16 → take g vs ++ drop g (zeros (length (take c a)) ++ drop c a) ≡ handed vs a
handed_over vs a g c h x y =
    let e : length (take c a) ≡ c = length-take-le c a (omega arith) in
    rw e (laid_over 16 g c vs a h x y) ∙ sym (handed-laid vs a h)

-- one word more is cleared
laid-suc : (n : ℕ) (a : List ℤ) → set (laid n [] a) n (pos 0) ≡ laid (suc n) [] a
laid-suc zero [] = refl
laid-suc zero (x ∷ a) = refl
laid-suc (suc n) [] = refl
laid-suc (suc n) (x ∷ a) = ap (λ (l : List ℤ). pos 0 ∷ l) (laid-suc n a)

pub laid_more : (n : ℕ) (a : List ℤ) → set (laid n [] a) n (pos 0) ≡ laid (n + 1) [] a
laid_more n a = rw add-one (laid-suc n a)

-- one value more is handed over
laid-set : (n : ℕ) (vs a : List ℤ) (v : ℤ) → length vs < n → set (laid n vs a) (length vs) v ≡ laid n (vs ++ (v ∷ [])) a
laid-set zero vs a v h = absurd (omega arith)
laid-set (suc n) [] [] v h = refl
laid-set (suc n) (w ∷ vs) [] v h = refl
laid-set (suc n) [] (x ∷ a) v h = refl
laid-set (suc n) (w ∷ vs) (x ∷ a) v h = ap (λ (l : List ℤ). w ∷ l) (laid-set n vs a v (omega arith))

long_more : (vs : List ℤ) (v : ℤ) → length (vs ++ (v ∷ [])) ≡ suc (length vs)
long_more [] v = refl
long_more (w ∷ vs) v = ap suc (long_more vs v)

pub handed-more : (vs a : List ℤ) (v : ℤ) → length vs < 16 → set (handed vs a) (length vs) v ≡ handed (vs ++ (v ∷ [])) a
handed-more vs a v h =
    rw (handed-laid vs a (omega arith)) (laid-set 16 vs a v h) ∙ sym (handed-laid (vs ++ (v ∷ [])) a (omega (arith, long_more vs v)))

-- ---- sizes that a signed word holds

abbrev pub SmallPart : SetPart → Type 0
SmallPart (Ok (a, n)) = (a < 2 ^ 63) × (n < 2 ^ 63)
SmallPart (Err d) = Unit {0}

pub record SmallCounts (c : Counts) : Type 0 where
  pub words : c.words < 2 ^ 63
  pub states : c.states < 2 ^ 63
  pub edges : c.edges < 2 ^ 63
  pub derived : c.derived < 2 ^ 63
  pub ranges : c.ranges < 2 ^ 63
  pub sets : c.sets < 2 ^ 63
  pub rules : c.rules < 2 ^ 63
  pub modes : c.modes < 2 ^ 63
  pub decisions : c.decisions < 2 ^ 63
  pub actions : c.actions < 2 ^ 63

abbrev pub SmallRefusal : Refusal → Type 0
SmallRefusal q = (q.place < 2 ^ 63) × (q.«record» < 2 ^ 63)

abbrev pub Small : Decoded → Type 0
Small (Ok c) = SmallCounts c
Small (Err q) = SmallRefusal q

abbrev pub SmallWritten : Written → Type 0
SmallWritten (Ok n) = n < 2 ^ 63
SmallWritten (Err q) = SmallRefusal q

-- a word that is not there
pub set_beyond : (l : List ℤ) (i : ℕ) (v : ℤ) → length l ≤ i → l ≡ set l i v
set_beyond [] i v h = refl
set_beyond (x ∷ l) zero v h = absurd (omega arith)
set_beyond (x ∷ l) (suc i) v h = ap (λ (m : List ℤ). x ∷ m) (set_beyond l i v (omega arith))

-- ---- the answer keeps its length

laid-length : (n : ℕ) (vs a : List ℤ) → length (laid n vs a) ≡ length a
laid-length zero vs a = refl
laid-length (suc n) vs [] = refl
laid-length (suc n) [] (x ∷ a) = ap suc (laid-length n [] a)
laid-length (suc n) (v ∷ vs) (x ∷ a) = ap suc (laid-length n vs a)

pub handed-length : (vs a : List ℤ) → length vs ≤ 16 → length (handed vs a) ≡ length a
handed-length vs a h = ap (length {A = ℤ}) (handed-laid vs a h) ∙ laid-length 16 vs a
