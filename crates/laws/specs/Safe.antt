-- Chains of at most as many reasons as there are states decide which states are safe; and so what the mark 2 means.
use Rattle.std.specs.Prelude.{◌≡◌, refl, Bool, ◌&&◌, List, [], ◌∷◌, ◌⊎◌, ◌↔◌, eqb, ℤ, pos, length, get_or}
use Rattle.std.proofs.Common.{sym, ap, ◌∙◌, subst, inl, inr, arith}
use Rattle.std.proofs.Math.Bool.{true, false}
use Rattle.std.proofs.Math.Logic.{⊎_elim}
use Prim.Native.Nat.{ℕ, zero, suc, ◌+◌, ◌-◌, ◌≤◌, ◌<◌}
use borrow.Author.Tests.{ltb-true, eqb-true, eq-eqb}
use Rattle.format.specs.Reading.{pick}
use Rattle.format.specs.Sections.{State, Edge, edge_of, size}
use Rattle.format.specs.Links.{every, leaving, state_at, stop_of, stops, passable, target_of, Safe, stop, step, safe, tail}
use Rattle.laws.specs.Order.{order}

last : (s n : ℕ) → s ≤ n → (s < n) ⊎ (n ≡ s)
last s n h = ⊎_elim (λ x. inl x) (λ x. inr (omega arith)) (order (suc s) n)

falsely : {A : Type 0} → true ≡ false → A
falsely e = absurd (let z : ◌≡◌ {A = ℕ} 0 1 = cc in omega arith)

pub and_true : (a b : Bool) → (a && b) ≡ true → (a ≡ true) × (b ≡ true)
and_true true b e = (refl, e)
and_true false b e = falsely (sym e)

if_true : (a b : Bool) → pick a b false ≡ true → (a ≡ true) × (b ≡ true)
if_true true b e = (refl, e)
if_true false b e = falsely (sym e)

true_if : (a b : Bool) → a ≡ true → b ≡ true → pick a b false ≡ true
true_if true b p q = q
true_if false b p q = p

or_true : (a b : Bool) → pick a true b ≡ true → (a ≡ true) ⊎ (b ≡ true)
or_true true b e = inl refl
or_true false b e = inr e

true_or : (a b : Bool) → b ≡ true → pick a true b ≡ true
true_or true b e = refl
true_or false b e = e

pub every_true : {A : Type 0} (p : A → Bool) (d : A) (l : List A) → every p l ≡ true → (i : ℕ) → i < length l → p (get_or l i d) ≡ true
every_true p d [] e i h = absurd (omega arith)
every_true p d (x ∷ l) e zero h = (if_true (p x) (every p l) e).0
every_true p d (x ∷ l) e (suc i) h = every_true p d l (if_true (p x) (every p l) e).1 i (omega arith)

pub true_every : {A : Type 0} (p : A → Bool) (d : A) (l : List A) → ((i : ℕ) → i < length l → p (get_or l i d) ≡ true) → every p l ≡ true
true_every p d [] f = refl
true_every p d (x ∷ l) f = true_if (p x) (every p l) (f 0 (omega arith)) (true_every p d l (λ i h. f (suc i) (omega arith)))

abbrev nothing : Edge
nothing = edge_of 0 0 0 (pos 0) (pos 0) (pos 0)

-- ---- how many numbers below n pass a test

abbrev one : Bool → ℕ
one true = 1
one false = 0

abbrev tally : (ℕ → Bool) → ℕ → ℕ
tally p zero = 0
tally p (suc n) = one (p n) + tally p n

abbrev Below : (ℕ → Bool) → (ℕ → Bool) → ℕ → Type 0
Below p q n = (s : ℕ) → s < n → p s ≡ true → q s ≡ true

one_le : (a b : Bool) → (a ≡ true → b ≡ true) → one a ≤ one b
one_le true b f = rw (f refl) (omega arith)
one_le false b f = omega arith

tally_le : (p q : ℕ → Bool) (n : ℕ) → Below p q n → tally p n ≤ tally q n
tally_le p q zero f = omega arith
tally_le p q (suc n) f = omega (arith, one_le (p n) (q n) (f n (omega arith)), tally_le p q n (λ s h. f s (omega arith)))

tally_top : (p : ℕ → Bool) (n : ℕ) → tally p n ≤ n
tally_top p zero = omega arith
tally_top p (suc n) = omega (arith, tally_top p n, top (p n))
  where
    top : (b : Bool) → one b ≤ 1
    top true = omega arith
    top false = omega arith

tally-all : (p : ℕ → Bool) (n : ℕ) → n ≤ tally p n → (s : ℕ) → s < n → p s ≡ true
tally-all p zero h s k = absurd (omega arith)
tally-all p (suc n) h s k = go (p n) refl (tally-all p n)
  where
    go : (b : Bool) → p n ≡ b → (n ≤ tally p n → (s : ℕ) → s < n → p s ≡ true) → p s ≡ true
    go true e ih = ⊎_elim (λ x. ih (omega (arith, ap one e)) s x) (λ x. subst (λ (m : ℕ). p m ≡ true) x e) (last s n (omega arith))
    go false e ih = absurd (omega (arith, ap one e, tally_top p n))

tally-more : (p q : ℕ → Bool) (n : ℕ) → Below p q n → Below q p n ⊎ (tally p n < tally q n)
tally-more p q zero f = inl (λ s h. absurd (omega arith))
tally-more p q (suc n) f = go (p n) (q n) refl refl (tally-more p q n (λ s h. f s (omega arith)))
  where
    le : tally p n ≤ tally q n
    le = tally_le p q n (λ s h. f s (omega arith))

    here : (b : Bool) → q n ≡ b → p n ≡ b → Below q p n → Below q p (suc n)
    here b eq ep ih s h e = ⊎_elim (λ x. ih s x e) (λ x. subst (λ (m : ℕ). p m ≡ true) x (ep ∙ sym eq ∙ subst (λ (m : ℕ). q m ≡ true) (sym x) e)) (last s n (omega arith))

    go : (a b : Bool) → p n ≡ a → q n ≡ b → Below q p n ⊎ (tally p n < tally q n) → Below q p (suc n) ⊎ (tally p (suc n) < tally q (suc n))
    go true true ep eq (inl ih) = inl (here true eq ep ih)
    go false false ep eq (inl ih) = inl (here false eq ep ih)
    go false true ep eq ih = inr (omega (arith, le, ap one ep, ap one eq))
    go true false ep eq ih = falsely (sym (f n (omega arith) ep) ∙ eq)
    go true true ep eq (inr ih) = inr (omega (arith, ap one ep, ap one eq))
    go false false ep eq (inr ih) = inr (omega (arith, ap one ep, ap one eq))

-- ---- safety by computation

module _ (ss : List State) (es : List Edge) (R : ℤ) (Z : ℕ) where
  abbrev On : ℕ → Edge → Bool
  On f e = safe ss es R Z f e.target

  sound : (f s : ℕ) → safe ss es R Z f s ≡ true → Safe ss es R Z s
  unfolding safe
  sound zero s e = stop (eqb-true s Z e)
  sound (suc f) s e = ⊎_elim (λ x. stop (eqb-true s Z x)) (λ x. go (sound f) x) (or_true (eqb s Z) _ e)
    where
      go : ((t : ℕ) → safe ss es R Z f t ≡ true → Safe ss es R Z t) → pick (passable ss es R s) (every (On f) (leaving es s)) false ≡ true → Safe ss es R Z s
      go ih x =
          let y = if_true (passable ss es R s) _ x in
          step y.0 (λ i h. ih (target_of es s i) (every_true (On f) nothing (leaving es s) y.1 i h))

  stop_true : (f s : ℕ) → s ≡ Z → safe ss es R Z f s ≡ true
  unfolding safe
  stop_true zero s e = eq-eqb s Z e
  stop_true (suc f) s e = rw (eq-eqb s Z e)

  step_true : (f s : ℕ) → passable ss es R s ≡ true → ((i : ℕ) → i < length (leaving es s) → safe ss es R Z f (target_of es s i) ≡ true) → safe ss es R Z (suc f) s ≡ true
  unfolding safe
  step_true f s p h = true_or (eqb s Z) _ (true_if (passable ss es R s) _ p (true_every (On f) nothing (leaving es s) h))

  longer : (f s : ℕ) → safe ss es R Z f s ≡ true → safe ss es R Z (suc f) s ≡ true
  unfolding safe
  longer zero s e = rw e
  longer (suc f) s e = ⊎_elim (λ x. rw x) (λ x. go (longer f) x) (or_true (eqb s Z) _ e)
    where
      go : ((t : ℕ) → safe ss es R Z f t ≡ true → safe ss es R Z (suc f) t ≡ true) → pick (passable ss es R s) (every (On f) (leaving es s)) false ≡ true → safe ss es R Z (suc (suc f)) s ≡ true
      go ih x =
          let y = if_true (passable ss es R s) _ x in
          step_true (suc f) s y.0 (λ i h. ih (target_of es s i) (every_true (On f) nothing (leaving es s) y.1 i h))

  -- nothing is gained by the next length
  abbrev Fixed : ℕ → Type 0
  Fixed f = Below (safe ss es R Z (suc f)) (safe ss es R Z f) (length ss)

  listed : (s : ℕ) → passable ss es R s ≡ true → s < length ss
  listed s p = ltb-true s (length ss) (and_true _ _ (and_true _ _ (and_true _ _ (and_true _ _ p).0).0).0).0

  complete_at : (f : ℕ) → Fixed f → {s : ℕ} → Safe ss es R Z s → safe ss es R Z f s ≡ true
  complete_at f x {s} (stop e) = stop_true f s e
  complete_at f x {s} (step p h) = x s (listed s p) (step_true f s p (λ i k. complete_at f x (h i k)))

  much_longer : (f d s : ℕ) → safe ss es R Z f s ≡ true → safe ss es R Z (f + d) s ≡ true
  much_longer f zero s e = subst (λ (n : ℕ). safe ss es R Z n s ≡ true) (omega arith) e
  much_longer f (suc d) s e = subst (λ (n : ℕ). safe ss es R Z n s ≡ true) (omega arith) (longer (f + d) s (much_longer f d s e))

  -- at length k it is fixed at some length up to k, or k states are safe
  grows : (k : ℕ) → ((f : ℕ) × ((f ≤ k) × Fixed f)) ⊎ (k ≤ tally (safe ss es R Z k) (length ss))
  grows zero = inr (omega arith)
  grows (suc k) = go (grows k)
    where
      go : ((f : ℕ) × ((f ≤ k) × Fixed f)) ⊎ (k ≤ tally (safe ss es R Z k) (length ss)) → ((f : ℕ) × ((f ≤ suc k) × Fixed f)) ⊎ (suc k ≤ tally (safe ss es R Z (suc k)) (length ss))
      go (inl x) = inl (x.0, (omega (arith, x.1.0), x.1.1))
      go (inr x) = ⊎_elim (λ y. inl (k, (omega arith, y))) (λ y. inr (omega arith)) (tally-more (safe ss es R Z k) (safe ss es R Z (suc k)) (length ss) (λ s h e. longer k s e))

  fixed : (f : ℕ) × ((f ≤ length ss) × Fixed f)
  fixed = ⊎_elim (λ x. x) (λ x. (length ss, (omega arith, λ s h e. tally-all (safe ss es R Z (length ss)) (length ss) x s h))) (grows (length ss))

  -- chains as long as there are states decide safety
  pub safe_decided : (s : ℕ) → safe ss es R Z (length ss) s ≡ true ↔ Safe ss es R Z s
  safe_decided s = (sound (length ss) s, λ x. subst (λ (n : ℕ). safe ss es R Z n s ≡ true) (to_count fixed.0 fixed.1.0) (much_longer fixed.0 (length ss - fixed.0) s (complete_at fixed.0 fixed.1.1 x)))
    where
      to_count : (f : ℕ) → f ≤ length ss → f + (length ss - f) ≡ length ss
      to_count f h = omega arith

-- what document 01 calls a tail call: a rule edge from a state with rule R, R and its stop Z exist, and the follow state is safe
pub record TailCall (ss : List State) (n : ℕ) (es : List Edge) (e : Edge) : Type 0 where
  pub rule-edge : e.kind ≡ 3
  pub exist : stops ss n (state_at ss e.source).rule ≡ true
  pub safely : Safe ss es (state_at ss e.source).rule (size (stop_of ss (state_at ss e.source).rule)) (size e.q)

-- the mark is 2 exactly if it is one
pub tail_call : (ss : List State) (n : ℕ) (es : List Edge) (e : Edge) → tail ss n es e ≡ true ↔ TailCall ss n es e
unfolding tail
tail_call ss n es e = (to, fro)
  where
    R : ℤ
    R = (state_at ss e.source).rule

    Z : ℕ
    Z = size (stop_of ss R)

    to : pick (eqb e.kind 3 && stops ss n R) (safe ss es R Z (length ss) (size e.q)) false ≡ true → TailCall ss n es e
    to t =
        let a = if_true (eqb e.kind 3 && stops ss n R) _ t in
        let b = and_true (eqb e.kind 3) (stops ss n R) a.0 in
        record { rule-edge = eqb-true e.kind 3 b.0; exist = b.1; safely = (safe_decided ss es R Z (size e.q)).0 a.1 }

    fro : TailCall ss n es e → pick (eqb e.kind 3 && stops ss n R) (safe ss es R Z (length ss) (size e.q)) false ≡ true
    fro t = true_if (eqb e.kind 3 && stops ss n R) _ (rw (eq-eqb e.kind 3 t.rule-edge) t.exist) ((safe_decided ss es R Z (size e.q)).1 t.safely)
