-- Records of one width, laid in a row: how many words, and one of them.
use Rattle.std.specs.Prelude.{◌≡◌, refl, List, [], ◌∷◌, ◌++◌, ℕ, zero, suc, ◌+◌, ◌*◌, ◌<◌, ℤ, pos, length, get_or}
use Rattle.std.proofs.Common.{sym, ap, ◌∙◌, subst, append_assoc, arith, mul-suc, mul-zero, zero-add, length-append, get_or-append-add}
use Rattle.std.proofs.Math.ListN.{get_or-append}
use Rattle.format.specs.Links.{each, flat}
use Rattle.format.specs.Tables.{numbered}
use Rattle.laws.specs.Gives.{Every}

abbrev pub Wide : ℕ → List ℤ → Type 0
Wide w r = length r ≡ w

-- ---- numbered records

pub numbered_long : {A B : Type 0} (i : ℕ) (f : ℕ → A → B) (l : List A) → length (numbered i f l) ≡ length l
numbered_long i f [] = refl
numbered_long i f (a ∷ l) = ap suc (numbered_long (i + 1) f l)

pub numbered-every : {A B : Type 0} (P : B → Type 0) (i : ℕ) (f : ℕ → A → B) (l : List A) → ((j : ℕ) (a : A) → P (f j a)) → Every P (numbered i f l)
numbered-every P i f [] h = tt
numbered-every P i f (a ∷ l) h = (h i a, numbered-every P (i + 1) f l h)

pub numbered-at : {A B : Type 0} (i : ℕ) (f : ℕ → A → B) (l : List A) (j : ℕ) (a : A) (b : B) → j < length l → get_or (numbered i f l) j b ≡ f (i + j) (get_or l j a)
numbered-at i f [] j a b h = absurd (omega arith)
numbered-at i f (x ∷ l) zero a b h = ap (λ (n : ℕ). f n x) (omega arith)
numbered-at i f (x ∷ l) (suc j) a b h = numbered-at (i + 1) f l j a b (omega arith) ∙ ap (λ (n : ℕ). f n (get_or l j a)) (omega arith)

pub one_on : {A : Type 0} (P : ℕ → A → Type 0) (i j : ℕ) (a : A) → P (i + suc j) a → P (i + 1 + j) a
one_on P i j a h = let e : i + suc j ≡ i + 1 + j = omega arith in subst (λ (n : ℕ). P n a) e h

pub first_of : {A : Type 0} (P : ℕ → A → Type 0) (i : ℕ) (a : A) → P (i + 0) a → P i a
first_of P i a h = let e : i + 0 ≡ i = omega arith in subst (λ (n : ℕ). P n a) e h

-- the same records, of the members that there are
pub numbered-same : {A B : Type 0} (d : A) (i : ℕ) (f g : ℕ → A → B) (l : List A) → ((j : ℕ) → j < length l → f (i + j) (get_or l j d) ≡ g (i + j) (get_or l j d)) → numbered i f l ≡ numbered i g l
numbered-same d i f g [] h = refl
numbered-same d i f g (a ∷ l) h =
    let head = first_of (λ n x. f n x ≡ g n x) i a (h 0 (omega arith)) in
    let rest = numbered-same d (i + 1) f g l (λ j k. one_on (λ n x. f n x ≡ g n x) i j (get_or l j d) (h (suc j) (omega arith))) in
    cc

pub rows_same : {A B : Type 0} (d : A) (f g : ℕ → A → B) (l : List A) → ((j : ℕ) → j < length l → f j (get_or l j d) ≡ g j (get_or l j d)) → numbered 0 f l ≡ numbered 0 g l
rows_same d f g l h = numbered-same d 0 f g l (λ j k. rw zero-add (h j k))

pub flat_list : {A B : Type 0} (i : ℕ) (f : A → List B) (l : List A) → flat (numbered i (λ j a. f a) l) ≡ each f l
flat_list i f [] = refl
flat_list i f (a ∷ l) = ap (λ x. f a ++ x) (flat_list (i + 1) f l)

-- ---- in a row

pub flat_long : (w : ℕ) (rs : List (List ℤ)) → Every (Wide w) rs → length (flat rs) ≡ w * length rs
flat_long w [] h = sym (mul-zero w)
flat_long w (r ∷ rs) h = length-append r (flat rs) ∙ ap (λ (n : ℕ). n + length (flat rs)) h.0 ∙ omega (arith, flat_long w rs h.1, mul-suc w (length rs))

-- word k of record i
pub flat-at : (w : ℕ) (rs : List (List ℤ)) (zs : List ℤ) (i k : ℕ) → Every (Wide w) rs → i < length rs → k < w → get_or (flat rs ++ zs) (w * i + k) (pos 0) ≡ get_or (get_or rs i []) k (pos 0)
flat-at w [] zs i k h l m = absurd (omega arith)
flat-at w (r ∷ rs) zs zero k h l m =
    let e : w * 0 + k ≡ k = omega (arith, mul-zero w) in
    ap (λ (n : ℕ). get_or ((r ++ flat rs) ++ zs) n (pos 0)) e
    ∙ get_or-append (r ++ flat rs) zs (pos 0) k (omega (arith, h.0, length-append r (flat rs)))
    ∙ get_or-append r (flat rs) (pos 0) k (omega (arith, h.0))
flat-at w (r ∷ rs) zs (suc i) k h l m =
    let e : w * suc i + k ≡ length r + (w * i + k) = omega (arith, mul-suc w i, h.0) in
    ap (λ (n : ℕ). get_or ((r ++ flat rs) ++ zs) n (pos 0)) e
    ∙ ap (λ (x : List ℤ). get_or x (length r + (w * i + k)) (pos 0)) (append_assoc r (flat rs) zs)
    ∙ get_or-append-add r (flat rs ++ zs) (w * i + k) (pos 0)
    ∙ flat-at w rs zs i k h.1 (omega arith) m

module _ {A : Type 0} (w : ℕ) (f : ℕ → A → List ℤ) (wide : (i : ℕ) (a : A) → length (f i a) ≡ w) where
  pub rows_long : (l : List A) → length (flat (numbered 0 f l)) ≡ w * length l
  rows_long l = flat_long w (numbered 0 f l) (numbered-every (Wide w) 0 f l wide) ∙ ap (λ (n : ℕ). w * n) (numbered_long 0 f l)

  pub row_word : (l : List A) (zs : List ℤ) (d : A) (i k : ℕ) → i < length l → k < w → get_or (flat (numbered 0 f l) ++ zs) (w * i + k) (pos 0) ≡ get_or (f i (get_or l i d)) k (pos 0)
  row_word l zs d i k h b =
      flat-at w (numbered 0 f l) zs i k (numbered-every (Wide w) 0 f l wide) (omega (arith, numbered_long 0 f l)) b
      ∙ ap (λ (r : List ℤ). get_or r k (pos 0)) (rw zero-add at (numbered-at 0 f l i d [] h))
