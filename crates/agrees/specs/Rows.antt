-- Records of one width, laid in a row with zeros behind them: one word read, one word stored, one record more.
use Rattle.std.specs.Prelude.{◌≡◌, List, [], ◌∷◌, ◌++◌, ℕ, zero, suc, ◌+◌, ◌-◌, ◌*◌, ◌≤◌, ◌<◌, ℤ, pos, length, get_or, set, take, drop}
use Rattle.std.proofs.Common.{sym, ap, ◌∙◌, append_assoc, append-nil, arith, zero-add, length-append, take_at, drop_at}
use Rattle.std.proofs.lemmas.List.{replicate-append-replicate, length-replicate, set-append_left}
use Rattle.format.specs.Links.{flat}
use Rattle.format.specs.Tables.{numbered, zeros}
use Rattle.laws.specs.Gives.{Every}
use Rattle.laws.specs.Collect.{put}
use Rattle.agrees.specs.Forms.{padded}
use Rattle.laws.specs.Rows as laws
use Rattle.laws.specs.Rows.{Wide, numbered_long, numbered-every, one_on, first_of, numbered-same, flat_long, numbered-at, rows_long}

-- ---- numbered records

numbered_more : {A B : Type 0} (i : ℕ) (f : ℕ → A → B) (l : List A) (a : A) → numbered i f (l ++ (a ∷ [])) ≡ numbered i f l ++ (f (i + length l) a ∷ [])
numbered_more i f [] a = ap (λ (n : ℕ). f n a ∷ []) (omega arith)
numbered_more {B} i f (x ∷ l) a =
    let e : i + 1 + length l ≡ i + suc (length l) = omega arith in
    ap (λ (m : List B). f i x ∷ m) (numbered_more (i + 1) f l a ∙ ap (λ (n : ℕ). numbered (i + 1) f l ++ (f n a ∷ [])) e)

-- one member more
pub rows_more : {A B : Type 0} (f : ℕ → A → B) (l : List A) (a : A) → numbered 0 f (l ++ (a ∷ [])) ≡ numbered 0 f l ++ (f (length l) a ∷ [])
rows_more f l a = rw zero-add at (numbered_more 0 f l a)

set-numbered : {A B : Type 0} (d : A) (b : ℕ) (f g : ℕ → A → B) (l : List A) (i : ℕ) (r : B)
    → i < length l → ((j : ℕ) → j < length l → (j ≡ i → ⊥) → f (b + j) (get_or l j d) ≡ g (b + j) (get_or l j d)) → r ≡ g (b + i) (get_or l i d)
    → set (numbered b f l) i r ≡ numbered b g l
set-numbered d b f g [] i r h o e = absurd (omega arith)
set-numbered d b f g (a ∷ l) zero r h o e =
    let head = first_of (λ n x. r ≡ g n x) b a e in
    let rest = numbered-same d (b + 1) f g l (λ j k. one_on (λ n x. f n x ≡ g n x) b j (get_or l j d) (o (suc j) (omega arith) (λ q. omega arith))) in
    cc
set-numbered d b f g (a ∷ l) (suc i) r h o e =
    let head = first_of (λ n x. f n x ≡ g n x) b a (o 0 (omega arith) (λ q. omega arith)) in
    let rest =
    set-numbered d (b + 1) f g l i r (omega arith)
    (λ j k n. one_on (λ n x. f n x ≡ g n x) b j (get_or l j d) (o (suc j) (omega arith) (λ q. n (omega arith))))
    (one_on (λ n x. r ≡ g n x) b i (get_or l i d) e) in
    cc

-- ---- words of records, in a row

set-behind : (xs ys : List ℤ) (n : ℕ) (v : ℤ) → set (xs ++ ys) (length xs + n) v ≡ xs ++ set ys n v
set-behind [] ys n v = ap (λ (m : ℕ). set ys m v) (omega arith)
set-behind (x ∷ xs) ys n v =
    let e : suc (length xs) + n ≡ suc (length xs + n) = omega arith in
    rw e (ap (λ (l : List ℤ). x ∷ l) (set-behind xs ys n v))

set-flat : (w : ℕ) (rs : List (List ℤ)) (zs : List ℤ) (i k : ℕ) (v : ℤ) → Every (Wide w) rs → i < length rs → k < w
    → set (flat rs ++ zs) (w * i + k) v ≡ flat (set rs i (set (get_or rs i []) k v)) ++ zs
set-flat w [] zs i k v h l m = absurd (omega arith)
set-flat w (r ∷ rs) zs zero k v h l m =
    let e : w * 0 + k ≡ k = omega arith in
    ap (λ (n : ℕ). set ((r ++ flat rs) ++ zs) n v) e
    ∙ set-append_left (r ++ flat rs) zs k v (omega (arith, h.0, length-append r (flat rs)))
    ∙ ap (λ (x : List ℤ). x ++ zs) (set-append_left r (flat rs) k v (omega (arith, h.0)))
set-flat w (r ∷ rs) zs (suc i) k v h l m =
    let e : w * suc i + k ≡ length r + (w * i + k) = omega (arith, h.0) in
    ap (λ (n : ℕ). set ((r ++ flat rs) ++ zs) n v) e
    ∙ ap (λ (x : List ℤ). set x (length r + (w * i + k)) v) (append_assoc r (flat rs) zs)
    ∙ set-behind r (flat rs ++ zs) (w * i + k) v
    ∙ ap (λ (x : List ℤ). r ++ x) (set-flat w rs zs i k v h.1 (omega arith) m)
    ∙ sym (append_assoc r (flat (set rs i (set (get_or rs i []) k v))) zs)

pub flat-more : {A : Type 0} (rs : List (List A)) (r : List A) → flat (rs ++ (r ∷ [])) ≡ flat rs ++ r
flat-more [] r = append-nil r
flat-more (x ∷ rs) r = ap (λ y. x ++ y) (flat-more rs r) ∙ sym (append_assoc x (flat rs) r)

pub drop-zeros : (k n : ℕ) → k ≤ n → drop k (zeros n) ≡ zeros (n - k)
drop-zeros k n h =
    let e : n ≡ k + (n - k) = omega arith in
    ap (λ (m : ℕ). drop k (zeros m)) e
    ∙ ap (λ (x : List ℤ). drop k x) (sym (replicate-append-replicate k (n - k) (pos 0)))
    ∙ drop_at (zeros k) (zeros (n - k)) k (length-replicate k (pos 0))

-- a record more, right behind the others
pub put-more : (w n : ℕ) (rs : List (List ℤ)) (r : List ℤ) → Every (Wide w) rs → length r ≡ w → w * length rs + w ≤ n
    → put w (length rs) r (padded n rs) ≡ padded n (rs ++ (r ∷ []))
put-more w n rs r h e b =
    let long : length (flat rs) ≡ w * length rs = flat_long w rs h in
    let more : flat (rs ++ (r ∷ [])) ≡ flat rs ++ r = flat-more rs r in
    let zs : List ℤ = zeros (n - length (flat (rs ++ (r ∷ [])))) in
    let end : n - length (flat rs) ≡ w + (n - length (flat (rs ++ (r ∷ [])))) = omega (arith, ap length more, length-append (flat rs) r) in
    let tail : padded n rs ≡ (flat rs ++ zeros w) ++ zs =
    ap (λ (m : ℕ). flat rs ++ zeros m) end
    ∙ ap (λ (x : List ℤ). flat rs ++ x) (sym (replicate-append-replicate w (n - length (flat (rs ++ (r ∷ [])))) (pos 0)))
    ∙ sym (append_assoc (flat rs) (zeros w) zs) in
    let front : take (w * length rs) (padded n rs) ≡ flat rs = take_at (flat rs) (zeros (n - length (flat rs))) (w * length rs) long in
    let back : drop (w * length rs + w) (padded n rs) ≡ zs =
    ap (λ (x : List ℤ). drop (w * length rs + w) x) tail
    ∙ drop_at (flat rs ++ zeros w) zs (w * length rs + w) (length-append (flat rs) (zeros w) ∙ omega (arith, length-replicate w (pos 0))) in
    ap (λ (x : List ℤ). x ++ (r ++ drop (w * length rs + w) (padded n rs))) front
    ∙ ap (λ (x : List ℤ). flat rs ++ (r ++ x)) back
    ∙ sym (append_assoc (flat rs) r zs)
    ∙ ap (λ (x : List ℤ). x ++ zs) (sym more)

-- ---- words of numbered records, with zeros behind them

-- Reading word k of record i; d is any other member.
pub row_word : {A : Type 0} (w n : ℕ) (f : ℕ → A → List ℤ) (l : List A) (d : A) → ((j : ℕ) (a : A) → length (f j a) ≡ w) → (i k : ℕ) → i < length l → k < w
    → get_or (padded n (numbered 0 f l)) (w * i + k) (pos 0) ≡ get_or (f i (get_or l i d)) k (pos 0)
row_word w n f l d wide i k h m = laws.row_word w f wide l (zeros (n - length (flat (numbered 0 f l)))) d i k h m

-- Storing word k of record i: the rows g differ from the rows f in that word alone.
-- Only of the members that there are (d is any other member) it must be so.
pub set-row : {A : Type 0} (w n : ℕ) (f g : ℕ → A → List ℤ) (l : List A) (d : A) → ((j : ℕ) (a : A) → length (f j a) ≡ w) → ((j : ℕ) (a : A) → length (g j a) ≡ w)
    → (i k : ℕ) (v : ℤ) → i < length l → k < w
    → ((j : ℕ) → j < length l → (j ≡ i → ⊥) → f j (get_or l j d) ≡ g j (get_or l j d)) → set (f i (get_or l i d)) k v ≡ g i (get_or l i d)
    → set (padded n (numbered 0 f l)) (w * i + k) v ≡ padded n (numbered 0 g l)
set-row w n f g l d wf wg i k v h m o e =
    let row : get_or (numbered 0 f l) i [] ≡ f i (get_or l i d) = rw zero-add at (numbered-at 0 f l i d [] h) in
    let long : length (flat (numbered 0 f l)) ≡ length (flat (numbered 0 g l)) = rows_long w f wf l ∙ sym (rows_long w g wg l) in
    set-flat w (numbered 0 f l) (zeros (n - length (flat (numbered 0 f l)))) i k v (numbered-every (Wide w) 0 f l wf) (omega (arith, numbered_long 0 f l)) m
    ∙ ap (λ (x : List (List ℤ)). flat x ++ zeros (n - length (flat (numbered 0 f l))))
    (ap (λ (x : List ℤ). set (numbered 0 f l) i (set x k v)) row ∙ set-numbered d 0 f g l i (set (f i (get_or l i d)) k v) h (λ j q z. rw zero-add (o j q z)) (rw zero-add e))
    ∙ ap (λ (x : ℕ). flat (numbered 0 g l) ++ zeros (n - x)) long
