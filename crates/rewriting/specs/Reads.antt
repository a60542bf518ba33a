-- What is read is readable, part by part.
use Rattle.std.specs.Prelude.{◌≡◌, Bool, ◌&&◌, eqb, ℤ, pos, negsuc, get_or}
use Rattle.std.proofs.Math.Path.{refl}
use Rattle.std.proofs.Common.{sym, ap, ◌∙◌, subst, le-leb}
use mathlib.Core.List.{List, [], ◌∷◌, ◌++◌}
use Rattle.std.proofs.Math.Bool.{true, false}
use Prim.Native.Nat.{ℕ, zero, suc, ◌+◌}
use Rattle.std.proofs.Math.Dec.{ltb, leb}
use Rattle.std.proofs.Math.ListN.{length}
use Rattle.format.specs.declared.Spot.{Spot}
use Rattle.format.specs.Reading.{Table, Prog, done, word, ◌>>=◌, spot, times, known, get, index, pick, fail, natural as naturally, listed as tested}
use Rattle.format.specs.Sets.{Range, key, keep}
use Rattle.format.specs.Sections.{State, state_of, none, or_none, follows, eof, linked, following, state, named, flags, interval, flagged, set, sets_from}
use Rattle.format.specs.Links.{every}
use Rattle.laws.specs.Canonical.{From}
use Rattle.laws.specs.Kept.{keep_canonical}
use Rattle.laws.specs.Gives.{Gives, Every, gives_bind, gives_done, gives_times, then, weaker}
use Rattle.rewriting.specs.Formed.{natural, absent, or_absent, unlinked, state_read, kept}
use Rattle.rewriting.specs.Tests.{both, left, right, or_absent_lem, all-every}

abbrev W : ℤ → Type 0
W v = Unit {0}

pub from_kept : (b : ℕ) (l : List Range) → From b l → kept b l ≡ true
from_kept b [] f = refl
from_kept b (x ∷ l) f = both (both (le-leb b (key x.start) f.0) (le-leb (key x.start) (key x.stop) f.1.0)) (from_kept (key x.stop + 2) l f.1.1)

module _ (room : Table → ℕ) where
  -- every member of a list that was read in turns
  pub every_gives : {A : Type 0} (p : A → Bool) (n : ℕ) (q : ℕ → Prog A) → ((i : ℕ) → Gives W room (λ a. p a ≡ true) (q i)) → Gives W room (λ l. every p l ≡ true) (times n 0 q)
  every_gives {A} p n q g =
      weaker W room (λ l. (length l ≡ n) × Every (λ a. p a ≡ true) l) (λ l. every p l ≡ true) (λ l x. all-every p l x.1) (times n 0 q) (gives_times W room (λ a. p a ≡ true) n 0 q g)

  -- ---- states

  -- by the number n of words that follow, and whether the type is 12
  record Follows (n : ℕ) (t : Bool) (k : ℕ) (x : State) : Type 0 where
    kind : x.kind ≡ k
    rest : (absent (pick t x.end x.back) && get_or ((absent x.rule && absent (pick t x.back x.end)) ∷ (or_absent x.rule && absent (pick t x.back x.end)) ∷ []) n (or_absent x.rule && natural (pick t x.back x.end))) ≡ true

  no_link : (t : Bool) → absent (pick t none none) ≡ true
  no_link true = refl
  no_link false = refl

  linked_gives : (i n : ℕ) (t : Bool) (k : ℕ) (v : ℤ) → or_absent v ≡ true → Gives W room (Follows (suc (suc n)) t k) (pick t (index (spot 7 i) >>= (λ b. done (state_of k v none (pos b)))) (index (spot 8 i) >>= (λ e. done (state_of k v (pos e) none))))
  unfolding Gives ◌>>=◌ index
  linked_gives i n true k v h = λ p w u. go p w
    where
      go : (p : ℕ) (w : ℤ) → Gives W room (Follows (suc (suc n)) true k) (naturally (spot 7 i) p w >>= (λ b. done (state_of k v none (pos b))))
      go p (pos b) = record { kind = refl; rest = both h refl }
      go p (negsuc b) = tt
  linked_gives i n false k v h = λ p w u. go p w
    where
      go : (p : ℕ) (w : ℤ) → Gives W room (Follows (suc (suc n)) false k) (naturally (spot 8 i) p w >>= (λ e. done (state_of k v (pos e) none)))
      go p (pos b) = record { kind = refl; rest = both h refl }
      go p (negsuc b) = tt

  following_gives : (i n k : ℕ) → Gives W room (Follows n (eqb k 12) k) (following i n k)
  unfolding Gives ◌>>=◌ following get linked
  following_gives i zero k = record { kind = refl; rest = both (no_link (eqb k 12)) (no_link (eqb k 12)) }
  following_gives i (suc zero) k = λ p v u. record { kind = refl; rest = both (no_link (eqb k 12)) (both (or_absent_lem v) (no_link (eqb k 12))) }
  following_gives i (suc (suc n)) k = λ p v u. linked_gives i n (eqb k 12) k (or_none v) (or_absent_lem v)

  type_gives : (i : ℕ) → Gives W room (λ k. leb k 12 ≡ true) (word (spot 5 i) (known 6 0 12 (spot 5 i)))
  unfolding Gives
  type_gives i = λ p v u. go p v
    where
      go : (p : ℕ) (v : ℤ) → Gives W room (λ k. leb k 12 ≡ true) (known 6 0 12 (spot 5 i) p v)
      go p (pos k) = go2 (leb 0 k) (leb k 12) refl
        where
          go2 : (x y : Bool) → leb k 12 ≡ y → Gives W room (λ j. leb j 12 ≡ true) (pick (x && y) (done k) (fail 6 (spot 5 i) p (pos k)))
          go2 true true e = e
          go2 true false e = tt
          go2 false y e = tt
      go p (negsuc k) = tt

  state-read : (k : ℕ) (x : State) → leb k 12 ≡ true → Follows (get_or follows k 0) (eqb k 12) k x → state_read x ≡ true
  state-read k x h f =
      let a : leb x.kind 12 ≡ true = ap (λ (j : ℕ). leb j 12) f.kind ∙ h in
      let g = subst (λ (j : ℕ). (absent (pick (eqb j 12) x.end x.back) && get_or ((absent x.rule && absent (pick (eqb j 12) x.back x.end)) ∷ (or_absent x.rule && absent (pick (eqb j 12) x.back x.end)) ∷ []) (get_or follows j 0) (or_absent x.rule && natural (pick (eqb j 12) x.back x.end))) ≡ true) (sym f.kind) f.rest in
      both (both a (left (absent (unlinked x)) _ g)) (right (absent (unlinked x)) _ g)

  pub state_gives : (i : ℕ) → Gives W room (λ x. state_read x ≡ true) (state i)
  unfolding state
  state_gives i =
      gives_bind W room (λ k. leb k 12 ≡ true) (λ x. state_read x ≡ true) (word (spot 5 i) (known 6 0 12 (spot 5 i))) _ (type_gives i)
      (λ k h. weaker W room (Follows (get_or follows k 0) (eqb k 12) k) (λ x. state_read x ≡ true) (λ x f. state-read k x h f) (following i (get_or follows k 0) k) (following_gives i (get_or follows k 0) k))

  -- ---- flags

  pub named_gives : (n : ℕ) (f : Spot) → Gives W room (λ s. ltb s n ≡ true) (named n f)
  unfolding Gives ◌>>=◌ named
  named_gives n f = λ p v u. go p v
    where
      go : (p : ℕ) (v : ℤ) → Gives W room (λ s. ltb s n ≡ true) (naturally f p v >>= tested 7 n f p)
      go p (pos s) = go2 (ltb s n) refl
        where
          go2 : (x : Bool) → ltb s n ≡ x → Gives W room (λ s. ltb s n ≡ true) (pick x (done s) (fail 7 f p (pos s)))
          go2 true e = e
          go2 false e = tt
      go p (negsuc s) = tt

  pub flags_give : (n f : ℕ) → Gives W room (λ l. every (λ s. ltb s n) l ≡ true) (flags n f)
  unfolding flags
  flags_give n f = then W room (λ l. every (λ s. ltb s n) l ≡ true) (index (spot f 0)) _ (λ k. every_gives (λ s. ltb s n) k (λ i. named n (spot (f + 1) i)) (λ i. named_gives n (spot (f + 1) i)))

  -- ---- sets

  abbrev Kept : List Range → Type 0
  Kept l = kept 0 l ≡ true

  set_gives : (i k : ℕ) → Gives W room Kept (set i k)
  unfolding set
  set_gives i k =
      then W room Kept (index (spot 19 i)) _ (λ n. then W room Kept (flagged i k n) _ (λ b. then W room Kept (times n 0 (λ j. interval i)) _ (λ l.
      gives_done W room Kept (keep (eof b ++ l)) (from_kept 0 (keep (eof b ++ l)) (keep_canonical (eof b ++ l))))))

  pub sets_give : (n i k : ℕ) → Gives W room (λ ls. every (kept 0) ls ≡ true) (sets_from n i k)
  unfolding sets_from
  sets_give zero i k = gives_done W room (λ ls. every (kept 0) ls ≡ true) [] refl
  sets_give (suc n) i k =
      gives_bind W room Kept (λ ls. every (kept 0) ls ≡ true) (set i k) _ (set_gives i k) (λ s x.
      gives_bind W room (λ ls. every (kept 0) ls ≡ true) (λ ls. every (kept 0) ls ≡ true) (sets_from n (i + 1) (k + length s)) _ (sets_give n (i + 1) (k + length s)) (λ l y.
      gives_done W room (λ ls. every (kept 0) ls ≡ true) (s ∷ l) (rw x y)))
