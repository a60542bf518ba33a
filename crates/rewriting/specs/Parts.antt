-- What is readable is read from its words, part by part.
use Rattle.std.specs.Prelude.{◌≡◌, Bool, ◌&&◌, ltb, leb, eqb, ℤ, pos, negsuc, take}
use Rattle.std.proofs.Math.Path.{refl}
use Rattle.std.proofs.Common.{sym, ap, ◌∙◌, subst, lt-ltb, le-leb, leb-true}
use mathlib.Core.List.{List, [], ◌∷◌, ◌++◌, append-nil, append_assoc}
use Rattle.std.proofs.Math.Bool.{true, false}
use Prim.Native.Nat.{ℕ, zero, suc, ◌+◌, ◌≤◌}
use native.Mathlib.Omega.{arith}
use Rattle.std.proofs.Math.ListN.{length, get_or, length-append}
use Rattle.format.specs.declared.Spot.{Spot}
use Rattle.format.specs.Reading.{Table, Ranges, done, word, ◌>>=◌, spot, times, known, get, index, pick}
use Rattle.std.proofs.Math.Seq.{take-nil}
use Rattle.format.specs.Sets.{Range, key, add, add_any, keep_onto, keep}
use Rattle.format.specs.Sections.{State, Rule, state_of, none, or_none, follows, linked, following, state, named, rule, interval, flagged, set, sets_from}
use Rattle.format.specs.Links.{each, flat}
use Rattle.format.specs.Tables.{range_words, state_word}
use Rattle.format.specs.Writing.{link, state_form, rule_form, set_form}
use Rattle.laws.specs.Canonical.{From}
use Rattle.laws.specs.Gives.{Every}
use Rattle.rewriting.specs.Formed.{natural, absent, or_absent, unlinked, state_read, kept}
use Rattle.rewriting.specs.Tests.{lie, left, right, absent_none, absent_or}
use Rattle.rewriting.specs.Takes.{Takes, takes_bind, takes_done, takes_map, takes_times}

-- ---- states

state_is : {k : ℕ} {a b c x y z : ℤ} → a ≡ x → b ≡ y → c ≡ z → state_of k a b c ≡ state_of k x y z
state_is {k} p q r = λ i. state_of k (p i) (q i) (r i)

-- ---- kept ranges are kept as they are

pub kept_from : (b : ℕ) (l : List Range) → kept b l ≡ true → From b l
kept_from b [] e = tt
kept_from b (x ∷ l) e =
    let rest = kept (key x.stop + 2) l in
    let h = left (leb b (key x.start) && leb (key x.start) (key x.stop)) rest e in (
      leb-true b (key x.start) (left (leb b (key x.start)) (leb (key x.start) (key x.stop)) h),
      (leb-true (key x.start) (key x.stop) (right (leb b (key x.start)) (leb (key x.start) (key x.stop)) h), kept_from (key x.stop + 2) l (right (leb b (key x.start) && leb (key x.start) (key x.stop)) rest e)),
    )

reach : (b : ℕ) (l m : List Range) (x : Range) → From b (l ++ (x ∷ m)) → (b ≤ key x.start) × (key x.start ≤ key x.stop)
reach b [] m x f = (f.0, f.1.0)
reach b (y ∷ l) m x f = let r = reach (key y.stop + 2) l m x f.1.1 in (omega (arith, f.0, f.1.0, r.0), r.1)

-- a range behind all others is added at the end
add_end : (b : ℕ) (l m : List Range) (x : Range) → From b (l ++ (x ∷ m)) → add x.start x.stop l ≡ l ++ (x ∷ [])
unfolding add
add_end b [] m x f = refl
add_end b (y ∷ l) m x f =
    rw (lt-ltb (key y.stop + 1) (key x.start) (omega (arith, (reach (key y.stop + 2) l m x f.1.1).0)))
    (ap (λ (z : List Range). y ∷ z) (add_end (key y.stop + 2) l m x f.1.1))

onto-kept : (l m : List Range) → From 0 (l ++ m) → keep_onto l m ≡ l ++ m
unfolding keep_onto
onto-kept l [] f = sym (append-nil l)
onto-kept l (x ∷ m) f =
    let o : leb (key x.start) (key x.stop) ≡ true = le-leb (key x.start) (key x.stop) (reach 0 l m x f).1 in
    let s : (l ++ (x ∷ [])) ++ m ≡ l ++ (x ∷ m) = append_assoc l (x ∷ []) m in
    let one : add_any x l ≡ l ++ (x ∷ []) = rw o (add_end 0 l m x f) in
    ap (λ (z : List Range). keep_onto z m) one ∙ onto-kept (l ++ (x ∷ [])) m (subst (λ (z : List Range). From 0 z) (sym s) f) ∙ s

pub keep-kept : (l : List Range) → kept 0 l ≡ true → keep l ≡ l
keep-kept l e = onto-kept [] l (kept_from 0 l e)

module _ (room : Table → ℕ) where
  linked_takes : (i : ℕ) (t : Bool) (k : ℕ) (v w e b : ℤ) → v ≡ w → absent (pick t e b) ≡ true → natural (pick t b e) ≡ true
      → Takes room (pick t (index (spot 7 i) >>= (λ b. done (state_of k v none (pos b)))) (index (spot 8 i) >>= (λ e. done (state_of k v (pos e) none)))) (pick t b e ∷ []) (state_of k w e b)
  unfolding Takes ◌>>=◌ index
  linked_takes i true k v w e (pos b) q h n = λ p. (refl, state_is q (absent_none e h) refl)
  linked_takes i true k v w e (negsuc b) q h n = lie n
  linked_takes i false k v w (pos e) b q h n = λ p. (refl, state_is q refl (absent_none b h))
  linked_takes i false k v w (negsuc e) b q h n = lie n

  unlinked_takes : (t : Bool) (k : ℕ) (v w e b : ℤ) → v ≡ w → absent (pick t e b) ≡ true → absent (pick t b e) ≡ true → state_of k v none none ≡ state_of k w e b
  unlinked_takes true k v w e b q h n = state_is q (absent_none e h) (absent_none b n)
  unlinked_takes false k v w e b q h n = state_is q (absent_none e n) (absent_none b h)

  following_takes : (i n : ℕ) (x : State) → absent (unlinked x) ≡ true
      → get_or ((absent x.rule && absent (link x)) ∷ (or_absent x.rule && absent (link x)) ∷ []) n (or_absent x.rule && natural (link x)) ≡ true
      → Takes room (following i n x.kind) (take n (x.rule ∷ link x ∷ [])) x
  unfolding Takes ◌>>=◌ following get linked
  following_takes i zero x u h =
      (refl, unlinked_takes (eqb x.kind 12) x.kind none x.rule x.end x.back (absent_none x.rule (left (absent x.rule) (absent (link x)) h)) u (right (absent x.rule) (absent (link x)) h))
  following_takes i (suc zero) x u h = λ p.
      (refl, unlinked_takes (eqb x.kind 12) x.kind (or_none x.rule) x.rule x.end x.back (absent_or x.rule (left (or_absent x.rule) (absent (link x)) h)) u (right (or_absent x.rule) (absent (link x)) h))
  following_takes i (suc (suc n)) x u h = λ p. rw (take-nil {A = ℤ} n)
      (linked_takes i (eqb x.kind 12) x.kind (or_none x.rule) x.rule x.end x.back (absent_or x.rule (left (or_absent x.rule) (natural (link x)) h)) u (right (or_absent x.rule) (natural (link x)) h))

  type_takes : (i k : ℕ) → leb k 12 ≡ true → Takes room (word (spot 5 i) (known 6 0 12 (spot 5 i))) (pos k ∷ []) k
  unfolding Takes
  type_takes i k e = λ p. rw (le-leb 0 k (omega arith), e) (refl, refl)

  pub state_takes : (x : State) → state_read x ≡ true → (i : ℕ) → Takes room (state i) (state_form x) x
  unfolding state
  state_takes x h i =
      let table = get_or ((absent x.rule && absent (link x)) ∷ (or_absent x.rule && absent (link x)) ∷ []) (get_or follows x.kind 0) (or_absent x.rule && natural (link x)) in
      let a = left (leb x.kind 12 && absent (unlinked x)) table h in
      takes_bind room (word (spot 5 i) (known 6 0 12 (spot 5 i))) (λ k. following i (get_or follows k 0) k) (pos x.kind ∷ []) (take (get_or follows x.kind 0) (x.rule ∷ link x ∷ [])) x.kind x
      (type_takes i x.kind (left (leb x.kind 12) (absent (unlinked x)) a))
      (following_takes i (get_or follows x.kind 0) x (right (leb x.kind 12) (absent (unlinked x)) a) (right (leb x.kind 12 && absent (unlinked x)) table h))

  -- ---- flags, rules, modes, decisions

  pub named_takes : (n : ℕ) (f : Spot) (s : ℕ) → ltb s n ≡ true → Takes room (named n f) (state_word s) s
  unfolding Takes ◌>>=◌ named
  named_takes n f s h = λ p. rw h (refl, refl)

  pub index_takes : (f : Spot) (s : ℕ) → Takes room (index f) (state_word s) s
  unfolding Takes index
  index_takes f s = λ p. (refl, refl)

  pub rule_takes : (x : Rule) (i : ℕ) → Takes room (rule i) (rule_form x) x
  unfolding Takes ◌>>=◌ rule index get
  rule_takes x i = λ p q. (refl, refl)

  -- ---- sets

  interval_takes : (i : ℕ) (x : Range) → Takes room (interval i) (range_words x) x
  unfolding Takes ◌>>=◌ interval get
  interval_takes i x = λ p q. (refl, refl)

  flagged_takes : (i k n : ℕ) → k + n ≤ room Ranges → Takes room (flagged i k n) (pos 0 ∷ []) false
  unfolding Takes flagged
  flagged_takes i k n h = λ p. (omega arith, (refl, refl))

  pub set_takes : (i k : ℕ) (l : List Range) → kept 0 l ≡ true → k + length l ≤ room Ranges → Takes room (set i k) (set_form l) l
  unfolding set
  set_takes i k l c h =
      takes_bind room (index (spot 19 i)) _ (pos (length l) ∷ []) (pos 0 ∷ each range_words l) (length l) l (index_takes (spot 19 i) (length l))
      (takes_bind room (flagged i k (length l)) _ (pos 0 ∷ []) (each range_words l) false l (flagged_takes i k (length l) h)
      (subst (λ (m : List Range). Takes room (times (length l) 0 (λ j. interval i) >>= (λ x. done (keep x))) (each range_words l) m) (keep-kept l c)
      (takes_map room (times (length l) 0 (λ j. interval i)) (λ x. keep x) (each range_words l) l (takes_times room (λ j. interval i) range_words 0 l (all l)))))
    where
      all : (m : List Range) → Every (λ x. (j : ℕ) → Takes room (interval i) (range_words x) x) m
      all [] = tt
      all (x ∷ m) = (λ j. interval_takes i x, all m)

  pub sets-take : (i k : ℕ) (ls : List (List Range)) → Every (λ l. kept 0 l ≡ true) ls → k + length (flat ls) ≤ room Ranges → Takes room (sets_from (length ls) i k) (each set_form ls) ls
  unfolding sets_from
  sets-take i k [] c h = takes_done room []
  sets-take i k (l ∷ ls) c h =
      takes_bind room (set i k) _ (set_form l) (each set_form ls) l (l ∷ ls) (set_takes i k l c.0 (omega (arith, length-append l (flat ls))))
      (takes_map room (sets_from (length ls) (i + 1) (k + length l)) (λ m. l ∷ m) (each set_form ls) ls (sets-take (i + 1) (k + length l) ls c.1 (omega (arith, length-append l (flat ls)))))
