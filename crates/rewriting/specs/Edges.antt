-- Edges and actions: the readable ones are read from their words, and what is read is readable.
use Rattle.std.specs.Prelude.{◌≡◌, Bool, ◌&&◌, ℕ, zero, suc, ◌+◌, ◌≤◌, ◌<◌, ℤ, pos, negsuc, length, get_or}
use Rattle.std.proofs.Math.Path.{refl}
use Rattle.std.proofs.Common.{sym, subst, arith}
use mathlib.Core.List.{List, [], ◌∷◌}
use Rattle.std.proofs.Math.Bool.{true, false}
use Rattle.std.proofs.Math.Dec.{ltb, leb}
use borrow.Author.Tests.{le-leb, leb-true}
use Rattle.format.specs.declared.Spot.{Spot}
use Rattle.format.specs.Reading.{Table, done, ◌>>=◌, spot, known, get, index, pick, fail, natural as naturally, listed as among·listed}
use Rattle.format.specs.Sections.{Edge, Action, test_a, test_b, edge, edge_of, meaning, action, action_of, among, raised, size}
use Rattle.format.specs.Links.{names}
use Rattle.format.specs.Tables.{action_words}
use Rattle.format.specs.Writing.{edge_form}
use Rattle.laws.specs.Own.{same_true}
use Rattle.laws.specs.Gives.{Gives, gives_bind, gives_done, then}
use Rattle.rewriting.specs.Formed.{natural, or_absent, nought, truth, edge_read, action_read}
use Rattle.rewriting.specs.Tests.{lie, both, left, right, either, natural-size, absent_or, or_absent_lem}
use Rattle.rewriting.specs.Takes.{Takes, takes_bind, takes_done}

-- ---- the tests of a and b, as tests

abbrev ok_a : ℕ → ℕ → ℤ → Bool
ok_a n k a = pick (among k (7 ∷ 8 ∷ [])) (names n a) (pick (among k (3 ∷ 4 ∷ 6 ∷ [])) (natural a) true)

abbrev ok_b : ℕ → ℤ → Bool
ok_b k b = pick (among k (3 ∷ 4 ∷ [])) (natural b) true

-- a case for each type
kinds : (P : ℕ → Type 0) → P 1 → P 2 → P 3 → P 4 → P 5 → P 6 → P 7 → P 8 → P 9 → P 10 → (k : ℕ) → 1 ≤ k → k ≤ 10 → P k
kinds P a b c d e f g h i j zero l u = absurd (omega arith)
kinds P a b c d e f g h i j (suc zero) l u = a
kinds P a b c d e f g h i j (suc (suc zero)) l u = b
kinds P a b c d e f g h i j (suc (suc (suc zero))) l u = c
kinds P a b c d e f g h i j (suc (suc (suc (suc zero)))) l u = d
kinds P a b c d e f g h i j (suc (suc (suc (suc (suc zero))))) l u = e
kinds P a b c d e f g h i j (suc (suc (suc (suc (suc (suc zero)))))) l u = f
kinds P a b c d e f g h i j (suc (suc (suc (suc (suc (suc (suc zero))))))) l u = g
kinds P a b c d e f g h i j (suc (suc (suc (suc (suc (suc (suc (suc zero)))))))) l u = h
kinds P a b c d e f g h i j (suc (suc (suc (suc (suc (suc (suc (suc (suc zero))))))))) l u = i
kinds P a b c d e f g h i j (suc (suc (suc (suc (suc (suc (suc (suc (suc (suc zero)))))))))) l u = j
kinds P a b c d e f g h i j (suc (suc (suc (suc (suc (suc (suc (suc (suc (suc (suc k))))))))))) l u = absurd (omega arith)

zero_is : (v : ℤ) → nought v ≡ true → pos 0 ≡ v
zero_is v e = sym (same_true v (pos 0) e)

truth_is : (v : ℤ) → truth v ≡ true → pos (pick (raised v) 1 0) ≡ v
truth_is v e =
    either (nought v) (Rattle.format.specs.Sections.same v (pos 1)) e
    (λ h. let q = same_true v (pos 0) h in rw q refl)
    (λ h. let q = same_true v (pos 1) h in rw q refl)

truth-truth : (c : ℤ) → truth (pos (pick (raised c) 1 0)) ≡ true
truth-truth c = go (raised c)
  where
    go : (b : Bool) → truth (pos (pick b 1 0)) ≡ true
    go true = refl
    go false = refl

edge_is : {k s t : ℕ} {a b c x y z : ℤ} → a ≡ x → b ≡ y → c ≡ z → edge_of k s t a b c ≡ edge_of k s t x y z
edge_is {k} {s} {t} p q r = λ i. edge_of k s t (p i) (q i) (r i)

below : (l : List Bool) (k : ℕ) → get_or l k false ≡ true → k < length l
below [] k h = lie h
below (b ∷ l) zero h = omega arith
below (b ∷ l) (suc k) h = omega (arith, below l k h)

-- ---- taken

module _ (room : Table → ℕ) (m n i : ℕ) where
  known_takes : (p k : ℕ) → 1 ≤ k → k ≤ 10 → Takes room (known 8 1 10 (spot 26 i) p (pos k)) [] k
  unfolding Takes
  known_takes p k l u = rw (le-leb 1 k l, le-leb k 10 u) (refl, refl)

  natural_takes : (f : Spot) (p : ℕ) (a : ℤ) → natural a ≡ true → Takes room (naturally f p a) [] (size a)
  unfolding Takes
  natural_takes f p (pos j) h = (refl, refl)
  natural_takes f p (negsuc j) h = lie h

  set_takes : (p : ℕ) (a : ℤ) → names n a ≡ true → Takes room (naturally (spot 27 i) p a >>= among·listed 9 n (spot 27 i) p) [] (size a)
  unfolding Takes ◌>>=◌
  set_takes p (pos j) h = rw h (refl, refl)
  set_takes p (negsuc j) h = lie h

  a_takes : (k p : ℕ) (a : ℤ) → ok_a n k a ≡ true → (x : ℕ) × Takes room (test_a i n k p a) [] x
  unfolding test_a
  a_takes k p a h = go (among k (7 ∷ 8 ∷ [])) (among k (3 ∷ 4 ∷ 6 ∷ [])) h
    where
      go : (u w : Bool) → pick u (names n a) (pick w (natural a) true) ≡ true → (x : ℕ) × Takes room (pick u (naturally (spot 27 i) p a >>= among·listed 9 n (spot 27 i) p) (pick w (naturally (spot 27 i) p a) (done 0))) [] x
      go true w h = (size a, set_takes p a h)
      go false true h = (size a, natural_takes (spot 27 i) p a h)
      go false false h = (0, takes_done room 0)

  b_takes : (k p : ℕ) (b : ℤ) → ok_b k b ≡ true → (x : ℕ) × Takes room (test_b i k p b) [] x
  unfolding test_b
  b_takes k p b h = go (among k (3 ∷ 4 ∷ [])) h
    where
      go : (w : Bool) → pick w (natural b) true ≡ true → (x : ℕ) × Takes room (pick w (naturally (spot 28 i) p b) (done 0)) [] x
      go true h = (size b, natural_takes (spot 28 i) p b h)
      go false h = (0, takes_done room 0)

  source_takes : (p s : ℕ) → ltb s m ≡ true → Takes room (among·listed 10 m (spot 24 i) p s) [] s
  unfolding Takes
  source_takes p s h = rw h (refl, refl)

  words_take : (k s t : ℕ) (a b c : ℤ) → 1 ≤ k → k ≤ 10 → ok_a n k a ≡ true → ok_b k b ≡ true → ltb s m ≡ true
      → Takes room (edge m n i) (pos s ∷ pos t ∷ pos k ∷ a ∷ b ∷ c ∷ []) (meaning k s t a b c)
  unfolding Takes edge ◌>>=◌ index get
  words_take k s t a b c l u ha hb hs = λ place p1 p2 p3 p4 p5 p6.
      takes_bind room (known 8 1 10 (spot 26 i) (place + 2) (pos k)) _ [] [] k (meaning k s t a b c) (known_takes (place + 2) k l u)
      (takes_bind room (test_a i n k (place + 3) a) _ [] [] (a_takes k (place + 3) a ha).0 (meaning k s t a b c) (a_takes k (place + 3) a ha).1
      (takes_bind room (test_b i k (place + 4) b) _ [] [] (b_takes k (place + 4) b hb).0 (meaning k s t a b c) (b_takes k (place + 4) b hb).1
      (takes_bind room (among·listed 10 m (spot 24 i) place s) _ [] [] s (meaning k s t a b c) (source_takes place s hs) (refl, refl))))

  -- by the type
  three : (p q r : Bool) → (p && q && r) ≡ true → (p ≡ true) × (q ≡ true) × (r ≡ true)
  three p q r h = let x = left (p && q) r h in (left p q x, right p q x, right (p && q) r h)

  abbrev kind_table : ℤ → ℤ → ℤ → List Bool
  kind_table p q r =
      (false ∷ (nought p && nought q && nought r) ∷ nought r ∷ (natural p && natural q) ∷ (natural p && natural q && truth r) ∷ (nought q && nought r) ∷ (natural p && or_absent q && truth r)
      ∷ (names n p && nought q && nought r) ∷ (names n p && nought q && nought r) ∷ (nought p && nought q && nought r) ∷ (nought q && nought r) ∷ [])

  abbrev kind_read : ℕ → ℤ → ℤ → ℤ → Bool
  kind_read k p q r = get_or (kind_table p q r) k false

  takes_kind : (k s t : ℕ) (p q r : ℤ) → ltb s m ≡ true → kind_read k p q r ≡ true → Takes room (edge m n i) (edge_form (edge_of k s t p q r)) (edge_of k s t p q r)
  takes_kind k s t p q r hs g =
      kinds (λ k. kind_read k p q r ≡ true → Takes room (edge m n i) (edge_form (edge_of k s t p q r)) (edge_of k s t p q r))
      (λ h.
      let x = three (nought p) (nought q) (nought r) h in
      subst (Takes room (edge m n i) _) (edge_is (zero_is p x.0) (zero_is q x.1) (zero_is r x.2)) (words_take 1 s t p q r (omega arith) (omega arith) refl refl hs))
      (λ h.
      let e = same_true r (pos 0) h in
      subst (λ (v : ℤ). Takes room (edge m n i) (edge_form (edge_of 2 s t p q v)) (edge_of 2 s t p q v)) (sym e) (words_take 2 s t p q (pos 0) (omega arith) (omega arith) refl refl hs))
      (λ h.
      let e = natural-size q (right (natural p) (natural q) h) in
      subst (λ (v : ℤ). Takes room (edge m n i) (edge_form (edge_of 3 s t p v r)) (edge_of 3 s t p v r)) e
      (words_take 3 s (size q) (pos t) p r (omega arith) (omega arith) refl (left (natural p) (natural q) h) hs))
      (λ h.
      let x = three (natural p) (natural q) (truth r) h in
      subst (Takes room (edge m n i) _) (edge_is refl refl (truth_is r x.2)) (words_take 4 s t p q r (omega arith) (omega arith) x.0 x.1 hs))
      (λ h.
      let e = same_true r (pos 0) (right (nought q) (nought r) h) in
      let f = zero_is q (left (nought q) (nought r) h) in
      subst (λ (v : ℤ). Takes room (edge m n i) (edge_form (edge_of 5 s t p q v)) (edge_of 5 s t p q v)) (sym e)
      (subst (Takes room (edge m n i) _) (edge_is refl f refl) (words_take 5 s t p q (pos 0) (omega arith) (omega arith) refl refl hs)))
      (λ h.
      let x = three (natural p) (or_absent q) (truth r) h in
      subst (Takes room (edge m n i) _) (edge_is refl (absent_or q x.1) (truth_is r x.2)) (words_take 6 s t p q r (omega arith) (omega arith) x.0 refl hs))
      (λ h.
      let x = three (names n p) (nought q) (nought r) h in
      subst (Takes room (edge m n i) _) (edge_is refl (zero_is q x.1) (zero_is r x.2)) (words_take 7 s t p q r (omega arith) (omega arith) x.0 refl hs))
      (λ h.
      let x = three (names n p) (nought q) (nought r) h in
      subst (Takes room (edge m n i) _) (edge_is refl (zero_is q x.1) (zero_is r x.2)) (words_take 8 s t p q r (omega arith) (omega arith) x.0 refl hs))
      (λ h.
      let x = three (nought p) (nought q) (nought r) h in
      subst (Takes room (edge m n i) _) (edge_is (zero_is p x.0) (zero_is q x.1) (zero_is r x.2)) (words_take 9 s t p q r (omega arith) (omega arith) refl refl hs))
      (λ h.
      subst (Takes room (edge m n i) _) (edge_is refl (zero_is q (left (nought q) (nought r) h)) (zero_is r (right (nought q) (nought r) h))) (words_take 10 s t p q r (omega arith) (omega arith) refl refl hs))
      k (within k g).0 (within k g).1 g
    where
      within : (k : ℕ) → kind_read k p q r ≡ true → (1 ≤ k) × (k ≤ 10)
      within zero h = lie h
      within (suc k) h = (omega arith, omega (arith, below (kind_table p q r) (suc k) h))

  pub edge_takes : (e : Edge) → edge_read m n e ≡ true → Takes room (edge m n i) (edge_form e) e
  edge_takes e h =
      let x = left (ltb e.source m) _ h in
      takes_kind e.kind e.source e.target e.p e.q e.r x (right (ltb e.source m) _ h)

  -- ---- given

  abbrev W : ℤ → Type 0
  W v = Unit {0}

  known_gives : (p : ℕ) (w : ℤ) → Gives W room (λ k. (1 ≤ k) × (k ≤ 10)) (known 8 1 10 (spot 26 i) p w)
  unfolding Gives
  known_gives p (pos k) = go (leb 1 k) (leb k 10) refl refl
    where
      go : (x y : Bool) → leb 1 k ≡ x → leb k 10 ≡ y → Gives W room (λ k. (1 ≤ k) × (k ≤ 10)) (pick (x && y) (done k) (fail 8 (spot 26 i) p (pos k)))
      go true true e f = (leb-true 1 k e, leb-true k 10 f)
      go true false e f = tt
      go false y e f = tt
  known_gives p (negsuc k) = tt

  natural_gives : (f : Spot) (p : ℕ) (a : ℤ) → Gives W room (λ j. natural a ≡ true) (naturally f p a)
  unfolding Gives
  natural_gives f p (pos j) = refl
  natural_gives f p (negsuc j) = tt

  set_gives : (p : ℕ) (a : ℤ) → Gives W room (λ j. names n a ≡ true) (naturally (spot 27 i) p a >>= among·listed 9 n (spot 27 i) p)
  unfolding Gives ◌>>=◌
  set_gives p (pos j) = go (ltb j n) refl
    where
      go : (x : Bool) → ltb j n ≡ x → Gives W room (λ y. ltb j n ≡ true) (pick x (done j) (fail 9 (spot 27 i) p (pos j)))
      go true e = e
      go false e = tt
  set_gives p (negsuc j) = tt

  a_gives : (k p : ℕ) (a : ℤ) → Gives W room (λ j. ok_a n k a ≡ true) (test_a i n k p a)
  unfolding test_a Gives
  a_gives k p a = go (among k (7 ∷ 8 ∷ [])) (among k (3 ∷ 4 ∷ 6 ∷ []))
    where
      go : (u w : Bool) → Gives W room (λ j. pick u (names n a) (pick w (natural a) true) ≡ true) (pick u (naturally (spot 27 i) p a >>= among·listed 9 n (spot 27 i) p) (pick w (naturally (spot 27 i) p a) (done 0)))
      go true w = set_gives p a
      go false true = natural_gives (spot 27 i) p a
      go false false = refl

  b_gives : (k p : ℕ) (b : ℤ) → Gives W room (λ j. ok_b k b ≡ true) (test_b i k p b)
  unfolding test_b Gives
  b_gives k p b = go (among k (3 ∷ 4 ∷ []))
    where
      go : (w : Bool) → Gives W room (λ j. pick w (natural b) true ≡ true) (pick w (naturally (spot 28 i) p b) (done 0))
      go true = natural_gives (spot 28 i) p b
      go false = refl

  source_gives : (p s : ℕ) → Gives W room (λ j. ltb s m ≡ true) (among·listed 10 m (spot 24 i) p s)
  unfolding Gives
  source_gives p s = go (ltb s m) refl
    where
      go : (x : Bool) → ltb s m ≡ x → Gives W room (λ j. ltb s m ≡ true) (pick x (done s) (fail 10 (spot 24 i) p (pos s)))
      go true e = e
      go false e = tt

  meant_read : (k s t : ℕ) (a b c : ℤ) → (1 ≤ k) × (k ≤ 10) → ok_a n k a ≡ true → ok_b k b ≡ true → ltb s m ≡ true → edge_read m n (meaning k s t a b c) ≡ true
  meant_read k s t a b c l ha hb hs =
      kinds (λ k. ok_a n k a ≡ true → ok_b k b ≡ true → edge_read m n (meaning k s t a b c) ≡ true)
      (λ x y. both hs refl)
      (λ x y. both hs refl)
      (λ x y. both hs (both y refl))
      (λ x y. both hs (both (both x y) (truth-truth c)))
      (λ x y. both hs refl)
      (λ x y. both hs (both (both x (or_absent_lem b)) (truth-truth c)))
      (λ x y. both hs (both (both x refl) refl))
      (λ x y. both hs (both (both x refl) refl))
      (λ x y. both hs refl)
      (λ x y. both hs refl)
      k l.0 l.1 ha hb

  abbrev Fine : Edge → Type 0
  Fine e = edge_read m n e ≡ true

  pub edge_gives : Gives W room Fine (edge m n i)
  unfolding edge Gives
  edge_gives = λ place.
      then W room Fine (index (spot 24 i)) _ (λ s. then W room Fine (index (spot 25 i)) _ (λ t. then W room Fine (get (spot 26 i)) _ (λ w.
      then W room Fine (get (spot 27 i)) _ (λ a. then W room Fine (get (spot 28 i)) _ (λ b. then W room Fine (get (spot 29 i)) _ (λ c.
      gives_bind W room (λ k. (1 ≤ k) × (k ≤ 10)) Fine (known 8 1 10 (spot 26 i) (place + 2) w) _ (known_gives (place + 2) w) (λ k h.
      gives_bind W room (λ j. ok_a n k a ≡ true) Fine (test_a i n k (place + 3) a) _ (a_gives k (place + 3) a) (λ x g.
      gives_bind W room (λ j. ok_b k b ≡ true) Fine (test_b i k (place + 4) b) _ (b_gives k (place + 4) b) (λ y o.
      gives_bind W room (λ j. ltb s m ≡ true) Fine (among·listed 10 m (spot 24 i) place s) _ (source_gives place s) (λ z l.
      gives_done W room Fine (meaning k s t a b c) (meant_read k s t a b c h g o l)))))))))))

-- ---- actions

eights : (P : ℕ → Type 0) → P 0 → P 1 → P 2 → P 3 → P 4 → P 5 → P 6 → P 7 → (k : ℕ) → k ≤ 7 → P k
eights P a b c d e f g h zero u = a
eights P a b c d e f g h (suc zero) u = b
eights P a b c d e f g h (suc (suc zero)) u = c
eights P a b c d e f g h (suc (suc (suc zero))) u = d
eights P a b c d e f g h (suc (suc (suc (suc zero)))) u = e
eights P a b c d e f g h (suc (suc (suc (suc (suc zero))))) u = f
eights P a b c d e f g h (suc (suc (suc (suc (suc (suc zero)))))) u = g
eights P a b c d e f g h (suc (suc (suc (suc (suc (suc (suc zero))))))) u = h
eights P a b c d e f g h (suc (suc (suc (suc (suc (suc (suc (suc k)))))))) u = absurd (omega arith)

abbrev act : ℕ → ℤ → ℤ → Action
act k a b = record { kind = k; d1 = a; d2 = b }

act_is : {k : ℕ} {a b x y : ℤ} → a ≡ x → b ≡ y → act k a b ≡ act k x y
act_is {k} p q = λ i. act k (p i) (q i)

-- a readable action keeps what it has
kept-act : (k : ℕ) (a b : ℤ) → k ≤ 7 → action_read (act k a b) ≡ true → action_of k a b ≡ act k a b
kept-act k a b u =
    eights (λ k. action_read (act k a b) ≡ true → action_of k a b ≡ act k a b)
    (λ h. act_is refl (zero_is b h))
    (λ h. refl)
    (λ h. act_is refl (zero_is b h))
    (λ h. act_is (zero_is a (left (nought a) (nought b) h)) (zero_is b (right (nought a) (nought b) h)))
    (λ h. act_is (zero_is a (left (nought a) (nought b) h)) (zero_is b (right (nought a) (nought b) h)))
    (λ h. act_is refl (zero_is b h))
    (λ h. act_is (zero_is a (left (nought a) (nought b) h)) (zero_is b (right (nought a) (nought b) h)))
    (λ h. act_is refl (zero_is b h))
    k u

act-read : (k : ℕ) (a b : ℤ) → k ≤ 7 → action_read (action_of k a b) ≡ true
act-read k a b u = eights (λ k. action_read (action_of k a b) ≡ true) refl refl refl refl refl refl refl refl k u

abbrev act_table : ℤ → ℤ → List Bool
act_table a b = nought b ∷ true ∷ nought b ∷ (nought a && nought b) ∷ (nought a && nought b) ∷ nought b ∷ (nought a && nought b) ∷ nought b ∷ []

module _ (room : Table → ℕ) (i : ℕ) where
  act-known : (p k : ℕ) → k ≤ 7 → Takes room (known 11 0 7 (spot 33 i) p (pos k)) [] k
  unfolding Takes
  act-known p k u = rw (le-leb 0 k (omega arith), le-leb k 7 u) (refl, refl)

  pub action_takes : (x : Action) → action_read x ≡ true → Takes room (action i) (action_words x) x
  unfolding Takes action ◌>>=◌ get
  action_takes x h =
      let u : x.kind ≤ 7 = omega (arith, below (act_table x.d1 x.d2) x.kind h) in
      λ place p1 p2 p3. takes_bind room (known 11 0 7 (spot 33 i) place (pos x.kind)) _ [] [] x.kind x (act-known place x.kind u) (refl, kept-act x.kind x.d1 x.d2 u h)

  known-act : (p : ℕ) (w : ℤ) → Gives (λ v. Unit {0}) room (λ k. k ≤ 7) (known 11 0 7 (spot 33 i) p w)
  unfolding Gives
  known-act p (pos k) = go (leb 0 k) (leb k 7) refl
    where
      go : (x y : Bool) → leb k 7 ≡ y → Gives (λ v. Unit {0}) room (λ k. k ≤ 7) (pick (x && y) (done k) (fail 11 (spot 33 i) p (pos k)))
      go true true f = leb-true k 7 f
      go true false f = tt
      go false y f = tt
  known-act p (negsuc k) = tt

  abbrev Kept : Action → Type 0
  Kept x = action_read x ≡ true

  pub action_gives : Gives (λ v. Unit {0}) room Kept (action i)
  unfolding action Gives
  action_gives = λ place.
      then (λ v. Unit {0}) room Kept (get (spot 33 i)) _ (λ w. then (λ v. Unit {0}) room Kept (get (spot 34 i)) _ (λ d1. then (λ v. Unit {0}) room Kept (get (spot 35 i)) _ (λ d2.
      gives_bind (λ v. Unit {0}) room (λ k. k ≤ 7) Kept (known 11 0 7 (spot 33 i) place w) _ (known-act place w) (λ k u.
      gives_done (λ v. Unit {0}) room Kept (action_of k d1 d2) (act-read k d1 d2 u)))))
