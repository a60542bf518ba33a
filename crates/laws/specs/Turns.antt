-- Of a list of records that is refused one record is, behind those that were read; and k records have at least k words.
use Rattle.std.specs.Prelude.{◌≡◌, ℤ, pos, get_or}
use Rattle.std.proofs.Math.Path.{refl, sym, ap}
use Rattle.std.proofs.Common.{◌∙◌, length-append}
use mathlib.Core.List.{List, [], ◌∷◌}
use Rattle.std.proofs.Math.Logic.{⊎_elim}
use Prim.Native.Nat.{ℕ, zero, suc, ◌+◌, ◌≤◌, ◌<◌}
use native.Mathlib.Omega.{arith}
use Rattle.std.proofs.Math.ListN.{length}
use Rattle.format.specs.declared.Refusal.{Refusal}
use Rattle.format.specs.declared.Spot.{Spot}
use Rattle.format.specs.Reading.{Table, Outcome, ok, no, Prog, done, word, here, run, ◌>>=◌, times, spot, get, index}
use Rattle.format.specs.Sets.{Range}
use Rattle.format.specs.Sections.{state, named, rule, set, sets_from, edge, action}
use Rattle.format.specs.Links.{flat}
use Rattle.laws.specs.Kinds.{Kind, a-state, a-non-greedy, a-precedence, a-rule, a-mode, a-set, an_edge, a-decision, an-action, next, first}
use Rattle.laws.specs.Reading.{clash, forward, word_ok, word_no}
use Rattle.laws.specs.Order.{order}
use Rattle.laws.specs.Running.{ok_then, no_then}
use Rattle.laws.specs.Walk.{Split, in_first, in_second, split}

-- ---- a list that is refused: one of its records is, behind those that were read

-- Of a list of n records the k-th is refused: q reads so many from the first, and p the k-th behind them.
pub record Turn {A : Type 0} (q : ℕ → Prog (List A)) (p : ℕ → List A → Prog A) (ws : List ℤ) (room : Table → ℕ) (at n k : ℕ) (r : Refusal) : Type 0 where
  pub below : k < n
  pub before : List A
  pub place : ℕ
  pub read : run (q k) ws room at ≡ ok before place
  pub refused : run (p k before) ws room place ≡ no r

-- `times` and `sets_from` are loops: each turn goes by its number and by what s is, which each result moves on.
pub record Loop {A S : Type 0} (p : ℕ → S → Prog A) (f : S → A → S) (q : ℕ → ℕ → S → Prog (List A)) : Type 0 where
  pub none : (i : ℕ) (s : S) → q zero i s ≡ done []
  pub more : (n i : ℕ) (s : S) → q (suc n) i s ≡ (p i s >>= (λ a. q n (i + 1) (f s a) >>= (λ l. done (a ∷ l))))

abbrev moved : {A S : Type 0} → (S → A → S) → S → List A → S
moved f s [] = s
moved f s (a ∷ l) = moved f (f s a) l

module _ {A S : Type 0} (p : ℕ → S → Prog A) (f : S → A → S) (q : ℕ → ℕ → S → Prog (List A)) (loop : Loop p f q) (ws : List ℤ) (room : Table → ℕ) where
  abbrev rest : ℕ → ℕ → S → A → Prog (List A)
  rest n i s a = q n (i + 1) (f s a) >>= (λ l. done (a ∷ l))

  pub turn_of : (n i : ℕ) (s : S) (at : ℕ) (r : Refusal) → run (q n i s) ws room at ≡ no r → (k : ℕ) × Turn (λ k. q k i s) (λ k l. p (i + k) (moved f s l)) ws room at n k r
  unfolding run
  turn_of zero i s at r e = clash (sym (ap (λ (x : Prog (List A)). run x ws room at) (loop.none i s)) ∙ e)
  turn_of (suc n) i s at r e = go (split (p i s) (rest n i s) ws room at r whole) (turn_of n (i + 1))
    where
      whole : run (p i s >>= rest n i s) ws room at ≡ no r
      whole = sym (ap (λ (x : Prog (List A)). run x ws room at) (loop.more n i s)) ∙ e

      -- the turns behind the first
      later : (a : A) (m : ℕ) → run (p i s) ws room at ≡ ok a m → (k : ℕ) → Turn (λ k. q k (i + 1) (f s a)) (λ k l. p (i + 1 + k) (moved f (f s a) l)) ws room m n k r → Turn (λ k. q k i s) (λ k l. p (i + k) (moved f s l)) ws room at (suc n) (suc k) r
      later a m x k t =
          record {
            below = omega (arith, t.below);
            before = a ∷ t.before;
            place = t.place;
            read =
                ap (λ (y : Prog (List A)). run y ws room at) (loop.more k i s)
                ∙ ok_then (p i s) (rest k i s) ws room at (sym x)
                ∙ ok_then (q k (i + 1) (f s a)) (λ l. done (a ∷ l)) ws room m (sym t.read);
            refused = let z : i + suc k ≡ i + 1 + k = omega arith in ap (λ (j : ℕ). run (p j (moved f (f s a) t.before)) ws room t.place) z ∙ t.refused;
          }

      behind : (a : A) (m : ℕ) → Split (q n (i + 1) (f s a)) (λ l. done (a ∷ l)) ws room m r → run (q n (i + 1) (f s a)) ws room m ≡ no r
      behind a m (in_first x) = x
      behind a m (in_second l k x y) = clash y

      go : Split (p i s) (rest n i s) ws room at r → ((s : S) (at : ℕ) (r : Refusal) → run (q n (i + 1) s) ws room at ≡ no r → (k : ℕ) × Turn (λ k. q k (i + 1) s) (λ k l. p (i + 1 + k) (moved f s l)) ws room at n k r)
          → (k : ℕ) × Turn (λ k. q k i s) (λ k l. p (i + k) (moved f s l)) ws room at (suc n) k r
      go (in_second a m x y) ih =
          let t = ih (f s a) m r (behind a m (split (q n (i + 1) (f s a)) (λ l. done (a ∷ l)) ws room m r y)) in
          (suc t.0, later a m x t.0 t.1)
      go (in_first x) ih =
          let j : i + 0 ≡ i = omega arith in
          (0, record { below = omega arith; before = []; place = at; read = ap (λ (u : Prog (List A)). run u ws room at) (loop.none i s); refused = ap (λ (u : ℕ). run (p u s) ws room at) j ∙ x })

  -- where every turn reads a word, k turns read k words
  pub read_far : ((i : ℕ) (s : S) (at : ℕ) (a : A) (n : ℕ) → run (p i s) ws room at ≡ ok a n → at < n) → (k i : ℕ) (s : S) (at : ℕ) (l : List A) (m : ℕ) → run (q k i s) ws room at ≡ ok l m → at + k ≤ m
  unfolding run
  read_far moves zero i s at l m e = omega (arith, forward (q zero i s) ws room at e)
  read_far moves (suc k) i s at l m e = go (λ a. read_far moves k (i + 1) (f s a)) (run (p i s) ws room at) refl
    where
      whole : run (p i s >>= rest k i s) ws room at ≡ ok l m
      whole = sym (ap (λ (x : Prog (List A)). run x ws room at) (loop.more k i s)) ∙ e

      far : (a : A) → ((n : ℕ) (l : List A) (m : ℕ) → run (q k (i + 1) (f s a)) ws room n ≡ ok l m → n + k ≤ m) → (o : Outcome (List A)) (n : ℕ) → run (q k (i + 1) (f s a)) ws room n ≡ o → run (rest k i s a) ws room n ≡ ok l m → n + k ≤ m
      far a ih (ok u j) n x y =
          let g : ◌≡◌ {A = Outcome (List A)} (ok (a ∷ u) j) (ok l m) = sym (ok_then (q k (i + 1) (f s a)) (λ l. done (a ∷ l)) ws room n (sym x)) ∙ y in
          let z : j ≡ m = cc in
          omega (arith, z, ih n u j x)
      far a ih (no x) n z y = clash (sym y ∙ no_then (q k (i + 1) (f s a)) (λ l. done (a ∷ l)) ws room n (sym z))

      go : ((a : A) (n : ℕ) (l : List A) (m : ℕ) → run (q k (i + 1) (f s a)) ws room n ≡ ok l m → n + k ≤ m) → (o : Outcome A) → run (p i s) ws room at ≡ o → at + suc k ≤ m
      go ih (ok a n) x = omega (arith, moves i s at a n x, far a (ih a) (run (q k (i + 1) (f s a)) ws room n) n refl (sym (ok_then (p i s) (rest k i s) ws room at (sym x)) ∙ whole))
      go ih (no x) y = clash (sym whole ∙ no_then (p i s) (rest k i s) ws room at (sym y))

-- ---- every record reads a word

module _ (ws : List ℤ) (room : Table → ℕ) where
  unfoldable Moves : {A : Type 0} → Prog A → Type 0
  Moves {A} p = (at : ℕ) (a : A) (n : ℕ) → run p ws room at ≡ ok a n → at < n

  word_moves : {A : Type 0} (f : Spot) (k : ℕ → ℤ → Prog A) → Moves (word f k)
  unfolding Moves
  word_moves f k at a n e = ⊎_elim (λ (x : length ws ≤ at). clash (sym e ∙ word_no f k ws room at x)) (λ x. let y = forward (k at (get_or ws at (pos 0))) ws room (at + 1) (sym (word_ok f k ws room at x) ∙ e) in omega arith) (order (length ws) at)

  here_moves : {A : Type 0} (k : ℕ → Prog A) → ((p : ℕ) → Moves (k p)) → Moves (here k)
  unfolding Moves run
  here_moves k h at a n e = h at at a n e

  then_moves : {A B : Type 0} (p : Prog A) (k : A → Prog B) → Moves p → Moves (p >>= k)
  unfolding Moves
  then_moves {A} p k h at b n e = go (run p ws room at) refl
    where
      go : (o : Outcome A) → run p ws room at ≡ o → at < n
      go (ok a m) x = let y = forward (k a) ws room m (sym (ok_then p k ws room at (sym x)) ∙ e) in omega (arith, h at a m x)
      go (no r) x = clash (sym e ∙ no_then p k ws room at (sym x))

  index_moves : (f : Spot) → Moves (index f)
  unfolding index
  index_moves f = word_moves f _

  get_moves : (f : Spot) → Moves (get f)
  unfolding get
  get_moves f = word_moves f _

  state_moves : (i : ℕ) → Moves (state i)
  unfolding state
  state_moves i = then_moves _ _ (word_moves (spot 5 i) _)

  named_moves : (n : ℕ) (f : Spot) → Moves (named n f)
  unfolding named
  named_moves n f = word_moves f _

  rule_moves : (i : ℕ) → Moves (rule i)
  unfolding rule
  rule_moves i = then_moves _ _ (index_moves (spot 14 i))

  set_moves : (i kept : ℕ) → Moves (set i kept)
  unfolding set
  set_moves i kept = then_moves _ _ (index_moves (spot 19 i))

  edge_moves : (n m i : ℕ) → Moves (edge n m i)
  unfolding edge
  edge_moves n m i = here_moves _ (λ p. then_moves _ _ (index_moves (spot 24 i)))

  action_moves : (i : ℕ) → Moves (action i)
  unfolding action
  action_moves i = here_moves _ (λ p. then_moves _ _ (get_moves (spot 33 i)))

  -- ---- the lists that a decode reads

  -- a refused list of the kind, and how far a list that was read reaches
  pub record Listed {A : Type 0} (q : ℕ → Prog (List A)) (p : ℕ → List A → Prog A) : Type 0 where
    pub turn : (n at : ℕ) (r : Refusal) → run (q n) ws room at ≡ no r → (k : ℕ) × Turn q p ws room at n k r
    pub far : (k at : ℕ) (l : List A) (m : ℕ) → run (q k) ws room at ≡ ok l m → at + k ≤ m

  times-listed : {A : Type 0} (p : ℕ → Prog A) → ((i : ℕ) → Moves (p i)) → Listed (λ n. times n 0 p) (λ i l. p i)
  unfolding times Moves
  times-listed {A} p h =
      record {
        turn = λ n at r e.
            let t = turn_of {S = Unit {0}} (λ i s. p i) (λ s a. s) (λ n i s. times n i p) loop ws room n 0 tt at r e in
            let z : t.0 ≡ 0 + t.0 = omega arith in
            (t.0, record { below = t.1.below; before = t.1.before; place = t.1.place; read = t.1.read; refused = ap (λ (i : ℕ). run (p i) ws room t.1.place) z ∙ t.1.refused });
        far = λ k at l m e. read_far {S = Unit {0}} (λ i s. p i) (λ s a. s) (λ n i s. times n i p) loop ws room (λ i s. h i) k 0 tt at l m e;
      }
    where
      loop : Loop {A = A} {S = Unit {0}} (λ i s. p i) (λ s a. s) (λ n i s. times n i p)
      loop = record { none = λ i s. refl; more = λ n i s. refl }

  sets-listed : Listed (λ n. sets_from n 0 0) (λ i l. set i (length (flat l)))
  unfolding sets_from Moves
  sets-listed =
      record {
        turn = λ n at r e.
            let t = turn_of set longer sets_from loop ws room n 0 0 at r e in
            let z : t.0 ≡ 0 + t.0 = omega arith in
            let y : length (flat t.1.before) ≡ moved longer 0 t.1.before = omega (arith, all 0 t.1.before) in
            (t.0, record { below = t.1.below; before = t.1.before; place = t.1.place; read = t.1.read; refused = ap (λ (i : ℕ). run (set i (length (flat t.1.before))) ws room t.1.place) z ∙ ap (λ (b : ℕ). run (set (0 + t.0) b) ws room t.1.place) y ∙ t.1.refused });
        far = λ k at l m e. read_far set longer sets_from loop ws room set_moves k 0 0 at l m e;
      }
    where
      longer : ℕ → List Range → ℕ
      longer b s = b + length s

      loop : Loop set longer sets_from
      loop = record { none = λ i b. refl; more = λ n i b. refl }

      -- later sets start behind what was kept
      all : (b : ℕ) (l : List (List Range)) → moved longer b l ≡ b + length (flat l)
      all b [] = omega arith
      all b (s ∷ l) = all (b + length s) l ∙ omega (arith, length-append s (flat l))

  pub lists : (k : Kind) → Listed (first k) (next k)
  lists a-state = times-listed (λ i. state i) state_moves
  lists (a-non-greedy n) = times-listed (λ i. named n (spot 10 i)) (λ i. named_moves n (spot 10 i))
  lists (a-precedence n) = times-listed (λ i. named n (spot 12 i)) (λ i. named_moves n (spot 12 i))
  lists a-rule = times-listed (λ i. rule i) rule_moves
  lists a-mode = times-listed (λ i. index (spot 17 i)) (λ i. index_moves (spot 17 i))
  lists a-set = sets-listed
  lists (an_edge n m) = times-listed (λ i. edge n m i) (edge_moves n m)
  lists a-decision = times-listed (λ i. index (spot 31 i)) (λ i. index_moves (spot 31 i))
  lists an-action = times-listed (λ i. action i) action_moves
