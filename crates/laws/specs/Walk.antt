-- How every refusal of a run is told: why; where, which is no farther than four behind the words' end; and, of a record's program, the
-- record whose word was refused. One walk over the programs shows it; Refusals has the whole decode.
use Rattle.std.specs.Prelude.{◌≡◌, Bool, ◌&&◌, eqb, pos, negsuc, length, get_or}
use Rattle.std.proofs.Math.Path.{refl, subst}
use Rattle.std.proofs.Common.{sym, ap, ◌∙◌, arith}
use mathlib.Core.List.{List, [], ◌∷◌}
use Rattle.std.proofs.Math.Bool.{true, false}
use Prim.Native.Nat.{ℕ, zero, suc, ◌+◌, ◌≤◌, ◌<◌}
use Rattle.std.proofs.Math.Dec.{ltb, leb}
use Rattle.std.proofs.Math.IntN.{ℤ}
use borrow.Author.Tests.{ltb-true, leb-false}
use Rattle.format.specs.declared.Refusal.{Refusal}
use Rattle.format.specs.declared.Spot.{Spot}
use Rattle.format.specs.Reading.{Table, Edges, Ranges, Outcome, ok, no, Prog, done, refuse, word, need, here, run, ◌>>=◌, times, spot, pick, ended, no_room, refusal, natural, known, listed, get, index, count}
use Rattle.format.specs.Sections.{State, Edge, follows, raised, bit, same, among, or_none, version, grammar, linked, following, state, named, rule, interval, flagged, set, test_a, test_b, edge, action}
use Rattle.format.specs.Decode.{returning}
use Rattle.laws.specs.Kinds.{Kind, a-state, a-non-greedy, a-precedence, a-rule, a-mode, a-set, an_edge, a-decision, an-action, Of, fields_of, outside, count_of, next}
use Rattle.laws.specs.Reading.{clash, within}
use Rattle.laws.specs.Running.{ok_then, no_then}

-- a refusal that a program gives by itself has one of the numbers 2 to 11
pub record OfWord (r : Refusal) : Type 0 where
  pub low : 2 ≤ r.number
  pub high : r.number ≤ 11

-- 1 only where the words end, at the slice's length; 12 only where room lacks; else one of 2 to 11
pub data Why (ws : List ℤ) (room : Table → ℕ) (r : Refusal) : Type 0 where
  by_word : OfWord r → Why ws room r
  by_end : (f : Spot) → r ≡ ended f (length ws) → Why ws room r
  by_room : (t : Table) (n : ℕ) (f : Spot) (p : ℕ) → room t < n → r ≡ no_room f p n → Why ws room r

-- a refusal of a word of one of these fields, in record i
pub record Told (ws : List ℤ) (room : Table → ℕ) (fields : List ℕ) (i : ℕ) (r : Refusal) : Type 0 where
  pub why : Why ws room r
  pub near : r.place ≤ length ws + 4
  pub field : among r.field fields ≡ true
  pub whose : r.«record» ≡ i

-- two programs whose run is refused: the first is, or the second, behind what the first gave
pub data Split {A B : Type 0} (p : Prog A) (k : A → Prog B) (ws : List ℤ) (room : Table → ℕ) (at : ℕ) (r : Refusal) : Type 0 where
  in_first : run p ws room at ≡ no r → Split p k ws room at r
  in_second : (a : A) (n : ℕ) → run p ws room at ≡ ok a n → run (k a) ws room n ≡ no r → Split p k ws room at r

pub split : {A B : Type 0} (p : Prog A) (k : A → Prog B) (ws : List ℤ) (room : Table → ℕ) (at : ℕ) (r : Refusal) → run (p >>= k) ws room at ≡ no r → Split p k ws room at r
split {A} {B} p k ws room at r e = go (run p ws room at) refl
  where
    go : (o : Outcome A) → run p ws room at ≡ o → Split p k ws room at r
    go (ok a n) q = in_second a n q (sym (ok_then p k ws room at (sym q)) ∙ e)
    go (no x) q =
        let f : ◌≡◌ {A = Outcome B} (no x) (no r) = sym (no_then p k ws room at (sym q)) ∙ e in
        let z : x ≡ r = cc in
        in_first (q ∙ ap no z)

module _ (ws : List ℤ) (room : Table → ℕ) where
  -- Whatever refuses a run of the program has P.
  unfoldable pub Refuses : {A : Type 0} → (Refusal → Type 0) → Prog A → Type 0
  Refuses P p = (at : ℕ) (r : Refusal) → at ≤ length ws → run p ws room at ≡ no r → P r

  -- ---- how programs are put together

  module _ (P : Refusal → Type 0) where
    ends : {A : Type 0} (a : A) → Refuses P (done a)
    unfolding Refuses run
    ends a at r h e = clash e

    fails : (A : Type 0) (q : Refusal) → P q → Refuses {A = A} P (refuse q)
    unfolding Refuses run
    fails A q x at r h e = let z : q ≡ r = cc in subst P z x

    either : {A : Type 0} (b : Bool) (p q : Prog A) → Refuses P p → Refuses P q → Refuses P (pick b p q)
    either true p q s t = s
    either false p q s t = t

    reads : {A : Type 0} (f : Spot) (k : ℕ → ℤ → Prog A) → P (ended f (length ws)) → ((p : ℕ) (v : ℤ) → p ≤ length ws → Refuses P (k p v)) → Refuses P (word f k)
    unfolding Refuses run
    reads {A} f k x s at r h e = go (ltb at (length ws)) refl e
      where
        go : (b : Bool) → ltb at (length ws) ≡ b → pick b (run (k at (get_or ws at (pos 0))) ws room (at + 1)) (no (ended f (length ws))) ≡ no r → P r
        go true t q = s at (get_or ws at (pos 0)) h (at + 1) r (omega (arith, ltb-true at (length ws) t)) q
        go false t q = let z : ended f (length ws) ≡ r = cc in subst P z x

    needs : {A : Type 0} (t : Table) (n : ℕ) (f : Spot) (p : ℕ) (q : Prog A) → (room t < n → P (no_room f p n)) → Refuses P q → Refuses P (need t n f p q)
    unfolding Refuses run
    needs {A} t n f p q x s at r h e = go (leb n (room t)) refl e
      where
        go : (b : Bool) → leb n (room t) ≡ b → pick b (run q ws room at) (no (no_room f p n)) ≡ no r → P r
        go true t y = s at r h y
        go false u y = let z : no_room f p n ≡ r = cc in subst P z (x (leb-false n (room t) u))

    from_here : {A : Type 0} (k : ℕ → Prog A) → ((p : ℕ) → p ≤ length ws → Refuses P (k p)) → Refuses P (here k)
    unfolding Refuses run
    from_here k s at r h e = s at h at r h e

    then : {A B : Type 0} (p : Prog A) (k : A → Prog B) → Refuses P p → ((a : A) → Refuses P (k a)) → Refuses P (p >>= k)
    unfolding Refuses
    then {A} {B} p k s g at r h e = go (split p k ws room at r e)
      where
        go : Split p k ws room at r → P r
        go (in_first q) = s at r h q
        go (in_second a n q f) = g a n r (within p ws room at h q) f

    repeats : {A : Type 0} (n i : ℕ) (p : ℕ → Prog A) → ((j : ℕ) → Refuses P (p j)) → Refuses P (times n i p)
    unfolding times
    repeats zero i p s = ends []
    repeats (suc n) i p s = then (p i) _ (s i) (λ a. then (times n (i + 1) p) _ (repeats n (i + 1) p s) (λ l. ends (a ∷ l)))

  -- ---- single words of these fields, in record i

  module _ (fields : List ℕ) (i : ℕ) where
    abbrev In : Refusal → Type 0
    In = Told ws room fields i

    module _ (f : ℕ) (m : among f fields ≡ true) where
      ended_told : In (ended (spot f i) (length ws))
      ended_told = record { why = by_end (spot f i) refl; near = omega arith; field = m; whose = refl }

      word_told : (number p : ℕ) (v : ℤ) → 2 ≤ number → number ≤ 11 → p ≤ length ws + 4 → In (refusal number (spot f i) p v)
      word_told number p v l h b = record { why = by_word (record { low = l; high = h }); near = b; field = m; whose = refl }

      room_told : (t : Table) (n p : ℕ) → p ≤ length ws + 4 → room t < n → In (no_room (spot f i) p n)
      room_told t n p b h = record { why = by_room t n (spot f i) p h refl; near = b; field = m; whose = refl }

      natural_told : (p : ℕ) (v : ℤ) → p ≤ length ws + 4 → Refuses In (natural (spot f i) p v)
      natural_told p (pos n) b = ends In n
      natural_told p (negsuc n) b = fails In ℕ _ (word_told 2 p (negsuc n) (omega arith) (omega arith) b)

      known_told : (number from to p : ℕ) (v : ℤ) → 2 ≤ number → number ≤ 11 → p ≤ length ws + 4 → Refuses In (known number from to (spot f i) p v)
      known_told number from to p (pos n) l h b = either In (leb from n && leb n to) _ _ (ends In n) (fails In ℕ _ (word_told number p (pos n) l h b))
      known_told number from to p (negsuc n) l h b = fails In ℕ _ (word_told number p (negsuc n) l h b)

      listed_told : (number n p k : ℕ) → 2 ≤ number → number ≤ 11 → p ≤ length ws + 4 → Refuses In (listed number n (spot f i) p k)
      listed_told number n p k l h b = either In (ltb k n) _ _ (ends In k) (fails In ℕ _ (word_told number p (pos k) l h b))

      pub get_told : Refuses In (get (spot f i))
      unfolding get
      get_told = reads In (spot f i) _ ended_told (λ p v b. ends In v)

      pub index_told : Refuses In (index (spot f i))
      unfolding index
      index_told = reads In (spot f i) _ ended_told (λ p v b. natural_told p v (omega arith))

      pub named_told : (n : ℕ) → Refuses In (named n (spot f i))
      unfolding named
      named_told n = reads In (spot f i) _ ended_told (λ p v b. then In (natural (spot f i) p v) _ (natural_told p v (omega arith)) (λ k. listed_told 7 n p k (omega arith) (omega arith) (omega arith)))

  -- ---- a record

  module _ (i : ℕ) where
    abbrev InState : Refusal → Type 0
    InState = Told ws room (fields_of a-state) i

    linked_told : (k : ℕ) (v : ℤ) → Refuses InState (linked i k v)
    unfolding linked
    linked_told k v =
        either InState (eqb k 12) _ _ (then InState _ _ (index_told (fields_of a-state) i 7 refl) (λ b. ends InState _))
        (then InState _ _ (index_told (fields_of a-state) i 8 refl) (λ e. ends InState _))

    following_told : (n k : ℕ) → Refuses InState (following i n k)
    unfolding following
    following_told zero k = ends InState _
    following_told (suc zero) k = then InState _ _ (get_told (fields_of a-state) i 6 refl) (λ v. ends InState _)
    following_told (suc (suc n)) k = then InState _ _ (get_told (fields_of a-state) i 6 refl) (λ v. linked_told k (or_none v))

    state_told : Refuses InState (state i)
    unfolding state
    state_told =
        then InState (word (spot 5 i) (known 6 0 12 (spot 5 i))) _
        (reads InState (spot 5 i) _ (ended_told (fields_of a-state) i 5 refl) (λ p v b. known_told (fields_of a-state) i 5 refl 6 0 12 p v (omega arith) (omega arith) (omega arith)))
        (λ k. following_told (get_or follows k 0) k)

    abbrev InRule : Refusal → Type 0
    InRule = Told ws room (fields_of a-rule) i

    rule_told : Refuses InRule (rule i)
    unfolding rule
    rule_told = then InRule _ _ (index_told (fields_of a-rule) i 14 refl) (λ s. then InRule _ _ (get_told (fields_of a-rule) i 15 refl) (λ t. ends InRule _))

    abbrev InSet : Refusal → Type 0
    InSet = Told ws room (fields_of a-set) i

    interval_told : Refuses InSet (interval i)
    unfolding interval
    interval_told = then InSet _ _ (get_told (fields_of a-set) i 21 refl) (λ s. then InSet _ _ (get_told (fields_of a-set) i 22 refl) (λ e. ends InSet _))

    flagged_told : (kept n : ℕ) → Refuses InSet (flagged i kept n)
    unfolding flagged
    flagged_told kept n =
        reads InSet (spot 20 i) _ (ended_told (fields_of a-set) i 20 refl) (λ p v b.
        needs InSet Ranges (kept + n + bit (raised v)) (spot 20 i) p _ (room_told (fields_of a-set) i 20 refl Ranges _ p (omega arith)) (ends InSet (raised v)))

    set_told : (kept : ℕ) → Refuses InSet (set i kept)
    unfolding set
    set_told kept =
        then InSet _ _ (index_told (fields_of a-set) i 19 refl) (λ n. then InSet _ _ (flagged_told kept n) (λ b.
        then InSet (times n 0 (λ j. interval i)) _ (repeats InSet n 0 (λ j. interval i) (λ j. interval_told)) (λ l. ends InSet _)))

    -- an edge's fields do not hang on what its words are held to
    abbrev edge_fields : List ℕ
    edge_fields = fields_of (an_edge 0 0)

    abbrev InEdge : Refusal → Type 0
    InEdge = Told ws room edge_fields i

    a_told : (n k p : ℕ) (a : ℤ) → p ≤ length ws + 4 → Refuses InEdge (test_a i n k p a)
    unfolding test_a
    a_told n k p a b =
        either InEdge (among k (7 ∷ 8 ∷ [])) _ _ (then InEdge (natural (spot 27 i) p a) _ (natural_told edge_fields i 27 refl p a b) (λ j. listed_told edge_fields i 27 refl 9 n p j (omega arith) (omega arith) b))
        (either InEdge (among k (3 ∷ 4 ∷ 6 ∷ [])) _ _ (natural_told edge_fields i 27 refl p a b) (ends InEdge 0))

    b_told : (k p : ℕ) (b : ℤ) → p ≤ length ws + 4 → Refuses InEdge (test_b i k p b)
    unfolding test_b
    b_told k p b h = either InEdge (among k (3 ∷ 4 ∷ [])) _ _ (natural_told edge_fields i 28 refl p b h) (ends InEdge 0)

    edge_told : (n m : ℕ) → Refuses InEdge (edge n m i)
    unfolding edge
    edge_told n m = from_here InEdge _ (λ place h.
        then InEdge _ _ (index_told edge_fields i 24 refl) (λ s. then InEdge _ _ (index_told edge_fields i 25 refl) (λ t.
        then InEdge _ _ (get_told edge_fields i 26 refl) (λ w. then InEdge _ _ (get_told edge_fields i 27 refl) (λ a.
        then InEdge _ _ (get_told edge_fields i 28 refl) (λ b. then InEdge _ _ (get_told edge_fields i 29 refl) (λ c.
        then InEdge _ _ (known_told edge_fields i 26 refl 8 1 10 (place + 2) w (omega arith) (omega arith) (omega arith)) (λ k.
        then InEdge _ _ (a_told m k (place + 3) a (omega arith)) (λ x. then InEdge _ _ (b_told k (place + 4) b (omega arith)) (λ y.
        then InEdge _ _ (listed_told edge_fields i 24 refl 10 n place s (omega arith) (omega arith) (omega arith)) (λ z. ends InEdge _)))))))))))

    abbrev InAction : Refusal → Type 0
    InAction = Told ws room (fields_of an-action) i

    action_told : Refuses InAction (action i)
    unfolding action
    action_told = from_here InAction _ (λ place h.
        then InAction _ _ (get_told (fields_of an-action) i 33 refl) (λ w. then InAction _ _ (get_told (fields_of an-action) i 34 refl) (λ d1. then InAction _ _ (get_told (fields_of an-action) i 35 refl) (λ d2.
        then InAction _ _ (known_told (fields_of an-action) i 33 refl 11 0 7 place w (omega arith) (omega arith) (omega arith)) (λ k. ends InAction _)))))

    -- a refused record is told by its number, in one of its fields
    pub record_told : (k : Kind) (l : List (Of k)) → Refuses (Told ws room (fields_of k) i) (next k i l)
    record_told a-state l = state_told
    record_told (a-non-greedy n) l = named_told (10 ∷ []) i 10 refl n
    record_told (a-precedence n) l = named_told (12 ∷ []) i 12 refl n
    record_told a-rule l = rule_told
    record_told a-mode l = index_told (17 ∷ []) i 17 refl
    record_told a-set l = set_told _
    record_told (an_edge n m) l = edge_told n m
    record_told a-decision l = index_told (31 ∷ []) i 31 refl
    record_told an-action l = action_told

  -- ---- outside of records

  abbrev Out : Refusal → Type 0
  Out = Told ws room outside 0

  pub version_told : Refuses Out version
  unfolding version
  version_told = reads Out (spot 1 0) _ (ended_told outside 0 1 refl) (λ p v b. either Out (same v (pos 4)) _ _ (ends Out v) (fails Out ℤ _ (word_told outside 0 1 refl 3 p v (omega arith) (omega arith) (omega arith))))

  pub grammar_told : Refuses Out grammar
  unfolding grammar
  grammar_told =
      reads Out (spot 2 0) _ (ended_told outside 0 2 refl) (λ p v b. either Out (same v (pos 0)) _ _ (ends Out v)
      (either Out (same v (pos 1)) _ _ (fails Out ℤ _ (word_told outside 0 2 refl 4 p v (omega arith) (omega arith) (omega arith))) (fails Out ℤ _ (word_told outside 0 2 refl 5 p v (omega arith) (omega arith) (omega arith)))))

  count_told : (t : Table) (f : ℕ) → among f outside ≡ true → Refuses Out (count t f)
  unfolding count
  count_told t f m =
      reads Out (spot f 0) _ (ended_told outside 0 f m) (λ p v b. then Out (natural (spot f 0) p v) _ (natural_told outside 0 f m p v (omega arith))
      (λ n. needs Out t n (spot f 0) p (done n) (room_told outside 0 f m t n p (omega arith)) (ends Out n)))

  pub counts_told : (k : Kind) → Refuses Out (count_of k)
  counts_told a-state = count_told _ 4 refl
  counts_told (a-non-greedy n) = index_told outside 0 9 refl
  counts_told (a-precedence n) = index_told outside 0 11 refl
  counts_told a-rule = count_told _ 13 refl
  counts_told a-mode = count_told _ 16 refl
  counts_told a-set = count_told _ 18 refl
  counts_told (an_edge n m) = count_told _ 23 refl
  counts_told a-decision = count_told _ 30 refl
  counts_told an-action = count_told _ 32 refl

  pub returning_told : (ss : List State) (n : ℕ) (es : List Edge) → Refuses Out (returning ss n es)
  unfolding returning
  returning_told ss n es = from_here Out _ (λ p h. needs Out Edges _ (spot 23 0) p (done es) (room_told outside 0 23 refl Edges _ p (omega arith)) (ends Out es))
