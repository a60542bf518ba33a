-- How far an edge's words reach; and that its parts are `edge`, and its record and its chain `edge_one`.
use Rattle.std.specs.Prelude.{◌≡◌, List, Bool, ℤ, pos, negsuc, get_or, Some, None}
use Rattle.std.proofs.Math.Path.{refl, sym, ap}
use Rattle.std.proofs.Common.{◌∙◌}
use Rattle.std.proofs.Math.Bool.{true, false}
use Prim.Native.Nat.{ℕ, zero, suc, ◌+◌, ◌-◌, ◌≤◌, ◌<◌}
use native.Mathlib.Omega.{arith}
use Rattle.std.proofs.Math.Dec.{ltb}
use Rattle.std.proofs.Math.ListN.{length}
use borrow.Author.Tests.{ltb-true}
use Rattle.format.specs.declared.Refusal.{Refusal}
use Rattle.format.specs.declared.Spot.{Spot}
use Rattle.format.specs.Reading.{Table, Outcome, ok, no, Prog, done, refuse, word, run, ended, refusal, pick, ◌>>=◌, spot, natural, listed, get, index}
use Rattle.format.specs.Sections.{Edge, edge}
use Rattle.laws.specs.Reading.{clash}
use Rattle.laws.specs.Running.{after, run_bind, ok_then, no_then}
use Rattle.words.specs.Signs.{index_of}
use Rattle.words.specs.Laws.{natural_ok, natural_no, get_ok, get_no, index_ok, run_done, run_refuse}
use Rattle.inplace.specs.Links.{Net, linked, edge_one}
use Rattle.edges.specs.Edge.{raw, rest_of, type_on, six_words, checked, tested}

-- ---- an index is one word

module _ (f : Spot) (ws : List ℤ) (room : Table → ℕ) (at : ℕ) where
  word_next : {A : Type 0} (k : ℕ → ℤ → Prog A) → ((v : ℤ) (m : ℕ) (a : A) (n : ℕ) → ok a n ≡ run (k at v) ws room m → n ≡ m)
      → {a : A} {n : ℕ} → ok a n ≡ run (word f k) ws room at → n ≡ at + 1
  unfolding run
  word_next {A} k stays {a} {n} e = go (ltb at (length ws)) e
    where
      go : (b : Bool) → ok a n ≡ pick b (run (k at (get_or ws at (pos 0))) ws room (at + 1)) (no (ended f (length ws))) → n ≡ at + 1
      go true q = stays (get_or ws at (pos 0)) (at + 1) a n q
      go false q = clash q

  natural_stays : (v : ℤ) (m i n : ℕ) → ok i n ≡ run (natural f at v) ws room m → n ≡ m
  unfolding run
  natural_stays (pos k) m i n q = cc
  natural_stays (negsuc k) m i n q = clash q

  -- a word that was taken as an index, by its sign
  pub natural_got : (v : ℤ) (m : ℕ) {i n : ℕ} → ok i n ≡ run (natural f at v) ws room m → index_of v ≡ Some i
  unfolding run
  natural_got (pos k) m {i} {n} e = let q : k ≡ i = cc in ap Some q
  natural_got (negsuc k) m e = clash e

  pub natural_below : (v : ℤ) (m : ℕ) {r : Refusal} → no r ≡ run (natural f at v) ws room m → (index_of v ≡ None) × (r ≡ refusal 2 f at v)
  unfolding run
  natural_below (pos k) m e = clash (sym e)
  natural_below (negsuc k) m e = (refl, cc)

  pub index-next : {i n : ℕ} → ok i n ≡ run (index f) ws room at → n ≡ at + 1
  unfolding index
  index-next e = word_next (natural f) natural_stays e

-- ---- the six words, each by its own place

module _ (f : Spot) (ws : List ℤ) (room : Table → ℕ) (at : ℕ) where
  word_there : {A : Type 0} (k : ℕ → ℤ → Prog A) {a : A} {n : ℕ} → ok a n ≡ run (word f k) ws room at → at < length ws
  unfolding run
  word_there {A} k {a} {n} e = go (ltb at (length ws)) refl e
    where
      go : (b : Bool) → ltb at (length ws) ≡ b → ok a n ≡ pick b (run (k at (get_or ws at (pos 0))) ws room (at + 1)) (no (ended f (length ws))) → at < length ws
      go true h q = ltb-true at (length ws) h
      go false h q = clash q

  -- an index that was read was there
  pub index_there : {i n : ℕ} → ok i n ≡ run (index f) ws room at → at < length ws
  unfolding index
  index_there e = word_there (natural f) e

  -- a word that is there, by its sign
  index_got : {i : ℕ} → at < length ws → index_of (get_or ws at (pos 0)) ≡ Some i → ok i (at + 1) ≡ run (index f) ws room at
  index_got {i} h s = run_done (natural_ok f at i (get_or ws at (pos 0)) s) ws room (at + 1) ∙ sym (index_ok f ws room at (get_ok f ws room at h))

  index_below : at < length ws → index_of (get_or ws at (pos 0)) ≡ None → no (refusal 2 f at (get_or ws at (pos 0))) ≡ run (index f) ws room at
  index_below h s = run_refuse (natural_no f at (get_or ws at (pos 0)) s) ws room (at + 1) ∙ sym (index_ok f ws room at (get_ok f ws room at h))

  -- the k-th word from a place on
  word_at_lem : (k : ℕ) → at + k < length ws → ok (get_or ws (at + k) (pos 0)) (at + (k + 1)) ≡ run (get f) ws room (at + k)
  word_at_lem k h = let q : at + k + 1 ≡ at + (k + 1) = omega arith in rw q at (get_ok f ws room (at + k) h)

module _ (i : ℕ) (ws : List ℤ) (room : Table → ℕ) (at : ℕ) where
  abbrev nth : ℕ → ℤ
  nth k = get_or ws (at + k) (pos 0)

  pub six_ok : {s t : ℕ} → at + 6 ≤ length ws → index_of (get_or ws at (pos 0)) ≡ Some s → index_of (nth 1) ≡ Some t
      → ok (raw s t (nth 2) (nth 3) (nth 4) (nth 5)) (at + 6) ≡ run (six_words i) ws room at
  unfolding run six_words type_on rest_of
  six_ok {s} {t} h p q =
      let q1 : at + 1 + 1 ≡ at + 2 = omega arith in
      sym (ok_then (index (spot 24 i)) _ ws room at (index_got (spot 24 i) ws room at (omega arith) p)
      ∙ ok_then (index (spot 25 i)) _ ws room (at + 1) (rw q1 at (index_got (spot 25 i) ws room (at + 1) (omega arith) q))
      ∙ ok_then (get (spot 26 i)) _ ws room (at + 2) (word_at_lem (spot 26 i) ws room at 2 (omega arith))
      ∙ ok_then (get (spot 27 i)) _ ws room (at + 3) (word_at_lem (spot 27 i) ws room at 3 (omega arith))
      ∙ ok_then (get (spot 28 i)) _ ws room (at + 4) (word_at_lem (spot 28 i) ws room at 4 (omega arith))
      ∙ ok_then (get (spot 29 i)) _ ws room (at + 5) (word_at_lem (spot 29 i) ws room at 5 (omega arith)))

  -- the first of them, or the second, is negative
  pub six-first : at < length ws → index_of (get_or ws at (pos 0)) ≡ None → no (refusal 2 (spot 24 i) at (get_or ws at (pos 0))) ≡ run (six_words i) ws room at
  unfolding six_words
  six-first h p = sym (no_then (index (spot 24 i)) _ ws room at (index_below (spot 24 i) ws room at h p))

  pub six-second : {s : ℕ} → at + 1 < length ws → index_of (get_or ws at (pos 0)) ≡ Some s → index_of (nth 1) ≡ None → no (refusal 2 (spot 25 i) (at + 1) (nth 1)) ≡ run (six_words i) ws room at
  unfolding six_words
  six-second h p q = sym (ok_then (index (spot 24 i)) _ ws room at (index_got (spot 24 i) ws room at (omega arith) p) ∙ no_then (index (spot 25 i)) _ ws room (at + 1) (index_below (spot 25 i) ws room (at + 1) h q))

  -- fewer than four words are left for the type and the arguments
  pub type_ended : (s t : ℕ) → at ≤ length ws → length ws < at + 4 → no (ended (spot (26 + (length ws - at)) i) (length ws)) ≡ run (type_on i s t) ws room at
  unfolding type_on rest_of
  type_ended s t l h = by (length ws - at) refl
    where
      by : (d : ℕ) → length ws - at ≡ d → no (ended (spot (26 + d) i) (length ws)) ≡ run (type_on i s t) ws room at
      by zero e = sym (no_then (get (spot 26 i)) _ ws room at (get_no (spot 26 i) ws room at (omega arith)))
      by (suc zero) e = sym (ok_then (get (spot 26 i)) _ ws room at (get_ok (spot 26 i) ws room at (omega arith)) ∙ no_then (get (spot 27 i)) _ ws room (at + 1) (get_no (spot 27 i) ws room (at + 1) (omega arith)))
      by (suc (suc zero)) e =
          sym (ok_then (get (spot 26 i)) _ ws room at (get_ok (spot 26 i) ws room at (omega arith))
          ∙ ok_then (get (spot 27 i)) _ ws room (at + 1) (word_at_lem (spot 27 i) ws room at 1 (omega arith))
          ∙ no_then (get (spot 28 i)) _ ws room (at + 2) (get_no (spot 28 i) ws room (at + 2) (omega arith)))
      by (suc (suc (suc zero))) e =
          sym (ok_then (get (spot 26 i)) _ ws room at (get_ok (spot 26 i) ws room at (omega arith))
          ∙ ok_then (get (spot 27 i)) _ ws room (at + 1) (word_at_lem (spot 27 i) ws room at 1 (omega arith))
          ∙ ok_then (get (spot 28 i)) _ ws room (at + 2) (word_at_lem (spot 28 i) ws room at 2 (omega arith))
          ∙ no_then (get (spot 29 i)) _ ws room (at + 3) (get_no (spot 29 i) ws room (at + 3) (omega arith)))
      by (suc (suc (suc (suc d)))) e = absurd (omega arith)

-- ---- six words, and their tests, are `edge`

module _ (ws : List ℤ) (room : Table → ℕ) where
  run_cong : {A B : Type 0} (p : Prog A) (j k : A → Prog B) (at : ℕ) → ((a : A) (n : ℕ) → run (j a) ws room n ≡ run (k a) ws room n) → run (p >>= j) ws room at ≡ run (p >>= k) ws room at
  run_cong {A} p j k at h = run_bind p j ws room at ∙ go (run p ws room at) ∙ sym (run_bind p k ws room at)
    where
      go : (o : Outcome A) → after o (λ a n. run (j a) ws room n) ≡ after o (λ a n. run (k a) ws room n)
      go (ok a n) = h a n
      go (no r) = refl

  run_assoc : {A B C : Type 0} (p : Prog A) (j : A → Prog B) (k : B → Prog C) (at : ℕ) → run ((p >>= j) >>= k) ws room at ≡ run (p >>= (λ a. j a >>= k)) ws room at
  run_assoc {A} {B} {C} p j k at =
      run_bind (p >>= j) k ws room at
      ∙ ap (λ (o : Outcome B). after o (λ b n. run (k b) ws room n)) (run_bind p j ws room at)
      ∙ go (run p ws room at)
      ∙ sym (run_bind p (λ a. j a >>= k) ws room at)
    where
      go : (o : Outcome A) → after (after o (λ a n. run (j a) ws room n)) (λ b n. run (k b) ws room n) ≡ after o (λ a n. run (j a >>= k) ws room n)
      go (ok a n) = sym (run_bind (j a) k ws room n)
      go (no r) = refl

pub edge_is : (i nstates nsets : ℕ) (ws : List ℤ) (room : Table → ℕ) (at : ℕ) → run (edge nstates nsets i) ws room at ≡ run (six_words i >>= tested i nstates nsets at) ws room at
unfolding run ◌>>=◌ get edge six_words type_on rest_of tested checked
edge_is i nstates nsets ws room at =
    let rest = tested i nstates nsets at in
    sym (run_assoc ws room (index (spot 24 i)) (λ s. index (spot 25 i) >>= type_on i s) rest at
    ∙ run_cong ws room (index (spot 24 i)) (λ s. (index (spot 25 i) >>= type_on i s) >>= rest) (λ s. index (spot 25 i) >>= (λ t. type_on i s t >>= rest)) at
    (λ s n. run_assoc ws room (index (spot 25 i)) (type_on i s) rest n))

-- ---- a number that is listed is told as it was

pub listed_same : (number end : ℕ) (f : Spot) (p k : ℕ) (ws : List ℤ) (room : Table → ℕ) (at : ℕ) {i n : ℕ} → ok i n ≡ run (listed number end f p k) ws room at → i ≡ k
unfolding run
listed_same number end f p k ws room at {i} {n} e = go (ltb k end) e
  where
    go : (b : Bool) → ok i n ≡ run (pick b (done k) (refuse (refusal number f p (pos k)))) ws room at → i ≡ k
    go true q = cc
    go false q = clash q

-- ---- its record and its chain are `edge_one`

module _ (nstates nsets i : ℕ) (t : Net) (ws : List ℤ) (room : Table → ℕ) (at : ℕ) where
  abbrev linked_edge : Outcome Edge → Outcome Net
  linked_edge o = after o (λ e n. ok (linked i 0 e t) n)

  pub one_is : {o : Outcome Edge} → o ≡ run (edge nstates nsets i) ws room at → linked_edge o ≡ run (edge_one nstates nsets i t) ws room at
  unfolding run edge_one
  one_is e = ap linked_edge e ∙ sym (run_bind (edge nstates nsets i) (λ e. done (linked i 0 e t)) ws room at)
