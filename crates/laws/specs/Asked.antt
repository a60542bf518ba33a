-- The questions, asked of the tables that an accepted list leaves: the n-th edge is the n-th of the chain, and a set's part is its kept ranges.
use Rattle.std.specs.Prelude.{◌≡◌, ℤ, drop, Ok, Err}
use Rattle.std.proofs.Math.Path.{refl, ap}
use Rattle.std.proofs.Common.{sym, ◌∙◌, drop_at, drop-cons}
use Rattle.std.proofs.Math.Bool.{true, false}
use mathlib.Core.List.{List, [], ◌∷◌, ◌++◌, append_assoc}
use Prim.Native.Nat.{ℕ, zero, suc, ◌+◌, ◌-◌, ◌*◌, ◌/◌, ◌≤◌, ◌<◌}
use native.Mathlib.Omega.{arith}
use Rattle.std.proofs.Math.Dec.{ltb, leb}
use Rattle.std.proofs.Math.IntN.{pos}
use Rattle.std.proofs.Math.ListN.{length, get_or, take, length-append, length-replicate}
use Rattle.std.proofs.Math.Seq.{take_at}
use borrow.Author.Tests.{lt-ltb, le-leb, lt-leb}
use Rattle.format.specs.Reading.{Table, States, Edges, Ranges, Sets}
use Rattle.format.specs.Sets.{Range}
use Rattle.format.specs.Sections.{State, Edge, Read, edge_of, state_of, none}
use Rattle.format.specs.Links.{each, flat, first, chain, next}
use Rattle.format.specs.Tables.{width, list_of, edges_of, state_words, edge_words, range_words, set_records, records, zeros, table}
use Rattle.format.specs.Questions.{missing, fits, walk, nth_edge, inside, set_part, part_start, part_length, part_of}
use Rattle.laws.specs.Fits.{sets_long, records-wide}
use Rattle.laws.specs.Chains.{chain_are, next_in_lem, at_mem}
use Rattle.laws.specs.Rows.{numbered_long, numbered-at, flat_list, flat_long, flat-at}
use Rattle.laws.specs.Lists.{each_append}

-- ---- a word of a record, in a table

first-at : (l : List ℕ) (k : ℕ) → k < length l → first (drop k l) ≡ pos (get_or l k 0)
first-at l k h = ap first (drop-cons l k 0 h)

abbrev no_state : State
no_state = state_of 0 none none none

abbrev pub no_edge : Edge
no_edge = edge_of 0 0 0 (pos 0) (pos 0) (pos 0)

-- ---- an accepted list r, in the lent slices

module _ (lent : Table → ℕ) (r : Read) (fit : (t : Table) → length (flat (records r t)) ≤ lent t) where
  table_long : (t : Table) → length (table r lent t) ≡ lent t
  unfolding table
  table_long t = length-append (flat (records r t)) (zeros (lent t - length (flat (records r t)))) ∙ omega (arith, fit t, length-replicate (lent t - length (flat (records r t))) (pos 0))

  -- word k of record i of a table
  pub word_at_lem : (t : Table) (i k : ℕ) → i < length (records r t) → k < width t → get_or (table r lent t) (width t * i + k) (pos 0) ≡ get_or (get_or (records r t) i []) k (pos 0)
  unfolding table
  word_at_lem t i k h l = flat-at (width t) (records r t) (zeros (lent t - length (flat (records r t)))) i k (records-wide r t) h l

  -- as many whole records as there are
  holds : (t : Table) (n : ℕ) → length (records r t) ≡ n → width t * n ≤ length (table r lent t)
  holds t n e = omega (arith, fit t, table_long t, flat_long (width t) (records r t) (records-wide r t), ap (λ (m : ℕ). width t * m) e)

  -- so the counts are right
  pub states_fit : fits States (length r.states) (table r lent States) ≡ true
  unfolding records
  states_fit =
      let x : 8 * length r.states ≤ length (table r lent States) = holds States (length r.states) (numbered_long 0 (state_words r (edges_of r)) r.states) in
      le-leb (length r.states) (length (table r lent States) / 8) (omega arith)

  pub edges_fit : fits Edges (length (edges_of r)) (table r lent Edges) ≡ true
  unfolding records
  edges_fit =
      let x : 8 * length (edges_of r) ≤ length (table r lent Edges) = holds Edges (length (edges_of r)) (numbered_long 0 (edge_words r (edges_of r)) (edges_of r)) in
      le-leb (length (edges_of r)) (length (table r lent Edges) / 8) (omega arith)

  pub sets_fit : fits Sets (length r.sets) (table r lent Sets) ≡ true
  unfolding records
  sets_fit =
      let x : 2 * length r.sets ≤ length (table r lent Sets) = holds Sets (length r.sets) (sets_long 0 r.sets) in
      le-leb (length r.sets) (length (table r lent Sets) / 2) (omega arith)

  pub ranges_fit : fits Ranges (length (flat r.sets)) (table r lent Ranges) ≡ true
  unfolding records
  ranges_fit =
      let x : 2 * length (flat r.sets) ≤ length (table r lent Ranges) = holds Ranges (length (flat r.sets)) (numbered_long 0 (λ i a. range_words a) (flat r.sets)) in
      le-leb (length (flat r.sets)) (length (table r lent Ranges) / 2) (omega arith)

  pub state_word_lem : (s k : ℕ) → s < length r.states → k < 8 → get_or (table r lent States) (8 * s + k) (pos 0) ≡ get_or (state_words r (edges_of r) s (get_or r.states s no_state)) k (pos 0)
  unfolding records
  state_word_lem s k h l =
      word_at_lem States s k (omega (arith, numbered_long 0 (state_words r (edges_of r)) r.states)) l
      ∙ ap (λ (x : List ℤ). get_or x k (pos 0)) (numbered-at 0 (state_words r (edges_of r)) r.states s no_state [] h ∙ ap (λ (n : ℕ). state_words r (edges_of r) n (get_or r.states s no_state)) (omega arith))

  pub edge_word : (i k : ℕ) → i < length (edges_of r) → k < 8 → get_or (table r lent Edges) (8 * i + k) (pos 0) ≡ get_or (edge_words r (edges_of r) i (get_or (edges_of r) i no_edge)) k (pos 0)
  unfolding records
  edge_word i k h l =
      word_at_lem Edges i k (omega (arith, numbered_long 0 (edge_words r (edges_of r)) (edges_of r))) l
      ∙ ap (λ (x : List ℤ). get_or x k (pos 0)) (numbered-at 0 (edge_words r (edges_of r)) (edges_of r) i no_edge [] h ∙ ap (λ (n : ℕ). edge_words r (edges_of r) n (get_or (edges_of r) i no_edge)) (omega arith))

  module _ (s : ℕ) where
    abbrev c : List ℕ
    c = chain (edges_of r) s

    member : (j : ℕ) → j < length c → (get_or c j 0 < length (edges_of r)) × ((get_or (edges_of r) (get_or c j 0) no_edge).source ≡ s)
    member j h = (chain_are (edges_of r) s (get_or c j 0)).0 (at_mem j c h)

    next_word : (j : ℕ) → suc j < length c → get_or (table r lent Edges) (8 * get_or c j 0 + 7) (pos 0) ≡ pos (get_or c (suc j) 0)
    next_word j h =
        let m = member j (omega arith) in
        edge_word (get_or c j 0) 7 m.0 (omega arith)
        ∙ ap (λ (q : ℕ). next (edges_of r) q (get_or c j 0)) m.1
        ∙ next_in_lem (edges_of r) s j (omega arith)
        ∙ first-at c (suc j) h

    walk-chain : (k j : ℕ) → j + k < length c → walk (table r lent Edges) (length (edges_of r)) k (pos (get_or c j 0)) ≡ Ok (pos (get_or c (j + k) 0))
    unfolding walk
    walk-chain zero j h =
        let e : j + 0 ≡ j = omega arith in
        rw (lt-ltb (get_or c j 0) (length (edges_of r)) (member j (omega arith)).0) (ap (λ (n : ℕ). Ok (pos (get_or c n 0))) (sym e))
    walk-chain (suc k) j h =
        let e : suc j + k ≡ j + suc k = omega arith in
        rw (lt-ltb (get_or c j 0) (length (edges_of r)) (member j (omega arith)).0, next_word j (omega arith))
        (walk-chain k (suc j) (omega arith) ∙ ap (λ (n : ℕ). Ok (pos (get_or c n 0))) e)

  -- a listed state's edge count is its chain's length
  pub count_word : (s : ℕ) → s < length r.states → get_or (table r lent States) (8 * s + 7) (pos 0) ≡ pos (length (chain (edges_of r) s))
  count_word s h = state_word_lem s 7 h (omega arith)

  -- "the number of a state's n-th edge" is the n-th of its chain
  pub nth_edge_lem : (s k : ℕ) → s < length r.states → k < length (chain (edges_of r) s)
      → nth_edge (table r lent States) (length r.states) (table r lent Edges) (length (edges_of r)) (pos s) (pos k) ≡ Ok (pos (get_or (chain (edges_of r) s) k 0))
  unfolding nth_edge
  nth_edge_lem s k h l =
      let f3 : ltb s (length r.states) ≡ true = lt-ltb s (length r.states) h in
      let f5 : leb (length (chain (edges_of r) s)) k ≡ false = lt-leb (length (chain (edges_of r) s)) k l in
      let f6 : get_or (table r lent States) (8 * s + 5) (pos 0) ≡ pos (get_or (chain (edges_of r) s) 0 0) = state_word_lem s 5 h (omega arith) ∙ first-at (chain (edges_of r) s) 0 (omega arith) in
      let f7 : leb 0 k ≡ true = le-leb 0 k (omega arith) in
      rw (states_fit, edges_fit, f3, count_word s h, f5, f6, f7) (walk-chain s k 0 (omega arith) ∙ ap (λ (n : ℕ). Ok (pos (get_or (chain (edges_of r) s) n 0))) (omega arith))

  -- and from its edge count on there is none
  pub nth_behind : (s k : ℕ) → s < length r.states → length (chain (edges_of r) s) ≤ k
      → nth_edge (table r lent States) (length r.states) (table r lent Edges) (length (edges_of r)) (pos s) (pos k) ≡ Err (missing (pos k))
  unfolding nth_edge
  nth_behind s k h l =
      let f3 : ltb s (length r.states) ≡ true = lt-ltb s (length r.states) h in
      let f5 : leb (length (chain (edges_of r) s)) k ≡ true = le-leb (length (chain (edges_of r) s)) k l in
      let f7 : leb 0 k ≡ true = le-leb 0 k (omega arith) in
      rw (states_fit, edges_fit, f3, count_word s h, f5, f7) refl

-- ---- sets

pub words_long : (l : List Range) → length (each range_words l) ≡ 2 * length l
words_long [] = refl
words_long (a ∷ l) = let e = words_long l in omega arith

split : {A : Type 0} (ls : List (List A)) (k : ℕ) → k < length ls → flat ls ≡ flat (take k ls) ++ (get_or ls k [] ++ flat (drop (suc k) ls))
split [] k h = absurd (omega arith)
split (l ∷ ls) zero h = refl
split (l ∷ ls) (suc k) h = ap (λ x. l ++ x) (split ls k (omega arith)) ∙ sym (append_assoc l (flat (take k ls)) (get_or ls k [] ++ flat (drop (suc k) ls)))

sets-at : (b : ℕ) (ls : List (List Range)) (k : ℕ) → k < length ls → get_or (set_records b ls) k [] ≡ pos (b + length (flat (take k ls))) ∷ pos (length (get_or ls k [])) ∷ []
sets-at b [] k h = absurd (omega arith)
sets-at b (l ∷ ls) zero h = ap (λ (n : ℕ). pos n ∷ pos (length l) ∷ []) (omega arith)
sets-at b (l ∷ ls) (suc k) h = sets-at (b + length l) ls k (omega arith) ∙ ap (λ (n : ℕ). pos n ∷ pos (length (get_or ls k [])) ∷ []) (omega (arith, length-append l (flat (take k ls))))

module _ (lent : Table → ℕ) (r : Read) (fit : (t : Table) → length (flat (records r t)) ≤ lent t) (k : ℕ) (h : k < length r.sets) where
  abbrev start : ℕ
  start = length (flat (take k r.sets))

  abbrev kept : List Range
  kept = get_or r.sets k []

  set_word : (j : ℕ) → j < 2 → get_or (table r lent Sets) (2 * k + j) (pos 0) ≡ get_or (pos start ∷ pos (length kept) ∷ []) j (pos 0)
  unfolding records
  set_word j l = word_at_lem lent r fit Sets k j (omega (arith, sets_long 0 r.sets)) l ∙ ap (λ (x : List ℤ). get_or x j (pos 0)) (sets-at 0 r.sets k h ∙ ap (λ (n : ℕ). pos n ∷ pos (length kept) ∷ []) (omega arith))

  inside-all : start + length kept ≤ length (flat r.sets)
  inside-all = omega (arith, ap length (split r.sets k h), length-append (flat (take k r.sets)) (kept ++ flat (drop (suc k) r.sets)), length-append kept (flat (drop (suc k) r.sets)))

  pub set-inside : inside (table r lent Sets) (length (flat r.sets)) (pos k) ≡ true
  set-inside =
      let f6 : leb 0 start ≡ true = le-leb 0 start (omega arith) in
      let f7 : leb 0 (length kept) ≡ true = le-leb 0 (length kept) (omega arith) in
      let f8 : leb (start + length kept) (length (flat r.sets)) ≡ true = le-leb (start + length kept) (length (flat r.sets)) inside-all in
      rw (set_word 0 (omega arith), set_word 1 (omega arith), f6, f7, f8) refl

  -- "a set's ranges as a part of the lent table"
  pub set-part : set_part (table r lent Sets) (length r.sets) (table r lent Ranges) (length (flat r.sets)) (pos k) ≡ Ok ((2 * start), (2 * length kept))
  unfolding set_part
  set-part =
      let f3 : ltb k (length r.sets) ≡ true = lt-ltb k (length r.sets) h in
      rw (sets_fit lent r fit, ranges_fit lent r fit, f3, set-inside, set_word 0 (omega arith), set_word 1 (omega arith)) refl

  -- and the part is the words of what the set keeps
  pub part_is : part_of (table r lent Ranges) (Ok ((2 * start), (2 * length kept))) ≡ each range_words kept
  unfolding table records
  part_is =
      let zs = zeros (lent Ranges - length (flat (list_of range_words (flat r.sets)))) in
      let A = each range_words (flat (take k r.sets)) in
      let B = each range_words kept in
      let C = each range_words (flat (drop (suc k) r.sets)) in
      let e : flat (list_of range_words (flat r.sets)) ++ zs ≡ A ++ (B ++ (C ++ zs)) =
      ap (λ (x : List ℤ). x ++ zs) (flat_list 0 range_words (flat r.sets) ∙ ap (each range_words) (split r.sets k h)
      ∙ each_append range_words (flat (take k r.sets)) (kept ++ flat (drop (suc k) r.sets))
      ∙ ap (λ (x : List ℤ). A ++ x) (each_append range_words kept (flat (drop (suc k) r.sets))))
      ∙ append_assoc A (B ++ C) zs ∙ ap (λ (x : List ℤ). A ++ x) (append_assoc B C zs) in
      ap (λ (x : List ℤ). take (2 * length kept) (drop (2 * start) x)) e
      ∙ ap (λ (x : List ℤ). take (2 * length kept) x) (drop_at A (B ++ (C ++ zs)) (2 * start) (words_long (flat (take k r.sets))))
      ∙ take_at B (C ++ zs) (2 * length kept) (words_long kept)

  -- also where its first word and its length are read from the set's record
  pub part_words : part_of (table r lent Ranges) (Ok ((part_start (table r lent Sets) (pos k)), (part_length (table r lent Sets) (pos k)))) ≡ each range_words kept
  part_words = rw (set_word 0 (omega arith), set_word 1 (omega arith)) part_is
