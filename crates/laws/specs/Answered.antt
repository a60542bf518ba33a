-- The questions, asked of what an accepted decode left: a state's edges are its chain in order, 14 is never answered, and an edge
-- with a set matches by the set's members.
use Rattle.std.specs.Prelude.{◌≡◌, List, [], Bool, true, false, not, ◌&&◌, ◌||◌, ◌↔◌, ℕ, ◌+◌, ◌*◌, ◌≤◌, ◌<◌, ℤ, pos, negsuc, length, get_or, ◌≤ℤ◌, Ok, Err}
use Rattle.std.proofs.Math.Path.{refl, sym, ap}
use Rattle.std.proofs.Common.{◌∙◌, ⊎_elim, arith, SFits}
use Rattle.std.proofs.Math.Bool.{or-false}
use Rattle.std.specs.Int.Signed.{le_z}
use Rattle.std.specs.Int.{w32}
use borrow.Author.Tests.{lt-ltb, le-ltb, ltb-true, le-leb}
use Rattle.format.specs.declared.Counts.{Counts}
use Rattle.format.specs.Results.{NthEdge, SetPart, Matching}
use Rattle.format.specs.Reading.{Table, States, Edges, Ranges, Sets, Outcome}
use Rattle.format.specs.Sets.{Range}
use Rattle.format.specs.Sections.{Edge, Read, size}
use Rattle.format.specs.Links.{each, flat, names, chain}
use Rattle.format.specs.Tables.{room, edges_of, range_words, records, table, counts_of}
use Rattle.format.specs.Decode.{answer, decoded}
use Rattle.format.specs.Questions.{missing, nth_edge, inside, set_part, part_start, part_length, part_of, lookup, matching, setting, sound, matches}
use Rattle.format.specs.Answers.{of_nth_edge, of_set_part, of_matching}
use Rattle.laws.specs.Gives.{Every, every-at}
use Rattle.laws.specs.Order.{order}
use Rattle.laws.specs.Meaning.{to_T, of_t, InZ}
use Rattle.laws.specs.Keeping.{Sorted, sets-kept, lookup_member}
use Rattle.laws.specs.Fits.{records_fit}
use Rattle.laws.specs.Demand3.{Accepting, accepting}
use Rattle.laws.specs.Asked.{no_edge, states_fit, edges_fit, sets_fit, ranges_fit, edge_word, count_word, nth_edge_lem, nth_behind, set-inside, set-part, part_words}
use Rattle.laws.specs.Sound.{Sound, never, read-sound}

-- ---- small facts

not_14 : {A : Type 0} (number : A → ℕ) {x y : A} → x ≡ y → (number y ≡ 14 → ⊥) → number x ≡ 14 → ⊥
not_14 number p h q = h (sym (ap number p) ∙ q)

both : (a b : Bool) → (a && b) ≡ true ↔ (a ≡ true) × (b ≡ true)
both true b = ((λ e. (refl, e)), (λ x. x.1))
both false b = ((λ e. never refl e), (λ x. never refl x.0))

denied : (b : Bool) → not b ≡ true ↔ (b ≡ true → ⊥)
denied true = ((λ e. never refl e), (λ h. absurd (h refl)))
denied false = ((λ e. λ f. never refl f), (λ h. refl))

at_most : (a b : ℤ) → le_z a b ≡ true ↔ (a ≤ℤ b)
at_most a b = ((λ e. record { le = to_T e }), (λ x. of_t (le_z a b) x.le))

-- ---- an accepted list r, in the lent slices

module _ (lent : Table → ℕ) (r : Read) (fit : (t : Table) → length (flat (records r t)) ≤ lent t) where
  abbrev answered_edge : ℤ → ℤ → NthEdge
  answered_edge s k = nth_edge (table r lent States) (length r.states) (table r lent Edges) (length (edges_of r)) s k

  abbrev answered_part : ℤ → SetPart
  answered_part k = set_part (table r lent Sets) (length r.sets) (table r lent Ranges) (length (flat r.sets)) k

  abbrev answered_match : ℤ → ℤ → ℤ → ℤ → Matching
  answered_match i v lo hi = matches (table r lent Edges) (length (edges_of r)) (table r lent Sets) (length r.sets) (table r lent Ranges) (length (flat r.sets)) i v lo hi

  edge_unlisted : (s k : ℤ) → names (length r.states) s ≡ false → answered_edge s k ≡ Err (missing s)
  unfolding nth_edge
  edge_unlisted s k e = rw (states_fit lent r fit, edges_fit lent r fit, e) refl

  edge-negative : (s : ℤ) (k : ℕ) → names (length r.states) s ≡ true → answered_edge s (negsuc k) ≡ Err (missing (negsuc k))
  unfolding nth_edge
  edge-negative s k e = rw (states_fit lent r fit, edges_fit lent r fit, e) refl

  part_unlisted : (k : ℤ) → names (length r.sets) k ≡ false → answered_part k ≡ Err (missing k)
  unfolding set_part
  part_unlisted k e = rw (sets_fit lent r fit, ranges_fit lent r fit, e) refl

  match_unlisted : (i v lo hi : ℤ) → names (length (edges_of r)) i ≡ false → answered_match i v lo hi ≡ Err (missing i)
  unfolding matches
  match_unlisted i v lo hi e = rw (edges_fit lent r fit, sets_fit lent r fit, ranges_fit lent r fit, e) refl

  module _ (good : Every (Sound (length r.states) (length r.sets)) (edges_of r)) (i : ℕ) (h : i < length (edges_of r)) where
    abbrev e : Edge
    e = get_or (edges_of r) i no_edge

    abbrev hit : ℤ → Bool
    hit v = lookup (part_of (table r lent Ranges) (Ok ((part_start (table r lent Sets) e.p), (part_length (table r lent Sets) e.p)))) v

    edge_good : Sound (length r.states) (length r.sets) e
    edge_good = every-at (Sound (length r.states) (length r.sets)) (edges_of r) no_edge i good h

    -- a listed set is inside
    set_good : (p : ℤ) → names (length r.sets) p ≡ true → inside (table r lent Sets) (length (flat r.sets)) p ≡ true
    set_good (pos k) t = set-inside lent r fit k (ltb-true k (length r.sets) t)
    set_good (negsuc k) t = never refl t

    sound_here : sound (table r lent Sets) (length r.sets) (length (flat r.sets)) (pos e.kind) e.p ≡ true
    sound_here = rw (le-leb 1 e.kind edge_good.low, le-leb e.kind 10 edge_good.high) (go (setting (pos e.kind)) refl)
      where
        go : (x : Bool) → setting (pos e.kind) ≡ x → (not x || (names (length r.sets) e.p && inside (table r lent Sets) (length (flat r.sets)) e.p)) ≡ true
        go true q = rw (edge_good.set q, set_good e.p (edge_good.set q)) refl
        go false q = refl

    -- a listed edge is answered by its type
    match_listed : (v lo hi : ℤ) → answered_match (pos i) v lo hi ≡ Ok (matching e.kind e.p e.q (hit v) v lo hi)
    unfolding matches
    match_listed v lo hi =
        rw (edges_fit lent r fit, sets_fit lent r fit, ranges_fit lent r fit, lt-ltb i (length (edges_of r)) h, edge_word lent r fit i 0 h (omega arith), edge_word lent r fit i 3 h (omega arith), edge_word lent r fit i 4 h (omega arith), sound_here) refl

    -- where it has a set, what is looked up in are the words of what the set keeps
    hit_kept : setting (pos e.kind) ≡ true → (v : ℤ) → hit v ≡ lookup (each range_words (get_or r.sets (size e.p) [])) v
    hit_kept s v = by e.p (edge_good.set s)
      where
        by : (p : ℤ) → names (length r.sets) p ≡ true
            → lookup (part_of (table r lent Ranges) (Ok ((part_start (table r lent Sets) p), (part_length (table r lent Sets) p)))) v ≡ lookup (each range_words (get_or r.sets (size p) [])) v
        by (pos k) t = ap (λ (l : List ℤ). lookup l v) (part_words lent r fit k (ltb-true k (length r.sets) t))
        by (negsuc k) t = never refl t

  -- ---- 14 is not answered

  edge_not_14 : (s k : ℤ) → (of_nth_edge (answered_edge s k)).number ≡ 14 → ⊥
  edge_not_14 (negsuc s) k = not_14 (λ x. (of_nth_edge x).number) (edge_unlisted (negsuc s) k refl) (λ z. omega arith)
  edge_not_14 (pos s) k = ⊎_elim
      (λ h. not_14 (λ x. (of_nth_edge x).number) (edge_unlisted (pos s) k (le-ltb s (length r.states) h)) (λ z. omega arith))
      (λ h. by k h) (order (length r.states) s)
    where
      by : (k : ℤ) → s < length r.states → (of_nth_edge (answered_edge (pos s) k)).number ≡ 14 → ⊥
      by (negsuc k) h = not_14 (λ x. (of_nth_edge x).number) (edge-negative (pos s) k (lt-ltb s (length r.states) h)) (λ z. omega arith)
      by (pos k) h = ⊎_elim
          (λ l. not_14 (λ x. (of_nth_edge x).number) (nth_behind lent r fit s k h l) (λ z. omega arith))
          (λ l. not_14 (λ x. (of_nth_edge x).number) (nth_edge_lem lent r fit s k h l) (λ z. omega arith)) (order (length (chain (edges_of r) s)) k)

  part_not_14 : (k : ℤ) → (of_set_part (answered_part k)).number ≡ 14 → ⊥
  part_not_14 (negsuc k) = not_14 (λ x. (of_set_part x).number) (part_unlisted (negsuc k) refl) (λ z. omega arith)
  part_not_14 (pos k) = ⊎_elim
      (λ h. not_14 (λ x. (of_set_part x).number) (part_unlisted (pos k) (le-ltb k (length r.sets) h)) (λ z. omega arith))
      (λ h. not_14 (λ x. (of_set_part x).number) (set-part lent r fit k h) (λ z. omega arith)) (order (length r.sets) k)

  match_not_14 : Every (Sound (length r.states) (length r.sets)) (edges_of r) → (i v lo hi : ℤ) → (of_matching (answered_match i v lo hi)).number ≡ 14 → ⊥
  match_not_14 good (negsuc i) v lo hi = not_14 (λ x. (of_matching x).number) (match_unlisted (negsuc i) v lo hi refl) (λ z. omega arith)
  match_not_14 good (pos i) v lo hi = ⊎_elim
      (λ h. not_14 (λ x. (of_matching x).number) (match_unlisted (pos i) v lo hi (le-ltb i (length (edges_of r)) h)) (λ z. omega arith))
      (λ h. not_14 (λ x. (of_matching x).number) (match_listed good i h v lo hi) (λ z. omega arith)) (order (length (edges_of r)) i)

-- a match is answered, and says whether P holds
pub record Decides (m : Matching) (P : Type 0) : Type 0 where
  pub yes : Bool
  pub told : m ≡ Ok yes
  pub means : yes ≡ true ↔ P

-- ---- what an accepted decode left

module _ (lent : Table → ℕ) (ws : List ℤ) (at : ℕ) (c : Counts) (e : (decoded lent ws at).told ≡ Ok c) where
  abbrev accepted : Accepting lent ws at c
  accepted = accepting lent ws at c e

  abbrev r : Read
  r = accepted.read

  abbrev left : Table → List ℤ
  left = (decoded lent ws at).left

  fit : (t : Table) → length (flat (records r t)) ≤ lent t
  fit = records_fit lent ws at r accepted.behind accepted.ran

  good : Every (Sound (length r.states) (length r.sets)) (edges_of r)
  good = read-sound ws (room lent) at r accepted.behind accepted.ran

  left_is : (t : Table) → left t ≡ table r lent t
  unfolding decoded
  left_is t = ap (λ (o : Outcome Read). (answer lent at o).left t) accepted.ran

  states_are : c.states ≡ length r.states
  unfolding counts_of
  states_are = sym (ap (λ (x : Counts). x.states) accepted.counted)

  edges_are : c.edges ≡ length (edges_of r)
  unfolding counts_of
  edges_are = sym (ap (λ (x : Counts). x.edges) accepted.counted)

  sets_are : c.sets ≡ length r.sets
  unfolding counts_of
  sets_are = sym (ap (λ (x : Counts). x.sets) accepted.counted)

  ranges_are : c.ranges ≡ length (flat r.sets)
  unfolding counts_of
  ranges_are = sym (ap (λ (x : Counts). x.ranges) accepted.counted)

  edge_is : (s k : ℤ) → nth_edge (left States) c.states (left Edges) c.edges s k ≡ answered_edge lent r fit s k
  edge_is s k = cc (left_is States, left_is Edges, states_are, edges_are)

  part_is : (k : ℤ) → set_part (left Sets) c.sets (left Ranges) c.ranges k ≡ answered_part lent r fit k
  part_is k = cc (left_is Sets, left_is Ranges, sets_are, ranges_are)

  match_is : (i v lo hi : ℤ) → matches (left Edges) c.edges (left Sets) c.sets (left Ranges) c.ranges i v lo hi ≡ answered_match lent r fit i v lo hi
  match_is i v lo hi = cc (left_is Edges, left_is Sets, left_is Ranges, edges_are, sets_are, ranges_are)

  -- (a) a listed state's edge count is the length of its chain; its n-th edges are the chain in order, and from the count on there is none
  pub edges-counted : (s : ℕ) → s < c.states → get_or (left States) (8 * s + 7) (pos 0) ≡ pos (length (chain (edges_of r) s))
  edges-counted s h = ap (λ (l : List ℤ). get_or l (8 * s + 7) (pos 0)) (left_is States) ∙ count_word lent r fit s (omega (arith, states_are))

  pub edges-in-order : (s k : ℕ) → s < c.states → k < length (chain (edges_of r) s)
      → nth_edge (left States) c.states (left Edges) c.edges (pos s) (pos k) ≡ Ok (pos (get_or (chain (edges_of r) s) k 0))
  edges-in-order s k h l = edge_is (pos s) (pos k) ∙ nth_edge_lem lent r fit s k (omega (arith, states_are)) l

  pub edges_end_lem : (s k : ℕ) → s < c.states → length (chain (edges_of r) s) ≤ k
      → nth_edge (left States) c.states (left Edges) c.edges (pos s) (pos k) ≡ Err (missing (pos k))
  edges_end_lem s k h l = edge_is (pos s) (pos k) ∙ nth_behind lent r fit s k (omega (arith, states_are)) l

  -- (b) 14 is never answered, whatever is asked
  pub never_14_edge : (s k : ℤ) → (of_nth_edge (nth_edge (left States) c.states (left Edges) c.edges s k)).number ≡ 14 → ⊥
  never_14_edge s k = not_14 (λ x. (of_nth_edge x).number) (edge_is s k) (edge_not_14 lent r fit s k)

  pub never_14_part : (k : ℤ) → (of_set_part (set_part (left Sets) c.sets (left Ranges) c.ranges k)).number ≡ 14 → ⊥
  never_14_part k = not_14 (λ x. (of_set_part x).number) (part_is k) (part_not_14 lent r fit k)

  pub never_14_match : (i v lo hi : ℤ) → (of_matching (matches (left Edges) c.edges (left Sets) c.sets (left Ranges) c.ranges i v lo hi)).number ≡ 14 → ⊥
  never_14_match i v lo hi = not_14 (λ x. (of_matching x).number) (match_is i v lo hi) (match_not_14 lent r fit good i v lo hi)

  -- (c) in words of 32 bits, an edge of type 7 matches the members of its set, and one of type 8 what is within min..max and no member
  module _ (words : (i : ℕ) → i < length ws → SFits w32 (get_or ws i (pos 0))) (i : ℕ) (h : i < c.edges) (v lo hi : ℤ) (f : SFits w32 v) where
    abbrev edge_here : Edge
    edge_here = get_or (edges_of r) i no_edge

    abbrev members : List Range
    members = get_or r.sets (size edge_here.p) []

    abbrev asked : Matching
    asked = matches (left Edges) c.edges (left Sets) c.sets (left Ranges) c.ranges (pos i) v lo hi

    listed_here : i < length (edges_of r)
    listed_here = omega (arith, edges_are)

    abbrev within : Bool
    within = le_z lo v && le_z v hi

    abbrev found : Bool
    found = lookup (each range_words members) v

    by_type : setting (pos edge_here.kind) ≡ true → asked ≡ Ok (matching edge_here.kind edge_here.p edge_here.q found v lo hi)
    by_type s =
        match_is (pos i) v lo hi ∙ match_listed lent r fit good i listed_here v lo hi
        ∙ ap (λ (x : Bool). Ok (matching edge_here.kind edge_here.p edge_here.q x v lo hi)) (hit_kept lent r fit good i listed_here s v)

    found_means : setting (pos edge_here.kind) ≡ true → found ≡ true ↔ InZ v members
    found_means s = by edge_here.p ((edge_good lent r fit good i listed_here).set s)
      where
        by : (p : ℤ) → names (length r.sets) p ≡ true → lookup (each range_words (get_or r.sets (size p) [])) v ≡ true ↔ InZ v (get_or r.sets (size p) [])
        by (pos k) t =
            lookup_member (get_or r.sets k []) v
            (every-at Sorted r.sets [] k (sets-kept ws (room lent) at r accepted.behind words accepted.ran) (ltb-true k (length r.sets) t)) f
        by (negsuc k) t = never refl t

    shown_means : setting (pos edge_here.kind) ≡ true → (within && not found) ≡ true ↔ (((lo ≤ℤ v) × (v ≤ℤ hi)) × (InZ v members → ⊥))
    shown_means s = (
      (λ x.
          let y = (both within (not found)).0 x in
          let w = (both (le_z lo v) (le_z v hi)).0 y.0 in
          (((at_most lo v).0 w.0, (at_most v hi).0 w.1), (λ m. (denied found).0 y.1 ((found_means s).1 m)))),
      (λ x. (both within (not found)).1 ((both (le_z lo v) (le_z v hi)).1 ((at_most lo v).1 x.0.0, (at_most v hi).1 x.0.1), (denied found).1 (λ t. x.1 ((found_means s).0 t)))),
    )

    pub set_matches : edge_here.kind ≡ 7 → Decides asked (InZ v members)
    set_matches k =
        let s : setting (pos edge_here.kind) ≡ true = rw k refl in
        record { yes = found; told = by_type s ∙ ap Ok (rw k (simp or-false)); means = found_means s }

    pub not_set_matches : edge_here.kind ≡ 8 → Decides asked (((lo ≤ℤ v) × (v ≤ℤ hi)) × (InZ v members → ⊥))
    not_set_matches k =
        let s : setting (pos edge_here.kind) ≡ true = rw k refl in
        record { yes = within && not found; told = by_type s ∙ ap Ok (rw k (simp or-false)); means = shown_means s }
