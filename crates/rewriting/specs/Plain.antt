-- The flagged states in ascending order are the same records; and what was read is found again in its records, in that order.
use Rattle.std.specs.Prelude.{◌≡◌, refl, List, [], ◌∷◌, ◌++◌, map, Bool, true, false, ◌&&◌, ℕ, suc, ◌+◌, ◌*◌, ◌≤◌, ◌<◌, ltb, ℤ, pos, length, get_or}
use Rattle.std.proofs.Common.{ap, ◌∙◌, subst, append-nil, ⊎_elim, arith, lt-ltb, le-ltb, ltb-true, eq-eqb, ne_eqb}
use Rattle.std.proofs.Math.Seq.{take-append_seam, drop-append_seam}
use Rattle.format.specs.Reading.{Table, States, Edges, Ranges, Sets, Rules, Modes, Decisions, Actions, Scratch, pick}
use Rattle.format.specs.Sets.{Range}
use Rattle.format.specs.Sections.{State, Rule, Edge, Read, state_of, none, among, bit}
use Rattle.format.specs.Links.{those, numbers_from, every, flat, first, chain, names, state_at, typed, start_of, leads, onto, decides, tail}
use Rattle.format.specs.Links.{last}
use Rattle.format.specs.Tables.{numbered, derived_of, edges_of, state_words, edge_words, range_words, set_records, rule_words, state_word, action_words, records, counts_of}
use Rattle.format.specs.Writing.{cell_size, flag1, flag2, own, state_back, edge_back, range_back, rule_back, action_back, cuts, recovered}
use Rattle.laws.specs.Rows.{rows_same}
use Rattle.laws.specs.Order.{order}
use Rattle.laws.specs.Lists.{those-append}
use Rattle.laws.specs.Fits.{Roomed}
use Rattle.rewriting.specs.Formed.{ascending, plain, Formed}

-- ---- the numbers that pass a test

module _ {A : Type 0} (p : ℕ → Bool) where
  abbrev passing : ℕ → List A → List ℕ
  passing i l = those p (numbers_from i (λ x. true) l)

  passing_before : (i : ℕ) (l : List A) (s : ℕ) → s < i → among s (passing i l) ≡ false
  passing_before i [] s h = refl
  passing_before i (a ∷ l) s h = go (p i) (passing_before (i + 1) l s (omega arith))
    where
      go : (b : Bool) → among s (passing (i + 1) l) ≡ false → among s (pick b (i ∷ passing (i + 1) l) (passing (i + 1) l)) ≡ false
      go true q = rw (ne_eqb s i (λ e. omega arith)) q
      go false q = q

  passing_is : (i : ℕ) (l : List A) (s : ℕ) → i ≤ s → s < i + length l → among s (passing i l) ≡ p s
  passing_is i [] s h k = absurd (omega arith)
  passing_is i (a ∷ l) s h k = ⊎_elim (λ (x : s ≤ i). here (let e : s ≡ i = omega arith in e)) (λ x. later x (passing_is (i + 1) l s (omega arith) (omega arith))) (order s i)
    where
      here : s ≡ i → among s (passing i (a ∷ l)) ≡ p s
      here e = subst (λ (j : ℕ). among s (pick (p j) (j ∷ passing (i + 1) l) (passing (i + 1) l)) ≡ p s) e (go (p s))
        where
          go : (b : Bool) → among s (pick b (s ∷ passing (i + 1) l) (passing (i + 1) l)) ≡ b
          go true = rw (eq-eqb s s refl) refl
          go false = passing_before (i + 1) l s (omega (arith, e))

      later : i < s → among s (passing (i + 1) l) ≡ p s → among s (passing i (a ∷ l)) ≡ p s
      later x q = go (p i)
        where
          go : (b : Bool) → among s (pick b (i ∷ passing (i + 1) l) (passing (i + 1) l)) ≡ p s
          go true = rw (ne_eqb s i (λ e. omega arith)) q
          go false = q

  passing_listed : (i : ℕ) (l : List A) (n : ℕ) → i + length l ≤ n → every (λ s. ltb s n) (passing i l) ≡ true
  passing_listed i [] n h = refl
  passing_listed i (a ∷ l) n h = go (p i) (passing_listed (i + 1) l n (omega arith))
    where
      go : (b : Bool) → every (λ s. ltb s n) (passing (i + 1) l) ≡ true → every (λ s. ltb s n) (pick b (i ∷ passing (i + 1) l) (passing (i + 1) l)) ≡ true
      go true q = rw (lt-ltb i n (omega arith)) q
      go false q = q

among-ascending : (ss : List State) (l : List ℕ) (s : ℕ) → s < length ss → among s (ascending ss l) ≡ among s l
among-ascending ss l s h = passing_is (λ s. among s l) 0 ss s (omega arith) (omega arith)

-- ---- the same records

gate : (a t c d : Bool) → (t ≡ true → c ≡ d) → (a && t && c) ≡ (a && t && d)
gate true true c d h = h refl
gate true false c d h = refl
gate false t c d h = refl

decides-plain : (ss : List State) (l : List ℕ) (rs : List Rule) (es : List Edge) (s : ℕ) → decides ss (ascending ss l) rs es s ≡ decides ss l rs es s
unfolding decides
decides-plain ss l rs es s =
    ap (λ (x : Bool). x && leads ss es (last (chain es s)) 12 && leads ss es (first (chain es (onto es (last (chain es s))))) 7)
    (gate (typed ss 10 s && names (length rs) (state_at ss s).rule) (ltb (start_of rs (state_at ss s).rule) (length ss)) (among (start_of rs (state_at ss s).rule) (ascending ss l)) (among (start_of rs (state_at ss s).rule) l)
    (λ h. among-ascending ss l (start_of rs (state_at ss s).rule) (ltb-true (start_of rs (state_at ss s).rule) (length ss) h)))

state-plain : (r : Read) (es : List Edge) (j : ℕ) (x : State) → j < length r.states → state_words (plain r) es j x ≡ state_words r es j x
unfolding plain
state-plain r es j x h =
    rw (among-ascending r.states r.nongreedy j h, among-ascending r.states r.recursive j h, decides-plain r.states r.recursive r.rules es j) refl

pub plain-records : (r : Read) (t : Table) → records (plain r) t ≡ records r t
unfolding plain records
plain-records r States = rows_same (state_of 0 none none none) (state_words (plain r) (edges_of r)) (state_words r (edges_of r)) r.states (λ j h. state-plain r (edges_of r) j (get_or r.states j (state_of 0 none none none)) h)
plain-records r Edges = refl
plain-records r Ranges = refl
plain-records r Sets = refl
plain-records r Rules = refl
plain-records r Modes = refl
plain-records r Decisions = refl
plain-records r Actions = refl
plain-records r Scratch = refl

pub plain-counts : (r : Read) (n : ℕ) → counts_of (plain r) n ≡ counts_of r n
unfolding plain counts_of
plain-counts r n = refl

pub plain_formed : (r : Read) → Formed r → Formed (plain r)
unfolding plain
plain_formed r f =
    record {
      states = f.states;
      ones = passing_listed (λ s. among s r.nongreedy) 0 r.states (length r.states) (omega arith);
      twos = passing_listed (λ s. among s r.recursive) 0 r.states (length r.states) (omega arith);
      sets = f.sets;
      edges = f.edges;
      actions = f.actions;
    }

pub plain_roomed : (room : Table → ℕ) (r : Read) → Roomed room r → Roomed room (plain r)
unfolding plain
plain_roomed room r m = record { states = m.states; edges = m.edges; ranges = m.ranges; sets = m.sets; rules = m.rules; modes = m.modes; decisions = m.decisions; actions = m.actions }

-- ---- found again

pub back : {A B : Type 0} (g : B → A) (i : ℕ) (f : ℕ → A → B) (l : List A) → ((j : ℕ) (a : A) → g (f j a) ≡ a) → map g (numbered i f l) ≡ l
back g i f [] h = refl
back g i f (a ∷ l) h = let x = h i a in let y = back g (i + 1) f l h in λ k. x k ∷ y k

bit1 : (a b c : Bool) → among (bit a + 2 * bit b + 4 * bit c) (1 ∷ 3 ∷ 5 ∷ 7 ∷ []) ≡ a
bit1 true true true = refl
bit1 true true false = refl
bit1 true false true = refl
bit1 true false false = refl
bit1 false true true = refl
bit1 false true false = refl
bit1 false false true = refl
bit1 false false false = refl

bit2 : (a b c : Bool) → among (bit a + 2 * bit b + 4 * bit c) (2 ∷ 3 ∷ 6 ∷ 7 ∷ []) ≡ b
bit2 true true true = refl
bit2 true true false = refl
bit2 true false true = refl
bit2 true false false = refl
bit2 false true true = refl
bit2 false true false = refl
bit2 false false true = refl
bit2 false false false = refl

flags-back : {A : Type 0} (f : ℕ → A → List ℤ) (q : List ℤ → Bool) (p : ℕ → Bool) → ((i : ℕ) (a : A) → q (f i a) ≡ p i) → (i : ℕ) (l : List A) → numbers_from i q (numbered i f l) ≡ those p (numbers_from i (λ x. true) l)
flags-back f q p h i [] = refl
flags-back f q p h i (a ∷ l) = rw (h i a) (ap (λ (m : List ℕ). pick (p i) (i ∷ m) m) (flags-back f q p h (i + 1) l))

lengths-back : (k : ℕ) (ls : List (List Range)) → map (λ x. cell_size x 1) (set_records k ls) ≡ map length ls
lengths-back k [] = refl
lengths-back k (l ∷ ls) = ap (λ (m : List ℕ). length l ∷ m) (lengths-back (k + length l) ls)

cuts_back : {A : Type 0} (ls : List (List A)) → cuts (flat ls) (map length ls) ≡ ls
cuts_back [] = refl
cuts_back (l ∷ ls) = rw (take-append_seam l (flat ls), drop-append_seam l (flat ls)) (ap (λ m. l ∷ m) (cuts_back ls))

numbered-append : {A B : Type 0} (i : ℕ) (f : ℕ → A → B) (l m : List A) → numbered i f (l ++ m) ≡ numbered i f l ++ numbered (i + length l) f m
numbered-append i f [] m = ap (λ (n : ℕ). numbered n f m) (let e : i ≡ i + 0 = omega arith in e)
numbered-append i f (a ∷ l) m = ap (λ x. f i a ∷ x) (numbered-append (i + 1) f l m ∙ ap (λ (n : ℕ). numbered (i + 1) f l ++ numbered n f m) (let e : i + 1 + length l ≡ i + suc (length l) = omega arith in e))

module _ (r : Read) (es : List Edge) where
  own_word : (i : ℕ) (e : Edge) → i < length r.edges → own (edge_words r es i e) ≡ true
  own_word i e h = rw (lt-ltb i (length r.edges) h) (go (tail r.states (length r.rules) es e))
    where
      go : (b : Bool) → own (pos 0 ∷ pos 0 ∷ pos 0 ∷ pos 0 ∷ pos 0 ∷ pos 0 ∷ pos (2 * bit b) ∷ []) ≡ true
      go true = refl
      go false = refl

  derived_word : (i : ℕ) (e : Edge) → length r.edges ≤ i → own (edge_words r es i e) ≡ false
  derived_word i e h = rw (le-ltb i (length r.edges) h) refl

  own-all : (i : ℕ) (l : List Edge) → i + length l ≤ length r.edges → those own (numbered i (edge_words r es) l) ≡ numbered i (edge_words r es) l
  own-all i [] h = refl
  own-all i (e ∷ l) h = rw (own_word i e (omega arith)) (ap (λ x. edge_words r es i e ∷ x) (own-all (i + 1) l (omega arith)))

  own-none : (i : ℕ) (l : List Edge) → length r.edges ≤ i → those own (numbered i (edge_words r es) l) ≡ []
  own-none i [] h = refl
  own-none i (e ∷ l) h = rw (derived_word i e h) (own-none (i + 1) l (omega arith))

edges-back : (r : Read) → map edge_back (those own (numbered 0 (edge_words r (edges_of r)) (edges_of r))) ≡ r.edges
edges-back r =
    ap (λ (x : List (List ℤ)). map edge_back (those own x)) (numbered-append 0 (edge_words r (edges_of r)) r.edges (derived_of r))
    ∙ ap (map edge_back) (those-append own (numbered 0 (edge_words r (edges_of r)) r.edges) (numbered (0 + length r.edges) (edge_words r (edges_of r)) (derived_of r)))
    ∙ ap (λ (x : List (List ℤ)). map edge_back (those own (numbered 0 (edge_words r (edges_of r)) r.edges) ++ x)) (own-none r (edges_of r) (0 + length r.edges) (derived_of r) (omega arith))
    ∙ ap (map edge_back) (append-nil (those own (numbered 0 (edge_words r (edges_of r)) r.edges)) ∙ own-all r (edges_of r) 0 r.edges (omega arith))
    ∙ back edge_back 0 (edge_words r (edges_of r)) r.edges (λ j a. refl)

sets-back : (ls : List (List Range)) → cuts (map range_back (numbered 0 (λ i a. range_words a) (flat ls))) (map (λ x. cell_size x 1) (set_records 0 ls)) ≡ ls
sets-back ls = rw (back range_back 0 (λ i a. range_words a) (flat ls) (λ j a. refl), lengths-back 0 ls) (cuts_back ls)

pub recovered-records : (r : Read) → recovered (records r) r.token ≡ plain r
unfolding recovered records plain
recovered-records r =
    let p1 = back state_back 0 (state_words r (edges_of r)) r.states (λ j a. refl) in
    let p2 = flags-back (state_words r (edges_of r)) flag1 (λ s. among s r.nongreedy) (λ i a. bit1 (among i r.nongreedy) (among i r.recursive) (decides r.states r.recursive r.rules (edges_of r) i)) 0 r.states in
    let p3 = flags-back (state_words r (edges_of r)) flag2 (λ s. among s r.recursive) (λ i a. bit2 (among i r.nongreedy) (among i r.recursive) (decides r.states r.recursive r.rules (edges_of r) i)) 0 r.states in
    let p4 = back rule_back 0 (rule_words r) r.rules (λ j a. refl) in
    let p5 = back (λ x. cell_size x 0) 0 (λ i a. state_word a) r.modes (λ j a. refl) in
    let p6 = sets-back r.sets in
    let p7 = edges-back r in
    let p8 = back (λ x. cell_size x 0) 0 (λ i a. state_word a) r.decisions (λ j a. refl) in
    let p9 = back action_back 0 (λ i a. action_words a) r.actions (λ j a. refl) in
    λ i. record { token = r.token; states = p1 i; nongreedy = p2 i; recursive = p3 i; rules = p4 i; modes = p5 i; sets = p6 i; edges = p7 i; decisions = p8 i; actions = p9 i }
