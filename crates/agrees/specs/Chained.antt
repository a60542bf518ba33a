-- One edge more, put behind the others and chained: "A state's edges are chained in word order."
use Rattle.std.specs.Prelude.{◌≡◌, refl, Bool, true, false, ℕ, suc, ◌+◌, ◌*◌, ◌≤◌, ◌<◌, ltb, eqb, ℤ, pos, length, get_or, set}
use Rattle.std.proofs.Common.{sym, ◌∙◌, inl, inr, ⊎_elim, arith, length-append, lt-ltb, le-ltb, ltb-false}
use Rattle.std.proofs.Math.Path.{ap}
use mathlib.Core.List.{List, [], ◌∷◌, ◌++◌}
use Rattle.std.proofs.Math.ListN.{get_or-append}
use Rattle.format.specs.Reading.{pick}
use Rattle.format.specs.Sections.{State, Edge, none, size}
use Rattle.format.specs.Links.{those, numbers_from, first, last, names, chain, next}
use Rattle.format.specs.Tables.{numbered}
use Rattle.laws.specs.Order.{order}
use Rattle.laws.specs.Chains.{Mem, chain_are, chain-up, first-none, last_greatest}
use Rattle.laws.specs.Collect.{put}
use Rattle.laws.specs.Grows.{chain_other, last-own, count-own, first-own, first_stays, next_stays, next-own, next_other}
use Rattle.inplace.specs.Rows.{word_of, stored, one_more, edge_row}
use Rattle.inplace.specs.Links.{Net, net, first_or, last_of, chained, linked}
use Rattle.agrees.specs.Forms.{padded, states_form, edge_line, edges_form}
use Rattle.agrees.specs.Words.{no_state, no_edge, state_word_lem}
use Rattle.agrees.specs.Lists.{apart, below}
use Rattle.agrees.specs.Rows.{rows_more, put-more, row_word, set-row}
use Rattle.laws.specs.Rows.{Wide, numbered_long, numbered-every, rows_same}

-- ---- what follows in a chain

-- nothing is behind the greatest
those-none : (i : ℕ) (l : List ℕ) → ((k : ℕ) → Mem k l → k ≤ i) → those (λ j. ltb i j) l ≡ []
those-none i [] h = refl
those-none i (n ∷ l) h = rw (le-ltb i n (h n (inl refl))) (those-none i l (λ k m. h k (inr m)))

-- something is behind a lesser one
those_some : (i n : ℕ) (l : List ℕ) → Mem n l → i < n → (j : ℕ) × (first (those (λ j. ltb i j) l) ≡ pos j)
those_some i n [] m h = absurd m
those_some i n (k ∷ l) m h = go (those_some i n l) (ltb i k) refl m
  where
    go : (Mem n l → i < n → (j : ℕ) × (first (those (λ j. ltb i j) l) ≡ pos j)) → (b : Bool) → ltb i k ≡ b → Mem n (k ∷ l)
        → (j : ℕ) × (first (pick b (k ∷ those (λ j. ltb i j) l) (those (λ j. ltb i j) l)) ≡ pos j)
    go ih true e w = (k, refl)
    go ih false e (inl w) = absurd (omega (arith, ltb-false i k e))
    go ih false e (inr w) = ih w h

-- A list of numbers has neither a first nor a last, or both.
data Ends (l : List ℕ) : Type 0 where
  neither : first l ≡ none → last l ≡ none → Ends l
  both : (f n : ℕ) → first l ≡ pos f → last l ≡ pos n → Ends l

ends : (l : List ℕ) → Ends l
ends [] = neither refl refl
ends (n ∷ []) = both n n refl refl
ends (n ∷ m ∷ l) = go (ends (m ∷ l))
  where
    go : Ends (m ∷ l) → Ends (n ∷ m ∷ l)
    go (neither p q) = absurd (let z : ◌≡◌ {A = ℕ} 0 1 = cc in omega arith)
    go (both f k p q) = both n k refl q

numbers_short : {A : Type 0} (i : ℕ) (p : A → Bool) (l : List A) → length (numbers_from i p l) ≤ length l
numbers_short i p [] = omega arith
numbers_short i p (a ∷ l) = go (p a) (numbers_short (i + 1) p l)
  where
    go : (b : Bool) → length (numbers_from (i + 1) p l) ≤ length l → length (pick b (i ∷ numbers_from (i + 1) p l) (numbers_from (i + 1) p l)) ≤ suc (length l)
    go true h = omega arith
    go false h = omega arith

-- a state has no more edges than there are
chain_short : (es : List Edge) (s : ℕ) → length (chain es s) ≤ length es
chain_short es s = numbers_short 0 (λ (e : Edge). eqb e.source s) es

-- nothing follows the last of all edges
next_past : (es : List Edge) (s i : ℕ) → length es ≤ suc i → next es s i ≡ none
next_past es s i h = ap first (those-none i (chain es s) (λ k m. omega (arith, ((chain_are es s k).0 m).0)))

-- ---- lines

-- A state's words, by its first edge, its last edge and its edge count.
abbrev line : (ℕ → ℕ) → (ℕ → ℤ) → (ℕ → ℤ) → (ℕ → ℤ) → ℕ → State → List ℤ
line F first last count s x = pos x.kind ∷ x.rule ∷ x.end ∷ x.back ∷ pos (F s) ∷ first s ∷ last s ∷ count s ∷ []

abbrev firsts : List Edge → ℕ → ℤ
firsts es s = first (chain es s)

abbrev lasts : List Edge → ℕ → ℤ
lasts es s = last (chain es s)

abbrev counts : List Edge → ℕ → ℤ
counts es s = pos (length (chain es s))

-- An edge's words, by its next edge.
abbrev leading : (ℕ → ℕ) → ℕ → Edge → ℤ → List ℤ
leading M i e v = pos e.kind ∷ pos e.source ∷ pos e.target ∷ e.p ∷ e.q ∷ e.r ∷ pos (M i) ∷ v ∷ []

module _ (ss : List State) (a b : ℕ) (F M : ℕ → ℕ) (es : List Edge) (e : Edge) (listed : e.source < length ss) (small : length es < 2147483647) (roomy : 8 * (length es + 1) ≤ b) where
  abbrev grown : List Edge
  grown = es ++ (e ∷ [])

  abbrev s : ℕ
  s = e.source

  -- ---- the states' table, word by word

  abbrev lines : (ℕ → ℤ) → (ℕ → ℤ) → (ℕ → ℤ) → List ℤ
  lines f l n = padded a (numbered 0 (line F f l n) ss)

  -- the other states' chains stay
  other : (j : ℕ) → (j ≡ s → ⊥) → chain es j ≡ chain grown j
  other j n = sym (chain_other es e j (λ q. n (sym q)))

  -- a word of the edge's source is stored, and the others stay
  word_set : (f l n f' l' n' : ℕ → ℤ) (k : ℕ) (v : ℤ) → k < 8
      → ((j : ℕ) → (j ≡ s → ⊥) → (x : State) → line F f l n j x ≡ line F f' l' n' j x)
      → ((x : State) → set (line F f l n s x) k v ≡ line F f' l' n' s x)
      → stored 8 (lines f l n) s k v ≡ lines f' l' n'
  word_set f l n f' l' n' k v h o w =
      set-row 8 a (line F f l n) (line F f' l' n') ss no_state (λ j x. refl) (λ j x. refl) s k v listed h (λ j q z. o j z (get_or ss j no_state)) (w (get_or ss s no_state))

  first-set : firsts es s ≡ none → stored 8 (lines (firsts es) (lasts es) (counts es)) s 5 (pos (length es)) ≡ lines (firsts grown) (lasts es) (counts es)
  first-set h =
      word_set (firsts es) (lasts es) (counts es) (firsts grown) (lasts es) (counts es) 5 (pos (length es)) (omega arith)
      (λ j z x. ap (λ (v : ℤ). line F (λ i. v) (lasts es) (counts es) j x) (ap first (other j z)))
      (λ x. ap (λ (v : ℤ). line F (λ i. v) (lasts es) (counts es) s x) (sym (first-own es e h)))

  first-kept : (f : ℕ) → firsts es s ≡ pos f → lines (firsts es) (lasts es) (counts es) ≡ lines (firsts grown) (lasts es) (counts es)
  first-kept f h =
      ap (λ (r : List (List ℤ)). padded a r)
      (rows_same no_state (line F (firsts es) (lasts es) (counts es)) (line F (firsts grown) (lasts es) (counts es)) ss
      (λ j l. ap (λ (v : ℤ). line F (λ i. v) (lasts es) (counts es) j (get_or ss j no_state)) (same j)))
    where
      same : (j : ℕ) → firsts es j ≡ firsts grown j
      same j = ⊎_elim (λ q. ap first (other j q)) (λ (q : j ≡ s). rw q (h ∙ sym (first_stays es e f h))) (apart j s)

  last_set : stored 8 (lines (firsts grown) (lasts es) (counts es)) s 6 (pos (length es)) ≡ lines (firsts grown) (lasts grown) (counts es)
  last_set =
      word_set (firsts grown) (lasts es) (counts es) (firsts grown) (lasts grown) (counts es) 6 (pos (length es)) (omega arith)
      (λ j z x. ap (λ (v : ℤ). line F (firsts grown) (λ i. v) (counts es) j x) (ap last (other j z)))
      (λ x. ap (λ (v : ℤ). line F (firsts grown) (λ i. v) (counts es) s x) (sym (last-own es e)))

  count_word : word_of 8 (lines (firsts grown) (lasts grown) (counts es)) s 7 ≡ counts es s
  count_word = row_word 8 a (line F (firsts grown) (lasts grown) (counts es)) ss no_state (λ j x. refl) s 7 listed (omega arith)

  one_more_lem : one_more (counts es s) ≡ counts grown s
  one_more_lem = rw (lt-ltb (length (chain es s)) 2147483647 (omega (arith, chain_short es s))) (ap pos (sym (count-own es e)))

  count_set : stored 8 (lines (firsts grown) (lasts grown) (counts es)) s 7 (one_more (word_of 8 (lines (firsts grown) (lasts grown) (counts es)) s 7)) ≡ states_form a F grown ss
  count_set =
      ap (λ (v : ℤ). stored 8 (lines (firsts grown) (lasts grown) (counts es)) s 7 v) (ap one_more count_word ∙ one_more_lem)
      ∙ word_set (firsts grown) (lasts grown) (counts es) (firsts grown) (lasts grown) (counts grown) 7 (counts grown s) (omega arith)
      (λ j z x. ap (λ (c : List ℕ). line F (firsts grown) (lasts grown) (λ i. pos (length c)) j x) (other j z))
      (λ x. refl)

  -- ---- the edges' table

  -- the edge is put, with no next
  put-edge : (mark : ℕ) → M (length es) ≡ mark → put 8 (length es) (edge_row mark e) (edges_form b M es) ≡ padded b (numbered 0 (edge_line M es) grown)
  put-edge mark h =
      let long : length (numbered 0 (edge_line M es) es) ≡ length es = numbered_long 0 (edge_line M es) es in
      let row : edge_row mark e ≡ edge_line M es (length es) e = ap (λ (m : ℕ). edge_row m e) (sym h) ∙ ap (leading M (length es) e) (sym (next_past es s (length es) (omega arith))) in
      ap (λ (r : List ℤ). put 8 (length es) r (edges_form b M es)) row
      ∙ ap (λ (m : ℕ). put 8 m (edge_line M es (length es) e) (edges_form b M es)) (sym long)
      ∙ put-more 8 b (numbered 0 (edge_line M es) es) (edge_line M es (length es) e) (numbered-every (Wide 8) 0 (edge_line M es) es (λ j x. refl)) refl (omega arith)
      ∙ ap (λ (r : List (List ℤ)). padded b r) (sym (rows_more (edge_line M es) es e))

  abbrev at : ℕ → Edge
  at j = get_or grown j no_edge

  grown_long : length grown ≡ length es + 1
  grown_long = length-append es (e ∷ [])

  -- an edge's next stays, where one of the source's chain has a next
  stays : (j : ℕ) → j < length grown → (Mem j (chain es s) → (k : ℕ) × (next es s j ≡ pos k)) → edge_line M es j (at j) ≡ edge_line M grown j (at j)
  stays j h f = ap (leading M j (at j)) (⊎_elim (λ q. sym (next_other es e (at j).source j (λ p. q (sym p)))) (λ (q : (at j).source ≡ s). rw q (own q)) (apart (at j).source s))
    where
      old : (at j).source ≡ s → j < length es → next es s j ≡ next grown s j
      old q l =
          let k = f ((chain_are es s j).1 (l, ap (λ (x : Edge). x.source) (sym (get_or-append es (e ∷ []) no_edge j l)) ∙ q)) in
          k.1 ∙ sym (next_stays es e j k.0 k.1)

      own : (at j).source ≡ s → next es s j ≡ next grown s j
      own q = ⊎_elim (old q) (λ l. next_past es s j (omega arith) ∙ sym (next_past grown s j (omega (arith, grown_long)))) (order (suc j) (length es))

  -- no edge before it: none changes
  edges-kept : firsts es s ≡ none → padded b (numbered 0 (edge_line M es) grown) ≡ edges_form b M grown
  edges-kept h =
      ap (λ (r : List (List ℤ)). padded b r) (rows_same no_edge (edge_line M es) (edge_line M grown) grown (λ j l. stays j l (λ m. absurd (first-none (chain es s) j h m))))

  -- the edge n was the last: its next changes
  edges-set : (n : ℕ) → lasts es s ≡ pos n → stored 8 (padded b (numbered 0 (edge_line M es) grown)) n 7 (pos (length es)) ≡ edges_form b M grown
  edges-set n h =
      let g = last_greatest 0 (chain es s) n (chain-up es s) h in
      let i = (chain_are es s n).0 g.0 in
      let own : (at n).source ≡ s = ap (λ (x : Edge). x.source) (get_or-append es (e ∷ []) no_edge n i.0) ∙ i.1 in
      let new : pos (length es) ≡ next grown (at n).source n = rw own (sym (next-own es e n i.0 (ap first (those-none n (chain es s) g.1)))) in
      set-row 8 b (edge_line M es) (edge_line M grown) grown no_edge (λ j x. refl) (λ j x. refl) n 7 (pos (length es)) (omega (arith, grown_long, i.0)) (omega arith)
      (λ j l z. stays j l (λ m. those_some j n (chain es s) g.0 (below j n (g.1 j m) z)))
      (ap (leading M n (at n)) new)

  -- ---- both

  abbrev before : Net
  before = net (states_form a F es ss) (padded b (numbered 0 (edge_line M es) grown))

  abbrev between : Net
  between = net (lines (firsts grown) (lasts es) (counts es)) (edges_form b M grown)

  -- There is a last edge, or there is none: its next is set, or the state's first.
  abbrev by_last : Bool → ℕ → Net
  by_last t n =
      pick t
      (net before.states (stored 8 before.edges n 7 (pos (length es))))
      (net (stored 8 before.states s 5 (pos (length es))) before.edges)

  by_last_lem : (v : ℤ) → lasts es s ≡ v → first_or (length es) s before ≡ by_last (names (length es) v) (size v)
  by_last_lem v q = ap (λ (u : ℤ). by_last (names (length es) u) (size u)) (state_word_lem a F es ss s 6 listed (omega arith) ∙ q)

  first_or_lem : Ends (chain es s) → first_or (length es) s before ≡ between
  first_or_lem (neither p q) =
      by_last_lem none q
      ∙ ap (λ (u : List ℤ). net u before.edges) (first-set p)
      ∙ ap (λ (u : List ℤ). net between.states u) (edges-kept p)
  first_or_lem (both f n p q) =
      by_last_lem (pos n) q
      ∙ ap (λ (t : Bool). by_last t n) (lt-ltb n (length es) ((chain_are es s n).0 (last_greatest 0 (chain es s) n (chain-up es s) q).0).0)
      ∙ ap (λ (u : List ℤ). net u (stored 8 before.edges n 7 (pos (length es)))) (first-kept f p)
      ∙ ap (λ (u : List ℤ). net between.states u) (edges-set n q)

  -- One edge more, as the last of its source's chain.
  pub linked-more : (mark : ℕ) → M (length es) ≡ mark → linked (length es) mark e (net (states_form a F es ss) (edges_form b M es)) ≡ net (states_form a F grown ss) (edges_form b M grown)
  unfolding chained
  linked-more mark h =
      ap (λ (ed : List ℤ). chained (length es) s (net (states_form a F es ss) ed)) (put-edge mark h)
      ∙ ap (λ (t : Net). last_of (length es) s t) (first_or_lem (ends (chain es s)))
      ∙ ap (λ (u : List ℤ). net (stored 8 u s 7 (one_more (word_of 8 u s 7))) (edges_form b M grown)) last_set
      ∙ ap (λ (u : List ℤ). net u (edges_form b M grown)) count_set
