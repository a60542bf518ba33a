-- Marks and precedence decisions of joined tables: the tests say that they are as document 01 has them.
use Rattle.std.specs.Prelude.{◌≡◌, refl, List, [], ◌∷◌, Bool, true, false, ◌↔◌, ℕ, zero, suc, ◌+◌, ◌*◌, ◌^◌, ◌≤◌, ◌<◌, ltb, leb, eqb, ℤ, pos, negsuc, length}
use Rattle.std.proofs.Common.{sym, ap, ◌∙◌, subst, arith, ltb-true, eqb-true, eq-eqb}
use Rattle.format.specs.Reading.{Table, States, Edges, Rules, pick}
use Rattle.format.specs.Sections.{Edge, among, bit, size}
use Rattle.format.specs.Links.{numbers, names, decides, tail}
use Rattle.format.specs.Places.{st_flags, ed_mark}
use Rattle.format.specs.Writing.{flag2, edge_back, given}
use Rattle.tables.specs.Words.{number_of, number_word, number_at}
use Rattle.inplace.specs.Links.{decides_at}
use Rattle.atn.specs.Records.{edge_at, states_are, edges_are}
use Rattle.rewriting.specs.Tests.{lie}
use Rattle.rewriting.specs.All.{all_exactly}
use Rattle.rewriting.specs.Fine.{states_in, edges_in, rules_in, rules_of, at}
use Rattle.rewriting.specs.Checks.{row, flag4, eights, Joined, state-tests}
use Rattle.rewriting.specs.Held.{Lie}
use Rattle.wiring.specs.Given.{rows-states, rules_long, edge_is, state_word_lem, edge_word}
use Rattle.wiring.specs.Marks.{mark_in, own_from, own_count, own_to, mark_for, marks_fine}
use Rattle.wiring.specs.Decisions.{decision_fine, decisions_fine}
use Rattle.wiring.specs.Linked.{held}
use Rattle.wiring.specs.Joined.{decides_at_lem}

-- ---- the first derived edge

own-most : (ed : List ℤ) (i left : ℕ) → own_from ed i left ≤ i + left
unfolding own_from
own-most ed i zero = omega arith
own-most ed i (suc left) = go (eqb (mark_in ed i) 1) (own-most ed (i + 1) left)
  where
    go : (b : Bool) → own_from ed (i + 1) left ≤ i + 1 + left → pick b i (own_from ed (i + 1) left) ≤ i + suc left
    go true h = omega arith
    go false h = omega arith

pub own_few : (m : ℕ) (ed : List ℤ) → own_count m ed ≤ m
own_few m ed = omega (arith, own-most ed 0 m)

module _ (m : ℕ) (ed : List ℤ) (o : ℕ) (within : o ≤ m) (mine : (i : ℕ) → i < o → mark_in ed i ≡ 1 → ⊥) (theirs : (i : ℕ) → o ≤ i → i < m → mark_in ed i ≡ 1) where
  pub own_is : own_count m ed ≡ o
  own_is = own_to ed 0 m o (omega arith) (omega (arith, within)) mine (λ h. theirs o (omega arith) (omega arith))

-- ---- marks

module _ (tables : Table → List ℤ) (counts : Table → ℕ) (l : Lie tables counts) (w : Joined (given tables counts)) where
  abbrev T : Table → List (List ℤ)
  T = given tables counts

  -- The mark of the edge i, by document 01; the first o are not derived.
  abbrev pub due : ℕ → ℕ → ℕ
  due o i = pick (ltb i o) (2 * bit (tail (states_in T) (rules_of T) (edges_in T) (edge_back (row T Edges i)))) 1

  due_is : (o i : ℕ) → mark_for (counts States) (counts Edges) (counts Rules) (tables States) (tables Edges) o i ≡ due o i
  due_is o i =
      let ss = states_are (held tables counts l.states l.edges l.rules w) in
      let es = edges_are (held tables counts l.states l.edges l.rules w) in
      let k = sym (rules_long tables counts) in
      (λ j. pick (ltb i o) (2 * bit (tail (ss j) (k j) (es j) (edge_at (es j) i))) 1)
      ∙ ap (λ (e : Edge). pick (ltb i o) (2 * bit (tail (states_in T) (rules_of T) (edges_in T) e)) 1) (edge_is tables counts i)

  due_small : (o i : ℕ) → due o i < 2 ^ 31
  due_small o i = go (ltb i o) (tail (states_in T) (rules_of T) (edges_in T) (edge_back (row T Edges i)))
    where
      go : (a b : Bool) → pick a (2 * bit b) 1 < 2 ^ 31
      go true true = omega arith
      go true false = omega arith
      go false b = omega arith

  pub mark_word : (i : ℕ) → i < counts Edges → mark_in (tables Edges) i ≡ number_of (at T Edges i ed_mark)
  mark_word i h = ap number_of (edge_word tables counts i ed_mark h (omega arith))

  pub marks_exactly : (o : ℕ) → marks_fine (counts States) (counts Edges) (counts Rules) (tables States) (tables Edges) o ≡ true ↔ ((i : ℕ) → i < counts Edges → at T Edges i ed_mark ≡ pos (due o i))
  marks_exactly o =
      let a = all_exactly (counts Edges) (λ i. eqb (mark_in (tables Edges) i) (mark_for (counts States) (counts Edges) (counts Rules) (tables States) (tables Edges) o i)) in (
        (λ h i k. number_word (at T Edges i ed_mark) (due o i) (sym (mark_word i k) ∙ eqb-true _ _ (a.0 h i k) ∙ due_is o i) (due_small o i)),
        (λ h. a.1 (λ i k. eq-eqb _ _ (mark_word i k ∙ ap number_of (h i k) ∙ sym (due_is o i)))),
      )

  -- ---- precedence decisions

  flags-four : (d : Bool) (v : ℤ) → names 8 v ≡ true → pick d (leb 4 (number_of v)) (ltb (number_of v) 4) ≡ true ↔ (among (size v) (4 ∷ 5 ∷ 6 ∷ 7 ∷ []) ≡ d)
  flags-four d (negsuc f) h = lie h
  flags-four d (pos f) h = eights (λ f. pick d (leb 4 f) (ltb f 4) ≡ true ↔ (among f (4 ∷ 5 ∷ 6 ∷ 7 ∷ []) ≡ d)) (low d) (low d) (low d) (low d) (high d) (high d) (high d) (high d) f (ltb-true f 8 h)
    where
      low : (d : Bool) → pick d false true ≡ true ↔ (false ≡ d)
      low true = ((λ e. lie e), (λ e. lie e))
      low false = ((λ e. refl), (λ e. refl))

      high : (d : Bool) → pick d true false ≡ true ↔ (true ≡ d)
      high true = ((λ e. refl), (λ e. refl))
      high false = ((λ e. lie e), (λ e. lie (sym e)))

  pub decisions_exactly : decisions_fine (counts States) (counts Edges) (counts Rules) (tables States) (tables Edges) (tables Rules) ≡ true
      ↔ ((s : ℕ) → s < length (T States) → flag4 (row T States s) ≡ decides (states_in T) (numbers flag2 (T States)) (rules_in T) (edges_in T) s)
  decisions_exactly =
      let a = all_exactly (counts States) (decision_fine (counts States) (counts Edges) (counts Rules) (tables States) (tables Edges) (tables Rules)) in (
        (λ h s k. let j : s < counts States = omega (arith, rows-states tables counts) in (one s k j).0 (a.0 h s j) ∙ sym (decides_at_lem tables counts w s j)),
        (λ h. a.1 (λ s j. let k : s < length (T States) = omega (arith, rows-states tables counts) in (one s k j).1 (h s k ∙ decides_at_lem tables counts w s j))),
      )
    where
      one : (s : ℕ) → s < length (T States) → s < counts States → decision_fine (counts States) (counts Edges) (counts Rules) (tables States) (tables Edges) (tables Rules) s ≡ true
          ↔ (flag4 (row T States s) ≡ decides_at (counts States) (counts Edges) (counts Rules) (tables Rules) (tables Edges) (tables States) s)
      one s k j =
          let d = decides_at (counts States) (counts Edges) (counts Rules) (tables Rules) (tables Edges) (tables States) s in
          let v = at T States s st_flags in
          let q : number_at (tables States) (8 * s + st_flags) ≡ number_of (at T States s st_flags) = ap number_of (state_word_lem tables counts s st_flags j (omega arith)) in
          subst (λ (i : ℕ). pick d (leb 4 i) (ltb i 4) ≡ true ↔ (flag4 (row T States s) ≡ d)) (sym q) (flags-four d v (state-tests T (pos 0) w s k).2)
