-- What is found again, record by record. The edges are all that are given, derived ones too.
use Rattle.std.specs.Prelude.{◌≡◌, refl, Bool, false, ◌&&◌, ◌↔◌, ℕ, zero, suc, ◌+◌, ◌-◌, ◌*◌, ◌≤◌, ◌<◌, ltb, eqb, ℤ, length, get_or, take, drop}
use Rattle.std.proofs.Math.Path.{sym, ap, subst}
use Rattle.std.proofs.Common.{◌∙◌, arith, length-take, length-drop, take-append-drop, drop-drop, drop-cons, eq-eqb, ne_eqb, eqb-true}
use mathlib.Core.List.{List, [], ◌∷◌, ◌++◌, map}
use Rattle.std.proofs.Math.Bool.{true}
use Rattle.std.proofs.Math.IntN.{pos}
use Rattle.std.proofs.lemmas.List.{length-map}
use Rattle.std.proofs.Math.Seq.{drop-length}
use Rattle.format.specs.Reading.{Table, States, Edges, Ranges, Sets, Rules, Modes, Decisions, Actions, Scratch, pick}
use Rattle.format.specs.Sets.{Range}
use Rattle.format.specs.Sections.{State, Rule, Edge, Read, among, bit, size, same}
use Rattle.format.specs.Links.{those, numbers_from, numbers, flat, first, last, chain, next, stop_of, derived, decides, tail}
use Rattle.format.specs.Tables.{numbered, width, edges_of, flags_of, state_words, edge_words, range_words, set_records, rule_words, state_word, action_words, records}
use Rattle.format.specs.Places.{st_kind, st_flags, st_first, st_last, st_count, st_rule, st_end, st_back, ed_kind, ed_source, ed_target, ed_p, ed_q, ed_r, ed_mark, ed_next, se_first, se_count, ru_start, ru_stop, ru_token, na_state, ac_kind, ac_d1, ac_d2}
use Rattle.format.specs.Writing.{cell, cell_size, flag1, flag2, own, state_back, edge_back, range_back, rule_back, action_back, state_named, cuts, recovered}
use Rattle.laws.specs.Gives.{Every, every-at}
use Rattle.laws.specs.Rows.{Wide}
use Rattle.laws.specs.Fits.{Roomed}
use Rattle.laws.specs.Own.{same_true}
use Rattle.rewriting.specs.Formed.{natural, set_row, Formed}
use Rattle.rewriting.specs.Found.{most, Found}
use Rattle.rewriting.specs.Tests.{both, left, right, natural-size}
use Rattle.rewriting.specs.Plain.{back}

-- ---- what the tables hold

abbrev pub states_in : (Table → List (List ℤ)) → List State
states_in T = map state_back (T States)

abbrev pub edges_in : (Table → List (List ℤ)) → List Edge
edges_in T = map edge_back (T Edges)

abbrev pub own_in : (Table → List (List ℤ)) → List Edge
own_in T = map edge_back (those own (T Edges))

abbrev pub rules_in : (Table → List (List ℤ)) → List Rule
rules_in T = map rule_back (T Rules)

abbrev pub rules_of : (Table → List (List ℤ)) → ℕ
rules_of T = length (rules_in T)

-- word k of record i
abbrev pub at : (Table → List (List ℤ)) → Table → ℕ → ℕ → ℤ
at T t i k = cell (get_or (T t) i []) k

-- ---- the tests

pub record StateFine (T : Table → List (List ℤ)) (s : ℕ) : Type 0 where
  pub kind : natural (at T States s st_kind) ≡ true
  pub flags : at T States s st_flags ≡ pos (bit (flag1 (get_or (T States) s [])) + 2 * bit (flag2 (get_or (T States) s [])) + 4 * bit (decides (states_in T) (numbers flag2 (T States)) (rules_in T) (edges_in T) s))
  pub starts : at T States s st_first ≡ first (chain (edges_in T) s)
  pub ends : at T States s st_last ≡ last (chain (edges_in T) s)
  pub count : at T States s st_count ≡ pos (length (chain (edges_in T) s))

pub record EdgeFine (T : Table → List (List ℤ)) (i : ℕ) : Type 0 where
  pub kind : natural (at T Edges i ed_kind) ≡ true
  pub source : natural (at T Edges i ed_source) ≡ true
  pub target : natural (at T Edges i ed_target) ≡ true
  pub mark : at T Edges i ed_mark ≡ pos (pick (ltb i (length (own_in T))) (2 * bit (tail (states_in T) (rules_of T) (edges_in T) (edge_back (get_or (T Edges) i [])))) 1)
  pub onward : at T Edges i ed_next ≡ next (edges_in T) (cell_size (get_or (T Edges) i []) ed_source) i

pub record RuleFine (T : Table → List (List ℤ)) (R : ℕ) : Type 0 where
  pub start : natural (at T Rules R ru_start) ≡ true
  pub stop : at T Rules R ru_stop ≡ stop_of (states_in T) (pos R)

-- Sets in a row, from the range b on, up to the last of them.
abbrev pub in_row : ℕ → ℕ → List (List ℤ) → Bool
in_row total b [] = eqb b total
in_row total b (x ∷ l) = let rest = in_row total (b + cell_size x se_count) l in set_row b x && rest

pub record Fine (T : Table → List (List ℤ)) (token : ℤ) : Type 0 where
  pub formed : Formed (recovered T token)
  pub roomed : Roomed most (recovered T token)
  pub order : own_in T ++ derived (states_in T) (rules_of T) (own_in T) ≡ edges_in T
  pub states : (s : ℕ) → s < length (T States) → StateFine T s
  pub edges : (i : ℕ) → i < length (T Edges) → EdgeFine T i
  pub sets : in_row (length (T Ranges)) 0 (T Sets) ≡ true
  pub rules : (R : ℕ) → R < length (T Rules) → RuleFine T R
  pub modes : (i : ℕ) → i < length (T Modes) → natural (at T Modes i na_state) ≡ true
  pub decisions : (i : ℕ) → i < length (T Decisions) → natural (at T Decisions i na_state) ≡ true
  pub actions : (i : ℕ) → i < length (T Actions) → natural (at T Actions i ac_kind) ≡ true

-- ---- rows

module _ {A : Type 0} (f : ℕ → A → List ℤ) (g : List ℤ → A) where
  rows_to : (j : ℕ) (X : List (List ℤ)) → numbered j f (map g X) ≡ X → (i : ℕ) → i < length X → f (j + i) (g (get_or X i [])) ≡ get_or X i []
  rows_to j [] q i h = absurd (omega arith)
  rows_to j (x ∷ X) q zero h = ap (λ (n : ℕ). f n (g x)) (omega arith) ∙ ap (λ (l : List (List ℤ)). get_or l 0 []) q
  rows_to j (x ∷ X) q (suc i) h = ap (λ (n : ℕ). f n (g (get_or X i []))) (omega arith) ∙ rows_to (j + 1) X (ap (λ (l : List (List ℤ)). drop 1 l) q) i (omega arith)

  rows_fro : (j : ℕ) (X : List (List ℤ)) → ((i : ℕ) → i < length X → f (j + i) (g (get_or X i [])) ≡ get_or X i []) → numbered j f (map g X) ≡ X
  rows_fro j [] h = refl
  rows_fro j (x ∷ X) h =
      let a : f j (g x) ≡ x = ap (λ (n : ℕ). f n (g x)) (omega arith) ∙ h 0 (omega arith) in
      let b = rows_fro (j + 1) X (λ i k. ap (λ (n : ℕ). f n (g (get_or X i []))) (omega arith) ∙ h (suc i) (omega arith)) in
      λ i. a i ∷ b i

  to_rows : (X : List (List ℤ)) → numbered 0 f (map g X) ≡ X → (i : ℕ) → i < length X → f i (g (get_or X i [])) ≡ get_or X i []
  to_rows X q i h = ap (λ (n : ℕ). f n (g (get_or X i []))) (omega arith) ∙ rows_to 0 X q i h

  from_rows : (X : List (List ℤ)) → ((i : ℕ) → i < length X → f i (g (get_or X i [])) ≡ get_or X i []) → numbered 0 f (map g X) ≡ X
  from_rows X h = rows_fro 0 X (λ i k. ap (λ (n : ℕ). f n (g (get_or X i []))) (omega arith) ∙ h i k)

-- ---- a record is its words

abbrev cells_from : ℕ → ℕ → List ℤ → List ℤ
cells_from i zero x = []
cells_from i (suc w) x = cell x i ∷ cells_from (i + 1) w x

cells_drop : (w i : ℕ) (x : List ℤ) → length x ≡ i + w → cells_from i w x ≡ drop i x
cells_drop zero i x h = let e : i ≡ length x = omega arith in sym (rw e (drop-length x))
cells_drop (suc w) i x h =
    let e : i + 1 ≡ suc i = omega arith in
    ap (λ (l : List ℤ). cell x i ∷ l) (cells_drop w (i + 1) x (omega arith) ∙ ap (λ (n : ℕ). drop n x) e) ∙ sym (drop-cons x i (pos 0) (omega arith))

is_words : (w : ℕ) (x : List ℤ) → Wide w x → cells_from 0 w x ≡ x
is_words w x h = cells_drop w 0 x (omega arith)

size-natural : (v : ℤ) → pos (size v) ≡ v → natural v ≡ true
size-natural v q = subst (λ (z : ℤ). natural z ≡ true) q refl

-- a state among the flagged ones
flag_before : (q : List ℤ → Bool) (i : ℕ) (X : List (List ℤ)) (s : ℕ) → s < i → among s (numbers_from i q X) ≡ false
flag_before q i [] s h = refl
flag_before q i (x ∷ X) s h = go (q x) (flag_before q (i + 1) X s (omega arith))
  where
    go : (b : Bool) → among s (numbers_from (i + 1) q X) ≡ false → among s (pick b (i ∷ numbers_from (i + 1) q X) (numbers_from (i + 1) q X)) ≡ false
    go true e = rw (ne_eqb s i (λ z. omega arith)) e
    go false e = e

flag_from : (q : List ℤ → Bool) (i : ℕ) (X : List (List ℤ)) (j : ℕ) → j < length X → among (i + j) (numbers_from i q X) ≡ q (get_or X j [])
flag_from q i [] j h = absurd (omega arith)
flag_from q i (x ∷ X) zero h = go (q x)
  where
    go : (b : Bool) → among (i + 0) (pick b (i ∷ numbers_from (i + 1) q X) (numbers_from (i + 1) q X)) ≡ b
    go true = rw (eq-eqb (i + 0) i (omega arith)) refl
    go false = flag_before q (i + 1) X (i + 0) (omega arith)
flag_from q i (x ∷ X) (suc j) h = go (q x) (flag_from q (i + 1) X j (omega arith))
  where
    go : (b : Bool) → among (i + 1 + j) (numbers_from (i + 1) q X) ≡ q (get_or X j []) → among (i + suc j) (pick b (i ∷ numbers_from (i + 1) q X) (numbers_from (i + 1) q X)) ≡ q (get_or X j [])
    go true e = rw (ne_eqb (i + suc j) i (λ z. omega arith)) (ap (λ (n : ℕ). among n (numbers_from (i + 1) q X)) (omega arith) ∙ e)
    go false e = ap (λ (n : ℕ). among n (numbers_from (i + 1) q X)) (omega arith) ∙ e

pub flag_at_lem : (q : List ℤ → Bool) (X : List (List ℤ)) (s : ℕ) → s < length X → among s (numbers q X) ≡ q (get_or X s [])
flag_at_lem q X s h = ap (λ (n : ℕ). among n (numbers q X)) (omega arith) ∙ flag_from q 0 X s h

-- ---- sets in a row

pub row-total : (total b : ℕ) (X : List (List ℤ)) → in_row total b X ≡ true → b ≤ total
row-total total b [] h = let e = eqb-true b total h in omega arith
row-total total b (x ∷ X) h =
    let r = right (set_row b x) (in_row total (b + cell_size x se_count) X) h in
    omega (arith, row-total total (b + cell_size x se_count) X r)

abbrev pub counts : List (List ℤ) → List ℕ
counts X = map (λ x. cell_size x se_count) X

module _ {A : Type 0} (R : List A) where
  pub row-cuts : (b : ℕ) (X : List (List ℤ)) → in_row (length R) b X ≡ true → (map length (cuts (drop b R) (counts X)) ≡ counts X) × (flat (cuts (drop b R) (counts X)) ≡ drop b R)
  row-cuts b [] h = let e = eqb-true b (length R) h in (refl, sym (rw e (drop-length R)))
  row-cuts b (x ∷ X) h =
      let r = right (set_row b x) (in_row (length R) (b + cell_size x se_count) X) h in
      let l : b + cell_size x se_count ≤ length R = row-total (length R) (b + cell_size x se_count) X r in
      let ih = row-cuts (b + cell_size x se_count) X r in
      let d : drop (cell_size x se_count) (drop b R) ≡ drop (b + cell_size x se_count) R = drop-drop (cell_size x se_count) b R in
      let k : length (take (cell_size x se_count) (drop b R)) ≡ cell_size x se_count = length-take (cell_size x se_count) (drop b R) ∙ omega (arith, length-drop b R) in (
        rw d ((λ i. k i ∷ ih.0 i)),
        rw d (ap (λ (z : List A). take (cell_size x se_count) (drop b R) ++ z) (ih.1 ∙ sym d) ∙ take-append-drop (cell_size x se_count) (drop b R)),
      )

module _ (R : List Range) where
  row-sets : (b : ℕ) (X : List (List ℤ)) → Every (Wide 2) X → in_row (length R) b X ≡ true → set_records b (cuts (drop b R) (counts X)) ≡ X
  row-sets b [] w h = refl
  row-sets b (x ∷ X) w h =
      let f = left (set_row b x) (in_row (length R) (b + cell_size x se_count) X) h in
      let r = right (set_row b x) (in_row (length R) (b + cell_size x se_count) X) h in
      let l : b + cell_size x se_count ≤ length R = row-total (length R) (b + cell_size x se_count) X r in
      let d : drop (cell_size x se_count) (drop b R) ≡ drop (b + cell_size x se_count) R = drop-drop (cell_size x se_count) b R in
      let k : length (take (cell_size x se_count) (drop b R)) ≡ cell_size x se_count = length-take (cell_size x se_count) (drop b R) ∙ omega (arith, length-drop b R) in
      let p0 : pos b ≡ cell x se_first = sym (same_true (cell x se_first) (pos b) (left (same (cell x se_first) (pos b)) (natural (cell x se_count)) f)) in
      let p1 : pos (cell_size x se_count) ≡ cell x se_count = natural-size (cell x se_count) (right (same (cell x se_first) (pos b)) (natural (cell x se_count)) f) in
      let row : pos b ∷ pos (length (take (cell_size x se_count) (drop b R))) ∷ [] ≡ x = (λ i. p0 i ∷ (ap pos k ∙ p1) i ∷ []) ∙ is_words 2 x w.0 in
      let rest : set_records (b + length (take (cell_size x se_count) (drop b R))) (cuts (drop (cell_size x se_count) (drop b R)) (counts X)) ≡ X = (λ i. set_records (b + k i) (cuts (d i) (counts X))) ∙ row-sets (b + cell_size x se_count) X w.1 r in
      λ i. row i ∷ rest i

  sets-row : (b : ℕ) (X : List (List ℤ)) → b ≤ length R → set_records b (cuts (drop b R) (counts X)) ≡ X → flat (cuts (drop b R) (counts X)) ≡ drop b R → in_row (length R) b X ≡ true
  sets-row b [] l q f = let e : 0 ≡ length R - b = ap length f ∙ length-drop b R in eq-eqb b (length R) (omega arith)
  sets-row b (x ∷ X) l q f =
      let y : pos b ∷ pos (length (take (cell_size x se_count) (drop b R))) ∷ [] ≡ x = ap (λ (z : List (List ℤ)). get_or z 0 []) q in
      let rest : set_records (b + length (take (cell_size x se_count) (drop b R))) (cuts (drop (cell_size x se_count) (drop b R)) (counts X)) ≡ X = ap (λ (z : List (List ℤ)). drop 1 z) q in
      let p0 : pos b ≡ cell x se_first = ap (λ (z : List ℤ). cell z se_first) y in
      let p1 : pos (length (take (cell_size x se_count) (drop b R))) ≡ cell x se_count = ap (λ (z : List ℤ). cell z se_count) y in
      let k : length (take (cell_size x se_count) (drop b R)) ≡ cell_size x se_count = ap size p1 in
      let m : b + cell_size x se_count ≤ length R = omega (arith, length-take (cell_size x se_count) (drop b R), length-drop b R) in
      let d : drop (cell_size x se_count) (drop b R) ≡ drop (b + cell_size x se_count) R = drop-drop (cell_size x se_count) b R in
      let f' : flat (cuts (drop (b + cell_size x se_count) R) (counts X)) ≡ drop (b + cell_size x se_count) R =
      (λ i. flat (cuts (sym d i) (counts X))) ∙ append_left (take (cell_size x se_count) (drop b R)) (flat (cuts (drop (cell_size x se_count) (drop b R)) (counts X))) (drop (cell_size x se_count) (drop b R)) (f ∙ sym (take-append-drop (cell_size x se_count) (drop b R))) ∙ d in
      let t0 : same (cell x se_first) (pos b) ≡ true = subst (λ (z : ℤ). same z (pos b) ≡ true) p0 (eq-eqb b b refl) in
      let t1 : natural (cell x se_count) ≡ true = subst (λ (z : ℤ). natural z ≡ true) p1 refl in
      both (both t0 t1)
      (sets-row (b + cell_size x se_count) X m ((λ i. set_records (b + sym k i) (cuts (sym d i) (counts X))) ∙ rest) f')
    where
      append_left : (l m n : List Range) → l ++ m ≡ l ++ n → m ≡ n
      append_left [] m n e = e
      append_left (a ∷ l) m n e = append_left l m n (ap (λ (z : List Range). drop 1 z) e)

-- ---- both ways

module _ (T : Table → List (List ℤ)) (token : ℤ) (wide : (t : Table) → Every (Wide (width t)) (T t)) (scratch : T Scratch ≡ []) where
  r : Read
  r = recovered T token

  -- a state's words
  state-row : (s : ℕ) (x : List ℤ) → Wide 8 x → x ≡ get_or (T States) s [] → s < length (T States) → StateFine T s → state_words r (edges_in T) s (state_back x) ≡ x
  unfolding r recovered
  state-row s x w e h f =
      let a1 : among s (numbers flag1 (T States)) ≡ flag1 (get_or (T States) s []) = flag_at_lem flag1 (T States) s h in
      let a2 : among s (numbers flag2 (T States)) ≡ flag2 (get_or (T States) s []) = flag_at_lem flag2 (T States) s h in
      let k : pos (size (cell x st_kind)) ≡ cell x st_kind = rw e (natural-size (at T States s st_kind) f.kind) in
      let g : pos (flags_of r (edges_in T) s) ≡ cell x st_flags = (λ i. pos (bit (a1 i) + 2 * bit (a2 i) + 4 * bit (decides (states_in T) (numbers flag2 (T States)) (rules_in T) (edges_in T) s))) ∙ sym f.flags ∙ ap (λ (z : List ℤ). cell z st_flags) (sym e) in
      let c5 : first (chain (edges_in T) s) ≡ cell x st_first = sym f.starts ∙ ap (λ (z : List ℤ). cell z st_first) (sym e) in
      let c6 : last (chain (edges_in T) s) ≡ cell x st_last = sym f.ends ∙ ap (λ (z : List ℤ). cell z st_last) (sym e) in
      let c7 : pos (length (chain (edges_in T) s)) ≡ cell x st_count = sym f.count ∙ ap (λ (z : List ℤ). cell z st_count) (sym e) in
      (λ i. k i ∷ cell x st_rule ∷ cell x st_end ∷ cell x st_back ∷ g i ∷ c5 i ∷ c6 i ∷ c7 i ∷ []) ∙ is_words 8 x w

  row-state : (s : ℕ) → s < length (T States) → state_words r (edges_in T) s (state_back (get_or (T States) s [])) ≡ get_or (T States) s [] → StateFine T s
  unfolding r recovered
  row-state s h q =
      let a1 : among s (numbers flag1 (T States)) ≡ flag1 (get_or (T States) s []) = flag_at_lem flag1 (T States) s h in
      let a2 : among s (numbers flag2 (T States)) ≡ flag2 (get_or (T States) s []) = flag_at_lem flag2 (T States) s h in
      record {
        kind = size-natural (at T States s st_kind) (ap (λ (z : List ℤ). cell z st_kind) q);
        flags = sym (ap (λ (z : List ℤ). cell z st_flags) q) ∙ (λ i. pos (bit (a1 i) + 2 * bit (a2 i) + 4 * bit (decides (states_in T) (numbers flag2 (T States)) (rules_in T) (edges_in T) s)));
        starts = sym (ap (λ (z : List ℤ). cell z st_first) q);
        ends = sym (ap (λ (z : List ℤ). cell z st_last) q);
        count = sym (ap (λ (z : List ℤ). cell z st_count) q);
      }

  edge_row_lem : (i : ℕ) (x : List ℤ) → Wide 8 x → x ≡ get_or (T Edges) i [] → EdgeFine T i → edge_words r (edges_in T) i (edge_back x) ≡ x
  unfolding r recovered
  edge_row_lem i x w e f =
      let k0 : pos (size (cell x ed_kind)) ≡ cell x ed_kind = rw e (natural-size (at T Edges i ed_kind) f.kind) in
      let k1 : pos (size (cell x ed_source)) ≡ cell x ed_source = rw e (natural-size (at T Edges i ed_source) f.source) in
      let k2 : pos (size (cell x ed_target)) ≡ cell x ed_target = rw e (natural-size (at T Edges i ed_target) f.target) in
      let k6 : pos (pick (ltb i (length (own_in T))) (2 * bit (tail (states_in T) (rules_of T) (edges_in T) (edge_back x))) 1) ≡ cell x ed_mark = rw e (sym f.mark) in
      let k7 : next (edges_in T) (cell_size x ed_source) i ≡ cell x ed_next = rw e (sym f.onward) in
      (λ j. k0 j ∷ k1 j ∷ k2 j ∷ cell x ed_p ∷ cell x ed_q ∷ cell x ed_r ∷ k6 j ∷ k7 j ∷ []) ∙ is_words 8 x w

  row-edge : (i : ℕ) → edge_words r (edges_in T) i (edge_back (get_or (T Edges) i [])) ≡ get_or (T Edges) i [] → EdgeFine T i
  unfolding r recovered
  row-edge i q =
      record {
        kind = size-natural (at T Edges i ed_kind) (ap (λ (z : List ℤ). cell z ed_kind) q);
        source = size-natural (at T Edges i ed_source) (ap (λ (z : List ℤ). cell z ed_source) q);
        target = size-natural (at T Edges i ed_target) (ap (λ (z : List ℤ). cell z ed_target) q);
        mark = sym (ap (λ (z : List ℤ). cell z ed_mark) q);
        onward = sym (ap (λ (z : List ℤ). cell z ed_next) q);
      }

  rule-row : (R : ℕ) (x : List ℤ) → Wide 3 x → x ≡ get_or (T Rules) R [] → RuleFine T R → rule_words r R (rule_back x) ≡ x
  unfolding r recovered
  rule-row R x w e f =
      let k0 : pos (size (cell x ru_start)) ≡ cell x ru_start = rw e (natural-size (at T Rules R ru_start) f.start) in
      let k1 : stop_of (states_in T) (pos R) ≡ cell x ru_stop = rw e (sym f.stop) in
      (λ j. k0 j ∷ k1 j ∷ cell x ru_token ∷ []) ∙ is_words 3 x w

  row-rule : (R : ℕ) → rule_words r R (rule_back (get_or (T Rules) R [])) ≡ get_or (T Rules) R [] → RuleFine T R
  unfolding r recovered
  row-rule R q = record { start = size-natural (at T Rules R ru_start) (ap (λ (z : List ℤ). cell z ru_start) q); stop = sym (ap (λ (z : List ℤ). cell z ru_stop) q) }

  wide_at : (t : Table) (i : ℕ) → i < length (T t) → Wide (width t) (get_or (T t) i [])
  wide_at t i h = every-at (Wide (width t)) (T t) [] i (wide t) h

  natural-rows : (X : List (List ℤ)) → Every (Wide 1) X → ((i : ℕ) → i < length X → natural (cell (get_or X i []) na_state) ≡ true) → numbered 0 (λ i a. state_word a) (map state_named X) ≡ X
  natural-rows X w h =
      from_rows (λ i a. state_word a) state_named X
      (λ i k. let q = natural-size (cell (get_or X i []) na_state) (h i k) in (λ j. q j ∷ []) ∙ is_words 1 (get_or X i []) (every-at (Wide 1) X [] i w k))

  rows-natural : (X : List (List ℤ)) → numbered 0 (λ i a. state_word a) (map state_named X) ≡ X → (i : ℕ) → i < length X → natural (cell (get_or X i []) na_state) ≡ true
  rows-natural X q i h = size-natural (cell (get_or X i []) na_state) (ap (λ (z : List ℤ). cell z na_state) (to_rows (λ i a. state_word a) state_named X q i h))

  -- the records, where the tests are passed
  fine-records : Fine T token → (t : Table) → records r t ≡ T t
  unfolding r recovered records
  fine-records f = go f.order (row-cuts (map range_back (T Ranges)) 0 (T Sets) inside)
    where
      inside : in_row (length (map range_back (T Ranges))) 0 (T Sets) ≡ true
      inside = subst (λ (n : ℕ). in_row n 0 (T Sets) ≡ true) (sym (length-map (T Ranges) range_back)) f.sets

      go : edges_of r ≡ edges_in T → (map length (cuts (map range_back (T Ranges)) (counts (T Sets))) ≡ counts (T Sets)) × (flat (cuts (map range_back (T Ranges)) (counts (T Sets))) ≡ map range_back (T Ranges)) → (t : Table) → records r t ≡ T t
      go es c States =
          ap (λ (l : List Edge). numbered 0 (state_words r l) (states_in T)) es
          ∙ from_rows (state_words r (edges_in T)) state_back (T States) (λ s h. state-row s (get_or (T States) s []) (wide_at States s h) refl h (f.states s h))
      go es c Edges =
          ap (λ (l : List Edge). numbered 0 (edge_words r l) l) es
          ∙ from_rows (edge_words r (edges_in T)) edge_back (T Edges) (λ i h. edge_row_lem i (get_or (T Edges) i []) (wide_at Edges i h) refl (f.edges i h))
      go es c Ranges =
          ap (λ (l : List Range). numbered 0 (λ i a. range_words a) l) c.1
          ∙ from_rows (λ i a. range_words a) range_back (T Ranges) (λ i h. is_words 2 (get_or (T Ranges) i []) (wide_at Ranges i h))
      go es c Sets = row-sets (map range_back (T Ranges)) 0 (T Sets) (wide Sets) inside
      go es c Rules = from_rows (rule_words r) rule_back (T Rules) (λ R h. rule-row R (get_or (T Rules) R []) (wide_at Rules R h) refl (f.rules R h))
      go es c Modes = natural-rows (T Modes) (wide Modes) f.modes
      go es c Decisions = natural-rows (T Decisions) (wide Decisions) f.decisions
      go es c Actions =
          from_rows (λ i a. action_words a) action_back (T Actions)
          (λ i h. let q = natural-size (at T Actions i ac_kind) (f.actions i h) in (λ j. q j ∷ at T Actions i ac_d1 ∷ at T Actions i ac_d2 ∷ []) ∙ is_words 3 (get_or (T Actions) i []) (wide_at Actions i h))
      go es c Scratch = sym scratch

  -- and the tests, where these are the records
  records-fine : Formed (recovered T token) → Roomed most (recovered T token) → ((t : Table) → records r t ≡ T t) → Fine T token
  unfolding r recovered records
  records-fine h m q =
      let es : edges_of r ≡ edges_in T = sym (back edge_back 0 (edge_words r (edges_of r)) (edges_of r) (λ j a. refl)) ∙ ap (map edge_back) (q Edges) in
      let fl : flat (cuts (map range_back (T Ranges)) (counts (T Sets))) ≡ map range_back (T Ranges) = sym (back range_back 0 (λ i a. range_words a) (flat (cuts (map range_back (T Ranges)) (counts (T Sets)))) (λ j a. refl)) ∙ ap (map range_back) (q Ranges) in
      let st = ap (λ (l : List Edge). numbered 0 (state_words r l) (states_in T)) (sym es) ∙ q States in
      let ed = ap (λ (l : List Edge). numbered 0 (edge_words r l) l) (sym es) ∙ q Edges in
      record {
        formed = h;
        roomed = m;
        order = es;
        states = λ s k. row-state s k (to_rows (state_words r (edges_in T)) state_back (T States) st s k);
        edges = λ i k. row-edge i (to_rows (edge_words r (edges_in T)) edge_back (T Edges) ed i k);
        sets = subst (λ (n : ℕ). in_row n 0 (T Sets) ≡ true) (length-map (T Ranges) range_back) (sets-row (map range_back (T Ranges)) 0 (T Sets) (omega arith) (q Sets) fl);
        rules = λ R k. row-rule R (to_rows (rule_words r) rule_back (T Rules) (q Rules) R k);
        modes = rows-natural (T Modes) (q Modes);
        decisions = rows-natural (T Decisions) (q Decisions);
        actions = λ i k. size-natural (at T Actions i ac_kind) (ap (λ (z : List ℤ). cell z ac_kind) (to_rows (λ i a. action_words a) action_back (T Actions) (q Actions) i k));
      }

  pub fine_exactly : Found T token ↔ Fine T token
  unfolding r
  fine_exactly = ((λ f. records-fine f.formed f.roomed f.same), (λ f. record { formed = f.formed; roomed = f.roomed; same = fine-records f }))
