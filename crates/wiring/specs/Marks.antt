-- Marks, by the words of the tables: st the states', ed the edges'; n states, m edges, k rules.
use Rattle.std.specs.Prelude.{◌≡◌, refl, List, Bool, ℕ, zero, suc, ◌+◌, ◌-◌, ◌*◌, ◌≤◌, ◌<◌, eqb, ltb, ℤ, Option, None, Some}
use Rattle.std.specs.Option.{MatchOption, unwrap_or}
use Rattle.std.proofs.Common.{sym, ap, ◌∙◌, ⊎_elim, arith, ne_eqb}
use Rattle.laws.specs.Order.{order}
use Rattle.format.specs.Reading.{pick}
use Rattle.format.specs.Sections.{bit}
use Rattle.format.specs.Links.{tail}
use Rattle.format.specs.Places.{ed_mark}
use Rattle.atn.specs.Records.{states_of, edges_of, edge_at}
use Rattle.tables.specs.Words.{number_at}
use Rattle.rewriting.specs.Passes.{all}
use Rattle.wiring.specs.declared.marks.Mark.{Mark}
use Rattle.wiring.specs.declared.marks.Mark.TheVariants as M

-- "Mark: 0 plain, 1 derived return edge, 2 tail call".
abbrev pub mark_number : Mark → ℕ
mark_number M.Plain = 0
mark_number M.Derived = 1
mark_number M.TailCall = 2

abbrev pub mark_in : List ℤ → ℕ → ℕ
mark_in ed i = number_at ed (8 * i + ed_mark)

-- From the edge i on, of `left`, the first with the mark 1.
unfoldable pub own_from : List ℤ → ℕ → ℕ → ℕ
own_from ed i zero = i
own_from ed i (suc left) = let on = own_from ed (i + 1) left in pick (eqb (mark_in ed i) 1) i on

abbrev pub own_count : ℕ → List ℤ → ℕ
own_count m ed = own_from ed 0 m

-- The mark that the edge i has to have; the first o are not derived.
abbrev pub mark_for : ℕ → ℕ → ℕ → List ℤ → List ℤ → ℕ → ℕ → ℕ
mark_for n m k st ed o i = let on = tail (states_of n st) k (edges_of m ed) (edge_at (edges_of m ed) i) in pick (ltb i o) (2 * bit on) 1

abbrev pub marks_fine : ℕ → ℕ → ℕ → List ℤ → List ℤ → ℕ → Bool
marks_fine n m k st ed o = all m (λ i. eqb (mark_in ed i) (mark_for n m k st ed o i))

-- ---- one edge more

pub own_here : (ed : List ℤ) (i left : ℕ) → 0 < left → mark_in ed i ≡ 1 → own_from ed i left ≡ i
unfolding own_from
own_here ed i zero h e = absurd (omega arith)
own_here ed i (suc left) h e = rw e refl

pub own_on : (ed : List ℤ) (i left : ℕ) → 0 < left → (mark_in ed i ≡ 1 → ⊥) → own_from ed i left ≡ own_from ed (i + 1) (left - 1)
unfolding own_from
own_on ed i zero h e = absurd (omega arith)
own_on ed i (suc left) h e = let one : suc left - 1 ≡ left = omega arith in rw (ne_eqb (mark_in ed i) 1 e, one) refl

pub own_end : (ed : List ℤ) (i left : ℕ) → left ≤ 0 → own_from ed i left ≡ i
unfolding own_from
own_end ed i zero h = refl
own_end ed i (suc left) h = absurd (omega arith)

-- the first edge with the mark 1, or behind all
pub own_to : (ed : List ℤ) (i left o : ℕ) → i ≤ o → o ≤ i + left → ((k : ℕ) → k < o → mark_in ed k ≡ 1 → ⊥) → (o < i + left → mark_in ed o ≡ 1) → own_from ed i left ≡ o
own_to ed i zero o l h mine there = own_end ed i zero (omega arith) ∙ omega arith
own_to ed i (suc left) o l h mine there =
    let one : suc left - 1 ≡ left = omega arith in
    ⊎_elim
    (λ (g : o ≤ i). let e : o ≡ i = omega arith in own_here ed i (suc left) (omega arith) (rw e at (there (omega arith))) ∙ sym e)
    (λ g. own_on ed i (suc left) (omega arith) (mine i g) ∙ ap (own_from ed (i + 1)) one ∙ own_to ed (i + 1) left o (omega arith) (omega arith) mine (λ k. there (omega arith)))
    (order o i)

pub own_found : (ed : List ℤ) (m : ℕ) (r : Option ℕ)
    → MatchOption r ((k : ℕ) → 0 ≤ k → k < m → mark_in ed k ≡ 1 → ⊥) (λ j. (0 ≤ j) × (j < m) × (mark_in ed j ≡ 1) × ((k : ℕ) → 0 ≤ k → k < j → mark_in ed k ≡ 1 → ⊥))
    → unwrap_or r m ≡ own_count m ed
own_found ed m None none = sym (own_to ed 0 m m (omega arith) (omega arith) (λ k. none k (omega arith)) (λ h. absurd (omega arith)))
own_found ed m (Some j) f = sym (own_to ed 0 m j (omega arith) (omega (arith, f.1)) (λ k. f.3 k (omega arith)) (λ h. f.2))
