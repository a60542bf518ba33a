-- Stops, by the words of the tables: st the states', ru the rules'.
use Rattle.std.specs.Prelude.{◌≡◌, Bool, ◌&&◌, ltb, eqb, ℤ, pos, negsuc, get_or, take, replicate}
use Rattle.std.proofs.Math.Path.{refl, ap}
use Rattle.std.proofs.Common.{sym, ◌∙◌, arith, get_or-set_same, get_or-set_other, length-take-le, take-suc, ltb-true, ltb-false, eqb-true}
use mathlib.Core.List.{List, [], ◌∷◌, ◌++◌}
use Rattle.std.proofs.Math.Bool.{true, false}
use Prim.Native.Nat.{ℕ, zero, suc, ◌+◌, ◌*◌, ◌≤◌, ◌<◌}
use Rattle.std.proofs.Math.ListN.{length, length-replicate, length-set}
use Rattle.std.proofs.Math.Seq.{take-length}
use Rattle.std.proofs.lemmas.Bool.{eqb-false}
use Rattle.format.specs.Reading.{pick}
use Rattle.format.specs.Sections.{State, state_of, none, same, size}
use Rattle.format.specs.Links.{names, state_at, stop_of}
use Rattle.format.specs.Places.{ru_stop}
use Rattle.laws.specs.Grows.{stop_new, stop_stays}
use Rattle.laws.specs.Lists.{constant}
use Rattle.inplace.specs.Rows.{word_of, stored}
use Rattle.inplace.specs.Sections.{stops_in}
use Rattle.rewriting.specs.Passes.{all}
use Rattle.wiring.specs.Given.{any_default}

abbrev pub same_stops : ℕ → List ℤ → List ℤ → Bool
same_stops k ru found = all k (λ R. same (word_of 3 ru R ru_stop) (word_of 3 found R ru_stop))

-- Those that n states give k rules, none of which has one at first.
abbrev pub stops_fine : ℕ → ℕ → List ℤ → List ℤ → Bool
stops_fine n k st ru = same_stops k ru (stops_in n k st (replicate (3 * k) none))

-- ---- those that are found are the stops

module _ (k : ℕ) (st : List ℤ) where
  stops_long : (s : ℕ) (ru : List ℤ) → length (stops_in s k st ru) ≡ length ru
  unfolding stops_in
  stops_long zero ru = refl
  stops_long (suc s) ru = go (same (word_of 8 st s 0) (pos 7) && names k (word_of 8 st s 1)) ∙ stops_long s ru
    where
      go : (b : Bool) → length (pick b (stored 3 (stops_in s k st ru) (size (word_of 8 st s 1)) 1 (pos s)) (stops_in s k st ru)) ≡ length (stops_in s k st ru)
      go true = length-set (stops_in s k st ru) (3 * size (word_of 8 st s 1) + 1) (pos s)
      go false = refl

  abbrev found : ℕ → List ℤ
  found s = stops_in s k st (replicate (3 * k) none)

  -- The state x, number s, behind ss: what it makes of the stop of the rule R.
  one_more_lem : (ss : List State) (x : State) (R s : ℕ) → length ss ≡ s → R < k → (b : Bool) (v : ℤ) → eqb x.kind 7 ≡ b → x.rule ≡ v → word_of 3 (found s) R ru_stop ≡ stop_of ss (pos R)
      → word_of 3 (pick (b && names k v) (stored 3 (found s) (size v) 1 (pos s)) (found s)) R ru_stop ≡ stop_of (ss ++ (x ∷ [])) (pos R)
  one_more_lem ss x R s e l false v p q ih = ih ∙ sym (stop_stays ss x (pos R) (rw p refl))
  one_more_lem ss x R s e l true (negsuc j) p q ih = ih ∙ sym (stop_stays ss x (pos R) (rw (p, q) refl))
  one_more_lem ss x R s e l true (pos Q) p q ih = go (ltb Q k) refl (eqb Q R) refl
    where
      stays : eqb Q R ≡ false → stop_of (ss ++ (x ∷ [])) (pos R) ≡ stop_of ss (pos R)
      stays h = stop_stays ss x (pos R) (rw (p, q) h)

      go : (c : Bool) → ltb Q k ≡ c → (d : Bool) → eqb Q R ≡ d → word_of 3 (pick c (stored 3 (found s) Q 1 (pos s)) (found s)) R ru_stop ≡ stop_of (ss ++ (x ∷ [])) (pos R)
      go false h true f = absurd (omega (arith, ltb-false Q k h, eqb-true Q R f))
      go false h false f = ih ∙ sym (stays f)
      go true h true f =
          let w : 3 * Q + 1 ≡ 3 * R + 1 = omega (arith, eqb-true Q R f) in
          let z : 3 * Q + 1 < length (found s) = omega (arith, ltb-true Q k h, stops_long s (replicate (3 * k) none), length-replicate (3 * k) none) in
          ap (λ (i : ℕ). get_or (stored 3 (found s) Q 1 (pos s)) i (pos 0)) (sym w) ∙ get_or-set_same (found s) (3 * Q + 1) (pos s) (pos 0) z ∙ ap pos (sym e) ∙ sym (stop_new ss x (pos R) (rw (p, q) f))
      go true h false f =
          get_or-set_other (found s) (3 * Q + 1) (3 * R + 1) (pos s) (pos 0) (λ w. eqb-false Q R f (omega arith)) ∙ ih ∙ sym (stays f)

  module _ (ss : List State) (kind : (s : ℕ) → s < length ss → word_of 8 st s 0 ≡ pos (state_at ss s).kind) (rule : (s : ℕ) → s < length ss → word_of 8 st s 1 ≡ (state_at ss s).rule) where
    found_so_far : (s R : ℕ) → s ≤ length ss → R < k → word_of 3 (found s) R ru_stop ≡ stop_of (take s ss) (pos R)
    unfolding stops_in
    found_so_far zero R h l = any_default (replicate (3 * k) none) (3 * R + 1) (pos 0) none (omega (arith, length-replicate (3 * k) none)) ∙ constant (3 * k) (3 * R + 1) none
    found_so_far (suc s) R h l =
        let x : State = state_at ss s in
        (λ i. word_of 3 (pick (same (kind s h i) (pos 7) && names k (rule s h i)) (stored 3 (found s) (size (rule s h i)) 1 (pos s)) (found s)) R ru_stop)
        ∙ one_more_lem (take s ss) x R s (length-take-le s ss (omega arith)) l (eqb x.kind 7) x.rule refl refl (found_so_far s R (omega arith) l)
        ∙ ap (λ (z : List State). stop_of z (pos R)) (sym (take-suc ss s (state_of 0 none none none) h))

    pub found_are : (R : ℕ) → R < k → word_of 3 (found (length ss)) R ru_stop ≡ stop_of ss (pos R)
    found_are R l = found_so_far (length ss) R (omega arith) l ∙ ap (λ (z : List State). stop_of z (pos R)) (take-length ss)
