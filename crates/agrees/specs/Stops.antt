-- Stops, in the rules' table: each state of type 7 becomes its rule's stop, and the last one stays.
use Rattle.std.specs.Prelude.{◌≡◌, Bool, true, false, ◌&&◌, ltb, eqb, negsuc, take}
use Rattle.std.proofs.Math.Path.{refl, sym, ap}
use Rattle.std.proofs.Common.{◌∙◌, arith, take-suc, length-take-le, ltb-true, ltb-false, eq-eqb, ne_eqb}
use mathlib.Core.List.{List, [], ◌∷◌, ◌++◌}
use Prim.Native.Nat.{ℕ, zero, suc, ◌≤◌, ◌<◌}
use Rattle.std.proofs.Math.IntN.{ℤ, pos}
use Rattle.std.proofs.Math.ListN.{length, get_or}
use Rattle.std.proofs.Math.Seq.{take-length}
use Rattle.format.specs.Reading.{pick}
use Rattle.format.specs.Sections.{State, Rule, Edge, same, size}
use Rattle.format.specs.Links.{names}
use Rattle.laws.specs.Grows.{stop_new, stop_stays}
use Rattle.inplace.specs.Rows.{word_of, stored}
use Rattle.inplace.specs.Sections.{stops_in}
use Rattle.agrees.specs.Forms.{padded, states_form, rule_line, rules_form}
use Rattle.agrees.specs.Rows.{set-row}
use Rattle.agrees.specs.Words.{no_state, no_rule, state_word_lem}
use Rattle.laws.specs.Rows.{rows_same}

-- One state more: x, behind ss.
module _ (m : ℕ) (rs : List Rule) (ss : List State) (x : State) where
  -- it stops no rule
  none-stops : ((R : ℕ) → R < length rs → (eqb x.kind 7 && same x.rule (pos R)) ≡ false) → rules_form m ss rs ≡ rules_form m (ss ++ (x ∷ [])) rs
  none-stops h = ap (padded m) (rows_same no_rule (rule_line ss) (rule_line (ss ++ (x ∷ []))) rs
      (λ R k. ap (λ (v : ℤ). pos (get_or rs R no_rule).start ∷ v ∷ (get_or rs R no_rule).token ∷ []) (sym (stop_stays ss x (pos R) (h R k)))))

  -- it stops the rule Q
  one-stops : (Q : ℕ) → Q < length rs → eqb x.kind 7 ≡ true → x.rule ≡ pos Q → stored 3 (rules_form m ss rs) Q 1 (pos (length ss)) ≡ rules_form m (ss ++ (x ∷ [])) rs
  one-stops Q h k e =
      set-row 3 m (rule_line ss) (rule_line (ss ++ (x ∷ []))) rs no_rule (λ j a. refl) (λ j a. refl) Q 1 (pos (length ss)) h (omega arith)
      (λ R q n. ap (λ (v : ℤ). pos (get_or rs R no_rule).start ∷ v ∷ (get_or rs R no_rule).token ∷ []) (sym (stop_stays ss x (pos R) (rw (k, e) (ne_eqb Q R (λ z. n (sym z)))))))
      (ap (λ (v : ℤ). pos (get_or rs Q no_rule).start ∷ v ∷ (get_or rs Q no_rule).token ∷ []) (sym (stop_new ss x (pos Q) (rw (k, e) (eq-eqb Q Q refl)))))

  one_state : (b : Bool) (v : ℤ) → eqb x.kind 7 ≡ b → x.rule ≡ v → pick (b && names (length rs) v) (stored 3 (rules_form m ss rs) (size v) 1 (pos (length ss))) (rules_form m ss rs) ≡ rules_form m (ss ++ (x ∷ [])) rs
  one_state false v k e = none-stops (λ R h. rw k)
  one_state true (negsuc j) k e = none-stops (λ R h. rw (k, e))
  one_state true (pos Q) k e = go (ltb Q (length rs)) refl
    where
      go : (t : Bool) → ltb Q (length rs) ≡ t → pick t (stored 3 (rules_form m ss rs) Q 1 (pos (length ss))) (rules_form m ss rs) ≡ rules_form m (ss ++ (x ∷ [])) rs
      go true t = one-stops Q (ltb-true Q (length rs) t) k e
      go false t = none-stops (λ R h. rw (k, e) (ne_eqb Q R (λ z. omega (arith, ltb-false Q (length rs) t))))

module _ (n m : ℕ) (F : ℕ → ℕ) (es : List Edge) (ss : List State) (rs : List Rule) where
  abbrev so_far : ℕ → List ℤ
  so_far s = stops_in s (length rs) (states_form n F es ss) (rules_form m [] rs)

  stops_so_far : (s : ℕ) → s ≤ length ss → stops_in s (length rs) (states_form n F es ss) (rules_form m [] rs) ≡ rules_form m (take s ss) rs
  unfolding stops_in
  stops_so_far zero h = refl
  stops_so_far (suc s) h =
      let x : State = get_or ss s no_state in
      let st : List ℤ = states_form n F es ss in
      let kind : word_of 8 st s 0 ≡ pos x.kind = state_word_lem n F es ss s 0 h (omega arith) in
      let rule : word_of 8 st s 1 ≡ x.rule = state_word_lem n F es ss s 1 h (omega arith) in
      let last : s ≡ length (take s ss) = sym (length-take-le s ss (omega arith)) in
      ap (λ (v : ℤ). pick (same v (pos 7) && names (length rs) (word_of 8 st s 1)) (stored 3 (so_far s) (size (word_of 8 st s 1)) 1 (pos s)) (so_far s)) kind
      ∙ ap (λ (v : ℤ). pick (eqb x.kind 7 && names (length rs) v) (stored 3 (so_far s) (size v) 1 (pos s)) (so_far s)) rule
      ∙ ap (λ (ru : List ℤ). pick (eqb x.kind 7 && names (length rs) x.rule) (stored 3 ru (size x.rule) 1 (pos s)) ru) (stops_so_far s (omega arith))
      ∙ ap (λ (i : ℕ). pick (eqb x.kind 7 && names (length rs) x.rule) (stored 3 (rules_form m (take s ss) rs) (size x.rule) 1 (pos i)) (rules_form m (take s ss) rs)) last
      ∙ one_state m rs (take s ss) x (eqb x.kind 7) x.rule refl refl
      ∙ ap (λ (l : List State). rules_form m l rs) (sym (take-suc ss s no_state h))

  -- The stops that the states give.
  pub stops_are : stops_in (length ss) (length rs) (states_form n F es ss) (rules_form m [] rs) ≡ rules_form m ss rs
  stops_are = stops_so_far (length ss) (omega arith) ∙ ap (λ (l : List State). rules_form m l rs) (take-length ss)
