-- One state, word by word: what the words that were read make of its record.
use Rattle.std.specs.Prelude.{◌≡◌, List, ℤ, pos}
use Rattle.std.proofs.Math.Path.{refl, sym}
use Prim.Native.Nat.{ℕ, zero, suc, ◌<◌}
use Rattle.std.proofs.Common.{arith, eq-eqb, ne_eqb}
use Rattle.format.specs.Reading.{Table, ok, no, Prog, done, run, ◌>>=◌, spot, get, index}
use Rattle.format.specs.Sections.{State, none, or_none, state_of, linked, following}
use Rattle.format.specs.declared.Refusal.{Refusal}
use Rattle.inplace.specs.Rows.{state_row}
use Rattle.sections.specs.Rows.{as_row}
use Rattle.sections.specs.Through.{ok_through, no_through}

abbrev row : State → Prog (List ℤ)
row x = done (state_row x)

module _ (i k : ℕ) (ws : List ℤ) (rooms : Table → ℕ) (at : ℕ) where
  -- the link behind a rule
  module _ (rule : ℤ) where
    abbrev back : ℕ → Prog State
    back b = done (state_of k rule none (pos b))

    abbrev end : ℕ → Prog State
    end e = done (state_of k rule (pos e) none)

    back_is : k ≡ 12 → linked i k rule ≡ (index (spot 7 i) >>= back)
    unfolding linked
    back_is e = rw (eq-eqb k 12 e) refl

    end_is : (k ≡ 12 → ⊥) → linked i k rule ≡ (index (spot 8 i) >>= end)
    unfolding linked
    end_is n = rw (ne_eqb k 12 n) refl

    pub back_ok : k ≡ 12 → {b n : ℕ} → ok b n ≡ run (index (spot 7 i)) ws rooms at → ok (state_row (state_of k rule none (pos b))) n ≡ run (as_row (linked i k rule)) ws rooms at
    unfolding run ◌>>=◌
    back_ok h e = sym (rw (back_is h) (ok_through (index (spot 7 i)) back row ws rooms at e))

    pub back_no : k ≡ 12 → {r : Refusal} → no r ≡ run (index (spot 7 i)) ws rooms at → no r ≡ run (as_row (linked i k rule)) ws rooms at
    back_no h e = sym (rw (back_is h) (no_through (index (spot 7 i)) back row ws rooms at e))

    pub end_ok : (k ≡ 12 → ⊥) → {b n : ℕ} → ok b n ≡ run (index (spot 8 i)) ws rooms at → ok (state_row (state_of k rule (pos b) none)) n ≡ run (as_row (linked i k rule)) ws rooms at
    unfolding run ◌>>=◌
    end_ok h e = sym (rw (end_is h) (ok_through (index (spot 8 i)) end row ws rooms at e))

    pub end_no : (k ≡ 12 → ⊥) → {r : Refusal} → no r ≡ run (index (spot 8 i)) ws rooms at → no r ≡ run (as_row (linked i k rule)) ws rooms at
    end_no h e = sym (rw (end_is h) (no_through (index (spot 8 i)) end row ws rooms at e))

  -- no word behind the type; one, the rule's; two, a link's as well
  pub none_ok : ok (state_row (state_of k none none none)) at ≡ run (as_row (following i 0 k)) ws rooms at
  unfolding run following ◌>>=◌
  none_ok = refl

  abbrev ruled : ℤ → Prog State
  ruled v = done (state_of k (or_none v) none none)

  abbrev linking : ℤ → Prog State
  linking v = linked i k (or_none v)

  pub rule_ok : {v : ℤ} {n : ℕ} → ok v n ≡ run (get (spot 6 i)) ws rooms at → ok (state_row (state_of k (or_none v) none none)) n ≡ run (as_row (following i 1 k)) ws rooms at
  unfolding run following ◌>>=◌
  rule_ok e = sym (ok_through (get (spot 6 i)) ruled row ws rooms at e)

  pub link_ok : (m : ℕ) → 0 < m → (m ≡ 1 → ⊥) → {v : ℤ} {n : ℕ} → ok v n ≡ run (get (spot 6 i)) ws rooms at → run (as_row (linked i k (or_none v))) ws rooms n ≡ run (as_row (following i m k)) ws rooms at
  unfolding following
  link_ok zero h l e = absurd (omega arith)
  link_ok (suc zero) h l e = absurd (l refl)
  link_ok (suc (suc m)) h l e = sym (ok_through (get (spot 6 i)) linking row ws rooms at e)

  pub rule_no : (m : ℕ) → 0 < m → {r : Refusal} → no r ≡ run (get (spot 6 i)) ws rooms at → no r ≡ run (as_row (following i m k)) ws rooms at
  unfolding following
  rule_no zero h e = absurd (omega arith)
  rule_no (suc zero) h e = sym (no_through (get (spot 6 i)) ruled row ws rooms at e)
  rule_no (suc (suc m)) h e = sym (no_through (get (spot 6 i)) linking row ws rooms at e)
