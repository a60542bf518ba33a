-- Precedence decisions: flag 4, tested in the tables, is set on exactly the states that decide.
use Rattle.std.specs.Prelude.{◌≡◌, refl, Bool, true, false, ◌&&◌, ltb, ℤ, pos, length, get_or}
use Rattle.std.proofs.Math.Path.{sym, ap}
use Rattle.std.proofs.Common.{◌∙◌, ⊎_elim, arith, lt-ltb, le-ltb, ltb-true}
use mathlib.Core.List.{List}
use Rattle.std.proofs.Math.Bool.{and_assoc, and-false}
use Prim.Native.Nat.{ℕ, zero, suc, ◌+◌, ◌*◌, ◌/◌, ◌%◌, ◌≤◌, ◌<◌}
use Rattle.std.specs.Int.Bits.{bit_or, or_shifted_r}
use Rattle.std.proofs.Math.Dec.{eqb}
use Rattle.format.specs.Reading.{pick}
use Rattle.format.specs.Sections.{State, Rule, Edge, same, size, bit, among}
use Rattle.format.specs.Links.{first, last, names, chain, state_at, typed, onto, leads, start_of, decides}
use Rattle.laws.specs.Order.{order}
use Rattle.laws.specs.Safe.{and_true}
use Rattle.inplace.specs.Rows.{word_of, flag_at}
use Rattle.inplace.specs.Links.{leads_to, flag_two, decides_at, decided_in}
use Rattle.agrees.specs.Forms.{padded, state_line, states_form, edges_form, rules_form}
use Rattle.agrees.specs.Words.{no_state, state_word_lem, edge_word, rule_word, named_is, and_then}
use Rattle.agrees.specs.Flags.{flag_one_lem}
use Rattle.agrees.specs.Lists.{apart, below}
use Rattle.laws.specs.Rows.{rows_same}

-- ---- flags words

bit-small : (x : Bool) → bit x ≤ 1
bit-small true = omega arith
bit-small false = omega arith

is_bit : (x : Bool) → eqb (bit x) 1 ≡ x
is_bit true = refl
is_bit false = refl

-- flag 2, whatever the others are
two-of : (x y z : Bool) → eqb ((bit x + 2 * bit y + 4 * bit z) / 2 % 2) 1 ≡ y
two-of x y z =
    let e : (bit x + 2 * bit y + 4 * bit z) / 2 % 2 ≡ bit y = omega (arith, bit-small x, bit-small y) in
    ap (λ (n : ℕ). eqb n 1) e ∙ is_bit y

or_four : (x y : Bool) → bit_or (bit x + 2 * bit y + 4 * 0) 4 ≡ bit x + 2 * bit y + 4 * 1
or_four x y =
    let h : bit x + 2 * bit y + 4 * 0 < 4 = omega (arith, bit-small x, bit-small y) in
    or_shifted_r 1 2 (bit x + 2 * bit y + 4 * 0) h ∙ omega arith

-- one number more below
ltb_more : (j m : ℕ) → (j ≡ m → ⊥) → ltb j m ≡ ltb j (suc m)
ltb_more j m n =
    ⊎_elim (λ h. lt-ltb j m h ∙ sym (lt-ltb j (suc m) (omega arith)))
    (λ h. le-ltb j m (omega arith) ∙ sym (le-ltb j (suc m) (below m j (omega arith) (λ e. n (sym e)))))
    (order (suc j) m)

regroup : (p q r s t u : Bool) → (p && q && r && s && t && u) ≡ (p && (q && (r && (s && (t && u)))))
regroup p q r s t u = simp and_assoc

module _ (ss : List State) (ones : ℕ → Bool) (twos : List ℕ) (rs : List Rule) (es : List Edge) (a b d : ℕ) (M : ℕ → ℕ) where
  -- A state's flags word, by flag 4; and by P, which says who has it.
  abbrev word4 : ℕ → Bool → ℕ
  word4 s t = bit (ones s) + 2 * bit (among s twos) + 4 * bit t

  abbrev flags : (ℕ → Bool) → ℕ → ℕ
  flags P s = word4 s (P s)

  abbrev st : (ℕ → Bool) → List ℤ
  st P = states_form a (flags P) es ss

  abbrev ed : List ℤ
  ed = edges_form b M es

  abbrev ru : List ℤ
  ru = rules_form d ss rs

  -- ---- the test, in the tables and of what was read; P may have flag 4 anywhere

  module _ (P : ℕ → Bool) where
    target_word : (v : ℤ) → names (length es) v ≡ true → word_of 8 ed (size v) 2 ≡ pos (onto es v)
    target_word v h = edge_word b M es (size v) 2 (named_is (length es) v h).1 (omega arith)

    leads_to_lem : (v : ℤ) (k : ℕ) → leads_to (length ss) (length es) (st P) ed v k ≡ leads ss es v k
    leads_to_lem v k =
        and_then _ _ _ _ refl (λ p. and_then _ _ _ _ (ap (names (length ss)) (target_word v p)) (λ l.
        ap (λ (w : ℤ). same (word_of 8 (st P) (size w) 0) (pos k)) (target_word v p)
        ∙ ap (λ (w : ℤ). same w (pos k)) (state_word_lem a (flags P) es ss (onto es v) 0 (ltb-true (onto es v) (length ss) l) (omega arith))))

    module _ (s : ℕ) (h : s < length ss) where
      abbrev R : ℤ
      R = (state_at ss s).rule

      abbrev e : ℤ
      e = last (chain es s)

      word : (k : ℕ) → k < 8 → word_of 8 (st P) s k ≡ get_or (state_line (flags P) es s (state_at ss s)) k (pos 0)
      word k l = state_word_lem a (flags P) es ss s k h l

      start_word : names (length rs) R ≡ true → word_of 3 ru (size (word_of 8 (st P) s 1)) 0 ≡ pos (start_of rs R)
      start_word p = ap (λ (v : ℤ). word_of 3 ru (size v) 0) (word 1 (omega arith)) ∙ rule_word d ss rs R 0 p (omega arith)

      two_word : names (length rs) R ≡ true → ltb (start_of rs R) (length ss) ≡ true → flag_two (word_of 8 (st P) (size (word_of 3 ru (size (word_of 8 (st P) s 1)) 0)) 4) ≡ among (start_of rs R) twos
      two_word p l =
          ap (λ (v : ℤ). flag_two (word_of 8 (st P) (size v) 4)) (start_word p)
          ∙ ap flag_two (state_word_lem a (flags P) es ss (start_of rs R) 4 (ltb-true (start_of rs R) (length ss) l) (omega arith))
          ∙ two-of (ones (start_of rs R)) (among (start_of rs R) twos) (P (start_of rs R))

      -- the first edge of the state that the last edge leads to
      first_word : leads ss es e 12 ≡ true → word_of 8 (st P) (size (word_of 8 ed (size (word_of 8 (st P) s 6)) 2)) 5 ≡ first (chain es (onto es e))
      first_word q =
          let x = and_true (names (length es) e) (typed ss 12 (onto es e)) q in
          let y = and_true (ltb (onto es e) (length ss)) (eqb (state_at ss (onto es e)).kind 12) x.1 in
          ap (λ (v : ℤ). word_of 8 (st P) (size (word_of 8 ed (size v) 2)) 5) (word 6 (omega arith))
          ∙ ap (λ (v : ℤ). word_of 8 (st P) (size v) 5) (target_word e x.0)
          ∙ state_word_lem a (flags P) es ss (onto es e) 5 (ltb-true (onto es e) (length ss) y.0) (omega arith)

      decides_at_lem : decides_at (length ss) (length es) (length rs) ru ed (st P) s ≡ decides ss twos rs es s
      unfolding decides
      decides_at_lem =
          and_then _ _ _ _ (ap (λ (v : ℤ). same v (pos 10)) (word 0 (omega arith)) ∙ ap (λ (t : Bool). t && eqb (state_at ss s).kind 10) (sym (lt-ltb s (length ss) h))) (λ p1.
          and_then _ _ _ _ (ap (names (length rs)) (word 1 (omega arith))) (λ p2.
          and_then _ _ _ _ (ap (names (length ss)) (start_word p2)) (λ p3.
          and_then _ _ _ _ (two_word p2 p3) (λ p4.
          and_then _ _ _ _ (ap (λ (v : ℤ). leads_to (length ss) (length es) (st P) ed v 12) (word 6 (omega arith)) ∙ leads_to_lem e 12) (λ p5.
          ap (λ (v : ℤ). leads_to (length ss) (length es) (st P) ed v 7) (first_word p5) ∙ leads_to_lem (first (chain es (onto es e))) 7)))))
          ∙ sym (regroup (typed ss 10 s) (names (length rs) R) (ltb (start_of rs R) (length ss)) (among (start_of rs R) twos) (leads ss es e 12) (leads ss es (first (chain es (onto es e))) 7))

  -- ---- state by state

  -- Whether a state decides, of the first m.
  abbrev of : ℕ → ℕ → Bool
  of m s = ltb s m && decides ss twos rs es s

  same_flags : (F G : ℕ → ℕ) → ((s : ℕ) → s < length ss → F s ≡ G s) → states_form a F es ss ≡ states_form a G es ss
  same_flags F G h =
      ap (λ (r : List (List ℤ)). padded a r) (rows_same no_state (state_line F es) (state_line G es) ss (λ j k. ap (λ (n : ℕ). state_line (λ i. n) es j (get_or ss j no_state)) (h j k)))

  turn : (m : ℕ) → m < length ss → pick (decides ss twos rs es m) (flag_at 4 m (st (of m))) (st (of m)) ≡ st (of (suc m))
  turn m h = go (decides ss twos rs es m) refl
    where
      other : (j : ℕ) → (j ≡ m → ⊥) → of m j ≡ of (suc m) j
      other j n = ap (λ (t : Bool). t && decides ss twos rs es j) (ltb_more j m n)

      none : (j n : ℕ) → decides ss twos rs es j ≡ false → of n j ≡ false
      none j n q = ap (λ (t : Bool). ltb j n && t) q ∙ and-false (ltb j n)

      go : (t : Bool) → decides ss twos rs es m ≡ t → pick t (flag_at 4 m (st (of m))) (st (of m)) ≡ st (of (suc m))
      go true q =
          flag_one_lem 4 m a (flags (of m)) (flags (of (suc m))) es ss h (λ j n. ap (word4 j) (other j n))
          (ap (λ (t : Bool). bit_or (word4 m (t && decides ss twos rs es m)) 4) (le-ltb m m (omega arith))
          ∙ or_four (ones m) (among m twos)
          ∙ ap (word4 m) (sym (ap (λ (t : Bool). t && decides ss twos rs es m) (lt-ltb m (suc m) (omega arith)) ∙ q)))
      go false q =
          same_flags (flags (of m)) (flags (of (suc m))) (λ j k. ap (word4 j)
          (⊎_elim (other j) (λ (e : j ≡ m). let n = ap (decides ss twos rs es) e ∙ q in none j m n ∙ sym (none j (suc m) n)) (apart j m)))

  decided : (m : ℕ) → m ≤ length ss → decided_in (length ss) (length es) (length rs) ru ed m (states_form a (λ s. bit (ones s) + 2 * bit (among s twos)) es ss) ≡ st (of m)
  unfolding decided_in
  decided zero h =
      same_flags (λ s. bit (ones s) + 2 * bit (among s twos)) (flags (of 0)) (λ s k. omega (arith, ap (λ (t : Bool). bit (t && decides ss twos rs es s)) (le-ltb s 0 (omega arith))))
  decided (suc m) h =
      ap (λ (u : List ℤ). pick (decides_at (length ss) (length es) (length rs) ru ed u m) (flag_at 4 m u) u) (decided m (omega arith))
      ∙ ap (λ (t : Bool). pick t (flag_at 4 m (st (of m))) (st (of m))) (decides_at_lem (of m) m h)
      ∙ turn m h

  -- Flag 4 is set on the states that decide, and on no others.
  pub decided_is : decided_in (length ss) (length es) (length rs) ru ed (length ss) (states_form a (λ s. bit (ones s) + 2 * bit (among s twos)) es ss) ≡ states_form a (λ s. bit (ones s) + 2 * bit (among s twos) + 4 * bit (decides ss twos rs es s)) es ss
  decided_is =
      decided (length ss) (omega arith)
      ∙ same_flags (flags (of (length ss))) (flags (decides ss twos rs es)) (λ s k. ap (λ (t : Bool). word4 s (t && decides ss twos rs es s)) (lt-ltb s (length ss) k))
