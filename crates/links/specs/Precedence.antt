-- Precedence decisions, by the numbers that the code reads.
use Rattle.std.specs.Prelude.{◌≡◌, refl, List, Bool, true, false, ◌&&◌, ℕ, ◌+◌, ◌*◌, ◌≤◌, ◌<◌, ◌^◌, ltb, ℤ, pos}
use Rattle.std.proofs.Common.{sym, ◌∙◌, arith, add-zero, add-one, ltb-true, ltb-false}
use Rattle.format.specs.Reading.{pick}
use Rattle.format.specs.Sections.{same, size}
use Rattle.format.specs.Links.{names}
use Rattle.inplace.specs.Rows.{word_of, flag_at}
use Rattle.inplace.specs.Links.{leads_to, flag_two, decides_at, decided_in}
use Rattle.tables.specs.Words.{number_of, number_at}
use Rattle.links.specs.Numbers.{names_yes, names-size, names_no, names-below, same_yes, same_no, pick-below, pick_end, and_both}

-- The target of the edge e, if the edge leads to a state of the type t; else n.
abbrev pub landing : ℕ → ℕ → List ℤ → List ℤ → ℤ → ℕ → ℕ
landing n m st ed e t = pick (leads_to n m st ed e t) (size (word_of 8 ed (size e) 2)) n

-- The two halves of `decides_at`: by the rule, and by the edges.
abbrev pub recursive_at : ℕ → ℕ → List ℤ → List ℤ → ℕ → Bool
recursive_at n k ru st s =
    let R = word_of 8 st s 1 in
    let start = word_of 3 ru (size R) 0 in
    same (word_of 8 st s 0) (pos 10) && (names k R && (names n start && flag_two (word_of 8 st (size start) 4)))

abbrev pub loops_at : ℕ → ℕ → List ℤ → List ℤ → ℕ → Bool
loops_at n m ed st s =
    let e = word_of 8 st s 6 in
    let t = size (word_of 8 ed (size e) 2) in
    leads_to n m st ed e 12 && leads_to n m st ed (word_of 8 st t 5) 7

and_halves : (a b c d l : Bool) → (a && (b && (c && (d && l)))) ≡ pick (a && (b && (c && d))) l false
and_halves true true true true l = refl
and_halves true true true false l = refl
and_halves true true false d l = refl
and_halves true false c d l = refl
and_halves false b c d l = refl

pub decides_by_halves : (n m k : ℕ) (ru ed st : List ℤ) (s : ℕ) → decides_at n m k ru ed st s ≡ pick (recursive_at n k ru st s) (loops_at n m ed st s) false
decides_by_halves n m k ru ed st s =
    let R = word_of 8 st s 1 in
    let start = word_of 3 ru (size R) 0 in
    and_halves (same (word_of 8 st s 0) (pos 10)) (names k R) (names n start) (flag_two (word_of 8 st (size start) 4)) (loops_at n m ed st s)

-- ---- the rule: the state's type, its rule, that rule's start

module _ (n k : ℕ) (ru st : List ℤ) (s : ℕ) (states : n ≤ 65536) (rules : k ≤ 65536) {kind : ℕ} (is-kind : kind ≡ number_at st (8 * s)) where
  first : kind ≡ number_of (word_of 8 st s 0)
  first = rw add-zero is-kind

  pub no_decision : (kind ≡ 10 → ⊥) → recursive_at n k ru st s ≡ false
  no_decision h = rw (same_no (word_of 8 st s 0) 10 first h) refl

  module _ (decision : kind ≡ 10) {R : ℕ} (is-rule : R ≡ number_of (word_of 8 st s 1)) where
    yes : same (word_of 8 st s 0) (pos 10) ≡ true
    yes = same_yes (word_of 8 st s 0) 10 first decision (omega arith)

    pub unruled : k ≤ R → recursive_at n k ru st s ≡ false
    unruled h = rw (yes, names_no (word_of 8 st s 1) k is-rule h) refl

    module _ (ruled : R < k) {start : ℕ} (is-start : start ≡ number_at ru (3 * R)) where
      begins : start ≡ number_of (word_of 3 ru R 0)
      begins = rw add-zero is-start

      listed : names k (word_of 8 st s 1) ≡ true
      listed = names_yes (word_of 8 st s 1) k is-rule ruled (omega arith)

      number : size (word_of 8 st s 1) ≡ R
      number = names-size (word_of 8 st s 1) k is-rule ruled (omega arith)

      pub no_start : n ≤ start → recursive_at n k ru st s ≡ false
      no_start h = rw (yes, listed, number, names_no (word_of 3 ru R 0) n begins h) refl

      pub by_start : start < n → recursive_at n k ru st s ≡ flag_two (word_of 8 st start 4)
      by_start h =
          rw (yes, listed, number, names_yes (word_of 3 ru R 0) n begins h (omega arith), names-size (word_of 3 ru R 0) n begins h (omega arith))
          refl

-- ---- the edges

module _ (n m : ℕ) (st ed : List ℤ) (z : ℤ) (t : ℕ) (states : n ≤ 65536) (edges : m ≤ 65536) {e : ℕ} (is-edge : e ≡ number_of z) where
  pub no_edge : m ≤ e → landing n m st ed z t ≡ n
  no_edge h = rw (names_no z m is-edge h) refl

  module _ (edge : e < m) {target : ℕ} (is-target : target ≡ number_of (word_of 8 ed e 2)) where
    named : names m z ≡ true
    named = names_yes z m is-edge edge (omega arith)

    its : size z ≡ e
    its = names-size z m is-edge edge (omega arith)

    pub no_target : n ≤ target → landing n m st ed z t ≡ n
    no_target h = rw (named, its, names_no (word_of 8 ed e 2) n is-target h) refl

    module _ (there : target < n) {kind : ℕ} (is-kind : kind ≡ number_at st (8 * target)) where
      type : kind ≡ number_of (word_of 8 st target 0)
      type = rw add-zero is-kind

      to : names n (word_of 8 ed e 2) ≡ true
      to = names_yes (word_of 8 ed e 2) n is-target there (omega arith)

      onto : size (word_of 8 ed e 2) ≡ target
      onto = names-size (word_of 8 ed e 2) n is-target there (omega arith)

      pub other_type : (kind ≡ t → ⊥) → landing n m st ed z t ≡ n
      other_type h = rw (named, its, to, onto, same_no (word_of 8 st target 0) t type h) refl

      pub lands : kind ≡ t → t < 2 ^ 31 → landing n m st ed z t ≡ target
      lands h b = rw (named, its, to, onto, same_yes (word_of 8 st target 0) t type h b) refl

module _ (n m : ℕ) (st ed : List ℤ) (z : ℤ) (t : ℕ) where
  leads : landing n m st ed z t < n → leads_to n m st ed z t ≡ true
  leads h = pick-below (leads_to n m st ed z t) (size (word_of 8 ed (size z) 2)) n h

  leads-not : n ≤ landing n m st ed z t → leads_to n m st ed z t ≡ false
  leads-not h =
      let v = word_of 8 ed (size z) 2 in
      let b = names n v in
      let c = same (word_of 8 st (size v) 0) (pos t) in
      pick_end (leads_to n m st ed z t) (size v) n (λ q. names-below n v (and_both b c (and_both (names m z) (b && c) q).1).0) h

module _ (n m : ℕ) (ed st : List ℤ) (s : ℕ) {target : ℕ} (is-target : target ≡ landing n m st ed (word_of 8 st s 6) 12) where
  pub no_loop : n ≤ target → loops_at n m ed st s ≡ false
  no_loop h = rw (leads-not n m st ed (word_of 8 st s 6) 12 (omega arith)) refl

  module _ (there : target < n) {end : ℕ} (is-end : end ≡ landing n m st ed (word_of 8 st target 5) 7) where
    by_first : loops_at n m ed st s ≡ leads_to n m st ed (word_of 8 st target 5) 7
    by_first =
        let y : leads_to n m st ed (word_of 8 st s 6) 12 ≡ true = leads n m st ed (word_of 8 st s 6) 12 (omega arith) in
        let q : size (word_of 8 ed (size (word_of 8 st s 6)) 2) ≡ target = sym (is-target ∙ rw y refl) in
        rw (y, q) refl

    pub loops_by : ltb end n ≡ loops_at n m ed st s
    loops_by = by (ltb end n) refl
      where
        by : (b : Bool) → ltb end n ≡ b → ltb end n ≡ loops_at n m ed st s
        by true e = e ∙ sym (by_first ∙ leads n m st ed (word_of 8 st target 5) 7 (omega (arith, ltb-true end n e)))
        by false e = e ∙ sym (by_first ∙ leads-not n m st ed (word_of 8 st target 5) 7 (omega (arith, ltb-false end n e)))

-- ---- all states

pub decided_on : (n m k : ℕ) (ru ed : List ℤ) (s : ℕ) (st : List ℤ) {u w : List ℤ} → u ≡ decided_in n m k ru ed s st
    → w ≡ pick (decides_at n m k ru ed u s) (flag_at 4 s u) u → w ≡ decided_in n m k ru ed (s + 1) st
unfolding decided_in
decided_on n m k ru ed s st p q = rw (add-one, ← p) q
