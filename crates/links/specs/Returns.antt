-- Return edges, by the numbers that the code reads.
use Rattle.std.specs.Prelude.{◌≡◌, List, Bool, ◌&&◌, ℤ, pos, ltb}
use Rattle.std.proofs.Math.Path.{refl, sym}
use Rattle.std.proofs.Common.{◌∙◌, add-zero, add-one}
use Rattle.std.proofs.Math.Bool.{true, false}
use Prim.Native.Nat.{ℕ, zero, suc, ◌+◌, ◌*◌, ◌≤◌, ◌<◌, ◌^◌}
use native.Mathlib.Omega.{arith}
use borrow.Author.Tests.{lt-ltb, le-ltb, ltb-true, ltb-false, le-leb, lt-leb}
use Rattle.format.specs.Reading.{Table, Edges, ok, no, run, no_room, spot, pick}
use Rattle.format.specs.Sections.{same, size, bit, edge_of}
use Rattle.format.specs.Links.{names}
use Rattle.inplace.specs.Held.{Held}
use Rattle.inplace.specs.Rows.{word_of}
use Rattle.inplace.specs.Links.{Net, rule_of, stop_for, returning, returns_of, Growing, growing, linked, returned, returns_along, returns_from, returns_done, returns}
use Rattle.tables.specs.Words.{number_of, number_at}
use Rattle.links.specs.Numbers.{names_yes, names-size, names_no, same_yes, same_no, names-below, pick-below, pick_end, and_both}

-- Where the return edge of the edge e starts; n where it has none.
abbrev pub return_stop : ℕ → ℕ → List ℤ → Net → ℕ → ℕ
return_stop n k ru t e = pick (returning n k ru t e) (size (stop_for ru t e)) n

-- ---- what is tested: its type, its target, that state's rule, that rule's stop

module _ (n k : ℕ) (ru : List ℤ) (t : Net) (e : ℕ) (states : n ≤ 65536) (rules : k ≤ 65536) {kind : ℕ} (is-kind : kind ≡ number_at t.edges (8 * e)) where
  first : kind ≡ number_of (word_of 8 t.edges e 0)
  first = rw add-zero is-kind

  pub no_rule-edge : (kind ≡ 3 → ⊥) → return_stop n k ru t e ≡ n
  no_rule-edge h = rw (same_no (word_of 8 t.edges e 0) 3 first h) refl

  module _ (rule-edge : kind ≡ 3) {target : ℕ} (is-target : target ≡ number_of (word_of 8 t.edges e 2)) where
    yes : same (word_of 8 t.edges e 0) (pos 3) ≡ true
    yes = same_yes (word_of 8 t.edges e 0) 3 first rule-edge (omega arith)

    pub no_target : n ≤ target → return_stop n k ru t e ≡ n
    no_target h = rw (yes, names_no (word_of 8 t.edges e 2) n is-target h) refl

    module _ (there : target < n) {R : ℕ} (is-rule : R ≡ number_of (word_of 8 t.states target 1)) where
      to : names n (word_of 8 t.edges e 2) ≡ true
      to = names_yes (word_of 8 t.edges e 2) n is-target there (omega arith)

      its : size (word_of 8 t.edges e 2) ≡ target
      its = names-size (word_of 8 t.edges e 2) n is-target there (omega arith)

      pub no_rule_lem : k ≤ R → return_stop n k ru t e ≡ n
      no_rule_lem h = rw (yes, to, its, names_no (word_of 8 t.states target 1) k is-rule h) refl

      module _ (ruled : R < k) {stop : ℕ} (is_stop : stop ≡ number_of (word_of 3 ru R 1)) where
        listed : names k (word_of 8 t.states target 1) ≡ true
        listed = names_yes (word_of 8 t.states target 1) k is-rule ruled (omega arith)

        number : size (word_of 8 t.states target 1) ≡ R
        number = names-size (word_of 8 t.states target 1) k is-rule ruled (omega arith)

        pub no_stop : n ≤ stop → return_stop n k ru t e ≡ n
        no_stop h = rw (yes, to, its, listed, number, names_no (word_of 3 ru R 1) n is_stop h) refl

        pub stops_there : stop < n → return_stop n k ru t e ≡ stop
        stops_there h =
            rw (yes, to, its, listed, number, names_yes (word_of 3 ru R 1) n is_stop h (omega arith))
            (names-size (word_of 3 ru R 1) n is_stop h (omega arith))

-- ---- whether it has one

module _ (n k : ℕ) (ru : List ℤ) (t : Net) (e : ℕ) where
  pub has_return_lem : return_stop n k ru t e < n → returning n k ru t e ≡ true
  has_return_lem h = pick-below (returning n k ru t e) (size (stop_for ru t e)) n h

  pub no_return : n ≤ return_stop n k ru t e → returning n k ru t e ≡ false
  no_return h =
      let a = same (word_of 8 t.edges e 0) (pos 3) in
      let b = names n (word_of 8 t.edges e 2) in
      let c = names k (rule_of t e) in
      let d = names n (stop_for ru t e) in
      pick_end (returning n k ru t e) (size (stop_for ru t e)) n
      (λ q. names-below n (stop_for ru t e) (and_both c d (and_both b (c && d) (and_both a (b && (c && d)) q).1).1).1) h

  pub return_below : ltb (return_stop n k ru t e) n ≡ returning n k ru t e
  return_below = by (ltb (return_stop n k ru t e) n) refl
    where
      by : (b : Bool) → ltb (return_stop n k ru t e) n ≡ b → b ≡ returning n k ru t e
      by true q = sym (has_return_lem (ltb-true (return_stop n k ru t e) n q))
      by false q = sym (no_return (ltb-false (return_stop n k ru t e) n q))

-- ---- counting

module _ (n k : ℕ) (ru : List ℤ) (t : Net) where
  pub returns-most : (m : ℕ) → returns_of n k ru t m ≤ m
  unfolding returns_of
  returns-most zero = omega arith
  returns-most (suc m) = omega (arith, returns-most m, one (returning n k ru t m))
    where
      one : (b : Bool) → bit b ≤ 1
      one true = omega arith
      one false = omega arith

  pub returns-more : (m : ℕ) {d : ℕ} → d ≡ returns_of n k ru t m → returning n k ru t m ≡ true → d + 1 ≡ returns_of n k ru t (m + 1)
  unfolding returns_of
  returns-more m p h = rw (add-one m, h, p) refl

  pub returns-same : (m : ℕ) {d : ℕ} → d ≡ returns_of n k ru t m → returning n k ru t m ≡ false → d ≡ returns_of n k ru t (m + 1)
  unfolding returns_of
  returns-same m {d} p h = rw (add-one m, h, ← p) (sym (add-zero d))

-- ---- adding

module _ (room n k : ℕ) (ru : List ℤ) (e : ℕ) (x : Growing) {stop : ℕ} (is_stop : stop ≡ return_stop n k ru x.tables e) where
  pub returned-none : n ≤ stop → returned room n k ru e x ≡ x
  unfolding returned
  returned-none h = rw (no_return n k ru x.tables e (omega arith)) refl

  pub returned_full : stop < n → room ≤ x.edges → returned room n k ru e x ≡ x
  unfolding returned
  returned_full h b = rw (has_return_lem n k ru x.tables e (omega arith), le-ltb x.edges room b) refl

  pub returned-one : stop < n → x.edges < room
      → returned room n k ru e x ≡ growing (linked x.edges 1 (edge_of 1 stop (size (word_of 8 x.tables.edges e 4)) (pos 0) (pos 0) (pos 0)) x.tables) (x.edges + 1)
  unfolding returned
  returned-one h b =
      let y : returning n k ru x.tables e ≡ true = has_return_lem n k ru x.tables e (omega arith) in
      let q : size (stop_for ru x.tables e) ≡ stop = sym (is_stop ∙ rw y refl) in
      rw (y, lt-ltb x.edges room b, q) refl

module _ (room n k : ℕ) (ru : List ℤ) (left : ℕ) (z : ℤ) {e : ℕ} (is-edge : e ≡ number_of z) (x : Growing) where
  pub along-over : left ≡ 0 → returns_along room n k ru left z x ≡ x
  unfolding returns_along
  along-over q = rw q refl

  -- a number that is followed leads to no edge: the chain ends there
  pub along_off : x.edges ≤ e → returns_along room n k ru left z x ≡ x
  unfolding returns_along
  along_off h = by left
    where
      by : (left : ℕ) → returns_along room n k ru left z x ≡ x
      by zero = refl
      by (suc l) = rw (names_no z x.edges is-edge h) refl

  pub along_on : (l : ℕ) {y : Growing} → left ≡ suc l → e < x.edges → x.edges ≤ 2 ^ 31 → y ≡ returned room n k ru e x
      → returns_along room n k ru left z x ≡ returns_along room n k ru l (word_of 8 y.tables.edges e 7) y
  unfolding returns_along
  along_on l q h b w = rw (q, names_yes z x.edges is-edge h b, names-size z x.edges is-edge h b, ← w) refl

pub from_on : (room n k : ℕ) (ru : List ℤ) (s : ℕ) (x : Growing) {y w : Growing} → y ≡ returns_from room n k ru s x
    → w ≡ returns_along room n k ru (size (word_of 8 y.tables.states s 7)) (word_of 8 y.tables.states s 5) y
    → w ≡ returns_from room n k ru (s + 1) x
unfolding returns_from
from_on room n k ru s x p q = rw (add-one, ← p) q

-- ---- all of them, or the refusal

module _ (room : ℕ) (ru : List ℤ) (h : Held Net) {d : ℕ} (counted : d ≡ returns_of h.counts.states h.counts.rules ru h.table h.counts.edges) (ws : List ℤ) (rooms : Table → ℕ) (is-room : rooms Edges ≡ room) (at : ℕ) where
  pub returns_fit : h.counts.edges + d ≤ room → run (returns room ru h) ws rooms at ≡ ok (returns_done room ru h d) at
  unfolding run returns
  returns_fit b = rw (← counted, is-room, le-leb (h.counts.edges + d) room b) refl

  pub returns-no_room : room < h.counts.edges + d → run (returns room ru h) ws rooms at ≡ no (no_room (spot 23 0) at (h.counts.edges + d))
  unfolding run returns
  returns-no_room b = rw (← counted, is-room, lt-leb (h.counts.edges + d) room b) refl
