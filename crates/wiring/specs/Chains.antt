-- Chains, by the words of the tables: st the states', ed the edges'.
use Rattle.std.specs.Prelude.{◌≡◌, List, Bool, true, false, ◌&&◌, eqb, leb, ltb, ℤ, pos, negsuc}
use Rattle.std.proofs.Math.Path.{refl}
use Rattle.std.proofs.Common.{sym, ltb-true}
use Prim.Native.Nat.{ℕ, zero, suc, ◌+◌, ◌-◌, ◌*◌, ◌≤◌, ◌<◌}
use native.Mathlib.Omega.{arith}
use Rattle.format.specs.Sections.{none, same, size}
use Rattle.format.specs.Places.{st_first, st_last, st_count, ed_source, ed_next}
use Rattle.inplace.specs.Rows.{word_of}
use Rattle.tables.specs.Words.{number_of, number_word, number_at}
use Rattle.rewriting.specs.Tests.{left, right}
use Rattle.rewriting.specs.Passes.{all}
use Rattle.rewriting.specs.Climbs.{sum, climbs, climb}

abbrev pub source_in : List ℤ → ℕ → ℕ
source_in ed j = number_at ed (8 * j + ed_source)

abbrev pub next_in : List ℤ → ℕ → ℤ
next_in ed j = word_of 8 ed j ed_next

abbrev pub chain_fine : ℕ → List ℤ → List ℤ → ℕ → Bool
chain_fine m st ed s = climb m (source_in ed) (next_in ed) s (word_of 8 st s st_first) (word_of 8 st s st_last) (word_of 8 st s st_count)

abbrev pub count_in : List ℤ → ℕ → ℕ
count_in st s = size (word_of 8 st s st_count)

-- All of n states' chains; their counts are m edges together.
abbrev pub chains_fine : ℕ → ℕ → List ℤ → List ℤ → Bool
chains_fine n m st ed = all n (chain_fine m st ed) && eqb (sum n (count_in st)) m

-- ---- one edge more of a chain

module _ (m : ℕ) (src : ℕ → ℕ) (nxt : ℕ → ℤ) (s : ℕ) (end : ℤ) (few : m ≤ 65536) where
  abbrev stands : ℕ → ℕ → Bool
  stands low j = leb low j && ltb j m && eqb (src j) s

  -- it stands, and the rest follows
  pub stands_below : (low j : ℕ) → stands low j ≡ true → j < m
  stands_below low j h = ltb-true j m (right (leb low j) (ltb j m) (left (leb low j && ltb j m) (eqb (src j) s) h))

  pub climbs_on : (left low : ℕ) (e before : ℤ) {j : ℕ} → 0 < left → j ≡ number_of e → stands low j ≡ true → climbs m src nxt s end left low e before ≡ climbs m src nxt s end (left - 1) (j + 1) (nxt j) e
  unfolding climbs
  climbs_on zero low e before l q h = absurd (omega arith)
  climbs_on (suc k) low e before {j} l q h =
      let one : suc k - 1 ≡ k = omega arith in
      rw (number_word e j (sym q) (omega (arith, few, stands_below low j h)), one) (rw h refl)

  -- or it does not
  pub climbs_off : (left low : ℕ) (e before : ℤ) {j : ℕ} → 0 < left → j ≡ number_of e → stands low j ≡ false → climbs m src nxt s end left low e before ≡ false
  unfolding climbs
  climbs_off zero low e before l q h = absurd (omega arith)
  climbs_off (suc k) low (pos i) before l q h = rw (sym q) (rw h refl)
  climbs_off (suc k) low (negsuc i) before l q h = refl

  pub climbs_end : (left low : ℕ) (e before : ℤ) → left ≤ 0 → climbs m src nxt s end left low e before ≡ (same e none && same end before)
  unfolding climbs
  climbs_end zero low e before l = refl
  climbs_end (suc k) low e before l = absurd (omega arith)
