-- The records that the lent tables hold, and their words.
use Rattle.std.specs.Prelude.{◌≡◌, refl, List, [], ◌∷◌, true, ℕ, zero, suc, ◌+◌, ◌*◌, ◌<◌, ℤ, pos, negsuc, length, get_or}
use Rattle.std.proofs.Common.{sym, ap, ◌∙◌, arith}
use Rattle.std.proofs.Math.ListN.{get_or-map}
use Rattle.std.proofs.lemmas.List.{length-map}
use Rattle.format.specs.Reading.{Table, States, Edges, Rules}
use Rattle.format.specs.Sections.{size}
use Rattle.format.specs.Links.{state_at}
use Rattle.format.specs.Writing.{cell, cell_size, state_back, edge_back, rule_back, rows_of, given}
use Rattle.atn.specs.Records.{no_state, edge_at}
use Rattle.tables.specs.Words.{number_of, number_at}
use Rattle.rewriting.specs.Formed.{natural}
use Rattle.rewriting.specs.Tests.{lie}
use Rattle.rewriting.specs.Fine.{states_in, edges_in, rules_of, at}
use Rattle.rewriting.specs.Checks.{row}
use Rattle.rewriting.specs.Held.{rows_long, rows_at, row_word}

-- a member of a list, whatever stands for what is missing
pub any_default : {A : Type 0} (l : List A) (i : ℕ) (d e : A) → i < length l → get_or l i d ≡ get_or l i e
any_default [] i d e h = absurd (omega arith)
any_default (a ∷ l) zero d e h = refl
any_default (a ∷ l) (suc i) d e h = any_default l i d e (omega arith)

-- word p of record i
pub word_at_lem : (w n : ℕ) (t : List ℤ) (i p : ℕ) → i < n → p < w → get_or t (w * i + p) (pos 0) ≡ cell (get_or (rows_of w n t) i []) p
word_at_lem w n t i p h k = sym (ap (λ (x : List ℤ). cell x p) (rows_at w n t i h) ∙ row_word w t i p k)

module _ (tables : Table → List ℤ) (counts : Table → ℕ) where
  abbrev pub T : Table → List (List ℤ)
  T = given tables counts

  pub rows-states : length (T States) ≡ counts States
  rows-states = rows_long 8 (counts States) (tables States)

  pub rows-edges : length (T Edges) ≡ counts Edges
  rows-edges = rows_long 8 (counts Edges) (tables Edges)

  pub rows-rules : length (T Rules) ≡ counts Rules
  rows-rules = rows_long 3 (counts Rules) (tables Rules)

  pub states_long : length (states_in T) ≡ counts States
  states_long = length-map (T States) state_back ∙ rows-states

  pub edges_long : length (edges_in T) ≡ counts Edges
  edges_long = length-map (T Edges) edge_back ∙ rows-edges

  pub rules_long : rules_of T ≡ counts Rules
  rules_long = length-map (T Rules) rule_back ∙ rows-rules

  pub state_is : (s : ℕ) → s < counts States → state_at (states_in T) s ≡ state_back (row T States s)
  state_is s k = any_default (states_in T) s no_state (state_back []) (omega (arith, states_long)) ∙ get_or-map state_back (T States) s []

  pub edge_is : (i : ℕ) → edge_at (edges_in T) i ≡ edge_back (row T Edges i)
  edge_is i = get_or-map edge_back (T Edges) i []

  pub state_word_lem : (s p : ℕ) → s < counts States → p < 8 → get_or (tables States) (8 * s + p) (pos 0) ≡ at T States s p
  state_word_lem s p = word_at_lem 8 (counts States) (tables States) s p

  pub edge_word : (i p : ℕ) → i < counts Edges → p < 8 → get_or (tables Edges) (8 * i + p) (pos 0) ≡ at T Edges i p
  edge_word i p = word_at_lem 8 (counts Edges) (tables Edges) i p

  pub rule_word : (R p : ℕ) → R < counts Rules → p < 3 → get_or (tables Rules) (3 * R + p) (pos 0) ≡ at T Rules R p
  rule_word R p = word_at_lem 3 (counts Rules) (tables Rules) R p

  -- an edge's word as a record's number
  pub edge-number : (i p : ℕ) → i < counts Edges → p < 8 → natural (at T Edges i p) ≡ true → number_at (tables Edges) (8 * i + p) ≡ cell_size (row T Edges i) p
  edge-number i p h k e = ap number_of (edge_word i p h k) ∙ go (at T Edges i p) e
    where
      go : (z : ℤ) → natural z ≡ true → number_of z ≡ size z
      go (pos n) e = refl
      go (negsuc n) e = lie e
