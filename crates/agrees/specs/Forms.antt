-- What the tables hold on the way: the records so far, in a row, and zeros behind them.
use Rattle.std.specs.Prelude.{List, [], ◌∷◌, ◌++◌, ℕ, ◌-◌, ℤ, pos, length}
use Rattle.format.specs.Sections.{State, Rule, Edge}
use Rattle.format.specs.Links.{flat, first, last, chain, next, stop_of}
use Rattle.format.specs.Tables.{numbered, zeros}

-- Rows of words, and zeros up to n words in all.
abbrev pub padded : ℕ → List (List ℤ) → List ℤ
padded n rows = flat rows ++ zeros (n - length (flat rows))

-- The states ss, flagged by F, with the edges es so far.
abbrev pub state_line : (ℕ → ℕ) → List Edge → ℕ → State → List ℤ
state_line F es s x =
    pos x.kind ∷ x.rule ∷ x.end ∷ x.back ∷ pos (F s) ∷ first (chain es s) ∷ last (chain es s) ∷ pos (length (chain es s)) ∷ []

abbrev pub states_form : ℕ → (ℕ → ℕ) → List Edge → List State → List ℤ
states_form n F es ss = padded n (numbered 0 (state_line F es) ss)

-- The edges es so far, marked by M.
abbrev pub edge_line : (ℕ → ℕ) → List Edge → ℕ → Edge → List ℤ
edge_line M es i e =
    pos e.kind ∷ pos e.source ∷ pos e.target ∷ e.p ∷ e.q ∷ e.r ∷ pos (M i) ∷ next es e.source i ∷ []

abbrev pub edges_form : ℕ → (ℕ → ℕ) → List Edge → List ℤ
edges_form n M es = padded n (numbered 0 (edge_line M es) es)

-- The rules rs, with the stops that the states ss give; before they are found, ss is empty.
abbrev pub rule_line : List State → ℕ → Rule → List ℤ
rule_line ss R x = pos x.start ∷ stop_of ss (pos R) ∷ x.token ∷ []

abbrev pub rules_form : ℕ → List State → List Rule → List ℤ
rules_form n ss rs = padded n (numbered 0 (rule_line ss) rs)
