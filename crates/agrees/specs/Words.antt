-- Single words of the states', the edges' and the rules' tables, in the forms that they have on the way.
use Rattle.std.specs.Prelude.{◌≡◌, refl, List, Bool, true, false, ◌&&◌, ℕ, ◌<◌, ℤ, pos, negsuc, length, get_or}
use Rattle.std.proofs.Common.{sym, ap, ◌∙◌, arith, ltb-true}
use Rattle.format.specs.Sections.{State, Rule, Edge, state_of, edge_of, none, size}
use Rattle.format.specs.Links.{names}
use Rattle.inplace.specs.Rows.{word_of}
use Rattle.agrees.specs.Forms.{state_line, states_form, edge_line, edges_form, rule_line, rules_form}
use Rattle.agrees.specs.Rows.{row_word}

-- Any other state, edge, rule: what `format` takes for one that is not listed.
abbrev pub no_state : State
no_state = state_of 0 none none none

abbrev pub no_edge : Edge
no_edge = edge_of 0 0 0 (pos 0) (pos 0) (pos 0)

abbrev pub no_rule : Rule
no_rule = record { start = 0; token = pos 0 }

pub state_word_lem : (n : ℕ) (F : ℕ → ℕ) (es : List Edge) (ss : List State) (s k : ℕ) → s < length ss → k < 8 → word_of 8 (states_form n F es ss) s k ≡ get_or (state_line F es s (get_or ss s no_state)) k (pos 0)
state_word_lem n F es ss s k h l = row_word 8 n (state_line F es) ss no_state (λ j x. refl) s k h l

pub edge_word : (n : ℕ) (M : ℕ → ℕ) (es : List Edge) (i k : ℕ) → i < length es → k < 8 → word_of 8 (edges_form n M es) i k ≡ get_or (edge_line M es i (get_or es i no_edge)) k (pos 0)
edge_word n M es i k h l = row_word 8 n (edge_line M es) es no_edge (λ j x. refl) i k h l

-- A rule that exists, by its number as a word.
pub rule_word : (n : ℕ) (ss : List State) (rs : List Rule) (R : ℤ) (k : ℕ) → names (length rs) R ≡ true → k < 3 → word_of 3 (rules_form n ss rs) (size R) k ≡ get_or (rule_line ss (size R) (get_or rs (size R) no_rule)) k (pos 0)
rule_word n ss rs (pos R) k h l = row_word 3 n (rule_line ss) rs no_rule (λ j x. refl) R k (ltb-true R (length rs) h) l
rule_word n ss rs (negsuc R) k h l = absurd (let z : ◌≡◌ {A = ℕ} 0 1 = cc in omega arith)

-- A word that names a record is its number.
pub named_is : (n : ℕ) (v : ℤ) → names n v ≡ true → (v ≡ pos (size v)) × (size v < n)
named_is n (pos k) h = (refl, ltb-true k n h)
named_is n (negsuc k) h = absurd (let z : ◌≡◌ {A = ℕ} 0 1 = cc in omega arith)

-- Of two tests in a row the second counts only where the first is passed.
pub and_then : (p p' q q' : Bool) → p ≡ p' → (p' ≡ true → q ≡ q') → (p && q) ≡ (p' && q')
and_then true p' q q' e f = f (sym e) ∙ ap (λ (t : Bool). t && q') e
and_then false p' q q' e f = ap (λ (t : Bool). t && q') e
