-- `write_words` meets its contract. Assumes nothing.
use Rattle.std.proofs.Common.{List, [], ◌∷◌, ℕ, ◌+◌, ◌*◌, arith, ℤ, pos, rules}
use Rattle.format.specs.Sections.{Read}
use Rattle.format.specs.Tables.{state_word, action_words}
use Rattle.format.specs.Writing.{counted, state_form, rule_form, set_form, edge_form, state_back, rule_back, state_named, edge_back, action_back, words_of, rows_of}
use Rattle.words.proofs.Signs.{back32}
use Rattle.writing.specs.Laid.{Lays, lays_more, lays_then}
use Rattle.writing.proofs.Flags.{with-one, with_two}
use Rattle.writing.specs.Sections.{counted_back}
use Rattle.writing.specs.Whole.{read_off}
use Rattle.writing.proofs.write_words.Goals as goal

-- the sections, one behind another
sections : (r : Read) {k a b c d e f g h i j : ℕ} {l₀ l₁ l₂ l₃ l₄ l₅ l₆ l₇ l₈ l₉ l₁₀ : List ℤ}
    → Lays 3 0 (pos 4 ∷ pos 0 ∷ r.token ∷ []) l₀ l₁ a → Lays k a (counted state_form r.states) l₁ l₂ b
    → Lays k b (counted state_word r.nongreedy) l₂ l₃ c → Lays k c (counted state_word r.recursive) l₃ l₄ d → Lays k d (counted rule_form r.rules) l₄ l₅ e
    → Lays k e (counted state_word r.modes) l₅ l₆ f → Lays k f (counted set_form r.sets) l₆ l₇ g → Lays k g (counted edge_form r.edges) l₇ l₈ h
    → Lays k h (counted state_word r.decisions) l₈ l₉ i → Lays k i (counted action_words r.actions) l₉ l₁₀ j → Lays (3 + 9 * k) 0 (words_of r) l₀ l₁₀ j
unfolding words_of
sections r header states ones twos rules modes sets edges decisions actions =
    lays_more (omega arith)
    (lays_then header (lays_then states (lays_then ones (lays_then twos (lays_then rules
    (lays_then modes (lays_then sets (lays_then edges (lays_then decisions actions)))))))))

pub returns : goal.returns
unfolding read_off
returns c =
    let states = c.args.records.now.net.states in
    let rows = rows_of 8 states.count states.words.now in
    lays_more (omega arith)
    (sections _ (rw (back32 c.args.token c.ranges.token.sfits) at c.write_header-states_at.ensures) (rw (counted_back state_form state_back) at c.write_records-ones_at.ensures)
    (rw (with-one rows) at c.write_flagged-twos_at.ensures) (rw (with_two rows) at c.write_flagged-rules_at.ensures)
    (rw (counted_back rule_form rule_back) at c.write_records-modes_at.ensures) (rw (counted_back state_word state_named) at c.write_records-sets_at.ensures) c.write_sets-edges_at.ensures
    (rw (counted_back edge_form edge_back) at c.write_records-decisions_at.ensures) (rw (counted_back state_word state_named) at c.write_records-actions_at.ensures) (rw (counted_back action_words action_back) at c.write_records.ensures))
