-- A pass over the records of a table: a test of each, made one after the other.
use Rattle.std.specs.Prelude.{◌≡◌, List, Bool, ℕ, ◌+◌, ◌*◌, ℤ, pos, get_or}
use Rattle.std.proofs.Common.{ap, ◌∙◌, arith}
use Rattle.format.specs.Places.{na_state}
use Rattle.format.specs.Tables.{row_at}
use Rattle.format.specs.Writing.{cell}
use Rattle.rewriting.specs.All.{all_same}
use Rattle.rewriting.specs.Held.{row_word}
use Rattle.rewriting.specs.Passes.{all}

-- records of one word
pub all_words : (p : ℤ → Bool) (n : ℕ) (t : List ℤ) → all n (λ i. p (cell (row_at 1 t i) na_state)) ≡ all n (λ i. p (get_or t i (pos 0)))
all_words p n t =
    all_same n (λ i. p (cell (row_at 1 t i) na_state)) (λ i. p (get_or t i (pos 0)))
    (λ i h. let e : 1 * i + 0 ≡ i = omega arith in ap p (row_word 1 t i na_state (omega arith) ∙ ap (λ (k : ℕ). get_or t k (pos 0)) e))
