-- The words of a state are put: by the number of words that follow the type. Assumes nothing.
use Rattle.std.proofs.Common.{◌≡◌, sym, ap, ◌∙◌, [], ◌∷◌, ℕ, arith, ℤ, get_or, take, take_all, rules}
use Rattle.format.specs.Sections.{follows}
use Rattle.format.specs.Places.{st_kind}
use Rattle.format.specs.Writing.{cell}
use Rattle.writing.specs.Laid.{lays_then, lays_more}
use Rattle.writing.proofs.Words.{word, number}
use Rattle.writing.proofs.records.StatesRecord8.write.Goals as goal

-- so many follow
following : {n k s : ℕ} → n ≡ get_or follows k 0 → k ≡ s → get_or follows s 0 ≡ n
following e f = sym (e ∙ ap (λ (k : ℕ). get_or follows k 0) f)

-- neither none nor one: both
both : (n : ℕ) (a b : ℤ) {m : ℕ} → n ≡ m → (m ≡ 0 → ⊥) → (m ≡ 1 → ⊥) → take n (a ∷ b ∷ []) ≡ a ∷ b ∷ []
both n a b e none one = take_all n (a ∷ b ∷ []) (omega arith)

pub returns-then-follow-eq1 : goal.returns-then-follow-eq1
returns-then-follow-eq1 c =
    rw (following c.words_after-follow.ensures c.size_at.ensures.0 ∙ c.if-follow-eq1.true)
    (lays_more (omega arith) (lays_then (number (cell c.args.row.now st_kind) c.put_size-rule.ensures (search rules)) (word c.put-link.ensures (search rules))))

pub returns : goal.returns
returns c =
    rw (both _ _ _ (following c.words_after-follow.ensures c.size_at.ensures.0) c.if-follow-eq0.false c.if-follow-eq1.false)
    (lays_more (omega arith) (lays_then (number (cell c.args.row.now st_kind) c.put_size-rule.ensures (search rules)) (lays_then (word c.put-link.ensures (search rules)) c.write_link.ensures)))
