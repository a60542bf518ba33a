-- Records in a flat table: word k of record i of width w stands at w * i + k.
use Rattle.std.specs.Prelude.{List, [], ◌∷◌, ℕ, ◌+◌, ◌*◌, ltb, ℤ, pos, negsuc, get_or, set}
use Rattle.std.specs.Int.Bits.{bit_or}
use Rattle.format.specs.Reading.{pick}
use Rattle.format.specs.Sections.{State, Edge, none}

abbrev pub word_of : ℕ → List ℤ → ℕ → ℕ → ℤ
word_of w t i k = get_or t (w * i + k) (pos 0)

abbrev pub stored : ℕ → List ℤ → ℕ → ℕ → ℤ → List ℤ
stored w t i k v = set t (w * i + k) v

-- A flags word with one more flag; nonsense stays.
abbrev pub with_bit : ℕ → ℤ → ℤ
with_bit b (pos n) = pos (bit_or n b)
with_bit b (negsuc n) = negsuc n

-- The flags of the state s, with one more.
abbrev pub flag_at : ℕ → ℕ → List ℤ → List ℤ
flag_at b s t = stored 8 t s 4 (with_bit b (word_of 8 t s 4))

-- One more, up to the largest word.
abbrev pub one_more : ℤ → ℤ
one_more (pos n) = pick (ltb n 2147483647) (pos (n + 1)) (pos n)
one_more (negsuc n) = negsuc n

-- A state's record before any flag or edge; an edge's, before the next.
abbrev pub state_row : State → List ℤ
state_row x = pos x.kind ∷ x.rule ∷ x.end ∷ x.back ∷ pos 0 ∷ none ∷ none ∷ pos 0 ∷ []

abbrev pub edge_row : ℕ → Edge → List ℤ
edge_row mark e = pos e.kind ∷ pos e.source ∷ pos e.target ∷ e.p ∷ e.q ∷ e.r ∷ pos mark ∷ none ∷ []
