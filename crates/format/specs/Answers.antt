-- Document 01, "Where an answer is an enum, a definition sets out this paper's number and values for each of its cases."
use Rattle.std.specs.Prelude.{List, [], ◌∷◌, ℕ, ℤ, pos, Ok, Err}
use Rattle.format.specs.Sections.{bit}
use Rattle.format.specs.declared.Refusal.{Refusal}
use Rattle.format.specs.Results.{Decoded, Written, NthEdge, Matching, SetPart}

-- A refusal's number, or 0 for what is no refusal; and the values.
pub record Said : Type 0 where
  pub number : ℕ
  pub values : List ℤ

abbrev pub said : ℕ → List ℤ → Said
said n vs = record { number = n; values = vs }

-- Number, field, place, value, record.
abbrev pub of_refusal : Refusal → Said
of_refusal r = said r.number (pos r.number ∷ pos r.field ∷ pos r.place ∷ r.value ∷ pos r.«record» ∷ [])

-- Words read, max token type, states, edges, derived edges, ranges, sets, rules, modes, decisions, actions; or a refusal's values.
abbrev pub of_decoded : Decoded → Said
of_decoded (Ok c) =
    said 0 (pos c.words ∷ c.token ∷ pos c.states ∷ pos c.edges ∷ pos c.derived ∷ pos c.ranges ∷ pos c.sets
    ∷ pos c.rules ∷ pos c.modes ∷ pos c.decisions ∷ pos c.actions ∷ [])
of_decoded (Err r) = of_refusal r

-- The number of words; or a refusal's values.
abbrev pub of_written : Written → Said
of_written (Ok n) = said 0 (pos n ∷ [])
of_written (Err r) = of_refusal r

-- The edge's number; or number and value.
abbrev pub of_nth_edge : NthEdge → Said
of_nth_edge (Ok e) = said 0 (e ∷ [])
of_nth_edge (Err d) = said d.number (pos d.number ∷ d.value ∷ [])

-- 1 or 0; or number and value.
abbrev pub of_matching : Matching → Said
of_matching (Ok b) = said 0 (pos (bit b) ∷ [])
of_matching (Err d) = said d.number (pos d.number ∷ d.value ∷ [])

-- The part's first word and its length in words; or number and value.
abbrev pub of_set_part : SetPart → Said
of_set_part (Ok (a, n)) = said 0 (pos a ∷ pos n ∷ [])
of_set_part (Err d) = said d.number (pos d.number ∷ d.value ∷ [])
