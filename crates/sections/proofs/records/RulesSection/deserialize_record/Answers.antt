-- The `deserialize_record` of `sections::records::Rules` meets its contract: two words are read, and stored. Assumes nothing.
use Rattle.std.proofs.Common.{rules, ◌≡◌, sym, ◌∙◌, List, [], ◌∷◌, ℕ, ℤ, pos}
use Rattle.format.specs.Reading.{Prog, done, run, ◌>>=◌, spot, get, index}
use Rattle.format.specs.Sections.{Rule, none, rule}
use Rattle.inplace.specs.Sections.{row_of}
use Rattle.words.specs.Laws.{handed_on}
use Rattle.sections.specs.Through.{ok_through, no_through}
use Rattle.sections.proofs.records.RulesSection.deserialize_record.Goals as goal

abbrev ruled : ℕ → ℤ → Prog Rule
ruled s t = done (record { start = s; token = t })

abbrev starting : ℕ → ℕ → Prog Rule
starting i s = get (spot 15 i) >>= ruled s

abbrev row : Rule → Prog (List ℤ)
row x = done (pos x.start ∷ none ∷ x.token ∷ [])

pub returns-in_err-start : goal.returns-in_err-start
unfolding row_of rule
returns-in_err-start c = λ rooms.
    let a = c.args in
    rw (handed_on c.from_residual.result c.in_err-start.field-0.0 c.from_residual.ensures.1)
    (sym (no_through (index (spot 14 a.«record»)) (starting a.«record») row a.words.now rooms a.at (c.in_err-start.ensures.says rooms)))

pub returns-in_err-token : goal.returns-in_err-token
unfolding row_of rule
returns-in_err-token c = λ rooms.
    let a = c.args in
    let f = c.from_residual-in_err-token in
    let s = c.in_ok-start in
    rw (handed_on f.result c.in_err-token.field-0.0 f.ensures.1)
    (sym (ok_through (index (spot 14 a.«record»)) (starting a.«record») row a.words.now rooms a.at (s.ensures.says rooms)
    ∙ no_through (get (spot 15 a.«record»)) (ruled s.start) row a.words.now rooms s.next (c.in_err-token.ensures rooms)))

pub returns : goal.returns
unfolding run row_of rule ◌>>=◌
returns c = λ rooms.
    let a = c.args in
    let s = c.in_ok-start in
    let t = c.in_ok-token in
    let e : c.copy_from_slice.new.self ≡ pos s.start ∷ none ∷ t.token ∷ [] = search rules in
    rw e
    (sym (ok_through (index (spot 14 a.«record»)) (starting a.«record») row a.words.now rooms a.at (s.ensures.says rooms)
    ∙ ok_through (get (spot 15 a.«record»)) (ruled s.start) row a.words.now rooms s.next (t.ensures rooms)))
