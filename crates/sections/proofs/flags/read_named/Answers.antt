-- `sections::flags::read_named` meets its contract: an index is read, then tested. Assumes nothing.
use Rattle.std.proofs.Common.{◌≡◌, refl, sym, ◌∙◌, List, ℕ, ℤ}
use Rattle.format.specs.Reading.{Table, ok, no, run, index, listed, ◌>>=◌}
use Rattle.format.specs.Sections.{named}
use Rattle.format.specs.declared.Refusal.{Refusal}
use Rattle.format.specs.declared.Spot.{Spot}
use Rattle.laws.specs.Running.{ok_then, no_then}
use Rattle.words.specs.Laws.{handed_on}
use Rattle.sections.proofs.flags.read_named.Goals as goal

module _ (n : ℕ) (f : Spot) (ws : List ℤ) (rooms : Table → ℕ) (at : ℕ) where
  named_is : run (named n f) ws rooms at ≡ run (index f >>= listed 7 n f at) ws rooms at
  unfolding run index named ◌>>=◌
  named_is = refl

  named_ok : {s m : ℕ} → ok s m ≡ run (index f) ws rooms at → run (named n f) ws rooms at ≡ run (listed 7 n f at s) ws rooms m
  named_ok e = named_is ∙ ok_then (index f) (listed 7 n f at) ws rooms at e

  named-no : {r : Refusal} → no r ≡ run (index f) ws rooms at → run (named n f) ws rooms at ≡ no r
  named-no e = named_is ∙ no_then (index f) (listed 7 n f at) ws rooms at e

pub returns-in_err-s-clause-says : goal.returns-in_err-s-clause-says
returns-in_err-s-clause-says c = λ rooms.
    let a = c.args in
    rw (handed_on c.from_residual.result c.in_err-s.field-0.0 c.from_residual.ensures.1)
    (sym (named-no a.n a.spot a.words.now rooms a.at (c.in_err-s.ensures.says rooms)))

pub returns-clause-says : goal.returns-clause-says
returns-clause-says c = λ rooms.
    let a = c.args in
    c.listed.ensures.says a.words.now rooms ∙ sym (named_ok a.n a.spot a.words.now rooms a.at (c.in_ok-s.ensures.says rooms))
