-- `matching::meets` meets its contract: the type is one of ten or none, and an edge's set is asked where it has one. Assumes nothing.
use Rattle.std.specs.Prelude.{Ok, Err}
use Rattle.std.proofs.Common.{ap, sym, ◌∙◌, Bool, pos}
use Rattle.format.specs.Kinds.{edge_number}
use Rattle.format.specs.Questions.{matching}
use Rattle.std.proofs.lemmas.Result.{err_from_is_err_and}
use Rattle.words.proofs.Signs.{back32}
use Rattle.questions.proofs.Meeting.{untyped, named, with_set, setless, meets_unknown, meets-found, meets_none, meets-plain}
use Rattle.questions.proofs.matching.meets.Goals as goal
use Rattle.questions.proofs.matching.meets.Goals.{in-Set+in_ok-hit-in-Set, in_default-known}

pub returns-in_default : goal.returns-in_default
returns-in_default c =
    let a = c.args in
    let e = rw (back32 a.kind c.ranges.kind.sfits) at c.in_default.ensures in
    ap Err c.contradiction.ensures ∙ sym (meets_unknown a.kind a.p a.q a.sets.now a.set_count a.ranges.now a.range_count a.symbol a.min a.max (untyped a.kind e))

pub returns-in_err-hit-in-Set : goal.returns-in_err-hit-in-Set
returns-in_err-hit-in-Set c =
    let a = c.args in
    let f = c.ranges in
    let k = rw (back32 a.kind f.kind.sfits) at c.in-Some.ensures in
    let n = c.in-Some.known in
    let d = c.in_err-hit-in-Set.field-0.0 in
    let h = err_from_is_err_and c.from_residual.result c.from_residual.ensures.1 in
    let e = rw (back32 a.p f.p.sfits, back32 a.symbol f.symbol.sfits) at c.in_err-hit-in-Set.ensures in
    rw k
    (h.1 ∙ ap Err h.2
    ∙ meets_none (pos (edge_number n)) a.p a.q a.sets.now a.set_count a.ranges.now a.range_count a.symbol a.min a.max (named n) c.requires.0 c.requires.1 (with_set n c.in-Set.is) d e)

pub returns : goal.returns
returns c =
    let a = c.args in
    let f = c.ranges in
    let k = rw (back32 a.kind f.kind.sfits) at c.in-Some.ensures in
    let n = c.in-Some.known in
    let b = rw (back32 a.p f.p.sfits, back32 a.q f.q.sfits, back32 a.symbol f.symbol.sfits, back32 a.min f.min.sfits, back32 a.max f.max.sfits) at c.by_kind.ensures in
    let by = λ (h : Bool). matching (edge_number n) a.p a.q h a.symbol a.min a.max in
    elim c.match-known.branch [
      | in-Set+in_ok-hit-in-Set w ↦
          let e = rw (back32 a.p f.p.sfits, back32 a.symbol f.symbol.sfits) at w.in_ok-hit-in-Set.ensures in
          rw k
          (ap Ok (b ∙ ap by w.hit-is)
          ∙ meets-found (pos (edge_number n)) a.p a.q a.sets.now a.set_count a.ranges.now a.range_count a.symbol a.min a.max (named n) c.requires.0 c.requires.1 (with_set n w.in-Set.is) w.in_ok-hit-in-Set.hit e)
      | in_default-known w ↦
          rw k
          (ap Ok (b ∙ ap by w.hit-is)
          ∙ meets-plain (pos (edge_number n)) a.p a.q a.sets.now a.set_count a.ranges.now a.range_count a.symbol a.min a.max (named n) (setless n w.in_default-known.not-Set w.in_default-known.not-NotSet))
    ]
