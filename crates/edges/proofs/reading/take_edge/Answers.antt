-- `edges::reading::take_edge` meets its contract: by the signs of the first two words. Assumes nothing.
use Rattle.std.proofs.Common.{rules, ◌+◌, arith, pos, get_or}
use Rattle.format.specs.Reading.{spot}
use Rattle.words.specs.Laws.{handed_on}
use Rattle.words.proofs.Signs.{back32}
use Rattle.edges.specs.Laws.{natural_got, natural_below, six_ok, six-first, six-second}
use Rattle.edges.proofs.reading.take_edge.Goals as goal

pub returns-clause-says : goal.returns-clause-says
returns-clause-says c =
    let a = c.args in
    let ws = a.words.now in
    let u = get_or ws a.at (pos 0) in
    let s = natural_got (spot 24 a.«record») ws (λ t. 0) a.at u _ (rw (back32 u (search rules)) at (c.in_ok-source.ensures.says ws (λ t. 0))) in
    let v = get_or ws (a.at + 1) (pos 0) in
    let t = natural_got (spot 25 a.«record») ws (λ t. 0) (a.at + 1) v _ (rw (back32 v (search rules)) at (c.in_ok-target.ensures.says ws (λ t. 0))) in
    λ rooms. rw (back32 (get_or ws (a.at + 2) (pos 0)) (search rules), back32 (get_or ws (a.at + 3) (pos 0)) (search rules), back32 (get_or ws (a.at + 4) (pos 0)) (search rules), back32 (get_or ws (a.at + 5) (pos 0)) (search rules)) (six_ok a.«record» ws rooms a.at c.requires s t)

pub returns-in_err-target-clause-says : goal.returns-in_err-target-clause-says
returns-in_err-target-clause-says c =
    let a = c.args in
    let ws = a.words.now in
    let r = c.from_residual-in_err-target in
    let f = spot 25 a.«record» in
    let v = get_or ws (a.at + 1) (pos 0) in
    let u = get_or ws a.at (pos 0) in
    let s = natural_got (spot 24 a.«record») ws (λ t. 0) a.at u _ (rw (back32 u (search rules)) at (c.in_ok-source.ensures.says ws (λ t. 0))) in
    let e = rw (back32 v (search rules)) at c.in_err-target.ensures.says in
    let t = natural_below f ws (λ t. 0) (a.at + 1) v _ (e ws (λ t. 0)) in
    λ rooms. rw (handed_on r.result c.in_err-target.field-0.0 r.ensures.1, t.1) (six-second a.«record» ws rooms a.at (omega arith) s t.0)

pub returns-in_err-source-clause-says : goal.returns-in_err-source-clause-says
returns-in_err-source-clause-says c =
    let a = c.args in
    let ws = a.words.now in
    let f = spot 24 a.«record» in
    let v = get_or ws a.at (pos 0) in
    let e = rw (back32 v (search rules)) at c.in_err-source.ensures.says in
    let s = natural_below f ws (λ t. 0) a.at v _ (e ws (λ t. 0)) in
    λ rooms. rw (handed_on c.from_residual.result c.in_err-source.field-0.0 c.from_residual.ensures.1, s.1) (six-first a.«record» ws rooms a.at (omega arith) s.0)
