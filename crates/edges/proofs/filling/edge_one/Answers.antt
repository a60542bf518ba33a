-- `edges::filling::edge_one` meets its contract: the record is laid into the table, and the edge chained. Assumes nothing.
use Rattle.std.proofs.Common.{rules, ◌≡◌, ◌+◌, ◌*◌, ◌<◌, arith}
use borrow.Rule.Slice.PartMut.{Post-is}
use Rattle.format.specs.Kinds.{edge_number}
use Rattle.format.specs.Sections.{meaning}
use Rattle.inplace.specs.Rows.{edge_row}
use Rattle.inplace.specs.Links.{net}
use Rattle.words.specs.Laws.{handed_on}
use Rattle.edges.specs.Kinds.{meaning_source}
use Rattle.edges.specs.Laws.{one_is}
use Rattle.edges.proofs.Types.{last_type}
use Rattle.edges.proofs.filling.edge_one.Goals as goal

pub returns : goal.returns
returns c =
    let a = c.args in
    let t = c.in_ok-kind.field-0-0 in
    let r = t.raw in
    let k = edge_number t.kind in
    let few : k < 11 = omega (arith, last_type t.kind) in
    let same = meaning_source r.source r.target r.a r.b r.c k few in
    let e : c.copy_from_slice.new.self ≡ edge_row 0 (meaning k r.source r.target r.a r.b r.c) = search rules in
    λ rooms. rw (c.chain_edge.ensures, e, Post-is (8 * a.i) (8 * a.i + 8) a.edges.now (omega arith), same)
    (rw same at
    (one_is a.counts.now.states a.counts.now.sets a.i (net a.states.now a.edges.now) a.words.now rooms a.at (c.in_ok-kind.ensures.says rooms)))

pub returns-in_err-kind : goal.returns-in_err-kind
returns-in_err-kind c =
    let a = c.args in
    λ rooms. rw (handed_on c.from_residual.result c.in_err-kind.field-0.0 c.from_residual.ensures.1)
    (one_is a.counts.now.states a.counts.now.sets a.i (net a.states.now a.edges.now) a.words.now rooms a.at (c.in_err-kind.ensures.says rooms))
