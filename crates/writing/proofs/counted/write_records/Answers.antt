-- `write_records` meets its contract: after i turns the words of the first i records are laid behind the count. Assumes nothing.
use Rattle.std.proofs.Common.{◌∙◌, ◌<◌, [], refl, arith}
use Rattle.std.proofs.lemmas.List.{get_or_default}
use Rattle.writing.proofs.Rows.{handed, handed_long, turned_none, turned_more, turned_counted}
use Rattle.writing.proofs.counted.write_records.Goals as goal

pub loop-row-init : goal.loop-row-init
loop-row-init g c = turned_none refl

pub loop-row-preserved : goal.loop-row-preserved
loop-row-preserved g c =
    let i = c.loop-row.row-index in
    let inside : i < c.args.rows.now.count = omega (arith, handed_long g.row.W c.args.rows.now.count c.args.rows.now.words.now c.counted-row-items.ensures, c.loop-row-test.true) in
    let row = c.row-item.is ∙ get_or_default c.counted-row-items.result.now i c.row-item.result [] (omega (arith, c.loop-row-test.true)) ∙ handed g.row.W c.args.rows.now.count i c.args.rows.now.words.now c.counted-row-items.ensures inside in
    turned_more g.R.Record.form c.loop-row.invariant inside row c.write-next.ensures

pub returns : goal.returns
returns g c =
    turned_counted g.R.Record.form c.put_number-next.ensures c.loop-row.invariant
    (omega (arith, handed_long g.row.W c.args.rows.now.count c.args.rows.now.words.now c.counted-row-items.ensures, c.loop-row-test.false)) (omega arith)

pub counted-row-items-requires : goal.counted-row-items-requires
counted-row-items-requires g c = (omega arith, (omega (arith, c.requires.wide.1), c.requires.wide.0))
