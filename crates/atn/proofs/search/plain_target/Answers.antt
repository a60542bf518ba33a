-- `search::plain_target` meets its contract: each way out is a test of `plain_target`. Assumes nothing.
use Rattle.atn.specs.Visits.{kind_off, target_off, rule_off, plain_on}
use Rattle.atn.proofs.Reading.{leaving}
use Rattle.atn.proofs.search.plain_target.Goals as goal

pub returns-then-kind : goal.returns-then-kind
returns-then-kind c = kind_off (leaving c.args.network.now.linked.chained c.requires.listed.0 c.requires.listed.1 c.number_at-kind.ensures) c.if-kind.true

pub returns-then-t-network : goal.returns-then-t-network
returns-then-t-network c =
    let l = leaving c.args.network.now.linked.chained c.requires.listed.0 c.requires.listed.1 c.number_at-kind.ensures in
    target_off l c.number_at-t.result c.number_at-t.ensures c.if-t-network.true

pub returns-then-theirs-ours : goal.returns-then-theirs-ours
returns-then-theirs-ours c =
    let l = leaving c.args.network.now.linked.chained c.requires.listed.0 c.requires.listed.1 c.number_at-kind.ensures in
    rule_off l c.number_at-t.result c.number_at-t.ensures c.if-t-network.false c.number_at-ours.result c.number_at-theirs.result c.number_at-ours.ensures c.number_at-theirs.ensures c.if-theirs-ours.true

pub returns : goal.returns
returns c =
    let l = leaving c.args.network.now.linked.chained c.requires.listed.0 c.requires.listed.1 c.number_at-kind.ensures in (
      plain_on l c.number_at-t.result c.number_at-t.ensures c.if-t-network.false c.number_at-ours.result c.number_at-theirs.result c.number_at-ours.ensures c.number_at-theirs.ensures c.if-kind.false c.if-theirs-ours.false c.requires.listed.2,
      c.if-t-network.false,
    )
