-- `tail_call_follow_is_safe` meets its contract: each way out is a reason for or against a tail call. Assumes nothing.
use Rattle.std.proofs.Common.{sym, add-zero}
use Rattle.atn.specs.Marks.{tail-typed, tail_unlisted, tail_elsewhere, tail_decided}
use Rattle.atn.proofs.Reading.{follows}
use Rattle.atn.proofs.tail_call_follow_is_safe.Goals as goal

pub returns-then-kind-clause-value : goal.returns-then-kind-clause-value
returns-then-kind-clause-value c =
    let k = rw add-zero at c.number_at-kind.ensures in
    sym (tail-typed c.args.network.now.linked.chained c.requires.listed c.args.network.now.rule_count c.number_at-kind.result k c.if-kind.true)

pub returns-then-follow-network-clause-value : goal.returns-then-follow-network-clause-value
returns-then-follow-network-clause-value c =
    let l = c.args.network.now.linked in
    let f = follows l.chained l.stopped c.requires.listed c.number_at-kind.ensures c.if-kind.false c.number_at-follow.ensures in
    sym (tail_unlisted f c.if-follow-network.true)

pub returns-then-ours-theirs-clause-value : goal.returns-then-ours-theirs-clause-value
returns-then-ours-theirs-clause-value c =
    let l = c.args.network.now.linked in
    let f = follows l.chained l.stopped c.requires.listed c.number_at-kind.ensures c.if-kind.false c.number_at-follow.ensures in
    sym (tail_elsewhere f c.if-follow-network.false c.number_at-source.result c.number_at-ours.result c.number_at-theirs.result c.number_at-source.ensures c.number_at-ours.ensures c.number_at-theirs.ensures c.if-ours-theirs.true)

pub returns-clause-value : goal.returns-clause-value
returns-clause-value c =
    let l = c.args.network.now.linked in
    let f = follows l.chained l.stopped c.requires.listed c.number_at-kind.ensures c.if-kind.false c.number_at-follow.ensures in
    tail_decided f c.if-follow-network.false c.number_at-source.result c.number_at-ours.result c.number_at-theirs.result c.number_at-source.ensures c.number_at-ours.ensures c.number_at-theirs.ensures c.if-ours-theirs.false c.is_safe.result c.is_safe.ensures.own
