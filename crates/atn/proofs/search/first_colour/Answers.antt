-- `search::first_colour` meets its contract: each way out is a test of `first_colour`. Assumes nothing.
use Rattle.std.proofs.Common.{refl, sym, ◌∙◌, ◌+◌, ◌*◌, add-zero, eq-eqb, ne_eqb}
use Rattle.tables.specs.Words.{number_at}
use Rattle.atn.specs.Visits.{first_ruleless, first_stopless, first_by}
use Rattle.atn.proofs.Reading.{ruled}
use Rattle.atn.proofs.search.first_colour.Goals as goal

pub returns-then-rule-network : goal.returns-then-rule-network
returns-then-rule-network c =
    let r = ruled c.args.network.now.linked.chained.few_states c.args.network.now.linked.stopped c.requires c.number_at-rule.ensures in
    sym (first_ruleless r c.if-rule-network.true (number_at c.args.network.now.states.now (8 * c.args.s + 7)))

pub returns-then-stop-network : goal.returns-then-stop-network
returns-then-stop-network c =
    let r = ruled c.args.network.now.linked.chained.few_states c.args.network.now.linked.stopped c.requires c.number_at-rule.ensures in
    sym (first_stopless r c.if-rule-network.false c.number_at-stop.result c.number_at-stop.ensures c.if-stop-network.true (number_at c.args.network.now.states.now (8 * c.args.s + 7)))

pub returns-then-stop-s : goal.returns-then-stop-s
returns-then-stop-s c =
    let r = ruled c.args.network.now.linked.chained.few_states c.args.network.now.linked.stopped c.requires c.number_at-rule.ensures in
    sym
    (first_by r c.if-rule-network.false c.number_at-stop.result c.number_at-stop.ensures c.if-stop-network.false (number_at c.args.network.now.states.now (8 * c.args.s + 7))
    ∙ rw (eq-eqb c.number_at-stop.result c.args.s c.if-stop-s.true) refl)

pub returns-then-kind : goal.returns-then-kind
returns-then-kind c =
    let r = ruled c.args.network.now.linked.chained.few_states c.args.network.now.linked.stopped c.requires c.number_at-rule.ensures in
    let k = rw add-zero at c.number_at-kind.ensures in
    sym
    (first_by r c.if-rule-network.false c.number_at-stop.result c.number_at-stop.ensures c.if-stop-network.false (number_at c.args.network.now.states.now (8 * c.args.s + 7))
    ∙ rw (ne_eqb c.number_at-stop.result c.args.s c.if-stop-s.false, ← k, eq-eqb c.number_at-kind.result 7 c.if-kind.true) refl)

pub returns-then-count-eq0 : goal.returns-then-count-eq0
returns-then-count-eq0 c =
    let r = ruled c.args.network.now.linked.chained.few_states c.args.network.now.linked.stopped c.requires c.number_at-rule.ensures in
    let k = rw add-zero at c.number_at-kind.ensures in
    sym
    (first_by r c.if-rule-network.false c.number_at-stop.result c.number_at-stop.ensures c.if-stop-network.false (number_at c.args.network.now.states.now (8 * c.args.s + 7))
    ∙ rw (ne_eqb c.number_at-stop.result c.args.s c.if-stop-s.false, ← k, ne_eqb c.number_at-kind.result 7 c.if-kind.false, ← c.number_at-count.ensures, eq-eqb c.number_at-count.result 0 c.if-count-eq0.true) refl)

pub returns : goal.returns
returns c =
    let r = ruled c.args.network.now.linked.chained.few_states c.args.network.now.linked.stopped c.requires c.number_at-rule.ensures in
    let k = rw add-zero at c.number_at-kind.ensures in
    sym
    (first_by r c.if-rule-network.false c.number_at-stop.result c.number_at-stop.ensures c.if-stop-network.false (number_at c.args.network.now.states.now (8 * c.args.s + 7))
    ∙ rw (ne_eqb c.number_at-stop.result c.args.s c.if-stop-s.false, ← k, ne_eqb c.number_at-kind.result 7 c.if-kind.false, ← c.number_at-count.ensures, ne_eqb c.number_at-count.result 0 c.if-count-eq0.false) refl)
