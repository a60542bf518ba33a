-- `search::visit` meets its contract: each way out is a step of the search. Assumes nothing.
use Rattle.std.proofs.Common.{refl, sym, ◌∙◌, arith}
use Rattle.atn.specs.Search.{stepped_as}
use Rattle.atn.specs.Visits.{next-listed, left_few, rule-number, no_target, bad_colour, visit_done, visit_lost, visit_passed, visit_met}
use Rattle.atn.proofs.Reading.{at_work, next, onto}
use Rattle.atn.proofs.search.visit.Goals as goal

pub returns-then-left-eq0 : goal.returns-then-left-eq0
returns-then-left-eq0 c = stepped_as c.settle.ensures.0 c.settle.ensures.1 (visit_done (at_work c.args.network.now c.requires.runs c.requires.listed) (sym c.number_at-left.ensures ∙ c.if-left-eq0.true))

pub plain_target-requires : goal.plain_target-requires
plain_target-requires c =
    let x = next (at_work c.args.network.now c.requires.runs c.requires.listed) c.number_at-left.ensures c.if-left-eq0.false c.number_at-e.ensures in
    record { listed = (c.requires.listed, next-listed x, rule-number x.ready) }

pub returns-in_default : goal.returns-in_default
returns-in_default c =
    let x = next (at_work c.args.network.now c.requires.runs c.requires.listed) c.number_at-left.ensures c.if-left-eq0.false c.number_at-e.ensures in
    stepped_as c.settle-in_default.ensures.0 c.settle-in_default.ensures.1 (visit_lost x.ready (no_target x c.args.network.now.state_count c.in_default.ensures refl))

pub pass-requires : goal.pass-requires
pass-requires c =
    let x = next (at_work c.args.network.now c.requires.runs c.requires.listed) c.number_at-left.ensures c.if-left-eq0.false c.number_at-e.ensures in
    omega (arith, next-listed x, left_few x, x.some, c.requires.listed, x.ready.chained.edges_long, x.ready.chained.all-states, c.requires.runs.runs.long)

pub returns-then-colour : goal.returns-then-colour
returns-then-colour c =
    let x = next (at_work c.args.network.now c.requires.runs c.requires.listed) c.number_at-left.ensures c.if-left-eq0.false c.number_at-e.ensures in
    stepped_as refl c.pass.ensures (visit_passed (onto x c.in-Some.ensures) (sym c.number_at-colour.ensures ∙ c.if-colour.true))

pub returns-then-colour-2 : goal.returns-then-colour-2
returns-then-colour-2 c =
    let x = next (at_work c.args.network.now c.requires.runs c.requires.listed) c.number_at-left.ensures c.if-left-eq0.false c.number_at-e.ensures in
    visit_met (onto x c.in-Some.ensures) (sym c.number_at-colour.ensures ∙ c.if-colour-2.true) c.meet.ensures

pub returns : goal.returns
returns c =
    let x = next (at_work c.args.network.now c.requires.runs c.requires.listed) c.number_at-left.ensures c.if-left-eq0.false c.number_at-e.ensures in
    stepped_as c.settle-2.ensures.0 c.settle-2.ensures.1 (visit_lost x.ready (bad_colour (onto x c.in-Some.ensures) (λ q. c.if-colour.false (c.number_at-colour.ensures ∙ q)) (λ q. c.if-colour-2.false (c.number_at-colour.ensures ∙ q))))
