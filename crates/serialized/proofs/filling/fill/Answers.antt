-- `fill`: each section says its own equation, and `assembled` puts them together; that the counts stay within the rooms (`Roomed`) answers
-- what each section asks of the tables that those before it filled.
use Rattle.std.proofs.Common.{refl, sym, arith}
use Rattle.format.specs.Reading.{Edges}
use Rattle.inplace.specs.Whole.{tables}
use Rattle.serialized.specs.Rooms.{room_in}
use Rattle.serialized.specs.Within.{Roomed}
use Rattle.serialized.specs.Lent.{states_in_lem, rules_in_lem, edges_in_lem, lent_to, counted_in}
use Rattle.serialized.specs.Assembled.{assembled}
use Rattle.serialized.proofs.Roomed.{listed, flagged, ruled, set, wired, acted}
use Rattle.serialized.proofs.filling.fill.Goals as goal

pub deserialize_non_greedy_states-sofar-requires : goal.deserialize_non_greedy_states-sofar-requires
deserialize_non_greedy_states-sofar-requires c =
    let R = room_in c.args.rooms in
    let ws = c.args.words.now in
    let s : Roomed R c.deserialize_states-sofar.result = listed R ws _ _ _ _ _ (c.deserialize_header-sofar.ensures R) (c.deserialize_states-sofar.ensures R refl) in
    states_in_lem R c.deserialize_states-sofar.result _ s (omega (arith, c.deserialize_states-sofar.auto.states, c.requires), omega (arith, c.requires))

pub deserialize_precedence_states-sofar-requires : goal.deserialize_precedence_states-sofar-requires
deserialize_precedence_states-sofar-requires c =
    let R = room_in c.args.rooms in
    let ws = c.args.words.now in
    let s : Roomed R c.deserialize_states-sofar.result = listed R ws _ _ _ _ _ (c.deserialize_header-sofar.ensures R) (c.deserialize_states-sofar.ensures R refl) in
    let g : Roomed R c.deserialize_non_greedy_states-sofar.result = flagged R ws 1 9 _ _ _ _ s (c.deserialize_non_greedy_states-sofar.ensures R) in
    states_in_lem R c.deserialize_non_greedy_states-sofar.result _ g (omega (arith, c.deserialize_non_greedy_states-sofar.auto.states, c.deserialize_states-sofar.auto.states, c.requires), omega (arith, c.requires))

pub find_rule_stops-sofar-requires : goal.find_rule_stops-sofar-requires
find_rule_stops-sofar-requires c =
    let R = room_in c.args.rooms in
    let ws = c.args.words.now in
    let s : Roomed R c.deserialize_states-sofar.result = listed R ws _ _ _ _ _ (c.deserialize_header-sofar.ensures R) (c.deserialize_states-sofar.ensures R refl) in
    let g : Roomed R c.deserialize_non_greedy_states-sofar.result = flagged R ws 1 9 _ _ _ _ s (c.deserialize_non_greedy_states-sofar.ensures R) in
    let f : Roomed R c.deserialize_precedence_states-sofar.result = flagged R ws 2 11 _ _ _ _ g (c.deserialize_precedence_states-sofar.ensures R) in
    let r : Roomed R c.deserialize_rules-sofar.result = ruled R ws _ _ _ _ f (c.deserialize_rules-sofar.ensures R refl) in
    let d = c.deserialize_rules-sofar in (
      states_in_lem R d.result _ r (omega (arith, c.deserialize_precedence_states-sofar.auto.states, c.deserialize_non_greedy_states-sofar.auto.states, c.deserialize_states-sofar.auto.states, c.requires), omega (arith, c.requires)),
      rules_in_lem R d.result _ r (omega (arith, d.auto.rules, c.requires), omega (arith, c.requires)),
    )

pub deserialize_edges-sofar-requires : goal.deserialize_edges-sofar-requires
deserialize_edges-sofar-requires c =
    let R = room_in c.args.rooms in
    let ws = c.args.words.now in
    let s : Roomed R c.deserialize_states-sofar.result = listed R ws _ _ _ _ _ (c.deserialize_header-sofar.ensures R) (c.deserialize_states-sofar.ensures R refl) in
    let g : Roomed R c.deserialize_non_greedy_states-sofar.result = flagged R ws 1 9 _ _ _ _ s (c.deserialize_non_greedy_states-sofar.ensures R) in
    let f : Roomed R c.deserialize_precedence_states-sofar.result = flagged R ws 2 11 _ _ _ _ g (c.deserialize_precedence_states-sofar.ensures R) in
    let r : Roomed R c.deserialize_rules-sofar.result = ruled R ws _ _ _ _ f (c.deserialize_rules-sofar.ensures R refl) in
    let t : Roomed R c.deserialize_sets-sofar.result = set R ws _ _ _ _ _ _ _ _ _ _ _ r (c.find_rule_stops-sofar.ensures ws R) (c.deserialize_modes-sofar.ensures R refl) (c.deserialize_sets-sofar.ensures R refl refl) in (
      edges_in_lem R c.deserialize_sets-sofar.result _ t (omega (arith, c.deserialize_precedence_states-sofar.auto.states, c.deserialize_non_greedy_states-sofar.auto.states, c.deserialize_states-sofar.auto.states, c.requires), omega (arith, c.requires)),
      omega (arith, c.requires),
      omega (arith, c.requires),
    )

pub add_return_edges-sofar-requires : goal.add_return_edges-sofar-requires
add_return_edges-sofar-requires c =
    let R = room_in c.args.rooms in
    let ws = c.args.words.now in
    let s : Roomed R c.deserialize_states-sofar.result = listed R ws _ _ _ _ _ (c.deserialize_header-sofar.ensures R) (c.deserialize_states-sofar.ensures R refl) in
    let g : Roomed R c.deserialize_non_greedy_states-sofar.result = flagged R ws 1 9 _ _ _ _ s (c.deserialize_non_greedy_states-sofar.ensures R) in
    let f : Roomed R c.deserialize_precedence_states-sofar.result = flagged R ws 2 11 _ _ _ _ g (c.deserialize_precedence_states-sofar.ensures R) in
    let r : Roomed R c.deserialize_rules-sofar.result = ruled R ws _ _ _ _ f (c.deserialize_rules-sofar.ensures R refl) in
    let t : Roomed R c.deserialize_sets-sofar.result = set R ws _ _ _ _ _ _ _ _ _ _ _ r (c.find_rule_stops-sofar.ensures ws R) (c.deserialize_modes-sofar.ensures R refl) (c.deserialize_sets-sofar.ensures R refl refl) in
    let e : Roomed R c.deserialize_edges-sofar.result = wired R ws _ _ _ _ t (c.deserialize_edges-sofar.ensures R refl) in
    let d = c.deserialize_edges-sofar in
    lent_to R d.result _ _ _ e
    (omega (arith, d.auto.states, c.deserialize_precedence_states-sofar.auto.states, c.deserialize_non_greedy_states-sofar.auto.states, c.deserialize_states-sofar.auto.states, c.requires), omega (arith, c.requires))
    (omega (arith, d.auto.edges, c.requires), omega (arith, c.requires))
    (omega (arith, c.find_rule_stops-sofar.auto.rules, c.deserialize_rules-sofar.auto.rules, c.requires), omega (arith, c.requires))

pub mark_precedence_decisions-requires : goal.mark_precedence_decisions-requires
mark_precedence_decisions-requires c =
    let R = room_in c.args.rooms in
    let ws = c.args.words.now in
    let s : Roomed R c.deserialize_states-sofar.result = listed R ws _ _ _ _ _ (c.deserialize_header-sofar.ensures R) (c.deserialize_states-sofar.ensures R refl) in
    let g : Roomed R c.deserialize_non_greedy_states-sofar.result = flagged R ws 1 9 _ _ _ _ s (c.deserialize_non_greedy_states-sofar.ensures R) in
    let f : Roomed R c.deserialize_precedence_states-sofar.result = flagged R ws 2 11 _ _ _ _ g (c.deserialize_precedence_states-sofar.ensures R) in
    let r : Roomed R c.deserialize_rules-sofar.result = ruled R ws _ _ _ _ f (c.deserialize_rules-sofar.ensures R refl) in
    let t : Roomed R c.deserialize_sets-sofar.result = set R ws _ _ _ _ _ _ _ _ _ _ _ r (c.find_rule_stops-sofar.ensures ws R) (c.deserialize_modes-sofar.ensures R refl) (c.deserialize_sets-sofar.ensures R refl refl) in
    let e : Roomed R c.deserialize_edges-sofar.result = wired R ws _ _ _ _ t (c.deserialize_edges-sofar.ensures R refl) in
    let a : Roomed R c.deserialize_lexer_actions-sofar.result = acted R ws c.args.rooms.edges c.find_rule_stops-sofar.new.rules _ _ _ _ _ _ _ _ _ _ e (c.add_return_edges-sofar.ensures.says ws R refl) (c.deserialize_decisions-sofar.ensures R refl) (c.deserialize_lexer_actions-sofar.ensures R refl) in
    let d = c.deserialize_edges-sofar in
    let n = c.add_return_edges-sofar in
    counted_in R c.deserialize_lexer_actions-sofar.result _ _ _ a
    (omega (arith, n.auto.states, d.auto.states, c.deserialize_precedence_states-sofar.auto.states, c.deserialize_non_greedy_states-sofar.auto.states, c.deserialize_states-sofar.auto.states, c.requires), omega (arith, c.requires))
    (omega (arith, n.auto.edges, d.auto.edges, c.requires), omega (arith, c.requires))
    (omega (arith, c.find_rule_stops-sofar.auto.rules, c.deserialize_rules-sofar.auto.rules, c.requires), omega (arith, c.requires))

pub returns-clause-filled : goal.returns-clause-filled
returns-clause-filled c = λ room q.
    let a = c.args in
    let ws = a.words.now in
    rw (sym q.edges)
    (assembled (tables a.lent.now.states.now a.lent.now.edges.now a.lent.now.ranges.now a.lent.now.sets.now a.lent.now.rules.now a.lent.now.modes.now a.lent.now.decisions.now a.lent.now.actions.now a.lent.now.scratch.now) ws room a.at (room Edges)
    c.deserialize_header-sofar.result c.deserialize_states-sofar.result c.deserialize_non_greedy_states-sofar.result c.deserialize_precedence_states-sofar.result c.deserialize_rules-sofar.result c.find_rule_stops-sofar.result c.deserialize_modes-sofar.result c.deserialize_sets-sofar.result c.deserialize_edges-sofar.result c.add_return_edges-sofar.result c.deserialize_decisions-sofar.result c.deserialize_lexer_actions-sofar.result c.mark_precedence_decisions.result
    c.deserialize_states-sofar.new.states c.deserialize_non_greedy_states-sofar.new.states c.deserialize_precedence_states-sofar.new.states c.deserialize_rules-sofar.new.rules c.find_rule_stops-sofar.new.rules c.deserialize_modes-sofar.new.modes c.deserialize_sets-sofar.new.ranges c.deserialize_sets-sofar.new.sets c.deserialize_edges-sofar.new.states c.deserialize_edges-sofar.new.edges c.add_return_edges-sofar.new.states c.add_return_edges-sofar.new.edges c.deserialize_decisions-sofar.new.decisions c.deserialize_lexer_actions-sofar.new.actions c.mark_precedence_decisions.new.states
    (c.deserialize_header-sofar.ensures room)
    (c.deserialize_states-sofar.ensures room q.states)
    (c.deserialize_non_greedy_states-sofar.ensures room)
    (c.deserialize_precedence_states-sofar.ensures room)
    (c.deserialize_rules-sofar.ensures room q.rules)
    (c.find_rule_stops-sofar.ensures ws room)
    (c.deserialize_modes-sofar.ensures room q.modes)
    (c.deserialize_sets-sofar.ensures room q.ranges q.sets)
    (c.deserialize_edges-sofar.ensures room q.edges)
    (rw (sym q.edges) at (c.add_return_edges-sofar.ensures.says ws room q.edges))
    (c.deserialize_decisions-sofar.ensures room q.decisions)
    (c.deserialize_lexer_actions-sofar.ensures room q.actions)
    (c.mark_precedence_decisions.ensures ws room))
