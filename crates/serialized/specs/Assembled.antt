-- What each section says of its tables is what the whole program says of all.
use Rattle.std.specs.Prelude.{◌≡◌, refl, List, ℕ, ℤ, Ok, Err}
use Rattle.std.proofs.Common.{◌∙◌}
use Rattle.format.specs.Reading.{Table, States, Rules, Modes, Decisions, Actions, Prog, run}
use Rattle.format.specs.Results.{Decoded}
use Rattle.inplace.specs.Held.{Held, held, onward, wide, lift, chain}
use Rattle.inplace.specs.Sections.{header, section, flagging, stopping}
use Rattle.inplace.specs.Sets.{Sets2, sets2, setting}
use Rattle.inplace.specs.Links.{Net, net, edging, returns}
use Rattle.inplace.specs.Whole.{Tables, tables, put_states, put_rules, put_modes, put_sets, put_net, put_decisions, put_actions, begin, p_states, p_flags, p_rules, p_stops, p_modes, p_sets, p_edges, p_returns, p_decisions, p_actions, deciding, p_decides, filling}

begun : (r : Decoded) (t : Tables) (ws : List ℤ) (rooms : Table → ℕ) → held r t ≡ onward (begin t) ws rooms (held r tt)
unfolding run
begun (Ok c) t ws rooms = refl
begun (Err q) t ws rooms = refl

-- a section that reads other tables reads those held
at_held : {Y B : Type 0} (k : Y → Held Y → Prog B) (ws : List ℤ) (rooms : Table → ℕ) (s : Decoded) (y : Y) → onward (k y) ws rooms (held s y) ≡ onward (λ h. k h.table h) ws rooms (held s y)
at_held k ws rooms (Ok c) y = refl
at_held k ws rooms (Err q) y = refl

abbrev states_of : Tables → List ℤ
states_of t = t.states

abbrev rules_of : Tables → List ℤ
rules_of t = t.rules

abbrev net_of : Tables → Net
net_of t = net t.states t.edges

abbrev sets_of : Tables → Sets2
sets_of t = sets2 t.ranges t.sets

module _ (t : Tables) (ws : List ℤ) (rooms : Table → ℕ) (at room : ℕ) where
  pub assembled : (d1 d2 d3 d4 d5 d6 d7 d8 d9 d10 d11 d12 d13 : Decoded) (st1 st2 st3 ru1 ru2 mo ra se st4 ed1 st5 ed2 de ac st6 : List ℤ)
      → held d1 tt ≡ run header ws rooms at
      → held d2 st1 ≡ onward (section States) ws rooms (held d1 t.states)
      → held d3 st2 ≡ onward (flagging 1 9) ws rooms (held d2 st1)
      → held d4 st3 ≡ onward (flagging 2 11) ws rooms (held d3 st2)
      → held d5 ru1 ≡ onward (section Rules) ws rooms (held d4 t.rules)
      → held d6 ru2 ≡ onward (stopping st3) ws rooms (held d5 ru1)
      → held d7 mo ≡ onward (section Modes) ws rooms (held d6 t.modes)
      → held d8 (sets2 ra se) ≡ onward setting ws rooms (held d7 (sets2 t.ranges t.sets))
      → held d9 (net st4 ed1) ≡ onward edging ws rooms (held d8 (net st3 t.edges))
      → held d10 (net st5 ed2) ≡ onward (returns room ru2) ws rooms (held d9 (net st4 ed1))
      → held d11 de ≡ onward (section Decisions) ws rooms (held d10 t.decisions)
      → held d12 ac ≡ onward (section Actions) ws rooms (held d11 t.actions)
      → held d13 st6 ≡ onward (deciding ru2 ed2) ws rooms (held d12 st5)
      → held d13 (tables st6 ed2 ra se ru2 mo de ac t.scratch) ≡ run (filling room t) ws rooms at
  unfolding filling
  assembled d1 d2 d3 d4 d5 d6 d7 d8 d9 d10 d11 d12 d13 st1 st2 st3 ru1 ru2 mo ra se st4 ed1 st5 ed2 de ac st6 e1 e2 e3 e4 e5 e6 e7 e8 e9 e10 e11 e12 e13 =
      let y2 = put_states st1 t in
      let y3 = put_states st2 y2 in
      let y4 = put_states st3 y3 in
      let y5 = put_rules ru1 y4 in
      let y6 = put_rules ru2 y5 in
      let y7 = put_modes mo y6 in
      let y8 = put_sets (sets2 ra se) y7 in
      let y9 = put_net (net st4 ed1) y8 in
      let y10 = put_net (net st5 ed2) y9 in
      let y11 = put_decisions de y10 in
      let y12 = put_actions ac y11 in
      let f1 = chain header (begin t) ws rooms at e1 (begun d1 t ws rooms) in
      let f2 = chain _ p_states ws rooms at f1 (lift (section States) states_of put_states ws rooms d1 d2 t st1 e2) in
      let f3 = chain _ (p_flags 1 9) ws rooms at f2 (lift (flagging 1 9) states_of put_states ws rooms d2 d3 y2 st2 e3) in
      let f4 = chain _ (p_flags 2 11) ws rooms at f3 (lift (flagging 2 11) states_of put_states ws rooms d3 d4 y3 st3 e4) in
      let f5 = chain _ p_rules ws rooms at f4 (lift (section Rules) rules_of put_rules ws rooms d4 d5 y4 ru1 e5) in
      let f6 = chain _ p_stops ws rooms at f5 (lift (stopping st3) rules_of put_rules ws rooms d5 d6 y5 ru2 e6
      ∙ at_held (λ (y : Tables). wide (stopping y.states) rules_of put_rules) ws rooms d5 y5) in
      let f7 = chain _ p_modes ws rooms at f6 (lift (section Modes) (λ t. t.modes) put_modes ws rooms d6 d7 y6 mo e7) in
      let f8 = chain _ p_sets ws rooms at f7 (lift setting sets_of put_sets ws rooms d7 d8 y7 (sets2 ra se) e8) in
      let f9 = chain _ p_edges ws rooms at f8 (lift edging net_of put_net ws rooms d8 d9 y8 (net st4 ed1) e9) in
      let f10 = chain _ (p_returns room) ws rooms at f9 (lift (returns room ru2) net_of put_net ws rooms d9 d10 y9 (net st5 ed2) e10
      ∙ at_held (λ (y : Tables). wide (returns room y.rules) net_of put_net) ws rooms d9 y9) in
      let f11 = chain _ p_decisions ws rooms at f10 (lift (section Decisions) (λ t. t.decisions) put_decisions ws rooms d10 d11 y10 de e11) in
      let f12 = chain _ p_actions ws rooms at f11 (lift (section Actions) (λ t. t.actions) put_actions ws rooms d11 d12 y11 ac e12) in
      chain _ p_decides ws rooms at f12 (lift (deciding ru2 ed2) states_of put_states ws rooms d12 d13 y12 st6 e13
      ∙ at_held (λ (y : Tables). wide (deciding y.rules y.edges) states_of put_states) ws rooms d12 y12)
