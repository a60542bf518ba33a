-- All of it, over all lent tables: the sections in word order, then precedence decisions. (Tail calls follow, in `atn`.)
use Rattle.std.specs.Prelude.{List, ℕ, ℤ}
use Rattle.format.specs.Reading.{Table, States, Edges, Ranges, Sets, Rules, Modes, Decisions, Actions, Scratch, Prog, done, ◌>>=◌}
use Rattle.format.specs.Tables.{zeros}
use Rattle.inplace.specs.Held.{Held, with, wide}
use Rattle.inplace.specs.Sections.{header, section, flagging, stopping}
use Rattle.inplace.specs.Sets.{Sets2, sets2, setting}
use Rattle.inplace.specs.Links.{Net, net, edging, returns, decided_in}

pub record Tables : Type 0 where
  pub states : List ℤ
  pub edges : List ℤ
  pub ranges : List ℤ
  pub sets : List ℤ
  pub rules : List ℤ
  pub modes : List ℤ
  pub decisions : List ℤ
  pub actions : List ℤ
  pub scratch : List ℤ

abbrev pub tables : List ℤ → List ℤ → List ℤ → List ℤ → List ℤ → List ℤ → List ℤ → List ℤ → List ℤ → Tables
tables st ed ra se ru mo de ac sc =
    record { states = st; edges = ed; ranges = ra; sets = se; rules = ru; modes = mo; decisions = de; actions = ac; scratch = sc }

-- All zero, of the given lengths.
abbrev pub blank : (Table → ℕ) → Tables
blank lent =
    tables (zeros (lent States)) (zeros (lent Edges)) (zeros (lent Ranges)) (zeros (lent Sets)) (zeros (lent Rules))
    (zeros (lent Modes)) (zeros (lent Decisions)) (zeros (lent Actions)) (zeros (lent Scratch))

abbrev pub put_states : List ℤ → Tables → Tables
put_states l t = tables l t.edges t.ranges t.sets t.rules t.modes t.decisions t.actions t.scratch

abbrev pub put_rules : List ℤ → Tables → Tables
put_rules l t = tables t.states t.edges t.ranges t.sets l t.modes t.decisions t.actions t.scratch

abbrev pub put_modes : List ℤ → Tables → Tables
put_modes l t = tables t.states t.edges t.ranges t.sets t.rules l t.decisions t.actions t.scratch

abbrev pub put_decisions : List ℤ → Tables → Tables
put_decisions l t = tables t.states t.edges t.ranges t.sets t.rules t.modes l t.actions t.scratch

abbrev pub put_actions : List ℤ → Tables → Tables
put_actions l t = tables t.states t.edges t.ranges t.sets t.rules t.modes t.decisions l t.scratch

abbrev pub put_sets : Sets2 → Tables → Tables
put_sets l t = tables t.states t.edges l.ranges l.sets t.rules t.modes t.decisions t.actions t.scratch

abbrev pub put_net : Net → Tables → Tables
put_net l t = tables l.states l.edges t.ranges t.sets t.rules t.modes t.decisions t.actions t.scratch

-- ---- the sections over all tables

abbrev pub begin : Tables → Held (Unit {0}) → Prog (Held Tables)
begin t h = done (with h.counts t)

abbrev pub p_states : Held Tables → Prog (Held Tables)
p_states = wide (section States) (λ t. t.states) put_states

abbrev pub p_flags : ℕ → ℕ → Held Tables → Prog (Held Tables)
p_flags b f = wide (flagging b f) (λ t. t.states) put_states

abbrev pub p_rules : Held Tables → Prog (Held Tables)
p_rules = wide (section Rules) (λ t. t.rules) put_rules

-- Where a section reads other tables, they are those held.
abbrev pub p_stops : Held Tables → Prog (Held Tables)
p_stops h = wide (stopping h.table.states) (λ t. t.rules) put_rules h

abbrev pub p_modes : Held Tables → Prog (Held Tables)
p_modes = wide (section Modes) (λ t. t.modes) put_modes

abbrev pub p_sets : Held Tables → Prog (Held Tables)
p_sets = wide setting (λ t. sets2 t.ranges t.sets) put_sets

abbrev pub p_edges : Held Tables → Prog (Held Tables)
p_edges = wide edging (λ t. net t.states t.edges) put_net

abbrev pub p_returns : ℕ → Held Tables → Prog (Held Tables)
p_returns room h = wide (returns room h.table.rules) (λ t. net t.states t.edges) put_net h

abbrev pub p_decisions : Held Tables → Prog (Held Tables)
p_decisions = wide (section Decisions) (λ t. t.decisions) put_decisions

abbrev pub p_actions : Held Tables → Prog (Held Tables)
p_actions = wide (section Actions) (λ t. t.actions) put_actions

abbrev pub deciding : List ℤ → List ℤ → Held (List ℤ) → Prog (Held (List ℤ))
deciding ru ed h = done (with h.counts (decided_in h.counts.states h.counts.edges h.counts.rules ru ed h.counts.states h.table))

abbrev pub p_decides : Held Tables → Prog (Held Tables)
p_decides h = wide (deciding h.table.rules h.table.edges) (λ t. t.states) put_states h

-- room is that of the edges
unfoldable pub filling : ℕ → Tables → Prog (Held Tables)
filling room t =
    header >>= begin t >>= p_states >>= p_flags 1 9 >>= p_flags 2 11 >>= p_rules >>= p_stops >>= p_modes >>= p_sets
    >>= p_edges >>= p_returns room >>= p_decisions >>= p_actions >>= p_decides
