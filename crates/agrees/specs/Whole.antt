-- All of it: the sections in sequence give what document 01's program gives, laid out in the lent tables.
use Rattle.std.specs.Prelude.{◌≡◌, refl, Bool, true, false, ℕ, ◌+◌, ◌*◌, ◌<◌, ltb, leb, ℤ, length}
use Rattle.std.proofs.Common.{sym, ◌∙◌, arith, length-append}
use Rattle.std.proofs.Math.Path.{ap}
use mathlib.Core.List.{List, [], ◌++◌}
use Rattle.format.specs.Reading.{Table, States, Edges, Ranges, Sets, Rules, Modes, Decisions, Actions, Scratch, Outcome, ok, no, no_room, Prog, done, run, ◌>>=◌, pick, get, spot}
use Rattle.format.specs.Sets.{Range}
use Rattle.format.specs.Sections.{State, Rule, Edge, Action, Read, bit, among, version, grammar, states, flags, rules, modes, sets, edges, decisions, actions}
use Rattle.format.specs.Links.{flat, derived}
use Rattle.format.specs.Tables.{room, list_of, edges_of, range_words, set_records, state_word, action_words, records, zeros, table, counts_of}
use Rattle.format.specs.Decode.{returning, dialect}
use Rattle.format.specs.declared.Counts.{Counts}
use Rattle.laws.specs.Running.{after}
use Rattle.laws.specs.Gives.{Every}
use Rattle.inplace.specs.Held.{Held, with, wide}
use Rattle.inplace.specs.Sections.{no_counts, begun, header, section, flagging}
use Rattle.inplace.specs.Sets.{sets2, setting}
use Rattle.inplace.specs.Links.{net, edging, returns}
use Rattle.inplace.specs.Whole.{Tables, tables, blank, put_states, put_rules, put_modes, put_decisions, put_actions, put_sets, put_net, begin, p_states, p_flags, p_rules, p_stops, p_modes, p_sets, p_edges, p_returns, p_decisions, p_actions, p_decides, filling}
use Rattle.agrees.specs.Forms.{padded, states_form, edges_form, rules_form}
use Rattle.agrees.specs.After.{bind_bind, same_first, wide-first}
use Rattle.agrees.specs.Sections.{states_are, rules_are, modes_are, decisions_are, actions_are}
use Rattle.agrees.specs.Flags.{ones_are, twos_are}
use Rattle.agrees.specs.Stops.{stops_are}
use Rattle.agrees.specs.Sets.{sets_are}
use Rattle.agrees.specs.Edges.{edging_is, edges-listed}
use Rattle.agrees.specs.Returns.{returns_is}
use Rattle.agrees.specs.Precedence.{decided_is}
use Rattle.laws.specs.Fits.{room_words}

-- What the edges' table holds before tail calls are marked: "0 plain, 1 derived return edge".
abbrev pub plain : ℕ → ℕ → ℕ
plain n i = pick (ltb i n) 0 1

-- Each table as document 01 says, but for the marks of tail calls.
unfoldable pub unmarked : Read → (Table → ℕ) → Tables
unmarked r lent =
    tables (table r lent States) (edges_form (lent Edges) (plain (length r.edges)) (edges_of r)) (table r lent Ranges) (table r lent Sets) (table r lent Rules)
    (table r lent Modes) (table r lent Decisions) (table r lent Actions) (zeros (lent Scratch))

-- ---- what follows each section

abbrev on_actions : Held Tables → Prog (Held Tables)
on_actions h = p_actions h >>= p_decides

abbrev on_decisions : Held Tables → Prog (Held Tables)
on_decisions h = p_decisions h >>= on_actions

abbrev on_returns : ℕ → Held Tables → Prog (Held Tables)
on_returns k h = p_returns k h >>= on_decisions

abbrev on_edges : ℕ → Held Tables → Prog (Held Tables)
on_edges k h = p_edges h >>= on_returns k

abbrev on_sets : ℕ → Held Tables → Prog (Held Tables)
on_sets k h = p_sets h >>= on_edges k

abbrev on_modes : ℕ → Held Tables → Prog (Held Tables)
on_modes k h = p_modes h >>= on_sets k

abbrev on_stops : ℕ → Held Tables → Prog (Held Tables)
on_stops k h = p_stops h >>= on_modes k

abbrev on_rules : ℕ → Held Tables → Prog (Held Tables)
on_rules k h = p_rules h >>= on_stops k

abbrev on_twos : ℕ → Held Tables → Prog (Held Tables)
on_twos k h = p_flags 2 11 h >>= on_rules k

abbrev on_ones : ℕ → Held Tables → Prog (Held Tables)
on_ones k h = p_flags 1 9 h >>= on_twos k

abbrev on_states : ℕ → Held Tables → Prog (Held Tables)
on_states k h = p_states h >>= on_ones k

abbrev on_begin : ℕ → Tables → Held (Unit {0}) → Prog (Held Tables)
on_begin k t h = begin t h >>= on_states k

abbrev on_token : ℕ → Tables → ℤ → Prog (Held Tables)
on_token k t v = begun v >>= on_begin k t

abbrev on_grammar : ℕ → Tables → ℤ → Prog (Held Tables)
on_grammar k t v = get (spot 3 0) >>= on_token k t

abbrev on_version : ℕ → Tables → ℤ → Prog (Held Tables)
on_version k t v = grammar >>= on_grammar k t

-- the sections one inside the other, as document 01's program is
nested : (k : ℕ) (t : Tables) → filling k t ≡ (version >>= on_version k t)
unfolding filling header
nested k t =
    bind_bind _ p_actions p_decides
    ∙ bind_bind _ p_decisions on_actions
    ∙ bind_bind _ (p_returns k) on_decisions
    ∙ bind_bind _ p_edges (on_returns k)
    ∙ bind_bind _ p_sets (on_edges k)
    ∙ bind_bind _ p_modes (on_sets k)
    ∙ bind_bind _ p_stops (on_modes k)
    ∙ bind_bind _ p_rules (on_stops k)
    ∙ bind_bind _ (p_flags 2 11) (on_rules k)
    ∙ bind_bind _ (p_flags 1 9) (on_twos k)
    ∙ bind_bind _ p_states (on_ones k)
    ∙ bind_bind _ (begin t) (on_states k)
    ∙ bind_bind _ begun (on_begin k t)
    ∙ bind_bind _ (λ v. get (spot 3 0)) (on_token k t)
    ∙ bind_bind version (λ v. grammar) (on_grammar k t)

-- no word is read for the derived edges
returning_stays : (ss : List State) (k : ℕ) (es : List Edge) (ws : List ℤ) (rooms : Table → ℕ) (n : ℕ) {u : List Edge} {m : ℕ} → run (returning ss k es) ws rooms n ≡ ok u m → n ≡ m
unfolding returning run
returning_stays ss k es ws rooms n {u} {m} e = go (leb (length es + length (derived ss k es)) (rooms Edges)) e
  where
    go : (t : Bool) → pick t (ok es n) (no (no_room (spot 23 0) n (length es + length (derived ss k es)))) ≡ ok u m → n ≡ m
    go true q = cc
    go false q = cc

-- ---- from the last section to the first: v is the max token type, and the rest what each section read

abbrev tally : ℕ → ℤ → ℕ → ℕ → ℕ → ℕ → ℕ → ℕ → ℕ → ℕ → ℕ → Counts
tally n v st ed dr ra se ru mo de ac = record { words = n; token = v; states = st; edges = ed; derived = dr; ranges = ra; sets = se; rules = ru; modes = mo; decisions = de; actions = ac }

-- Flags 1 and 2.
abbrev flagged : List ℕ → List ℕ → ℕ → ℕ
flagged ones twos s = bit (among s ones) + 2 * bit (among s twos)

module _ (lent : Table → ℕ) (ws : List ℤ) where
  abbrev rooms : Table → ℕ
  rooms = room lent

  abbrev final : Read → ℕ → Outcome (Held Tables)
  final r n = ok (with (counts_of r n) (unmarked r lent)) n

  module _ (v : ℤ) where
    module _ (ss : List State) where
      -- the states, with the flags given
      abbrev stated : (ℕ → ℕ) → ℕ → Held Tables
      stated F n =
          with (tally n v (length ss) 0 0 0 0 0 0 0 0)
          (tables (states_form (lent States) F [] ss) (zeros (lent Edges)) (zeros (lent Ranges)) (zeros (lent Sets))
          (zeros (lent Rules)) (zeros (lent Modes)) (zeros (lent Decisions)) (zeros (lent Actions)) (zeros (lent Scratch)))

      module _ (ones : List ℕ) where
        module _ (twos : List ℕ) where
          module _ (rs : List Rule) where
            module _ (ms : List ℕ) where
              module _ (ls : List (List Range)) where
                module _ (es : List Edge) where
                  abbrev news : List Edge
                  news = derived ss (length rs) es

                  abbrev all : List Edge
                  all = es ++ news

                  abbrev tallied : ℕ → ℕ → ℕ → Counts
                  tallied n de ac = tally n v (length ss) (length all) (length news) (length (flat ls)) (length ls) (length rs) (length ms) de ac

                  abbrev linked : List ℤ → List ℤ → Tables
                  linked de ac =
                      tables (states_form (lent States) (flagged ones twos) all ss) (edges_form (lent Edges) (plain (length es)) all) (padded (lent Ranges) (list_of range_words (flat ls))) (padded (lent Sets) (set_records 0 ls))
                      (rules_form (lent Rules) ss rs) (padded (lent Modes) (list_of state_word ms)) de ac (zeros (lent Scratch))

                  module _ (ds : List ℕ) where
                    abbrev read : List Action → Read
                    read xs = record { token = v; states = ss; nongreedy = ones; recursive = twos; rules = rs; modes = ms; sets = ls; edges = es; decisions = ds; actions = xs }

                    abbrev decided : ℕ → ℕ → List ℤ → Held Tables
                    decided n k ac = with (tallied n (length ds) k) (linked (padded (lent Decisions) (list_of state_word ds)) ac)

                    abbrev acted : List Action → ℕ → Held Tables
                    acted xs n = decided n (length xs) (padded (lent Actions) (list_of action_words xs))

                    decides-then : (xs : List Action) (n : ℕ) → run (p_decides (acted xs n)) ws rooms n ≡ final (read xs) n
                    unfolding wide run ◌>>=◌ unmarked counts_of table records
                    decides-then xs n =
                        ap (λ (st : List ℤ). ok (with (acted xs n).counts (put_states st (acted xs n).table)) n)
                        (decided_is ss (λ s. among s ones) twos rs all (lent States) (lent Edges) (lent Rules) (plain (length es)))

                    actions-then : (n : ℕ) → run (on_actions (decided n 0 (zeros (lent Actions)))) ws rooms n ≡ after (run (actions >>= (λ xs. done (read xs))) ws rooms n) final
                    unfolding run
                    actions-then n =
                        wide-first ws rooms n (section Actions) (λ t. t.actions) put_actions _ p_decides actions _ _ final
                        (actions_are rooms (lent Actions) ws (tallied n (length ds) 0) n (room_words lent Actions))
                        (λ xs m e. decides-then xs m)

                  abbrev from_decisions : Prog Read
                  from_decisions = decisions >>= (λ ds. actions >>= (λ xs. done (read ds xs)))

                  -- with the derived edges, and so many edges in all
                  abbrev returned : ℕ → ℕ → Held Tables
                  returned n k =
                      with (tally n v (length ss) k (length news) (length (flat ls)) (length ls) (length rs) (length ms) 0 0)
                      (linked (zeros (lent Decisions)) (zeros (lent Actions)))

                  decisions-then : (n : ℕ) → run (on_decisions (returned n (length all))) ws rooms n ≡ after (run from_decisions ws rooms n) final
                  decisions-then n =
                      wide-first ws rooms n (section Decisions) (λ t. t.decisions) put_decisions _ on_actions decisions _ _ final
                      (decisions_are rooms (lent Decisions) ws (tallied n 0 0) n (room_words lent Decisions))
                      (λ ds m e. actions-then ds m)

                  abbrev edged : ℕ → Held Tables
                  edged n =
                      with (tally n v (length ss) (length es) 0 (length (flat ls)) (length ls) (length rs) (length ms) 0 0)
                      (tables (states_form (lent States) (flagged ones twos) es ss) (edges_form (lent Edges) (λ i. 0) es) (padded (lent Ranges) (list_of range_words (flat ls))) (padded (lent Sets) (set_records 0 ls))
                      (rules_form (lent Rules) ss rs) (padded (lent Modes) (list_of state_word ms)) (zeros (lent Decisions)) (zeros (lent Actions)) (zeros (lent Scratch)))

                  returns-then : Every (λ e. e.source < length ss) es → (n : ℕ) → run (on_returns (rooms Edges) (edged n)) ws rooms n ≡ after (run (returning ss (length rs) es >>= (λ u. from_decisions)) ws rooms n) final
                  returns-then h n =
                      wide-first ws rooms n (returns (rooms Edges) (rules_form (lent Rules) ss rs)) (λ t. net t.states t.edges) put_net (edged n) on_decisions (returning ss (length rs) es) _ _ final
                      (returns_is ss rs es (lent States) (lent Edges) (lent Rules) (flagged ones twos) (edged n).counts ws rooms refl refl refl (room_words lent Edges (rooms Edges) (omega arith)) (omega arith) h)
                      (λ u m e.
                      ap (λ (i : ℕ). run (on_decisions (returned i (length es + length news))) ws rooms m) (returning_stays ss (length rs) es ws rooms n e)
                      ∙ ap (λ (k : ℕ). run (on_decisions (returned m k)) ws rooms m) (sym (length-append es news))
                      ∙ decisions-then m)

                abbrev from_returns : List Edge → Prog Read
                from_returns es = returning ss (length rs) es >>= (λ u. from_decisions es)

                abbrev kept : ℕ → Held Tables
                kept n =
                    with (tally n v (length ss) 0 0 (length (flat ls)) (length ls) (length rs) (length ms) 0 0)
                    (tables (states_form (lent States) (flagged ones twos) [] ss) (zeros (lent Edges)) (padded (lent Ranges) (list_of range_words (flat ls))) (padded (lent Sets) (set_records 0 ls))
                    (rules_form (lent Rules) ss rs) (padded (lent Modes) (list_of state_word ms)) (zeros (lent Decisions)) (zeros (lent Actions)) (zeros (lent Scratch)))

                edges-then : (n : ℕ) → run (on_edges (rooms Edges) (kept n)) ws rooms n ≡ after (run (edges (length ss) (length ls) >>= from_returns) ws rooms n) final
                edges-then n =
                    wide-first ws rooms n edging (λ t. net t.states t.edges) put_net _ (on_returns (rooms Edges)) (edges (length ss) (length ls)) from_returns _ final
                    (edging_is ss (lent States) (lent Edges) (flagged ones twos) (kept n).counts ws rooms refl (room_words lent Edges (rooms Edges) (omega arith)) (omega arith) n)
                    (λ es m e. returns-then es (edges-listed rooms (length ss) (length ls) ws n es m e) m)

              abbrev from_edges : List (List Range) → Prog Read
              from_edges ls = edges (length ss) (length ls) >>= from_returns ls

              abbrev moded : ℕ → Held Tables
              moded n =
                  with (tally n v (length ss) 0 0 0 0 (length rs) (length ms) 0 0)
                  (tables (states_form (lent States) (flagged ones twos) [] ss) (zeros (lent Edges)) (zeros (lent Ranges)) (zeros (lent Sets))
                  (rules_form (lent Rules) ss rs) (padded (lent Modes) (list_of state_word ms)) (zeros (lent Decisions)) (zeros (lent Actions)) (zeros (lent Scratch)))

              sets_then : (n : ℕ) → run (on_sets (rooms Edges) (moded n)) ws rooms n ≡ after (run (sets >>= from_edges) ws rooms n) final
              sets_then n =
                  wide-first ws rooms n setting (λ t. sets2 t.ranges t.sets) put_sets _ (on_edges (rooms Edges)) sets from_edges _ final
                  (sets_are (lent Ranges) (lent Sets) ws rooms (room_words lent Ranges (rooms Ranges) (omega arith)) (room_words lent Sets) (moded n).counts n)
                  (λ ls m e. edges-then ls m)

            -- the rules, with the stops that the states given have
            abbrev ruled : List State → ℕ → Held Tables
            ruled of n =
                with (tally n v (length ss) 0 0 0 0 (length rs) 0 0 0)
                (tables (states_form (lent States) (flagged ones twos) [] ss) (zeros (lent Edges)) (zeros (lent Ranges)) (zeros (lent Sets))
                (rules_form (lent Rules) of rs) (zeros (lent Modes)) (zeros (lent Decisions)) (zeros (lent Actions)) (zeros (lent Scratch)))

            abbrev from_sets : List ℕ → Prog Read
            from_sets ms = sets >>= from_edges ms

            modes-then : (n : ℕ) → run (on_modes (rooms Edges) (ruled ss n)) ws rooms n ≡ after (run (modes >>= from_sets) ws rooms n) final
            modes-then n =
                wide-first ws rooms n (section Modes) (λ t. t.modes) put_modes _ (on_sets (rooms Edges)) modes from_sets _ final
                (modes_are rooms (lent Modes) ws (ruled ss n).counts n (room_words lent Modes))
                (λ ms m e. sets_then ms m)

            stops_then : (n : ℕ) → run (on_stops (rooms Edges) (ruled [] n)) ws rooms n ≡ after (run (modes >>= from_sets) ws rooms n) final
            unfolding wide ◌>>=◌
            stops_then n =
                ap (λ (ru : List ℤ). run (on_modes (rooms Edges) (with (ruled [] n).counts (put_rules ru (ruled [] n).table))) ws rooms n) (stops_are (lent States) (lent Rules) (flagged ones twos) [] ss rs)
                ∙ modes-then n

          abbrev from_modes : List Rule → Prog Read
          from_modes rs = modes >>= from_sets rs

          rules-then : (n : ℕ) → run (on_rules (rooms Edges) (stated (flagged ones twos) n)) ws rooms n ≡ after (run (rules >>= from_modes) ws rooms n) final
          rules-then n =
              wide-first ws rooms n (section Rules) (λ t. t.rules) put_rules _ (on_stops (rooms Edges)) rules from_modes _ final
              (rules_are rooms (lent Rules) ws (stated (flagged ones twos) n).counts n (room_words lent Rules))
              (λ rs m e. stops_then rs m)

        abbrev from_rules : List ℕ → Prog Read
        from_rules twos = rules >>= from_modes twos

        twos_then : (n : ℕ) → run (on_twos (rooms Edges) (stated (λ s. bit (among s ones)) n)) ws rooms n ≡ after (run (flags (length ss) 11 >>= from_rules) ws rooms n) final
        twos_then n =
            wide-first ws rooms n (flagging 2 11) (λ t. t.states) put_states _ (on_rules (rooms Edges)) (flags (length ss) 11) from_rules _ final
            (twos_are (lent States) [] ss ws rooms (stated (λ s. 0) n).counts n refl ones)
            (λ twos m e. rules-then twos m)

      abbrev from_twos : List ℕ → Prog Read
      from_twos ones = flags (length ss) 11 >>= from_rules ones

      ones_then : (n : ℕ) → run (on_ones (rooms Edges) (stated (λ s. 0) n)) ws rooms n ≡ after (run (flags (length ss) 9 >>= from_twos) ws rooms n) final
      ones_then n =
          wide-first ws rooms n (flagging 1 9) (λ t. t.states) put_states _ (on_twos (rooms Edges)) (flags (length ss) 9) from_twos _ final
          (ones_are (lent States) [] ss ws rooms (stated (λ s. 0) n).counts n refl)
          (λ ones m e. twos_then ones m)

    abbrev from_ones : List State → Prog Read
    from_ones ss = flags (length ss) 9 >>= from_twos ss

    states-then : (n : ℕ) → run (on_states (rooms Edges) (with (no_counts v n) (blank lent))) ws rooms n ≡ after (run (states >>= from_ones) ws rooms n) final
    states-then n =
        wide-first ws rooms n (section States) (λ t. t.states) put_states _ (on_ones (rooms Edges)) states from_ones _ final
        (states_are rooms (lent States) ws (no_counts v n) n (room_words lent States))
        (λ ss m e. ones_then ss m)

    token_then : (n : ℕ) → run (on_token (rooms Edges) (blank lent) v) ws rooms n ≡ after (run (states >>= from_ones) ws rooms n) final
    unfolding run ◌>>=◌
    token_then n = states-then n

  -- The in-place program over blank tables gives what document 01's program gives: its counts, and its tables before tail calls are marked.
  pub filling_is : (at : ℕ) → run (filling (room lent Edges) (blank lent)) ws (room lent) at ≡ after (run dialect ws (room lent) at) (λ r n. ok (with (counts_of r n) (unmarked r lent)) n)
  unfolding dialect
  filling_is at =
      ap (λ (p : Prog (Held Tables)). run p ws rooms at) (nested (rooms Edges) (blank lent))
      ∙ same_first ws rooms at version (on_version (rooms Edges) (blank lent)) _ final (λ a n e.
      same_first ws rooms n grammar (on_grammar (rooms Edges) (blank lent)) _ final (λ b m f.
      same_first ws rooms m (get (spot 3 0)) (on_token (rooms Edges) (blank lent)) _ final (λ v k g. token_then v k)))
