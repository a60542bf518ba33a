-- The header, and the sections that fill one table: states, rules, modes, decisions, actions; then flags and stops.
use Rattle.std.specs.Prelude.{List, [], ◌∷◌, ◌&&◌, ℕ, zero, suc, ◌+◌, ℤ, pos}
use Rattle.format.specs.Reading.{Table, States, Edges, Ranges, Sets, Rules, Modes, Decisions, Actions, Scratch, Prog, done, here, ◌>>=◌, ◌>>◌, spot, pick, get, index, count}
use Rattle.format.specs.Sections.{none, same, size, version, grammar, state, named, rule, action}
use Rattle.format.specs.Links.{names}
use Rattle.format.specs.Tables.{width, state_word, action_words}
use Rattle.format.specs.declared.Counts.{Counts}
use Rattle.laws.specs.Running.{turns}
use Rattle.laws.specs.Collect.{puts}
use Rattle.inplace.specs.Held.{Held, with}
use Rattle.inplace.specs.Rows.{word_of, stored, flag_at, state_row}

-- ---- the header

abbrev pub no_counts : ℤ → ℕ → Counts
no_counts v p = record { words = p; token = v; states = 0; edges = 0; derived = 0; ranges = 0; sets = 0; rules = 0; modes = 0; decisions = 0; actions = 0 }

abbrev pub begun : ℤ → Prog (Held (Unit {0}))
begun v = here (λ p. done (with (no_counts v p) tt))

unfoldable pub header : Prog (Held (Unit {0}))
header = version >> grammar >> get (spot 3 0) >>= begun

-- ---- a count, and so many records of one table

-- The field of the count.
abbrev pub field_of : Table → ℕ
field_of States = 4
field_of Rules = 13
field_of Modes = 16
field_of Decisions = 30
field_of Actions = 32
field_of Edges = 23
field_of Ranges = 20
field_of Sets = 18
field_of Scratch = 0

-- The i-th record's words, as they are first written. A rule's stop is found when all rules are read.
unfoldable pub row_of : Table → ℕ → Prog (List ℤ)
row_of States i = state i >>= (λ x. done (state_row x))
row_of Rules i = rule i >>= (λ x. done (pos x.start ∷ none ∷ x.token ∷ []))
row_of Modes i = index (spot 17 i) >>= (λ s. done (state_word s))
row_of Decisions i = index (spot 31 i) >>= (λ s. done (state_word s))
row_of Actions i = action i >>= (λ x. done (action_words x))
row_of Edges i = done []
row_of Ranges i = done []
row_of Sets i = done []
row_of Scratch i = done []

-- The counts with n records of a table, and the place behind them.
abbrev pub counted : Table → Counts → ℕ → ℕ → Counts
counted States c n p = record { words = p; token = c.token; states = n; edges = c.edges; derived = c.derived; ranges = c.ranges; sets = c.sets; rules = c.rules; modes = c.modes; decisions = c.decisions; actions = c.actions }
counted Rules c n p = record { words = p; token = c.token; states = c.states; edges = c.edges; derived = c.derived; ranges = c.ranges; sets = c.sets; rules = n; modes = c.modes; decisions = c.decisions; actions = c.actions }
counted Modes c n p = record { words = p; token = c.token; states = c.states; edges = c.edges; derived = c.derived; ranges = c.ranges; sets = c.sets; rules = c.rules; modes = n; decisions = c.decisions; actions = c.actions }
counted Decisions c n p = record { words = p; token = c.token; states = c.states; edges = c.edges; derived = c.derived; ranges = c.ranges; sets = c.sets; rules = c.rules; modes = c.modes; decisions = n; actions = c.actions }
counted Actions c n p = record { words = p; token = c.token; states = c.states; edges = c.edges; derived = c.derived; ranges = c.ranges; sets = c.sets; rules = c.rules; modes = c.modes; decisions = c.decisions; actions = n }
counted Edges c n p = record { words = p; token = c.token; states = c.states; edges = n; derived = c.derived; ranges = c.ranges; sets = c.sets; rules = c.rules; modes = c.modes; decisions = c.decisions; actions = c.actions }
counted Ranges c n p = record { words = p; token = c.token; states = c.states; edges = c.edges; derived = c.derived; ranges = n; sets = c.sets; rules = c.rules; modes = c.modes; decisions = c.decisions; actions = c.actions }
counted Sets c n p = record { words = p; token = c.token; states = c.states; edges = c.edges; derived = c.derived; ranges = c.ranges; sets = n; rules = c.rules; modes = c.modes; decisions = c.decisions; actions = c.actions }
counted Scratch c n p = record { words = p; token = c.token; states = c.states; edges = c.edges; derived = c.derived; ranges = c.ranges; sets = c.sets; rules = c.rules; modes = c.modes; decisions = c.decisions; actions = c.actions }

abbrev pub ended : Table → Counts → ℕ → List ℤ → Prog (Held (List ℤ))
ended t c n u = here (λ p. done (with (counted t c n p) u))

abbrev pub section_from : Table → Held (List ℤ) → ℕ → Prog (Held (List ℤ))
section_from t h n = turns n 0 (puts (width t) (row_of t)) h.table >>= ended t h.counts n

unfoldable pub section : Table → Held (List ℤ) → Prog (Held (List ℤ))
section t h = count t (field_of t) >>= section_from t h

-- ---- flags, in the states' table: the count is at the field f, the states at the next

unfoldable pub flag_one : ℕ → ℕ → ℕ → ℕ → List ℤ → Prog (List ℤ)
flag_one b n f i t = named n (spot f i) >>= (λ s. done (flag_at b s t))

abbrev pub moved : Counts → ℕ → Counts
moved c p = record { words = p; token = c.token; states = c.states; edges = c.edges; derived = c.derived; ranges = c.ranges; sets = c.sets; rules = c.rules; modes = c.modes; decisions = c.decisions; actions = c.actions }

abbrev pub flags_end : Counts → List ℤ → Prog (Held (List ℤ))
flags_end c t = here (λ p. done (with (moved c p) t))

abbrev pub flags_from : ℕ → ℕ → Held (List ℤ) → ℕ → Prog (Held (List ℤ))
flags_from b f h k = turns k 0 (flag_one b h.counts.states (f + 1)) h.table >>= flags_end h.counts

unfoldable pub flagging : ℕ → ℕ → Held (List ℤ) → Prog (Held (List ℤ))
flagging b f h = index (spot f 0) >>= flags_from b f h

-- ---- stops, in the rules' table: of k rules, by the first s states

abbrev pub stop_at : ℕ → List ℤ → ℕ → List ℤ → List ℤ
stop_at k st s ru = pick (same (word_of 8 st s 0) (pos 7) && names k (word_of 8 st s 1)) (stored 3 ru (size (word_of 8 st s 1)) 1 (pos s)) ru

unfoldable pub stops_in : ℕ → ℕ → List ℤ → List ℤ → List ℤ
stops_in zero k st ru = ru
stops_in (suc s) k st ru = stop_at k st s (stops_in s k st ru)

abbrev pub stopping : List ℤ → Held (List ℤ) → Prog (Held (List ℤ))
stopping st h = done (with h.counts (stops_in h.counts.states h.counts.rules st h.table))
