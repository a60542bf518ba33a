-- Document 01: the whole of a decode.
use Rattle.std.specs.Prelude.{List, ℕ, ◌+◌, ◌-◌, ℤ, length, Ok, Err}
use Rattle.format.specs.Reading.{Table, Edges, Outcome, ok, no, Prog, done, need, here, run, spot, get, ◌>>=◌, ◌>>◌}
use Rattle.format.specs.Sections.{Edge, State, Read, version, grammar, states, flags, rules, modes, sets, edges, decisions, actions}
use Rattle.format.specs.Links.{derived}
use Rattle.format.specs.Tables.{room, table, zeros, counts_of}
use Rattle.format.specs.Results.{Decoded}

-- "derived edges after the last edge, all at once (field 23, place of the next word, value all edges)";
-- "the derived-edge refusal carry 0" (document 02, R-2)
unfoldable pub returning : List State → ℕ → List Edge → Prog (List Edge)
returning ss n es = here (λ p. need Edges (length es + length (derived ss n es)) (spot 23 0) p (done es))

-- "Fields, in word order". "Words after the last action are not read."
unfoldable pub dialect : Prog Read
dialect = do
  version
  grammar
  token ← get (spot 3 0)
  ss ← states
  ones ← flags (length ss) 9
  twos ← flags (length ss) 11
  rs ← rules
  ms ← modes
  ls ← sets
  es ← edges (length ss) (length ls)
  returning ss (length rs) es
  ds ← decisions
  xs ← actions
  done (record { token = token; states = ss; nongreedy = ones; recursive = twos; rules = rs; modes = ms; sets = ls; edges = es; decisions = ds; actions = xs })

-- What a decode answers, and what it leaves in each lent table.
pub record Answer : Type 0 where
  pub told : Decoded
  pub left : Table → List ℤ

-- By what came of the program: "After acceptance every word past the last record is 0"; after a refusal every lent word is 0.
abbrev pub answer : (Table → ℕ) → ℕ → Outcome Read → Answer
answer lent at (ok r n) = record { told = Ok (counts_of r (n - at)); left = table r lent }
answer lent at (no q) = record { told = Err q; left = λ t. zeros (lent t) }

-- The lengths of the nine lent slices, the words, and the place of the first word to be read: 0, but for a reader that holds its place.
unfoldable pub decoded : (Table → ℕ) → List ℤ → ℕ → Answer
decoded lent ws at = answer lent at (run dialect ws (room lent) at)
