-- One edge: its six words, its tests, and what it means. The programs are `edge`, in parts (Laws: `edge_is`).
use Rattle.std.specs.Prelude.{◌≡◌, ℕ, ◌+◌, ◌<◌, ◌^◌, ℤ, Ok, Err}
use Rattle.format.specs.Reading.{Outcome, ok, no, Prog, done, ◌>>=◌, ◌>>◌, spot, known, listed, get, index}
use Rattle.format.specs.Sections.{Edge, meaning, test_a, test_b}
use Rattle.format.specs.declared.kinds.EdgeKind.{EdgeKind}
use Rattle.format.specs.Kinds.{edge_number}
use Rattle.words.specs.Answers.{Read}
use Rattle.edges.specs.declared.edge.Tested.{Tested}
use Rattle.edges.specs.declared.reading.RawEdge.{RawEdge}

-- ---- "six words are read (24 and 25 tested as read)"

abbrev pub raw : ℕ → ℕ → ℤ → ℤ → ℤ → ℤ → RawEdge
raw s t w a b c = record { source = s; target = t; kind = w; a = a; b = b; c = c }

-- From word 28 on, and from word 26 on.
unfoldable pub rest_of : ℕ → ℕ → ℕ → ℤ → ℤ → Prog RawEdge
rest_of i s t w a = do
  b ← get (spot 28 i)
  c ← get (spot 29 i)
  done (raw s t w a b c)

unfoldable pub type_on : ℕ → ℕ → ℕ → Prog RawEdge
type_on i s t = do
  w ← get (spot 26 i)
  a ← get (spot 27 i)
  rest_of i s t w a

unfoldable pub six_words : ℕ → Prog RawEdge
six_words i = do
  s ← index (spot 24 i)
  t ← index (spot 25 i)
  type_on i s t

-- Source and target are indices, and the next word stands at that place.
abbrev pub Sound : ℕ → Read RawEdge → Type 0
Sound place (Ok (e, n)) = (e.source < 2 ^ 31) × (e.target < 2 ^ 31) × (n ≡ place)
Sound place (Err r) = Unit {0}

-- A type that was told, by its number.
abbrev pub numbered : Read EdgeKind → Outcome ℕ
numbered (Ok (k, n)) = ok (edge_number k) n
numbered (Err r) = no r

-- ---- "then 8, then a negative or 9, then b, then 10"; word 24 stands at the place

-- Of an edge whose type k is known.
unfoldable pub checked : ℕ → ℕ → ℕ → ℕ → ℕ → RawEdge → Prog Edge
checked i nstates nsets place k e = do
  test_a i nsets k (place + 3) e.a
  test_b i k (place + 4) e.b
  listed 10 nstates (spot 24 i) place e.source
  done (meaning k e.source e.target e.a e.b e.c)

unfoldable pub tested : ℕ → ℕ → ℕ → ℕ → RawEdge → Prog Edge
tested i nstates nsets place e = known 8 1 10 (spot 26 i) (place + 2) e.kind >>= (λ k. checked i nstates nsets place k e)

-- ---- an edge that passed its tests: what it means, and that its source is below k

abbrev pub meant : Read Tested → Outcome Edge
meant (Ok (t, n)) = ok (meaning (edge_number t.kind) t.raw.source t.raw.target t.raw.a t.raw.b t.raw.c) n
meant (Err r) = no r

abbrev pub Bounded : ℕ → Read Tested → Type 0
Bounded k (Ok (t, n)) = (t.raw.source < k) × (t.raw.source < 2 ^ 31) × (t.raw.target < 2 ^ 31)
Bounded k (Err r) = Unit {0}
