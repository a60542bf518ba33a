-- What the code has read so far, as the laws of specs/ take it.
use Rattle.std.proofs.Common.{◌≡◌, sym, ◌∙◌, ℕ, ◌+◌, ◌*◌, ◌<◌, ◌^◌, List, ℤ, add-zero, arith}
use Rattle.format.specs.Sections.{State, Edge}
use Rattle.tables.specs.Words.{number_at}
use Rattle.atn.specs.Records.{edge_at, states_of, Chained, Stopped}
use Rattle.atn.specs.Search.{left, Running}
use Rattle.atn.specs.Networks.{states_in, edges_in}
use Rattle.atn.specs.declared.network.Network.{Network}
use Rattle.atn.specs.Visits.{plain_target, Leaving, Ready, Next, Onto, Ruled}
use Rattle.atn.specs.Marks.{Follows}

-- the type of an edge out of a state
pub leaving : {ss : List State} {es : List Edge} {n m : ℕ} {st ed : List ℤ} {s e kind : ℕ} → Chained ss es n m st ed → s < n → e < m → kind ≡ number_at ed (8 * e + 0) → Leaving ss es n m st ed s e kind
leaving C p q k = record { chained = C; listed = p; edge-listed = q; kind_is = rw add-zero at k }

-- the stack's top
pub at_work : (w : Network) {sc : List ℤ} {s : ℕ} → Running (states_in w) w.rule_count (edges_in w) sc s → s < w.state_count → Ready (states_in w) (edges_in w) w.state_count w.edge_count w.rule_count w.states.now w.edges.now w.rules.now sc s
at_work w r h = record { chained = w.linked.chained; stopped = w.linked.stopped; runs = r; listed = h }

-- the next edge of the stack's top
pub next : {ss : List State} {es : List Edge} {n m k : ℕ} {st ed ru sc : List ℤ} {s u e : ℕ} → Ready ss es n m k st ed ru sc s → u ≡ left sc s → (u ≡ 0 → ⊥) → e ≡ number_at sc (4 * s + 1) → Next ss es n m k st ed ru sc s u e
next A p f q = record { ready = A; left_is = p; some = f; next_is = q }

-- and the state that it leads on to
pub onto : {ss : List State} {es : List Edge} {n m k : ℕ} {st ed ru sc : List ℤ} {s u e t : ℕ} → Next ss es n m k st ed ru sc s u e → (t ≡ plain_target ss s (edge_at es e)) × (t < n) → Onto ss es n m k st ed ru sc s u e t
onto N h = record { next = N; plain_is = h.0; some = λ q. omega (arith, h.1) }

-- the rule of a state
pub ruled : {n k : ℕ} {st ru : List ℤ} {s R : ℕ} → n < 2 ^ 31 → Stopped (states_of n st) k ru → s < n → R ≡ number_at st (8 * s + 1) → Ruled n k st ru s R
ruled f S h e = record { few_states = f; stopped = S; listed = h; rule_is = e }

-- the follow state of a rule edge
pub follows : {ss : List State} {es : List Edge} {n m k : ℕ} {st ed ru : List ℤ} {i f kind : ℕ} → Chained ss es n m st ed → Stopped ss k ru → i < m → kind ≡ number_at ed (8 * i + 0) → kind ≡ 3 → f ≡ number_at ed (8 * i + 4) → Follows ss es n m k st ed i f
follows C S h q e p = record { chained = C; few_rules = S.few_rules; listed = h; kind_is = sym (rw add-zero at q) ∙ e; follow_is = p }
