-- Why a decode is refused: 1 only where the words end, at the slice's length; 12 only where room lacks; else one of 2 to 11. And in which
-- record (document 02, R-2): its number is how many of its kind were read before it; outside of records it is 0.
use Rattle.std.specs.Prelude.{◌≡◌, refl, Bool, List, ℕ, ◌+◌, ◌≤◌, ◌<◌, leb, ℤ, pos}
use Rattle.std.proofs.Math.Path.{sym, subst}
use Rattle.std.proofs.Common.{ap, ◌∙◌, ⊎_elim, arith}
use Rattle.std.proofs.Math.Bool.{true, false}
use Rattle.std.proofs.Math.ListN.{length}
use Rattle.format.specs.declared.Refusal.{Refusal}
use Rattle.format.specs.Reading.{Table, Edges, Outcome, ok, no, Prog, run, ◌>>=◌, spot, pick, ended, no_room, get}
use Rattle.format.specs.Sections.{State, Edge, Read, among, version, grammar, states, flags, rules, modes, sets, edges, decisions, actions}
use Rattle.format.specs.Links.{derived}
use Rattle.format.specs.Decode.{returning, dialect}
use Rattle.laws.specs.Demand3.{begins-not}
use Rattle.laws.specs.Kinds.{Kind, a-decision, fields_of, outside, count_of, next, first, Came, to_states, to_non_greedy, to_precedence, to_rules, to_modes, to_sets, to_edges, to_decisions, to_actions}
use Rattle.laws.specs.Order.{order}
use Rattle.laws.specs.Reading.{clash, within}
use Rattle.laws.specs.Turns.{Turn, lists}
use Rattle.laws.specs.Walk.{Why, by_word, by_end, by_room, Told, Split, in_first, in_second, split, Refuses, get_told, version_told, grammar_told, counts_told, returning_told, record_told}

-- A record is refused, at one of the fields of its kind: the decode came to the list's count at the place start, and the list begins at the
-- place at.
pub record Inside (ws : List ℤ) (room : Table → ℕ) (from : ℕ) (r : Refusal) : Type 0 where
  pub kind : Kind
  pub field : among r.field (fields_of kind) ≡ true
  pub states : ℕ
  pub sets : ℕ
  pub start : ℕ
  pub came : Came ws room from states sets kind start
  pub count : ℕ
  pub at : ℕ
  pub counted : run (count_of kind) ws room start ≡ ok count at
  pub turn : Turn (first kind) (next kind) ws room at count r.«record» r

pub data Whose (ws : List ℤ) (room : Table → ℕ) (from : ℕ) (r : Refusal) : Type 0 where
  of_none : among r.field outside ≡ true → r.«record» ≡ 0 → Whose ws room from r
  of_record : Inside ws room from r → Whose ws room from r

-- A refusal of a decode that began at the place from.
pub record Refused (ws : List ℤ) (room : Table → ℕ) (from : ℕ) (r : Refusal) : Type 0 where
  pub why : Why ws room r
  pub near : r.place ≤ length ws + 4
  pub whose : Whose ws room from r
  pub short : r.«record» ≤ length ws

module _ (ws : List ℤ) (room : Table → ℕ) (from : ℕ) where
  -- Whatever refuses a run of the program from this place on is a decode's refusal.
  abbrev Fair : {A : Type 0} → Prog A → ℕ → Type 0
  Fair p at = (r : Refusal) → run p ws room at ≡ no r → Refused ws room from r

  on : {A B : Type 0} (p : Prog A) (k : A → Prog B) (at : ℕ) → at ≤ length ws → Fair p at → ((a : A) (n : ℕ) → run p ws room at ≡ ok a n → n ≤ length ws → Fair (k a) n) → Fair (p >>= k) at
  on {A} {B} p k at h s g r e = go (split p k ws room at r e)
    where
      go : Split p k ws room at r → Refused ws room from r
      go (in_first q) = s r q
      go (in_second a n q f) = g a n q (within p ws room at h q) r f

  plain : {A : Type 0} (p : Prog A) → Refuses ws room (Told ws room outside 0) p → (at : ℕ) → at ≤ length ws → Fair p at
  unfolding Refuses
  plain p s at h r e =
      let t = s at r h e in
      record { why = t.why; near = t.near; whose = of_none t.field t.whose; short = omega (arith, t.whose) }

  -- a list's count, and its records
  listing : {n m start : ℕ} {k : Kind} → Came ws room from n m k start → start ≤ length ws → Fair (count_of k >>= first k) start
  unfolding Refuses
  listing {n} {m} {start} {k} came h = on (count_of k) (first k) start h (plain (count_of k) (counts_told ws room k) start h) (λ count at counted b r e.
      let t = (lists ws room k).turn count at r e in
      let i = t.0 in
      let c = within (first k i) ws room at b t.1.read in
      let d = record_told ws room i k t.1.before t.1.place r c t.1.refused in
      record {
        why = d.why;
        near = d.near;
        whose = of_record (record { kind = k; field = d.field; states = n; sets = m; start = start; came = came; count = count; at = at; counted = counted; turn = subst (λ (j : ℕ). Turn (first k) (next k) ws room at count j r) (sym d.whose) t.1 });
        short = omega (arith, d.whose, c, (lists ws room k).far i at t.1.before t.1.place t.1.read);
      })

  -- "derived edges after the last edge": no word is read
  returned : (ss : List State) (n : ℕ) (es l : List Edge) (at m : ℕ) → run (returning ss n es) ws room at ≡ ok l m → m ≡ at
  unfolding returning run
  returned ss n es l at m e = go (leb (length es + length (derived ss n es)) (room Edges)) e
    where
      go : (b : Bool) → pick b (ok es at) (no (no_room (spot 23 0) at (length es + length (derived ss n es)))) ≡ ok l m → m ≡ at
      go true q = let z : at ≡ m = cc in sym z
      go false q = clash (sym q)

  dialect_fair : from ≤ length ws → Fair dialect from
  unfolding dialect states flags rules modes sets edges decisions actions run
  dialect_fair h0 =
      on version _ from h0 (plain version (version_told ws room) from h0) (λ v n1 e1 h1.
      on grammar _ n1 h1 (plain grammar (grammar_told ws room) n1 h1) (λ g n2 e2 h2.
      on (get (spot 3 0)) _ n2 h2 (plain (get (spot 3 0)) (get_told ws room outside 0 3 refl) n2 h2) (λ token n3 e3 h3.
      let c1 = to_states e1 e2 e3 in on states _ n3 h3 (listing c1 h3) (λ ss n4 e4 h4.
      let c2 = to_non_greedy c1 e4 in on (flags (length ss) 9) _ n4 h4 (listing c2 h4) (λ ones n5 e5 h5.
      let c3 = to_precedence c2 e5 in on (flags (length ss) 11) _ n5 h5 (listing c3 h5) (λ twos n6 e6 h6.
      let c4 = to_rules c3 e6 in on rules _ n6 h6 (listing c4 h6) (λ rs n7 e7 h7.
      let c5 = to_modes c4 e7 in on modes _ n7 h7 (listing c5 h7) (λ ms n8 e8 h8.
      let c6 = to_sets c5 e8 in on sets _ n8 h8 (listing c6 h8) (λ ls n9 e9 h9.
      let c7 = to_edges c6 e9 in on (edges (length ss) (length ls)) _ n9 h9 (listing c7 h9) (λ es n10 e10 h10.
      let c8 = to_decisions c7 e10 in on (returning ss (length rs) es) _ n10 h10 (plain (returning ss (length rs) es) (returning_told ws room ss (length rs) es) n10 h10) (λ es2 n11 e11 h11.
      let c9 = subst (Came ws room from (length ss) (length ls) a-decision) (sym (returned ss (length rs) es es2 n10 n11 e11)) c8 in on decisions _ n11 h11 (listing c9 h11) (λ ds n12 e12 h12.
      on actions _ n12 h12 (listing (to_actions c9 e12) h12) (λ xs n13 e13 h13 r e. clash e)))))))))))))

-- all of it, of every refused decode
pub refused_so : (ws : List ℤ) (room : Table → ℕ) (from : ℕ) (r : Refusal) → run dialect ws room from ≡ no r → Refused ws room from r
refused_so ws room from r e =
    ⊎_elim (λ (h : from ≤ length ws). dialect_fair ws room from h r e)
    (λ h. let f : ◌≡◌ {A = Outcome Read} (no (ended (spot 1 0) (length ws))) (no r) = sym (begins-not ws room from (omega arith)) ∙ e in
    let z : ended (spot 1 0) (length ws) ≡ r = cc in
    subst (Refused ws room from) z (record { why = by_end (spot 1 0) refl; near = omega arith; whose = of_none refl refl; short = omega arith })) (order from (length ws))

-- "1: words ended; place is the slice's length", value 0
pub one_is_end : (ws : List ℤ) (room : Table → ℕ) (at : ℕ) (r : Refusal) → run dialect ws room at ≡ no r → r.number ≡ 1 → (r.place ≡ length ws) × (r.value ≡ pos 0)
one_is_end ws room at r e h = go (refused_so ws room at r e).why
  where
    go : Why ws room r → (r.place ≡ length ws) × (r.value ≡ pos 0)
    go (by_word n) = absurd (omega (arith, n.low))
    go (by_end f q) = (ap (λ (x : Refusal). x.place) q, ap (λ (x : Refusal). x.value) q)
    go (by_room t n f p l q) = absurd (omega (arith, ap (λ (x : Refusal). x.number) q))

-- "12: no room", value the records needed; "12 is given in no other case"
pub twelve_is_room : (ws : List ℤ) (room : Table → ℕ) (at : ℕ) (r : Refusal) → run dialect ws room at ≡ no r → r.number ≡ 12 → (t : Table) × ((n : ℕ) × ((room t < n) × (r.value ≡ pos n)))
twelve_is_room ws room at r e h = go (refused_so ws room at r e).why
  where
    go : Why ws room r → (t : Table) × ((n : ℕ) × ((room t < n) × (r.value ≡ pos n)))
    go (by_word n) = absurd (omega (arith, n.high))
    go (by_end f q) = absurd (omega (arith, ap (λ (x : Refusal). x.number) q))
    go (by_room t n f p l q) = (t, (n, (l, ap (λ (x : Refusal). x.value) q)))
