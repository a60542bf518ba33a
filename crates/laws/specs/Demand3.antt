-- Demand 3 on whole decodes: what was read decides, a shorter run is refused as ended, more words and more room change nothing else.
use Rattle.std.specs.Prelude.{◌≡◌, refl, List, [], ◌++◌, ℕ, ◌+◌, ◌-◌, ◌≤◌, ◌<◌, ℤ, pos, length, take, Ok, Err}
use Rattle.std.proofs.Common.{sym, ◌∙◌, subst, append_assoc, arith, length-append, length-take, get_or-take, ⊎_elim, le-ltb}
use Rattle.std.proofs.Math.Path.{ap}
use Rattle.std.proofs.Math.ListN.{get_or-append}
use Rattle.std.proofs.lemmas.List.{replicate-append-replicate}
use Rattle.format.specs.declared.Refusal.{Refusal}
use Rattle.format.specs.declared.Spot.{Spot}
use Rattle.format.specs.declared.Counts.{Counts}
use Rattle.format.specs.Reading.{Table, States, Edges, Ranges, Sets, Rules, Modes, Decisions, Actions, Scratch, Outcome, ok, no, run, spot, ended, ◌>>=◌}
use Rattle.format.specs.Sections.{Read, version}
use Rattle.format.specs.Links.{flat}
use Rattle.format.specs.Tables.{room, records, table, zeros, counts_of}
use Rattle.format.specs.Decode.{dialect, answer, decoded}
use Rattle.laws.specs.Fits.{records_fit}
use Rattle.laws.specs.Order.{order}
use Rattle.laws.specs.Reading.{clash, forward, Agree, within, again, cut, survives, Roomy, roomier}

-- an acceptance came of a run, and so did a refusal
pub record Accepting (lent : Table → ℕ) (ws : List ℤ) (at : ℕ) (c : Counts) : Type 0 where
  pub read : Read
  pub behind : ℕ
  pub ran : run dialect ws (room lent) at ≡ ok read behind
  pub counted : counts_of read (behind - at) ≡ c

pub accepting : (lent : Table → ℕ) (ws : List ℤ) (at : ℕ) (c : Counts) → (decoded lent ws at).told ≡ Ok c → Accepting lent ws at c
unfolding decoded
accepting lent ws at c e = go (run dialect ws (room lent) at) refl e
  where
    go : (o : Outcome Read) → run dialect ws (room lent) at ≡ o → (answer lent at o).told ≡ Ok c → Accepting lent ws at c
    go (ok r n) q t = record { read = r; behind = n; ran = q; counted = cc }
    go (no q) p t = absurd (let z : ◌≡◌ {A = ℕ} 0 1 = cc in omega arith)

pub refusing : (lent : Table → ℕ) (ws : List ℤ) (at : ℕ) (q : Refusal) → (decoded lent ws at).told ≡ Err q → run dialect ws (room lent) at ≡ no q
unfolding decoded
refusing lent ws at q e = go (run dialect ws (room lent) at) refl e
  where
    go : (o : Outcome Read) → run dialect ws (room lent) at ≡ o → (answer lent at o).told ≡ Err q → run dialect ws (room lent) at ≡ no q
    go (ok r n) p t = absurd (let z : ◌≡◌ {A = ℕ} 0 1 = cc in omega arith)
    go (no x) p t = let z : x ≡ q = cc in p ∙ ap no z

-- a decode goes by its run
decoded_by : (lent : Table → ℕ) (ws vs : List ℤ) (at : ℕ) → run dialect vs (room lent) at ≡ run dialect ws (room lent) at → decoded lent vs at ≡ decoded lent ws at
unfolding decoded
decoded_by lent ws vs at e = ap (answer lent at) e

-- a decode begins with a word
begins : (ws : List ℤ) (rooms : Table → ℕ) (at : ℕ) {r : Read} {n : ℕ} → run dialect ws rooms at ≡ ok r n → at < length ws
unfolding run dialect version ◌>>=◌
begins ws rooms at {r} {n} e = ⊎_elim (λ (x : length ws ≤ at). clash (sym (rw (le-ltb at (length ws) x) at e))) (λ x. x) (order (length ws) at)

pub begins-not : (ws : List ℤ) (rooms : Table → ℕ) (at : ℕ) → length ws ≤ at → run dialect ws rooms at ≡ no (ended (spot 1 0) (length ws))
unfolding run dialect version ◌>>=◌
begins-not ws rooms at h = rw (le-ltb at (length ws) h) refl

words_are : (lent : Table → ℕ) (ws : List ℤ) (at : ℕ) (c : Counts) (a : Accepting lent ws at c) → at + c.words ≡ a.behind
unfolding counts_of
words_are lent ws at c a =
    let q : a.behind - at ≡ c.words = ap (λ (x : Counts). x.words) a.counted in
    omega (arith, forward dialect ws (room lent) at a.ran)

module _ (ws zs : List ℤ) (n : ℕ) (h : n ≤ length ws) where
  taken_long : length (take n ws) ≡ n
  taken_long = length-take n ws ∙ omega arith

  taken_agree : Agree ws (take n ws ++ zs) n
  taken_agree = record { words = λ i k. get_or-append (take n ws) zs (pos 0) i (omega (arith, taken_long)) ∙ get_or-take n ws i (pos 0) k }

module _ (lent : Table → ℕ) (ws : List ℤ) (at : ℕ) (c : Counts) (e : (decoded lent ws at).told ≡ Ok c) where
  -- (a) the words read, with anything behind them, give the same answer and the same tables
  pub same-again : (zs : List ℤ) → decoded lent (take (at + c.words) ws ++ zs) at ≡ decoded lent ws at
  same-again zs =
      let a = accepting lent ws at c e in
      let n : at + c.words ≡ a.behind = words_are lent ws at c a in
      let b : at < length ws = begins ws (room lent) at a.ran in
      let h : at + c.words ≤ length ws = omega (arith, within dialect ws (room lent) at (omega arith) a.ran) in
      let r : run dialect ws (room lent) at ≡ ok a.read (at + c.words) = a.ran ∙ ap (ok a.read) (sym n) in
      decoded_by lent ws (take (at + c.words) ws ++ zs) at
      (again dialect ws (take (at + c.words) ws ++ zs) (room lent) at r (omega (arith, length-append (take (at + c.words) ws) zs, taken_long ws zs (at + c.words) h)) (taken_agree ws zs (at + c.words) h) ∙ sym r)

  shorter : (m : ℕ) → m < at + c.words → (f : Spot) × (run dialect (take m ws) (room lent) at ≡ no (ended f m))
  shorter m k =
      let a = accepting lent ws at c e in
      let n : at + c.words ≡ a.behind = words_are lent ws at c a in
      let b : at < length ws = begins ws (room lent) at a.ran in
      let h : m ≤ length ws = omega (arith, within dialect ws (room lent) at (omega arith) a.ran) in
      let l : length (take m ws) ≡ m = taken_long ws [] m h in
      subst (λ (j : ℕ). (f : Spot) × (run dialect (take m ws) (room lent) at ≡ no (ended f j))) l
      (⊎_elim (λ (x : m ≤ at). (spot 1 0, begins-not (take m ws) (room lent) at (omega arith)))
      (λ x. cut dialect ws (take m ws) (room lent) at a.ran (omega arith) (omega arith) (record { words = λ i u. get_or-take m ws i (pos 0) (omega arith) })) (order m at))

  -- (b) every shorter run of them is refused as ended, at its own length
  pub cut_short : (m : ℕ) → m < at + c.words → (f : Spot) × (decoded lent (take m ws) at ≡ answer lent at (no (ended f m)))
  unfolding decoded
  cut_short m k = let y = shorter m k in (y.0, ap (answer lent at) y.1)

-- (c) a refusal other than 1 survives added words
pub stays_refused : (lent : Table → ℕ) (ws zs : List ℤ) (at : ℕ) (q : Refusal) → (decoded lent ws at).told ≡ Err q → (q.number ≡ 1 → ⊥) → decoded lent (ws ++ zs) at ≡ decoded lent ws at
stays_refused lent ws zs at q e n1 =
    let r = refusing lent ws at q e in
    decoded_by lent ws (ws ++ zs) at (survives dialect ws zs (room lent) at r n1 ∙ sym r)

-- ---- (d) rooms

room-more : (lent more : Table → ℕ) → ((t : Table) → lent t ≤ more t) → (t : Table) → room lent t ≤ room more t
room-more lent more g States = omega (arith, g States, g Scratch)
room-more lent more g Edges = omega (arith, g Edges)
room-more lent more g Ranges = omega (arith, g Ranges)
room-more lent more g Sets = omega (arith, g Sets)
room-more lent more g Rules = omega (arith, g Rules)
room-more lent more g Modes = omega (arith, g Modes)
room-more lent more g Decisions = omega (arith, g Decisions)
room-more lent more g Actions = omega (arith, g Actions)
room-more lent more g Scratch = omega (arith, g Scratch)

-- a table of more room has more zeros behind the same records
table_more : (lent more : Table → ℕ) → ((t : Table) → lent t ≤ more t) → (r : Read) (t : Table) → length (flat (records r t)) ≤ lent t → table r more t ≡ table r lent t ++ zeros (more t - lent t)
unfolding table
table_more lent more g r t h =
    let k : ℕ = length (flat (records r t)) in
    let e : (lent t - k) + (more t - lent t) ≡ more t - k = omega (arith, g t) in
    sym (append_assoc (flat (records r t)) (zeros (lent t - k)) (zeros (more t - lent t))
    ∙ ap (λ (l : List ℤ). flat (records r t) ++ l) (replicate-append-replicate (lent t - k) (more t - lent t) (pos 0) ∙ ap zeros e))

zeros-more : (a b : ℕ) → a ≤ b → zeros b ≡ zeros a ++ zeros (b - a)
zeros-more a b h = let e : a + (b - a) ≡ b = omega arith in sym (replicate-append-replicate a (b - a) (pos 0) ∙ ap zeros e)

roomy : (lent : Table → ℕ) (ws : List ℤ) (at : ℕ) → ((q : Refusal) → (decoded lent ws at).told ≡ Err q → q.number ≡ 12 → ⊥) → Roomy (run dialect ws (room lent) at)
unfolding decoded
roomy lent ws at h = go (run dialect ws (room lent) at) h
  where
    go : (o : Outcome Read) → ((q : Refusal) → (answer lent at o).told ≡ Err q → q.number ≡ 12 → ⊥) → Roomy o
    go (ok r n) f = tt
    go (no q) f = f q refl

-- unless the smaller room's answer was 12, the larger room's is the same, and the tables have zeros behind what they had
pub more_room : (lent more : Table → ℕ) → ((t : Table) → lent t ≤ more t) → (ws : List ℤ) (at : ℕ)
    → ((q : Refusal) → (decoded lent ws at).told ≡ Err q → q.number ≡ 12 → ⊥)
    → ((decoded more ws at).told ≡ (decoded lent ws at).told) × ((t : Table) → (decoded more ws at).left t ≡ (decoded lent ws at).left t ++ zeros (more t - lent t))
unfolding decoded
more_room lent more g ws at h = go (run dialect ws (room lent) at) refl
  where
    same-run : run dialect ws (room more) at ≡ run dialect ws (room lent) at
    same-run = roomier dialect ws (room lent) (room more) at (room-more lent more g) (roomy lent ws at h)

    go : (o : Outcome Read) → run dialect ws (room lent) at ≡ o → ((answer more at (run dialect ws (room more) at)).told ≡ (answer lent at (run dialect ws (room lent) at)).told) × ((t : Table) → (answer more at (run dialect ws (room more) at)).left t ≡ (answer lent at (run dialect ws (room lent) at)).left t ++ zeros (more t - lent t))
    go (ok r n) e = rw (same-run, e) (refl, λ t. table_more lent more g r t (records_fit lent ws at r n e t))
    go (no q) e = rw (same-run, e) (refl, λ t. zeros-more (lent t) (more t) (g t))
