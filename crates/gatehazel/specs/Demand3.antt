-- Demand 3, of `decode` itself. `Decodes t ws 0 r u` is decode's statement: lent the tables t and the words ws, it answers r and leaves
-- the tables u. Each part takes two calls and says how the second answers, whatever its tables held before.
use Rattle.std.specs.Prelude.{◌≡◌, refl, List, ◌++◌, ℕ, ◌-◌, ◌≤◌, ◌<◌, ℤ, take, Ok, Err}
use Rattle.std.proofs.Common.{sym, ap, ◌∙◌, arith, zero-add}
use Rattle.format.specs.Reading.{Table, ended, States, Edges, Ranges, Sets, Rules, Modes, Decisions, Actions, Scratch}
use Rattle.format.specs.Tables.{nine, zeros}
use Rattle.format.specs.Decode.{Answer, decoded}
use Rattle.format.specs.declared.Refusal.{Refusal}
use Rattle.format.specs.declared.Spot.{Spot}
use Rattle.format.specs.declared.Counts.{Counts}
use Rattle.format.specs.Results.{Decoded}
use Rattle.laws.specs.Demand3 as laws
use Rattle.inplace.specs.Whole.{Tables, blank}
use Rattle.serialized.specs.Rooms.{lengths}
use Rattle.serialized.specs.Answered.{Decodes, left_by}

-- Two calls with tables of the same lengths, the answers of the definition being equal.
alike : {t t' : Tables} {ws vs : List ℤ} {r r' : Decoded} {u u' : Tables} → lengths t' ≡ lengths t → decoded (lengths t) vs 0 ≡ decoded (lengths t) ws 0
    → Decodes t ws 0 r u → Decodes t' vs 0 r' u' → (r' ≡ r) × (u' ≡ u)
alike {t} {t'} {ws} {vs} l e a b =
    let f : decoded (lengths t') vs 0 ≡ decoded (lengths t) ws 0 = ap (λ (n : Table → ℕ). decoded n vs 0) l ∙ e in
    (b.told ∙ ap (λ (x : Answer). x.told) f ∙ sym a.told, b.left ∙ ap left_by f ∙ sym a.left)

-- "what the tables held before never matters"
pub content_never_matters : {t t' : Tables} {ws : List ℤ} {r r' : Decoded} {u u' : Tables} → lengths t' ≡ lengths t
    → Decodes t ws 0 r u → Decodes t' ws 0 r' u' → (r' ≡ r) × (u' ≡ u)
content_never_matters l a b = alike l refl a b

-- "Say an accepted decode read n words. The same n words with anything after them give the same tables and counts"
pub same_words_lem : {t t' : Tables} {ws : List ℤ} {c : Counts} {r' : Decoded} {u u' : Tables} (zs : List ℤ) → lengths t' ≡ lengths t
    → Decodes t ws 0 (Ok c) u → Decodes t' (take c.words ws ++ zs) 0 r' u' → (r' ≡ Ok c) × (u' ≡ u)
same_words_lem {t} {ws = ws} {c = c} zs l a b =
    let e : decoded (lengths t) (take c.words ws ++ zs) 0 ≡ decoded (lengths t) ws 0 =
    ap (λ (n : ℕ). decoded (lengths t) (take n ws ++ zs) 0) (sym (zero-add c.words)) ∙ laws.same-again (lengths t) ws 0 c (sym a.told) zs in
    alike l e a b

-- "any shorter run is refused as ended, at its own length", with all zero
pub shorter_run : {t t' : Tables} {ws : List ℤ} {c : Counts} {r' : Decoded} {u u' : Tables} (m : ℕ) → lengths t' ≡ lengths t → m < c.words
    → Decodes t ws 0 (Ok c) u → Decodes t' (take m ws) 0 r' u' → (f : Spot) × ((r' ≡ Err (ended f m)) × (u' ≡ blank (lengths t)))
shorter_run {t} {t'} {ws} {c = c} m l h a b =
    let x = laws.cut_short (lengths t) ws 0 c (sym a.told) m (omega arith) in
    let e = ap (λ (n : Table → ℕ). decoded n (take m ws) 0) l ∙ x.1 in
    (x.0, (b.told ∙ ap (λ (y : Answer). y.told) e, b.left ∙ ap left_by e))

-- "a refusal other than "ended" survives added words"
pub refusal-survives : {t t' : Tables} {ws : List ℤ} {q : Refusal} {r' : Decoded} {u u' : Tables} (zs : List ℤ) → lengths t' ≡ lengths t → (q.number ≡ 1 → ⊥)
    → Decodes t ws 0 (Err q) u → Decodes t' (ws ++ zs) 0 r' u' → (r' ≡ Err q) × (u' ≡ u)
refusal-survives {t} {ws = ws} {q = q} zs l n a b = alike l (laws.stays_refused (lengths t) ws zs 0 q (sym a.told) n) a b

-- One of nine tables.
abbrev pub table_of : Tables → Table → List ℤ
table_of t = nine t.states t.edges t.ranges t.sets t.rules t.modes t.decisions t.actions t.scratch

left_at : (a : Answer) (k : Table) → table_of (left_by a) k ≡ a.left k
left_at a States = refl
left_at a Edges = refl
left_at a Ranges = refl
left_at a Sets = refl
left_at a Rules = refl
left_at a Modes = refl
left_at a Decisions = refl
left_at a Actions = refl
left_at a Scratch = refl

-- "more room alters no answer but "no room"", and every table keeps its words, with zeros behind them
pub more_room : {t t' : Tables} {ws : List ℤ} {r r' : Decoded} {u u' : Tables} → ((k : Table) → lengths t k ≤ lengths t' k)
    → ((q : Refusal) → r ≡ Err q → q.number ≡ 12 → ⊥)
    → Decodes t ws 0 r u → Decodes t' ws 0 r' u'
    → (r' ≡ r) × ((k : Table) → table_of u' k ≡ table_of u k ++ zeros (lengths t' k - lengths t k))
more_room {t} {t'} {ws} g n a b =
    let x = laws.more_room (lengths t) (lengths t') g ws 0 (λ q e. n q (a.told ∙ e)) in (
      b.told ∙ x.0 ∙ sym a.told,
      λ k. ap (λ (v : Tables). table_of v k) b.left ∙ left_at (decoded (lengths t') ws 0) k ∙ x.1 k
          ∙ ap (λ (l : List ℤ). l ++ zeros (lengths t' k - lengths t k)) (sym (ap (λ (v : Tables). table_of v k) a.left ∙ left_at (decoded (lengths t) ws 0) k)),
    )
