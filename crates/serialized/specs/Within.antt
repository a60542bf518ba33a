-- While sections run, the counts stay within the rooms: what each section may ask of the tables that those before it filled.
use Rattle.std.specs.Prelude.{◌≡◌, List, ℕ, ◌+◌, ◌≤◌, ℤ, Ok, Err}
use Rattle.std.proofs.Common.{sym, arith}
use Rattle.format.specs.Reading.{Table, States, Edges, Sets, Rules, Modes, Decisions, Actions, Prog, run, ◌>>◌, spot, get, count, index}
use Rattle.format.specs.Tables.{width}
use Rattle.format.specs.declared.Counts.{Counts}
use Rattle.format.specs.Results.{Decoded}
use Rattle.laws.specs.Running.{turns}
use Rattle.laws.specs.Collect.{puts}
use Rattle.laws.specs.Gives.{Gives, gives_bind, gives_run, gives_count, then}
use Rattle.inplace.specs.Held.{Held, with, held, onward}
use Rattle.format.specs.Sections.{version, grammar}
use Rattle.inplace.specs.Sections.{header, begun, section, section_from, ended, row_of, field_of, counted, flagging, flags_from, flag_one, flags_end, stopping}
use Rattle.inplace.specs.Sets.{Sets2, setting, sets_from, set_one, keeping, sets_end}
use Rattle.inplace.specs.Links.{Net, edging, edges_from, edge_one, edges_end, returns}

-- The counts that later sections go by.
pub record Within (rooms : Table → ℕ) (c : Counts) : Type 0 where
  pub states : c.states ≤ rooms States
  pub edges : c.edges ≤ rooms Edges
  pub sets : c.sets ≤ rooms Sets
  pub rules : c.rules ≤ rooms Rules

abbrev pub Roomed : (Table → ℕ) → Decoded → Type 0
Roomed rooms (Ok c) = Within rooms c
Roomed rooms (Err r) = Unit {0}

abbrev W : ℤ → Type 0
W v = Unit {0}

abbrev pub Keeps : {X : Type 0} → (Table → ℕ) → (Held X → Prog (Held X)) → Type 0
Keeps {X} rooms p = (h : Held X) → Within rooms h.counts → Gives W rooms (λ (k : Held X). Within rooms k.counts) (p h)

-- a section that keeps them within keeps what the code has come to so
pub kept : {X : Type 0} (rooms : Table → ℕ) (p : Held X → Prog (Held X)) → Keeps rooms p → (ws : List ℤ) (s r : Decoded) (x y : X)
    → held r y ≡ onward p ws rooms (held s x) → Roomed rooms s → Roomed rooms r
kept rooms p g ws (Err q) (Err r) x y e h = tt
kept rooms p g ws (Err q) (Ok c) x y e h = absurd (let z : ◌≡◌ {A = ℕ} 0 1 = cc in omega arith)
kept rooms p g ws (Ok c) (Err r) x y e h = tt
kept {X} rooms p g ws (Ok c) (Ok d) x y e h =
    gives_run W rooms (λ (k : Held X). Within rooms k.counts) (p (with c x)) (g (with c x) h) ws c.words (λ i l. tt) (sym e)

-- the property that is kept, of what a section gives
abbrev Inside : (X : Type 0) → (Table → ℕ) → Held X → Type 0
Inside X rooms k = Within rooms k.counts

pub section_keeps : (rooms : Table → ℕ) (t : Table) → ((c : Counts) (n p : ℕ) → Within rooms c → n ≤ rooms t → Within rooms (counted t c n p)) → Keeps rooms (section t)
unfolding section Gives
section_keeps rooms t f h w =
    gives_bind W rooms (λ n. n ≤ rooms t) (Inside (List ℤ) rooms) (count t (field_of t)) (section_from t h) (gives_count W rooms t (field_of t))
    (λ n l. then W rooms (Inside (List ℤ) rooms) (turns n 0 (puts (width t) (row_of t)) h.table) (ended t h.counts n) (λ u p. f h.counts n p w l))

pub states-keep : (rooms : Table → ℕ) → Keeps rooms (section States)
states-keep rooms = section_keeps rooms States (λ c n p w l. record { states = l; edges = w.edges; sets = w.sets; rules = w.rules })

pub rules-keep : (rooms : Table → ℕ) → Keeps rooms (section Rules)
rules-keep rooms = section_keeps rooms Rules (λ c n p w l. record { states = w.states; edges = w.edges; sets = w.sets; rules = l })

pub modes-keep : (rooms : Table → ℕ) → Keeps rooms (section Modes)
modes-keep rooms = section_keeps rooms Modes (λ c n p w l. record { states = w.states; edges = w.edges; sets = w.sets; rules = w.rules })

pub decisions-keep : (rooms : Table → ℕ) → Keeps rooms (section Decisions)
decisions-keep rooms = section_keeps rooms Decisions (λ c n p w l. record { states = w.states; edges = w.edges; sets = w.sets; rules = w.rules })

pub actions-keep : (rooms : Table → ℕ) → Keeps rooms (section Actions)
actions-keep rooms = section_keeps rooms Actions (λ c n p w l. record { states = w.states; edges = w.edges; sets = w.sets; rules = w.rules })

pub flags-keep : (rooms : Table → ℕ) (b f : ℕ) → Keeps rooms (flagging b f)
unfolding flagging Gives
flags-keep rooms b f h w =
    then W rooms (Inside (List ℤ) rooms) (index (spot f 0)) (flags_from b f h)
    (λ k. then W rooms (Inside (List ℤ) rooms) (turns k 0 (flag_one b h.counts.states (f + 1)) h.table) (flags_end h.counts)
    (λ t p. record { states = w.states; edges = w.edges; sets = w.sets; rules = w.rules }))

pub stops-keep : (rooms : Table → ℕ) (st : List ℤ) → Keeps rooms (stopping st)
unfolding Gives
stops-keep rooms st h w = w

pub sets-keep : (rooms : Table → ℕ) → Keeps rooms setting
unfolding setting Gives
sets-keep rooms h w =
    gives_bind W rooms (λ n. n ≤ rooms Sets) (Inside Sets2 rooms) (count Sets 18) (sets_from h) (gives_count W rooms Sets 18)
    (λ n l. then W rooms (Inside Sets2 rooms) (turns n 0 set_one (keeping h.table)) (sets_end h.counts n)
    (λ x p. record { states = w.states; edges = w.edges; sets = l; rules = w.rules }))

pub edges-keep : (rooms : Table → ℕ) → Keeps rooms edging
unfolding edging Gives
edges-keep rooms h w =
    gives_bind W rooms (λ n. n ≤ rooms Edges) (Inside Net rooms) (count Edges 23) (edges_from h) (gives_count W rooms Edges 23)
    (λ n l. then W rooms (Inside Net rooms) (turns n 0 (edge_one h.counts.states h.counts.sets) h.table) (edges_end h.counts n)
    (λ t p. record { states = w.states; edges = l; sets = w.sets; rules = w.rules }))

pub returns-keep : (rooms : Table → ℕ) (room : ℕ) (ru : List ℤ) → Keeps rooms (returns room ru)
unfolding returns Gives
returns-keep rooms room ru h w = λ p l. record { states = w.states; edges = l; sets = w.sets; rules = w.rules }

-- the header counts nothing yet
pub header_roomed : (rooms : Table → ℕ) (ws : List ℤ) (at : ℕ) (d : Decoded) → held d tt ≡ run header ws rooms at → Roomed rooms d
unfolding header Gives
header_roomed rooms ws at (Err r) e = tt
header_roomed rooms ws at (Ok c) e = gives_run W rooms (Inside (Unit {0}) rooms) header (then W rooms (Inside (Unit {0}) rooms) (version >> grammar >> get (spot 3 0)) begun (λ v p. record { states = omega arith; edges = omega arith; sets = omega arith; rules = omega arith })) ws at (λ i l. tt) (sym e)
