-- "no word list, in any room, decodes to these records", as a test: what is found again in the records is read from its words, and has these records.
use Rattle.std.specs.Prelude.{◌≡◌, List, [], true, ◌↔◌, ℕ, ◌*◌, ◌≤◌, ℤ, length}
use Rattle.std.proofs.Math.Path.{refl}
use Rattle.std.proofs.Common.{sym, ap, ◌∙◌, subst, append-nil, arith}
use Rattle.format.specs.Reading.{Table, States, Edges, Ranges, Sets, Rules, Modes, Decisions, Actions, Scratch, Outcome, ok, no, run}
use Rattle.format.specs.Sections.{Read}
use Rattle.format.specs.Tables.{width, room, records}
use Rattle.format.specs.Decode.{dialect}
use Rattle.format.specs.Writing.{words_of, recovered, same_rows, Comes, has_records, comes}
use Rattle.laws.specs.Fits.{Roomed, read_roomed}
use Rattle.rewriting.specs.Formed.{plain, Formed}
use Rattle.rewriting.specs.Tests.{lie, all-eight, eight-all, same-rows, rows_same}
use Rattle.rewriting.specs.Whole.{read_formed, words_run}
use Rattle.rewriting.specs.Plain.{plain-records, plain_formed, plain_roomed, recovered-records}
use Rattle.rewriting.specs.Laws.{more_roomed, recovered-same}

-- ---- the most room

abbrev pub most : Table → ℕ
most t = 65536

-- lent slices that have it
abbrev pub amply : Table → ℕ
amply t = width t * 65536

pub ample : (t : Table) → room amply t ≡ 65536
ample States = refl
ample Edges = refl
ample Ranges = refl
ample Sets = refl
ample Rules = refl
ample Modes = refl
ample Decisions = refl
ample Actions = refl
ample Scratch = refl

pub room_most : (lent : Table → ℕ) (t : Table) → room lent t ≤ 65536
room_most lent States = omega arith
room_most lent Edges = omega arith
room_most lent Ranges = omega arith
room_most lent Sets = omega arith
room_most lent Rules = omega arith
room_most lent Modes = omega arith
room_most lent Decisions = omega arith
room_most lent Actions = omega arith
room_most lent Scratch = omega arith

-- ---- what is found again

pub record Found (T : Table → List (List ℤ)) (token : ℤ) : Type 0 where
  pub formed : Formed (recovered T token)
  pub roomed : Roomed most (recovered T token)
  pub same : (t : Table) → records (recovered T token) t ≡ T t

pub no_scratch : (r : Read) → records r Scratch ≡ []
unfolding records
no_scratch r = refl

-- the max token type is in no record
module _ (T : Table → List (List ℤ)) (token other : ℤ) where
  tokenless : (t : Table) → records (recovered T other) t ≡ records (recovered T token) t
  unfolding records recovered
  tokenless States = refl
  tokenless Edges = refl
  tokenless Ranges = refl
  tokenless Sets = refl
  tokenless Rules = refl
  tokenless Modes = refl
  tokenless Decisions = refl
  tokenless Actions = refl
  tokenless Scratch = refl

  found-any : Found T token → Found T other
  unfolding recovered
  found-any f =
      let x = f.formed in
      let m = f.roomed in
      record {
        formed = record { states = x.states; ones = x.ones; twos = x.twos; sets = x.sets; edges = x.edges; actions = x.actions };
        roomed = record { states = m.states; edges = m.edges; ranges = m.ranges; sets = m.sets; rules = m.rules; modes = m.modes; decisions = m.decisions; actions = m.actions };
        same = λ t. tokenless t ∙ f.same t;
      }

-- the words that would be written are read
pub found-run : (T : Table → List (List ℤ)) (token : ℤ) → Found T token → run dialect (words_of (recovered T token)) most 0 ≡ ok (recovered T token) (length (words_of (recovered T token)))
found-run T token f =
    let ws = words_of (recovered T token) in
    subst (λ (us : List ℤ). run dialect us most 0 ≡ ok (recovered T token) (length (words_of (recovered T token)))) (append-nil (words_of (recovered T token)))
    (words_run most (recovered T token) f.formed f.roomed [])

-- ---- both ways

abbrev pub written-comes : (T : Table → List (List ℤ)) (token : ℤ) → Found T token → Comes T
written-comes T token f =
    record {
      lent = amply;
      words = words_of (recovered T token);
      read = recovered T token;
      behind = length (words_of (recovered T token));
      ran = ap (λ (room : Table → ℕ). run dialect (words_of (recovered T token)) room 0) (λ i t. ample t i) ∙ found-run T token f;
      same = f.same;
    }

comes-found : (T : Table → List (List ℤ)) (token : ℤ) → Comes T → Found T token
comes-found T token c =
    let r : Read = c.read in
    let q : plain r ≡ recovered T r.token = sym (recovered-records r) ∙ recovered-same (records r) T r.token c.same in
    let f = plain_formed r (read_formed c.words (room c.lent) 0 r c.behind c.ran) in
    let m = plain_roomed most r (more_roomed (room c.lent) most r (room_most c.lent) (read_roomed c.lent c.words 0 r c.behind c.ran)) in
    found-any T r.token token
    (record {
      formed = subst Formed q f;
      roomed = subst (Roomed most) q m;
      same = λ t. ap (λ (p : Read). records p t) (sym q) ∙ plain-records r t ∙ c.same t;
    })

pub found_exactly : (T : Table → List (List ℤ)) (token : ℤ) → Found T token ↔ Comes T
found_exactly T token = (written-comes T token, comes-found T token)

-- ---- `comes` computes it

same_is : (T : Table → List (List ℤ)) (r : Read) (n : ℕ) → T Scratch ≡ [] → has_records T (ok r n) ≡ true → (t : Table) → records r t ≡ T t
same_is T r n z h t = same-rows (records r t) (T t) (eight-all (λ t. same_rows (records r t) (T t)) (rw (no_scratch r, z) refl) h t)

is_same : (T : Table → List (List ℤ)) (r : Read) (n : ℕ) → ((t : Table) → records r t ≡ T t) → has_records T (ok r n) ≡ true
is_same T r n h = all-eight (λ t. same_rows (records r t) (T t)) (λ t. subst (λ (l : List (List ℤ)). same_rows (records r t) l ≡ true) (h t) (rows_same (records r t)))

pub comes_exactly : (T : Table → List (List ℤ)) (token : ℤ) → T Scratch ≡ [] → comes T token ≡ true ↔ Comes T
unfolding comes
comes_exactly T token z = (λ h. to (run dialect (words_of (recovered T token)) most 0) refl h, fro)
  where
    to : (o : Outcome Read) → run dialect (words_of (recovered T token)) most 0 ≡ o → has_records T o ≡ true → Comes T
    to (ok r n) e h =
        record {
          lent = amply;
          words = words_of (recovered T token);
          read = r;
          behind = n;
          ran = ap (λ (room : Table → ℕ). run dialect (words_of (recovered T token)) room 0) (λ i t. ample t i) ∙ e;
          same = same_is T r n z h;
        }
    to (no q) e h = lie h

    fro : Comes T → comes T token ≡ true
    fro c =
        let f = comes-found T token c in
        ap (has_records T) (found-run T token f) ∙ is_same T (recovered T token) (length (words_of (recovered T token))) f.same
