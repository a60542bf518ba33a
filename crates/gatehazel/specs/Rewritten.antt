-- Document 02, R-1, of `decode` and `write` themselves: `Decodes t ws at r u` is decode's statement, and `Writes tables counts token m a` is
-- write's. What was decoded is written, and what was written is decoded to the same records.
use Rattle.std.specs.Prelude.{◌≡◌, refl, List, [], ◌↔◌, ℕ, ◌-◌, ◌≤◌, ℤ, length, take, Ok, Err}
use Rattle.std.proofs.Common.{sym, ap, ◌∙◌, subst}
use Rattle.std.proofs.Math.Seq.{take-append_seam}
use Rattle.format.specs.Reading.{Table, bare}
use Rattle.format.specs.Tables.{nine, room, zeros}
use Rattle.format.specs.Decode.{Answer, decoded}
use Rattle.format.specs.Writing.{given, Writable, words_for, Writing, writing, wrote, Writes}
use Rattle.format.specs.declared.Counts.{Counts}
use Rattle.format.specs.Results.{Decoded, Written}
use Rattle.inplace.specs.Whole.{Tables}
use Rattle.serialized.specs.Rooms.{lengths}
use Rattle.serialized.specs.Answered.{Decodes, left_by}
use Rattle.rewriting.specs.Written.{records-counted, after, again, held, fifteen_only, wrote_writable, wrote_words, accepted_writable, rewritten, same-again, written_reads}

-- The eight tables that `write` is lent of nine that `decode` left, and the counts that it told.
abbrev pub eight_of : Tables → Table → List ℤ
eight_of u = nine u.states u.edges u.ranges u.sets u.rules u.modes u.decisions u.actions []

-- The words that are written of them.
abbrev pub words_back : Tables → Counts → List ℤ
words_back u c = words_for (eight_of u) (records-counted c) c.token

-- ---- any tables

module _ {tables : Table → List ℤ} {counts : Table → ℕ} {token : ℤ} {m n : ℕ} {out : List ℤ} (w : Writes tables counts token m (writing (Ok n) out)) where
  answered : writing (Ok n) out ≡ wrote (words_for tables counts token) m
  answered = wrote_words tables counts token m (writing (Ok n) out) w refl

  words_many : n ≡ length (words_for tables counts token)
  words_many = number (ap (λ (a : Writing). a.told) answered)
    where
      number : {i j : ℕ} → ◌≡◌ {A = Written} (Ok i) (Ok j) → i ≡ j
      number q = cc

  -- the first n words of the output are the words
  pub words_are : take n out ≡ words_for tables counts token
  words_are = (λ i. take (words_many i) (answered i).left) ∙ take-append_seam (words_for tables counts token) (zeros (m - length (words_for tables counts token)))

  -- "Decoding what was written .. gives the same records": whatever tables were written, and in any room that has so many records. The
  -- counts are theirs, the words read are those that were written, and the max token type is the one that was given.
  pub reads_given : {t u : Tables} {r : Decoded} → ((k : Table) → length (given tables counts k) ≤ room (lengths t) k) → Decodes t (take n out) 0 r u
      → (c : Counts) × ((r ≡ Ok c) × (c.words ≡ n) × (c.token ≡ token) × ((k : Table) → given (eight_of u) (records-counted c) k ≡ given tables counts k))
  reads_given {t} {u} h d =
      let x = written_reads (given tables counts) token (lengths t) (wrote_writable tables counts token m (writing (Ok n) out) w refl).comes h in (
        x.counts,
        (
          d.told ∙ ap (λ (ws : List ℤ). (decoded (lengths t) ws 0).told) words_are ∙ x.told,
          x.words ∙ sym words_many,
          x.token_is,
          λ k. ap (λ (v : Tables). given (eight_of v) (records-counted x.counts) k) (d.left ∙ ap (λ (ws : List ℤ). left_by (decoded (lengths t) ws 0)) words_are) ∙ x.records_are k,
        ),
      )

-- ---- tables that were decoded

module _ {t : Tables} {ws : List ℤ} {at : ℕ} {c : Counts} {u : Tables} (d : Decodes t ws at (Ok c) u) where
  can_be_written : Writable (eight_of u) (records-counted c)
  can_be_written =
      let w = accepted_writable (lengths t) ws at c (sym d.told) in
      subst (λ (v : Tables). Writable (eight_of v) (records-counted c)) (sym d.left) (record { within = w.within; comes = w.comes })

  -- they are never refused with 15, whatever the max token type and the output
  pub never_fifteen : {token : ℤ} {m : ℕ} {a : Writing} → Writes (eight_of u) (records-counted c) token m a → a.told ≡ Err (bare 15) → ⊥
  never_fifteen {token} {m} {a} w e = fifteen_only (eight_of u) (records-counted c) token m a w e can_be_written

  -- what is written of them is what a decode left to be written
  back_is : words_back u c ≡ again (lengths t) ws at c
  back_is = ap (λ (v : Tables). words_back v c) d.left

  -- and so are its records
  records_are : (k : Table) → given (eight_of u) (records-counted c) k ≡ held (lengths t) ws at c k
  records_are k = ap (λ (v : Tables). given (eight_of v) (records-counted c) k) d.left

  module _ {m n : ℕ} {out : List ℤ} (w : Writes (eight_of u) (records-counted c) c.token m (writing (Ok n) out)) {t' u' : Tables} {r : Decoded}
      (l : lengths t' ≡ lengths t) (b : Decodes t' (take n out) 0 r u') where
    answer : decoded (lengths t') (take n out) 0 ≡ record { told = Ok (after c (length (again (lengths t) ws at c))); left = (decoded (lengths t) ws at).left }
    answer = (λ i. decoded (l i) ((words_are w ∙ back_is) i) 0) ∙ rewritten (lengths t) ws at c (sym d.told)

    -- with the same room they are decoded again to every word, and to the same counts but for the words read; so no more room is needed
    pub reads_back : (r ≡ Ok (after c n)) × (u' ≡ u)
    reads_back = (
      b.told ∙ ap (λ (a : Answer). a.told) answer ∙ ap (λ (k : ℕ). Ok (after c k)) (sym (words_many w ∙ ap length back_is)),
      b.left ∙ ap left_by answer ∙ sym d.left,
    )

    -- what was written is written again unchanged
    pub written-again : {m' n' : ℕ} {out' : List ℤ} → Writes (eight_of u') (records-counted (after c n)) c.token m' (writing (Ok n') out') → take n' out' ≡ take n out
    written-again w' = words_are w' ∙ ap (λ (v : Tables). words_back v c) reads_back.1 ∙ sym (words_are w)

-- "two accepted word lists give the same written words exactly when they gave the same records and max token type"
module _ {t : Tables} {ws : List ℤ} {at : ℕ} {c : Counts} {u : Tables} (d : Decodes t ws at (Ok c) u)
    {t' : Tables} {ws' : List ℤ} {at' : ℕ} {c' : Counts} {u' : Tables} (d' : Decodes t' ws' at' (Ok c') u')
    {m n : ℕ} {out : List ℤ} (w : Writes (eight_of u) (records-counted c) c.token m (writing (Ok n) out))
    {m' n' : ℕ} {out' : List ℤ} (w' : Writes (eight_of u') (records-counted c') c'.token m' (writing (Ok n') out')) where
  pub same_words_exactly : take n out ≡ take n' out' ↔ ((k : Table) → given (eight_of u) (records-counted c) k ≡ given (eight_of u') (records-counted c') k) × (c.token ≡ c'.token)
  same_words_exactly =
      let s = same-again (lengths t) ws at c (sym d.told) (lengths t') ws' at' c' (sym d'.told) in
      let x = words_are w ∙ back_is d in
      let y = words_are w' ∙ back_is d' in (
        (λ e. let z = s.0 (sym x ∙ e ∙ y) in (λ k. records_are d k ∙ z.0 k ∙ sym (records_are d' k), z.1)),
        (λ z. x ∙ s.1 (λ k. sym (records_are d k) ∙ z.0 k ∙ records_are d' k, z.1) ∙ sym y),
      )
