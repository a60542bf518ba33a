-- A count, and so many turns over a table: the sections that fill a table, and the flags.
use Rattle.std.specs.Prelude.{◌≡◌, List, ℕ, ◌+◌, ℤ}
use Rattle.std.proofs.Math.Path.{sym}
use Rattle.std.proofs.Common.{◌∙◌}
use Rattle.format.specs.Reading.{Table, ok, no, run, spot, index, count}
use Rattle.format.specs.Tables.{width}
use Rattle.format.specs.declared.Refusal.{Refusal}
use Rattle.laws.specs.Running.{turns, ok_then, no_then}
use Rattle.laws.specs.Collect.{puts}
use Rattle.inplace.specs.Held.{Held, with}
use Rattle.inplace.specs.Sections.{field_of, row_of, counted, ended, section_from, section, flag_one, moved, flags_end, flags_from, flagging}

module _ (t : Table) (h : Held (List ℤ)) (ws : List ℤ) (rooms : Table → ℕ) (at : ℕ) where
  pub section-uncounted : {r : Refusal} → no r ≡ run (count t (field_of t)) ws rooms at → no r ≡ run (section t h) ws rooms at
  unfolding section
  section-uncounted e = sym (no_then (count t (field_of t)) (section_from t h) ws rooms at e)

  module _ {n a : ℕ} (e : ok n a ≡ run (count t (field_of t)) ws rooms at) where
    pub section_ok : {u : List ℤ} {b : ℕ} → ok u b ≡ run (turns n 0 (puts (width t) (row_of t)) h.table) ws rooms a → ok (with (counted t h.counts n b) u) b ≡ run (section t h) ws rooms at
    unfolding run section
    section_ok f =
        sym (ok_then (count t (field_of t)) (section_from t h) ws rooms at e
        ∙ ok_then (turns n 0 (puts (width t) (row_of t)) h.table) (ended t h.counts n) ws rooms a f)

    pub section-stops : {r : Refusal} → no r ≡ run (turns n 0 (puts (width t) (row_of t)) h.table) ws rooms a → no r ≡ run (section t h) ws rooms at
    unfolding section
    section-stops f =
        sym (ok_then (count t (field_of t)) (section_from t h) ws rooms at e
        ∙ no_then (turns n 0 (puts (width t) (row_of t)) h.table) (ended t h.counts n) ws rooms a f)

module _ (b f : ℕ) (h : Held (List ℤ)) (ws : List ℤ) (rooms : Table → ℕ) (at : ℕ) where
  pub flags-uncounted : {r : Refusal} → no r ≡ run (index (spot f 0)) ws rooms at → no r ≡ run (flagging b f h) ws rooms at
  unfolding flagging
  flags-uncounted e = sym (no_then (index (spot f 0)) (flags_from b f h) ws rooms at e)

  module _ {k a : ℕ} (e : ok k a ≡ run (index (spot f 0)) ws rooms at) where
    pub flags_ok : {u : List ℤ} {m : ℕ} → ok u m ≡ run (turns k 0 (flag_one b h.counts.states (f + 1)) h.table) ws rooms a → ok (with (moved h.counts m) u) m ≡ run (flagging b f h) ws rooms at
    unfolding run flagging
    flags_ok g =
        sym (ok_then (index (spot f 0)) (flags_from b f h) ws rooms at e
        ∙ ok_then (turns k 0 (flag_one b h.counts.states (f + 1)) h.table) (flags_end h.counts) ws rooms a g)

    pub flags_stop : {r : Refusal} → no r ≡ run (turns k 0 (flag_one b h.counts.states (f + 1)) h.table) ws rooms a → no r ≡ run (flagging b f h) ws rooms at
    unfolding flagging
    flags_stop g =
        sym (ok_then (index (spot f 0)) (flags_from b f h) ws rooms at e
        ∙ no_then (turns k 0 (flag_one b h.counts.states (f + 1)) h.table) (flags_end h.counts) ws rooms a g)
