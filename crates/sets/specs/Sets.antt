-- One set: its flag, and what follows it.
use Rattle.std.specs.Prelude.{◌≡◌, Bool, List, [], ◌∷◌, ◌++◌, ℕ, ◌+◌, ◌*◌, ◌≤◌, ◌<◌, ℤ, pos, take, drop}
use Rattle.std.proofs.Math.Path.{refl, sym}
use Rattle.std.proofs.Common.{ap, ◌∙◌}
use Rattle.std.proofs.lemmas.Bool.{lt-leb}
use Rattle.format.specs.declared.Refusal.{Refusal}
use Rattle.format.specs.Reading.{Table, Ranges, Outcome, ok, no, Prog, done, need, run, no_room, spot, get, index, times, ◌>>=◌}
use Rattle.format.specs.Sections.{bit, raised, eof, flagged, interval}
use Rattle.format.specs.Sets.{keep}
use Rattle.laws.specs.Reading.{need_ok}
use Rattle.laws.specs.Running.{after, run_bind, ok_then, no_then}
use Rattle.laws.specs.Collect.{put}
use Rattle.inplace.specs.Sets.{Keeping, set_done, set_one}
use Rattle.sets.specs.Merging.{Part, kept_part, merging, after_map}

-- The i-th set, of n intervals, behind its flag b.
unfoldable pub set_rest : ℕ → Keeping → ℕ → Bool → Prog Keeping
set_rest i x n b = times n 0 (λ j. interval i) >>= (λ l. done (set_done i x n b l))

-- The i-th set in the tables, where its part of the range table is y.
abbrev pub set_in : ℕ → Keeping → Part → Keeping
set_in i x y =
    record {
      ranges = take (2 * x.kept) x.ranges ++ y.words;
      sets = put 2 i (pos x.kept ∷ pos y.kept ∷ []) x.sets;
      kept = x.kept + y.kept;
    }

-- ---- the flag

module _ (i kept n : ℕ) (ws : List ℤ) (room : Table → ℕ) (at : ℕ) where
  -- the flag is a word, and its room
  abbrev roomy : ℤ → Prog Bool
  roomy v = need Ranges (kept + n + bit (raised v)) (spot 20 i) at (done (raised v))

  flag_is : run (flagged i kept n) ws room at ≡ run (get (spot 20 i) >>= roomy) ws room at
  unfolding run get flagged ◌>>=◌
  flag_is = refl

  pub flag_ok : {v : ℤ} {m : ℕ} → ok v m ≡ run (get (spot 20 i)) ws room at → kept + n + bit (raised v) ≤ room Ranges → ok (raised v) m ≡ run (flagged i kept n) ws room at
  unfolding run
  flag_ok {v} {m} e h =
      sym (flag_is ∙ ok_then (get (spot 20 i)) roomy ws room at e ∙ need_ok Ranges (kept + n + bit (raised v)) (spot 20 i) at (done (raised v)) ws room m h)

  pub flag_full : {v : ℤ} {m : ℕ} → ok v m ≡ run (get (spot 20 i)) ws room at → room Ranges < kept + n + bit (raised v) → no (no_room (spot 20 i) at (kept + n + bit (raised v))) ≡ run (flagged i kept n) ws room at
  unfolding run
  flag_full {v} e h = sym (flag_is ∙ ok_then (get (spot 20 i)) roomy ws room at e ∙ rw (lt-leb (kept + n + bit (raised v)) (room Ranges) h) refl)

  pub flag_no : {r : Refusal} → no r ≡ run (get (spot 20 i)) ws room at → no r ≡ run (flagged i kept n) ws room at
  flag_no e = sym (flag_is ∙ no_then (get (spot 20 i)) roomy ws room at e)

-- ---- behind the flag

module _ (i : ℕ) (x : Keeping) (n : ℕ) (b : Bool) (ws : List ℤ) (room : Table → ℕ) (at : ℕ) where
  -- a set merges in its part
  rest_is : run (set_rest i x n b) ws room at ≡ after (run (merging i b n (drop (2 * x.kept) x.ranges)) ws room at) (λ y m. ok (set_in i x y) m)
  unfolding run set_rest merging
  rest_is =
      run_bind (times n 0 (λ j. interval i)) (λ l. done (set_done i x n b l)) ws room at
      ∙ sym (ap (λ (o : Outcome Part). after o (λ y m. ok (set_in i x y) m))
      (run_bind (times n 0 (λ j. interval i)) (λ l. done (kept_part (n + bit b) (drop (2 * x.kept) x.ranges) (keep (eof b ++ l)))) ws room at)
      ∙ after_map (run (times n 0 (λ j. interval i)) ws room at) (λ l. kept_part (n + bit b) (drop (2 * x.kept) x.ranges) (keep (eof b ++ l))) (λ y m. ok (set_in i x y) m))

  pub rest_ok : {y : Part} {m : ℕ} → ok y m ≡ run (merging i b n (drop (2 * x.kept) x.ranges)) ws room at → ok (set_in i x y) m ≡ run (set_rest i x n b) ws room at
  rest_ok e = sym (rest_is ∙ rw (← e) refl)

  pub rest_no : {r : Refusal} → no r ≡ run (merging i b n (drop (2 * x.kept) x.ranges)) ws room at → no r ≡ run (set_rest i x n b) ws room at
  rest_no e = sym (rest_is ∙ rw (← e) refl)

-- ---- the whole set

module _ (i : ℕ) (x : Keeping) (ws : List ℤ) (room : Table → ℕ) (at : ℕ) where
  abbrev behind : ℕ → Prog Keeping
  behind n = flagged i x.kept n >>= set_rest i x n

  set_is : run (set_one i x) ws room at ≡ run (index (spot 19 i) >>= behind) ws room at
  unfolding set_one set_rest
  set_is = refl

  -- a set goes on behind its flag
  pub set_ok : {n m k : ℕ} {b : Bool} → ok n m ≡ run (index (spot 19 i)) ws room at → ok b k ≡ run (flagged i x.kept n) ws room m → run (set_one i x) ws room at ≡ run (set_rest i x n b) ws room k
  set_ok {n} {m} e f = set_is ∙ ok_then (index (spot 19 i)) behind ws room at e ∙ ok_then (flagged i x.kept n) (set_rest i x n) ws room m f

  pub set_unflagged : {n m : ℕ} {r : Refusal} → ok n m ≡ run (index (spot 19 i)) ws room at → no r ≡ run (flagged i x.kept n) ws room m → no r ≡ run (set_one i x) ws room at
  set_unflagged {n} {m} e f = sym (set_is ∙ ok_then (index (spot 19 i)) behind ws room at e ∙ no_then (flagged i x.kept n) (set_rest i x n) ws room m f)

  pub set_no : {r : Refusal} → no r ≡ run (index (spot 19 i)) ws room at → no r ≡ run (set_one i x) ws room at
  set_no e = sym (set_is ∙ no_then (index (spot 19 i)) behind ws room at e)
