-- A set's part of the range table while its intervals are gathered there, and what stands there once they are put in order.
use Rattle.std.specs.Prelude.{◌≡◌, Bool, true, false, ℤ, take, drop}
use Rattle.std.proofs.Math.Path.{refl, sym, ap}
use Rattle.std.proofs.Common.{◌∙◌, arith, length-append, length-take}
use mathlib.Core.List.{List, [], ◌∷◌, ◌++◌, append_assoc, append-nil}
use Prim.Native.Nat.{ℕ, zero, suc, ◌+◌, ◌*◌, ◌≤◌}
use Rattle.std.proofs.Math.ListN.{length}
use Rattle.format.specs.declared.Refusal.{Refusal}
use Rattle.format.specs.Reading.{Table, Outcome, ok, no, Prog, done, run, spot, get, times, ◌>>=◌, pick}
use Rattle.format.specs.Sets.{Range, range, keep}
use Rattle.format.specs.Sections.{bit, eof, interval, none}
use Rattle.laws.specs.Running.{after, run_bind, ok_then, no_then, turns}
use Rattle.laws.specs.Fits.{keep_short, eof_long}
use Rattle.inplace.specs.Sets.{kept_in}
use Rattle.ordering.specs.Records.{put_at}
use Rattle.ranges.specs.Laid.{ranges_in, kept_of, over}
use Rattle.ranges.specs.Words.{ranges_long, ranges_in_lem, over-drop, over-put}

-- A part, and how many ranges the set has at its front.
pub record Part : Type 0 where
  pub words : List ℤ
  pub kept : ℕ

abbrev pub part : List ℤ → ℕ → Part
part t k = record { words = t; kept = k }

-- One interval of set s is read into the i-th record.
unfoldable pub gather_one : ℕ → ℕ → List ℤ → Prog (List ℤ)
gather_one s i t = interval s >>= (λ r. done (put_at t i r))

-- "The EOF flag, if not 0, adds −1."
abbrev pub begun : Bool → List ℤ → List ℤ
begun b t = pick b (put_at t 0 (range none none)) t

-- A part of which the set may use N records: what it keeps there, and how many ranges that is.
abbrev pub kept_part : ℕ → List ℤ → List Range → Part
kept_part N t l = part (kept_in N l t) (length l)

-- Set s, of n intervals, with the flag or without.
unfoldable pub merging : ℕ → Bool → ℕ → List ℤ → Prog Part
merging s b n t = times n 0 (λ j. interval s) >>= (λ l. done (kept_part (n + bit b) t (keep (eof b ++ l))))

-- ---- an interval that was read

abbrev stopped : ℕ → ℤ → Prog Range
stopped n s = get (spot 22 n) >>= (λ e. done (range s e))

module _ (n i : ℕ) (t ws : List ℤ) (room : Table → ℕ) (at : ℕ) where
  interval_is : run (interval n) ws room at ≡ run (get (spot 21 n) >>= stopped n) ws room at
  unfolding interval
  interval_is = refl

  pub one_ok : {s e : ℤ} {m k : ℕ} → ok s m ≡ run (get (spot 21 n)) ws room at → ok e k ≡ run (get (spot 22 n)) ws room m → ok (put_at t i (range s e)) k ≡ run (gather_one n i t) ws room at
  unfolding run gather_one
  one_ok {s} {e} {m} f g =
      sym (ok_then (interval n) (λ r. done (put_at t i r)) ws room at
      (sym (interval_is ∙ ok_then (get (spot 21 n)) (stopped n) ws room at f ∙ ok_then (get (spot 22 n)) (λ e. done (range s e)) ws room m g)))

  pub one_half : {s : ℤ} {m : ℕ} {q : Refusal} → ok s m ≡ run (get (spot 21 n)) ws room at → no q ≡ run (get (spot 22 n)) ws room m → no q ≡ run (gather_one n i t) ws room at
  unfolding gather_one
  one_half {s} {m} f g =
      sym (no_then (interval n) (λ r. done (put_at t i r)) ws room at
      (sym (interval_is ∙ ok_then (get (spot 21 n)) (stopped n) ws room at f ∙ no_then (get (spot 22 n)) (λ e. done (range s e)) ws room m g)))

  pub one_no : {q : Refusal} → no q ≡ run (get (spot 21 n)) ws room at → no q ≡ run (gather_one n i t) ws room at
  unfolding gather_one
  one_no f = sym (no_then (interval n) (λ r. done (put_at t i r)) ws room at (sym (interval_is ∙ no_then (get (spot 21 n)) (stopped n) ws room at f)))

-- ---- all of them

pub after_map : {A B C : Type 0} (o : Outcome A) (f : A → B) (k : B → ℕ → Outcome C) → after (after o (λ a n. ok (f a) n)) k ≡ after o (λ a n. k (f a) n)
after_map (ok a n) f k = refl
after_map (no q) f k = refl

-- A part whose first N records are merged.
abbrev pub merged_part : ℕ → List ℤ → Part
merged_part N v = kept_part N v (kept_of v N)

-- its records were gathered from l
merged_kept : (N : ℕ) (l : List Range) (t : List ℤ) → length l ≡ N → merged_part N (over l t) ≡ kept_part N t (keep l)
merged_kept N l t e = rw (← e) (rw (ranges_in_lem l (drop (2 * length l) t), over-drop l t (2 * length l) (omega arith)) refl)

module _ (s N : ℕ) (t ws : List ℤ) (room : Table → ℕ) (fits : 2 * N ≤ length t) where
  -- n intervals, gathered behind l
  gathered : (n i j : ℕ) (l : List Range) (at : ℕ) → length l ≡ i → i + n ≡ N
      → after (run (turns n i (gather_one s) (over l t)) ws room at) (λ v m. ok (merged_part N v) m) ≡ after (run (times n j (λ k. interval s)) ws room at) (λ rs m. ok (kept_part N t (keep (l ++ rs))) m)
  unfolding run turns times gather_one
  gathered zero i j l at e h = ap (λ (x : Part). ok x at) (merged_kept N l t (omega arith) ∙ ap (λ (m : List Range). kept_part N t (keep m)) (sym (append-nil l)))
  gathered (suc n) i j l at e h = go (gathered n (i + 1) (j + 1)) (run (interval s) ws room at) refl
    where
      go : ((u : List Range) (m : ℕ) → length u ≡ i + 1 → i + 1 + n ≡ N → after (run (turns n (i + 1) (gather_one s) (over u t)) ws room m) (λ v k. ok (merged_part N v) k) ≡ after (run (times n (j + 1) (λ k. interval s)) ws room m) (λ rs k. ok (kept_part N t (keep (u ++ rs))) k))
          → (o : Outcome Range) → run (interval s) ws room at ≡ o
          → after (run (turns (suc n) i (gather_one s) (over l t)) ws room at) (λ v m. ok (merged_part N v) m) ≡ after (run (times (suc n) j (λ k. interval s)) ws room at) (λ rs m. ok (kept_part N t (keep (l ++ rs))) m)
      go ih (ok r m) d =
          let u = l ++ (r ∷ []) in
          let stored : put_at (over l t) i r ≡ over u t = rw (← e) (over-put l t r (omega arith)) in
          ap (λ (o : Outcome (List ℤ)). after o (λ v m. ok (merged_part N v) m))
          (ok_then (gather_one s i (over l t)) (λ v. turns n (i + 1) (gather_one s) v) ws room at (sym (ok_then (interval s) (λ r. done (put_at (over l t) i r)) ws room at (sym d)))
          ∙ ap (λ (v : List ℤ). run (turns n (i + 1) (gather_one s) v) ws room m) stored)
          ∙ ih u m (length-append l (r ∷ []) ∙ omega arith) (omega arith)
          ∙ ap (λ (f : List Range → List Range). after (run (times n (j + 1) (λ k. interval s)) ws room m) (λ rs k. ok (kept_part N t (keep (f rs))) k)) (λ k rs. append_assoc l (r ∷ []) rs k)
          ∙ sym (ap (λ (o : Outcome (List Range)). after o (λ rs k. ok (kept_part N t (keep (l ++ rs))) k))
          (ok_then (interval s) (λ a. times n (j + 1) (λ k. interval s) >>= (λ rs. done (a ∷ rs))) ws room at (sym d) ∙ run_bind (times n (j + 1) (λ k. interval s)) (λ rs. done (r ∷ rs)) ws room m)
          ∙ after_map (run (times n (j + 1) (λ k. interval s)) ws room m) (λ rs. r ∷ rs) (λ rs k. ok (kept_part N t (keep (l ++ rs))) k))
      go ih (no q) d =
          ap (λ (o : Outcome (List ℤ)). after o (λ v m. ok (merged_part N v) m))
          (no_then (gather_one s i (over l t)) (λ v. turns n (i + 1) (gather_one s) v) ws room at (sym (no_then (interval s) (λ r. done (put_at (over l t) i r)) ws room at (sym d))))
          ∙ ap (λ (o : Outcome (List Range)). after o (λ rs k. ok (kept_part N t (keep (l ++ rs))) k))
          (sym (no_then (interval s) (λ a. times n (j + 1) (λ k. interval s) >>= (λ rs. done (a ∷ rs))) ws room at (sym d)))

-- ---- a whole set

begun-over : (b : Bool) (t : List ℤ) → 2 * bit b ≤ length t → begun b t ≡ over (eof b) t
begun-over true t h = over-put [] t (range none none) h
begun-over false t h = refl

-- the flag and n intervals, gathered and put in order
pub set_merged : (s : ℕ) (b : Bool) (n : ℕ) (t ws : List ℤ) (room : Table → ℕ) (at : ℕ) → 2 * (n + bit b) ≤ length t
    → after (run (turns n (bit b) (gather_one s) (begun b t)) ws room at) (λ v m. ok (merged_part (n + bit b) v) m) ≡ run (merging s b n t) ws room at
unfolding merging run
set_merged s b n t ws room at h =
    let N = n + bit b in
    ap (λ (v : List ℤ). after (run (turns n (bit b) (gather_one s) v) ws room at) (λ v m. ok (merged_part N v) m)) (begun-over b t (omega arith))
    ∙ gathered s N t ws room h n (bit b) 0 (eof b) at (eof_long b) (omega arith)
    ∙ sym (run_bind (times n 0 (λ j. interval s)) (λ l. done (kept_part N t (keep (eof b ++ l)))) ws room at)

-- what the code's answers say of that
module _ (s : ℕ) (b : Bool) (n first : ℕ) (t w ws : List ℤ) (room : Table → ℕ) (at : ℕ) (h : 2 * (n + bit b) ≤ length t) (e : first ≡ bit b) (f : w ≡ begun b t) where
  by_code : after (run (turns n first (gather_one s) w) ws room at) (λ v m. ok (merged_part (n + first) v) m) ≡ run (merging s b n t) ws room at
  by_code = rw (e, f) (set_merged s b n t ws room at h)

  pub set_ok : {v : List ℤ} {k : ℕ} → ok v k ≡ run (turns n first (gather_one s) w) ws room at → ok (merged_part (n + first) v) k ≡ run (merging s b n t) ws room at
  set_ok g = ap (λ (o : Outcome (List ℤ)). after o (λ v m. ok (merged_part (n + first) v) m)) g ∙ by_code

  pub set_no : {q : Refusal} → no q ≡ run (turns n first (gather_one s) w) ws room at → no q ≡ run (merging s b n t) ws room at
  set_no g = ap (λ (o : Outcome (List ℤ)). after o (λ v m. ok (merged_part (n + first) v) m)) g ∙ by_code

-- what the set keeps is no more than it was given
pub kept_few : (v : List ℤ) (N : ℕ) → length (kept_of v N) ≤ N
kept_few v N = omega (arith, keep_short (ranges_in v N), ranges_long (take (2 * N) v), length-take (2 * N) v)
