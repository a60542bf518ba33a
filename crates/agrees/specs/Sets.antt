-- The sets: what each keeps, one behind the other in the range table, and the sets' own records.
use Rattle.std.specs.Prelude.{◌≡◌, Bool, ℤ, pos, drop}
use Rattle.std.proofs.Math.Path.{refl, sym, ap}
use Rattle.std.proofs.Common.{◌∙◌, arith, zero-add, take_at, drop_at}
use mathlib.Core.List.{List, [], ◌∷◌, ◌++◌, append_assoc, append-nil}
use Prim.Native.Nat.{ℕ, zero, suc, ◌+◌, ◌-◌, ◌*◌, ◌≤◌}
use Rattle.std.proofs.Math.Nat.{sub-zero}
use Rattle.std.proofs.Math.ListN.{length, length-append}
use Rattle.std.proofs.lemmas.List.{replicate-append-replicate}
use Rattle.format.specs.Reading.{Table, Ranges, Sets, Outcome, ok, run, times, index, count, spot}
use Rattle.format.specs.Sets.{Range, keep}
use Rattle.format.specs.Sections.{bit, eof, interval, flagged, set, sets_from, sets}
use Rattle.format.specs.Links.{each, flat}
use Rattle.format.specs.Tables.{numbered, list_of, range_words, set_records, zeros}
use Rattle.format.specs.declared.Counts.{Counts}
use Rattle.laws.specs.Running.{after, run_bind, turns}
use Rattle.laws.specs.Collect.{put}
use Rattle.laws.specs.Gives.{Any, gives_done, gives_bind, then, gives_count}
use Rattle.laws.specs.Fits.{keep_short, sets_long, sets-wide, eof_long, flagged-room}
use Rattle.laws.specs.Asked.{words_long}
use Rattle.inplace.specs.Held.{Held, with}
use Rattle.inplace.specs.Sets.{Keeping, kept_at, set_done, set_one, Sets2, sets2, keeping, sets_counted, sets_end, sets_from as filling, setting}
use Rattle.agrees.specs.Forms.{padded}
use Rattle.agrees.specs.Rows.{drop-zeros, flat-more, put-more}
use Rattle.agrees.specs.After.{Given, given, after_same, after-after, laid-first, same_first, after_map, times_long}
use Rattle.laws.specs.Rows.{rows_long}

-- ---- ranges

-- more members, in a row
rows_behind : {A B : Type 0} (i : ℕ) (f : A → List B) (l k : List A) → flat (numbered i (λ j a. f a) (l ++ k)) ≡ flat (numbered i (λ j a. f a) l) ++ each f k
rows_behind i f [] [] = refl
rows_behind i f [] (a ∷ k) = ap (λ x. f a ++ x) (rows_behind (i + 1) f [] k)
rows_behind i f (a ∷ l) k = ap (λ x. f a ++ x) (rows_behind (i + 1) f l k) ∙ sym (append_assoc (f a) (flat (numbered (i + 1) (λ j a. f a) l)) (each f k))

-- What a set keeps, k of at most N ranges, behind the ranges l.
kept-behind : (a N : ℕ) (l k : List Range) → length k ≤ N → 2 * (length l + N) ≤ a → kept_at (length l) N k (padded a (list_of range_words l)) ≡ padded a (list_of range_words (l ++ k))
kept-behind a N l k h b =
    let R : List ℤ = flat (list_of range_words l) in
    let long : length R ≡ 2 * length l = rows_long 2 (λ i r. range_words r) (λ j r. refl) l in
    let all : flat (list_of range_words (l ++ k)) ≡ R ++ each range_words k = rows_behind 0 range_words l k in
    let more : length (each range_words k) ≡ 2 * length k = words_long k in
    let left : (2 * N - 2 * length k) + (a - length R - 2 * N) ≡ a - length (flat (list_of range_words (l ++ k))) = omega (arith, ap length all, length-append R (each range_words k)) in
    ap (λ (x : List ℤ). x ++ (each range_words k ++ (zeros (2 * N - 2 * length k) ++ drop (2 * N) (drop (2 * length l) (padded a (list_of range_words l)))))) (take_at R (zeros (a - length R)) (2 * length l) long)
    ∙ ap (λ (x : List ℤ). R ++ (each range_words k ++ (zeros (2 * N - 2 * length k) ++ drop (2 * N) x))) (drop_at R (zeros (a - length R)) (2 * length l) long)
    ∙ ap (λ (x : List ℤ). R ++ (each range_words k ++ (zeros (2 * N - 2 * length k) ++ x))) (drop-zeros (2 * N) (a - length R) (omega arith))
    ∙ ap (λ (x : List ℤ). R ++ (each range_words k ++ x)) (replicate-append-replicate (2 * N - 2 * length k) (a - length R - 2 * N) (pos 0) ∙ ap zeros left)
    ∙ sym (append_assoc R (each range_words k) (zeros (a - length (flat (list_of range_words (l ++ k))))))
    ∙ ap (λ (x : List ℤ). x ++ zeros (a - length (flat (list_of range_words (l ++ k))))) (sym all)

-- ---- the sets' records

records-more : (p : ℕ) (ls : List (List Range)) (k : List Range) → set_records p (ls ++ (k ∷ [])) ≡ set_records p ls ++ ((pos (p + length (flat ls)) ∷ pos (length k) ∷ []) ∷ [])
records-more p [] k = ap (λ (n : ℕ). (pos n ∷ pos (length k) ∷ []) ∷ []) (omega arith)
records-more p (l ∷ ls) k =
    let e : p + length l + length (flat ls) ≡ p + length (l ++ flat ls) = omega (arith, length-append l (flat ls)) in
    ap (λ (x : List (List ℤ)). (pos p ∷ pos (length l) ∷ []) ∷ x) (records-more (p + length l) ls k ∙ ap (λ (n : ℕ). set_records (p + length l) ls ++ ((pos n ∷ pos (length k) ∷ []) ∷ [])) e)

record_behind : (b i : ℕ) (ls : List (List Range)) (k : List Range) → i ≡ length ls → 2 * i + 2 ≤ b → put 2 i (pos (length (flat ls)) ∷ pos (length k) ∷ []) (padded b (set_records 0 ls)) ≡ padded b (set_records 0 (ls ++ (k ∷ [])))
record_behind b i ls k e h =
    let q : i ≡ length (set_records 0 ls) = e ∙ sym (sets_long 0 ls) in
    ap (λ (n : ℕ). put 2 n (pos (length (flat ls)) ∷ pos (length k) ∷ []) (padded b (set_records 0 ls))) q
    ∙ put-more 2 b (set_records 0 ls) (pos (length (flat ls)) ∷ pos (length k) ∷ []) (sets-wide 0 ls) refl (omega arith)
    ∙ ap (λ (n : ℕ). padded b (set_records 0 ls ++ ((pos n ∷ pos (length k) ∷ []) ∷ []))) (sym (zero-add (length (flat ls))))
    ∙ ap (padded b) (sym (records-more 0 ls k))

-- ---- the turns

sets-counted : (rooms : Table → ℕ) (n i kept : ℕ) → Given rooms (λ ls. length ls ≡ n) (sets_from n i kept)
unfolding sets_from
sets-counted rooms zero i kept = gives_done Any rooms (λ ls. length ls ≡ 0) [] refl
sets-counted rooms (suc n) i kept =
    then Any rooms (λ ls. length ls ≡ suc n) (set i kept) _ (λ s.
    gives_bind Any rooms (λ ls. length ls ≡ n) (λ ls. length ls ≡ suc n) (sets_from n (i + 1) (kept + length s)) _ (sets-counted rooms n (i + 1) (kept + length s)) (λ ls e.
    gives_done Any rooms (λ ls. length ls ≡ suc n) (s ∷ ls) (ap suc e)))

all_same : {r r' s s' : List ℤ} {k k' : ℕ} → r ≡ r' → s ≡ s' → k ≡ k' → ◌≡◌ {A = Keeping} (record { ranges = r; sets = s; kept = k }) (record { ranges = r'; sets = s'; kept = k' })
all_same e f g = cc

-- The tables that hold the sets ls.
abbrev holding : ℕ → ℕ → List (List Range) → Keeping
holding a b ls = record { ranges = padded a (list_of range_words (flat ls)); sets = padded b (set_records 0 ls); kept = length (flat ls) }

module _ (a b : ℕ) (ws : List ℤ) (rooms : Table → ℕ) (roomy : 2 * rooms Ranges ≤ a) where
  -- one set more, k
  one_done : (i n : ℕ) (f : Bool) (ls : List (List Range)) (l : List Range) → i ≡ length ls → 2 * i + 2 ≤ b → length (flat ls) + n + bit f ≤ rooms Ranges → length l ≡ n
      → set_done i (holding a b ls) n f l ≡ holding a b (ls ++ (keep (eof f ++ l) ∷ []))
  one_done i n f ls l e h room long =
      let k : List Range = keep (eof f ++ l) in
      let more : flat (ls ++ (k ∷ [])) ≡ flat ls ++ k = flat-more ls k in
      all_same
      (kept-behind a (n + bit f) (flat ls) k (omega (arith, keep_short (eof f ++ l), length-append (eof f) l, eof_long f)) (omega arith)
      ∙ ap (λ (x : List Range). padded a (list_of range_words x)) (sym more))
      (record_behind b i ls k e h)
      (sym (length-append (flat ls) k) ∙ ap length (sym more))

  one_set : (i : ℕ) (ls : List (List Range)) (at : ℕ) → i ≡ length ls → 2 * i + 2 ≤ b → run (set_one i (holding a b ls)) ws rooms at ≡ after (run (set i (length (flat ls))) ws rooms at) (λ s m. ok (holding a b (ls ++ (s ∷ []))) m)
  unfolding set_one set run
  one_set i ls at e h =
      same_first ws rooms at (index (spot 19 i)) _ _ _ (λ n m x.
      same_first ws rooms m (flagged i (length (flat ls)) n) _ _ _ (λ f k y.
      same_first ws rooms k (times n 0 (λ j. interval i)) _ _ _ (λ l j z.
      ap (λ (t : Keeping). ok t j) (one_done i n f ls l e h (given rooms (λ f. length (flat ls) + n + bit f ≤ rooms Ranges) (flagged i (length (flat ls)) n) (flagged-room rooms i (length (flat ls)) n) ws m y) (times_long (λ j. interval i) n 0 ws rooms k z)))))

  sets-turns : (n i : ℕ) (ls : List (List Range)) (at : ℕ) → i ≡ length ls → 2 * (i + n) ≤ b
      → run (turns n i set_one (holding a b ls)) ws rooms at ≡ after (run (sets_from n i (length (flat ls))) ws rooms at) (λ ks m. ok (holding a b (ls ++ ks)) m)
  unfolding turns sets_from run
  sets-turns zero i ls at e h = ap (λ (l : List (List Range)). ok (holding a b l) at) (sym (append-nil ls))
  sets-turns (suc n) i ls at e h =
      laid-first ws rooms at (set_one i (holding a b ls)) (λ t. turns n (i + 1) set_one t) (set i (length (flat ls))) _ (λ s m. holding a b (ls ++ (s ∷ []))) _ (one_set i ls at e (omega arith))
      (λ s m x.
      let kept : length (flat (ls ++ (s ∷ []))) ≡ length (flat ls) + length s = ap length (flat-more ls s) ∙ length-append (flat ls) s in
      sets-turns n (i + 1) (ls ++ (s ∷ [])) m (omega (arith, length-append ls (s ∷ []))) (omega arith)
      ∙ ap (λ (k : ℕ). after (run (sets_from n (i + 1) k) ws rooms m) (λ ks j. ok (holding a b ((ls ++ (s ∷ [])) ++ ks)) j)) kept
      ∙ after_same (run (sets_from n (i + 1) (length (flat ls) + length s)) ws rooms m) _ (λ ks j. ok (holding a b (ls ++ (s ∷ ks))) j) (λ ks j y. ap (λ (l : List (List Range)). ok (holding a b l) j) (append_assoc ls (s ∷ []) ks))
      ∙ sym (after_map ws rooms m (sets_from n (i + 1) (length (flat ls) + length s)) (λ ks. s ∷ ks) (λ ks j. ok (holding a b (ls ++ ks)) j)))

  abbrev ending : Counts → ℕ → Keeping → ℕ → Outcome (Held Sets2)
  ending c n x k = ok (with (sets_counted c n x.kept k) (sets2 x.ranges x.sets)) k

  -- The section of sets fills the two tables with the sets that it gives.
  pub sets_are : ((n : ℕ) → n ≤ rooms Sets → 2 * n ≤ b) → (c : Counts) (at : ℕ) → run (setting (with c (sets2 (zeros a) (zeros b)))) ws rooms at
      ≡ after (run sets ws rooms at) (λ ls m. ok (with (sets_counted c (length ls) (length (flat ls)) m) (sets2 (padded a (list_of range_words (flat ls))) (padded b (set_records 0 ls)))) m)
  unfolding setting sets run
  sets_are fit c at =
      same_first ws rooms at (count Sets 18) (filling (with c (sets2 (zeros a) (zeros b)))) (λ n. sets_from n 0 0) _ (λ n m x.
      let start : keeping (sets2 (zeros a) (zeros b)) ≡ holding a b [] = all_same (ap zeros (sym (sub-zero a))) (ap zeros (sym (sub-zero b))) refl in
      run_bind (turns n 0 set_one (keeping (sets2 (zeros a) (zeros b)))) (sets_end c n) ws rooms m
      ∙ ap (λ (t : Keeping). after (run (turns n 0 set_one t) ws rooms m) (ending c n)) start
      ∙ ap (λ (o : Outcome Keeping). after o (ending c n)) (sets-turns n 0 [] m refl (omega (arith, fit n (given rooms (λ n. n ≤ rooms Sets) (count Sets 18) (gives_count Any rooms Sets 18) ws at x))))
      ∙ after-after (run (sets_from n 0 0) ws rooms m) (λ ls k. ok (holding a b ls) k) (ending c n)
      ∙ after_same (run (sets_from n 0 0) ws rooms m) (λ ls k. ending c n (holding a b ls) k) (λ ls k. ending c (length ls) (holding a b ls) k)
      (λ ls k y. ap (λ (i : ℕ). ending c i (holding a b ls) k) (sym (given rooms (λ ls. length ls ≡ n) (sets_from n 0 0) (sets-counted rooms n 0 0) ws m y))))
