-- Records that are put into a table one after another are the records that were read, in a row.
use Rattle.std.specs.Prelude.{◌≡◌, ℤ, take, drop}
use Rattle.std.proofs.Math.Path.{refl, ap}
use Rattle.std.proofs.Common.{sym, ◌∙◌, arith, mul-one, add-one, length-append, length-take, length-drop, take-append-drop, take_at, drop-drop, length-take-le}
use mathlib.Core.List.{List, ◌∷◌, ◌++◌, append_assoc}
use Prim.Native.Nat.{ℕ, zero, suc, ◌+◌, ◌*◌, ◌≤◌}
use Rattle.std.proofs.Math.Nat.{mul-suc, mul-add, add-zero}
use Rattle.std.proofs.Math.ListN.{length}
use Rattle.std.proofs.Math.Seq.{drop-append-add}
use Rattle.format.specs.Reading.{Table, Outcome, ok, no, Prog, done, run, times, ◌>>=◌}
use Rattle.format.specs.Links.{flat}
use Rattle.laws.specs.Running.{turns}
use Rattle.laws.specs.Running.{after, run_bind, ok_then, no_then}

-- the i-th record of w words, put into a table
abbrev pub put : ℕ → ℕ → List ℤ → List ℤ → List ℤ
put w i r t = take (w * i) t ++ (r ++ drop (w * i + w) t)

-- the i-th record is what p gives
abbrev pub puts : ℕ → (ℕ → Prog (List ℤ)) → ℕ → List ℤ → Prog (List ℤ)
puts w p i t = p i >>= (λ r. done (put w i r t))

-- the table t, with records of w words from the i-th on
abbrev pub laid : ℕ → ℕ → ℕ → List ℤ → List (List ℤ) → List ℤ
laid w i n t rs = take (w * i) t ++ (flat rs ++ drop (w * (i + n)) t)

put-take : (w i : ℕ) (r t : List ℤ) → length r ≡ w → w * i ≤ length t → take (w * (i + 1)) (put w i r t) ≡ take (w * i) t ++ r
put-take w i r t h b =
    let e : w * (i + 1) ≡ w * i + w = rw add-one (mul-suc w i) in
    ap (λ (l : List ℤ). take (w * (i + 1)) l) (sym (append_assoc (take (w * i) t) r (drop (w * i + w) t)))
    ∙ take_at (take (w * i) t ++ r) (drop (w * i + w) t) (w * (i + 1))
    (length-append (take (w * i) t) r ∙ omega (arith, length-take-le (w * i) t b, e))

put-drop : (w i n : ℕ) (r t : List ℤ) → length r ≡ w → w * i ≤ length t → drop (w * (i + 1 + n)) (put w i r t) ≡ drop (w * (i + suc n)) t
put-drop w i n r t h b =
    let f : w * (i + 1 + n) ≡ w * i + w + w * n = rw (mul-add w (i + 1) n, mul-add w i 1, mul-one w) refl in
    let g : w * (i + suc n) ≡ w * i + w + w * n = rw (mul-add w i (suc n), mul-suc w n) (omega arith) in
    let e : w * (i + 1 + n) ≡ length (take (w * i) t ++ r) + w * n = omega (arith, f, length-append (take (w * i) t) r, length-take-le (w * i) t b) in
    rw (e, ← append_assoc (take (w * i) t) r (drop (w * i + w) t))
    (drop-append-add (take (w * i) t ++ r) (drop (w * i + w) t) (w * n)
    ∙ drop-drop (w * n) (w * i + w) t
    ∙ ap (λ (k : ℕ). drop k t) (sym g))

laid_more : (w i n : ℕ) (r t : List ℤ) (rs : List (List ℤ)) → length r ≡ w → w * i ≤ length t → laid w (i + 1) n (put w i r t) rs ≡ laid w i (suc n) t (r ∷ rs)
laid_more w i n r t rs h b = rw (put-take w i r t h b, put-drop w i n r t h b) (simp append_assoc)

put-length : (w i : ℕ) (r t : List ℤ) → length r ≡ w → w * i + w ≤ length t → length (put w i r t) ≡ length t
put-length w i r t h b = simp (length-append, length-take, length-drop) (omega arith)

step : (w i n : ℕ) (r t : List ℤ) → length r ≡ w → w * i ≤ length t → (o : Outcome (List (List ℤ)))
    → after o (λ rs k. ok (laid w (i + 1) n (put w i r t) rs) k) ≡ after (after o (λ rs k. ok (r ∷ rs) k)) (λ rs k. ok (laid w i (suc n) t rs) k)
step w i n r t h b (ok rs k) = ap (λ (l : List ℤ). ok l k) (laid_more w i n r t rs h b)
step w i n r t h b (no q) = refl

module _ (w : ℕ) (p : ℕ → Prog (List ℤ)) (ws : List ℤ) (room : Table → ℕ) (wide : (i at : ℕ) (r : List ℤ) (m : ℕ) → run (p i) ws room at ≡ ok r m → length r ≡ w) where
  -- n records put from the i-th on are n records read, laid in a row
  pub puts-times : (n i : ℕ) (t : List ℤ) (at : ℕ) → w * (i + n) ≤ length t
      → run (turns n i (puts w p) t) ws room at ≡ after (run (times n i p) ws room at) (λ rs m. ok (laid w i n t rs) m)
  unfolding run turns times
  puts-times zero i t at b = ap (λ (l : List ℤ). ok l at) (sym (rw add-zero (take-append-drop (w * i) t)))
  puts-times (suc n) i t at b = go (puts-times n (i + 1)) (run (p i) ws room at) refl
    where
      bound : w * i + w + w * n ≤ length t
      bound = omega (arith, b, mul-add w i (suc n), mul-suc w n)

      go : ((u : List ℤ) (m : ℕ) → w * (i + 1 + n) ≤ length u → run (turns n (i + 1) (puts w p) u) ws room m ≡ after (run (times n (i + 1) p) ws room m) (λ rs k. ok (laid w (i + 1) n u rs) k))
          → (o : Outcome (List ℤ)) → run (p i) ws room at ≡ o
          → run (turns (suc n) i (puts w p) t) ws room at ≡ after (run (times (suc n) i p) ws room at) (λ rs m. ok (laid w i (suc n) t rs) m)
      go ih (ok r m) e =
          let h : length r ≡ w = wide i at r m e in
          let f : w * (i + 1 + n) ≡ w * i + w + w * n = rw (mul-add w (i + 1) n, mul-add w i 1, mul-one w) refl in
          ok_then (puts w p i t) (λ u. turns n (i + 1) (puts w p) u) ws room at (sym (ok_then (p i) (λ r. done (put w i r t)) ws room at (sym e)))
          ∙ ih (put w i r t) m (omega (arith, f, bound, put-length w i r t h (omega (arith, bound))))
          ∙ step w i n r t h (omega (arith, bound)) (run (times n (i + 1) p) ws room m)
          ∙ ap (λ (o : Outcome (List (List ℤ))). after o (λ rs k. ok (laid w i (suc n) t rs) k))
          (sym (ok_then (p i) (λ a. times n (i + 1) p >>= (λ l. done (a ∷ l))) ws room at (sym e) ∙ run_bind (times n (i + 1) p) (λ l. done (r ∷ l)) ws room m))
      go ih (no q) e =
          no_then (puts w p i t) (λ u. turns n (i + 1) (puts w p) u) ws room at (sym (no_then (p i) (λ r. done (put w i r t)) ws room at (sym e)))
          ∙ ap (λ (o : Outcome (List (List ℤ))). after o (λ rs k. ok (laid w i (suc n) t rs) k))
          (sym (no_then (p i) (λ a. times n (i + 1) p >>= (λ l. done (a ∷ l))) ws room at (sym e)))
