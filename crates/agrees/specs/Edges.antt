-- The edges that are read: put and chained one after another, they are the edges of the section, in its order.
use Rattle.std.specs.Prelude.{◌≡◌, ℤ}
use Rattle.std.proofs.Math.Path.{refl, sym, ap}
use Rattle.std.proofs.Common.{◌∙◌, arith}
use mathlib.Core.List.{List, [], ◌∷◌, ◌++◌, append-nil, append_assoc}
use Prim.Native.Nat.{ℕ, zero, suc, ◌+◌, ◌*◌, ◌≤◌, ◌<◌}
use Rattle.std.proofs.Math.Nat.{sub-zero}
use Rattle.std.proofs.Math.ListN.{length, length-append}
use Rattle.format.specs.Reading.{Table, Edges, Outcome, ok, done, run, ◌>>=◌, times, count}
use Rattle.format.specs.Sections.{State, Edge, edge, edges}
use Rattle.format.specs.Tables.{zeros}
use Rattle.format.specs.declared.Counts.{Counts}
use Rattle.laws.specs.Running.{after, run_bind, turns}
use Rattle.laws.specs.Gives.{Any, Every, gives_count}
use Rattle.inplace.specs.Held.{Held, with}
use Rattle.inplace.specs.Sections.{counted}
use Rattle.inplace.specs.Links.{Net, net, linked, edge_one, edges_end, edges_from, edging}
use Rattle.agrees.specs.Forms.{states_form, edges_form}
use Rattle.agrees.specs.After.{given, after_same, after-after, laid-first, same_first, after_map, times_long}
use Rattle.agrees.specs.Chained.{linked-more}
use Rattle.laws.specs.Sound.{Sound, edge-sound, edges-sound}
use Rattle.laws.specs.Lists.{every_map}

-- ---- every edge's source is a listed state

module _ (rooms : Table → ℕ) (n nsets : ℕ) where
  abbrev Listed : Edge → Type 0
  Listed e = e.source < n

  pub edges-listed : (ws : List ℤ) (at : ℕ) (es : List Edge) (m : ℕ) → run (edges n nsets) ws rooms at ≡ ok es m → Every Listed es
  edges-listed ws at es m e =
      every_map (Sound n nsets) Listed (λ x s. s.listed) es
      (given rooms (Every (Sound n nsets)) (edges n nsets) (edges-sound rooms n nsets) ws at e)

-- ---- the turns

module _ (ss : List State) (a b : ℕ) (F : ℕ → ℕ) (nsets : ℕ) (ws : List ℤ) (rooms : Table → ℕ) where
  abbrev tables : List Edge → Net
  tables es = net (states_form a F es ss) (edges_form b (λ i. 0) es)

  -- n edges more, behind the i that es are
  edges-turns : (n i : ℕ) (es : List Edge) (at : ℕ) → i ≡ length es → 8 * (i + n) ≤ b → i + n ≤ 65536
      → run (turns n i (edge_one (length ss) nsets) (tables es)) ws rooms at ≡ after (run (times n i (edge (length ss) nsets)) ws rooms at) (λ xs m. ok (tables (es ++ xs)) m)
  unfolding run turns times edge_one
  edges-turns zero i es at e h k = ap (λ (l : List Edge). ok (tables l) at) (sym (append-nil es))
  edges-turns (suc n) i es at e h k =
      laid-first ws rooms at (edge (length ss) nsets i >>= (λ x. done (linked i 0 x (tables es)))) _ (edge (length ss) nsets i) _ (λ x m. linked i 0 x (tables es)) _
      (run_bind (edge (length ss) nsets i) (λ x. done (linked i 0 x (tables es))) ws rooms at)
      (λ x m q.
      ap (λ (t : Net). run (turns n (i + 1) (edge_one (length ss) nsets) t) ws rooms m) (one x (given rooms (Sound (length ss) nsets) (edge (length ss) nsets i) (edge-sound rooms (length ss) nsets i) ws at q).listed)
      ∙ edges-turns n (i + 1) (es ++ (x ∷ [])) m (omega (arith, length-append es (x ∷ []))) (omega arith) (omega arith)
      ∙ after_same (run (times n (i + 1) (edge (length ss) nsets)) ws rooms m) _ (λ xs k. ok (tables (es ++ (x ∷ xs))) k) (λ xs k d. ap (λ (l : List Edge). ok (tables l) k) (append_assoc es (x ∷ []) xs))
      ∙ sym (after_map ws rooms m (times n (i + 1) (edge (length ss) nsets)) (λ xs. x ∷ xs) (λ xs k. ok (tables (es ++ xs)) k)))
    where
      one : (x : Edge) → x.source < length ss → linked i 0 x (tables es) ≡ tables (es ++ (x ∷ []))
      one x l = rw e (linked-more ss a b F (λ j. 0) es x l (omega arith) (omega arith) 0 refl)

-- ---- the section

module _ (ss : List State) (a b : ℕ) (F : ℕ → ℕ) (c : Counts) (ws : List ℤ) (rooms : Table → ℕ) (states : c.states ≡ length ss) (roomy : 8 * rooms Edges ≤ b) (few : rooms Edges ≤ 65536) where
  abbrev begun : Held Net
  begun = with c (net (states_form a F [] ss) (zeros b))

  abbrev filled : List Edge → ℕ → Outcome (Held Net)
  filled es m = ok (with (counted Edges c (length es) m) (net (states_form a F es ss) (edges_form b (λ i. 0) es))) m

  -- n edges, where there is room for them
  edges_from_lem : (n m : ℕ) → n ≤ rooms Edges → run (edges_from begun n) ws rooms m ≡ after (run (times n 0 (edge (length ss) c.sets)) ws rooms m) filled
  unfolding run
  edges_from_lem n m h =
      run_bind (turns n 0 (edge_one c.states c.sets) begun.table) (edges_end c n) ws rooms m
      ∙ ap (λ (k : ℕ). after (run (turns n 0 (edge_one k c.sets) begun.table) ws rooms m) (λ t i. run (edges_end c n t) ws rooms i)) states
      ∙ ap (λ (k : ℕ). after (run (turns n 0 (edge_one (length ss) c.sets) (net (states_form a F [] ss) (zeros k))) ws rooms m) (λ t i. run (edges_end c n t) ws rooms i)) (sym (sub-zero b))
      ∙ ap (λ (o : Outcome Net). after o (λ t i. run (edges_end c n t) ws rooms i)) (edges-turns ss a b F c.sets ws rooms n 0 [] m refl (omega arith) (omega arith))
      ∙ after-after (run (times n 0 (edge (length ss) c.sets)) ws rooms m) (λ es i. ok (tables ss a b F c.sets ws rooms es) i) (λ t i. run (edges_end c n t) ws rooms i)
      ∙ after_same (run (times n 0 (edge (length ss) c.sets)) ws rooms m) _ filled
      (λ es i q. ap (λ (k : ℕ). ok (with (counted Edges c k i) (tables ss a b F c.sets ws rooms es)) i) (sym (times_long (edge (length ss) c.sets) n 0 ws rooms m q)))

  -- The section of edges fills the tables with the edges that it gives.
  pub edging_is : (at : ℕ) → run (edging begun) ws rooms at ≡ after (run (edges (length ss) c.sets) ws rooms at) filled
  unfolding edging edges
  edging_is at =
      same_first ws rooms at (count Edges 23) (edges_from begun) (λ n. times n 0 (edge (length ss) c.sets)) filled
      (λ n m q. edges_from_lem n m (given rooms (λ k. k ≤ rooms Edges) (count Edges 23) (gives_count Any rooms Edges 23) ws at q))
