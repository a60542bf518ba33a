-- The sections that fill one table: states, rules, modes, decisions, actions.
use Rattle.std.specs.Prelude.{◌≡◌, List, [], ◌∷◌, ◌++◌, ℕ, ◌+◌, ◌*◌, ◌≤◌, ℤ, length, take, drop}
use Rattle.std.proofs.Math.Path.{refl, ap}
use Rattle.std.proofs.Common.{sym, ◌∙◌, arith, zero-add}
use Rattle.std.proofs.Math.IntN.{pos}
use Rattle.std.proofs.lemmas.List.{length-replicate}
use Rattle.format.specs.Reading.{Table, States, Rules, Modes, Decisions, Actions, Outcome, ok, Prog, done, run, ◌>>=◌, times, index, count, spot}
use Rattle.format.specs.Sections.{none, state, states, rule, rules, modes, decisions, action, actions}
use Rattle.format.specs.Links.{flat}
use Rattle.format.specs.Tables.{width, list_of, state_word, action_words, zeros}
use Rattle.format.specs.declared.Counts.{Counts}
use Rattle.laws.specs.Running.{after, run_bind, turns}
use Rattle.laws.specs.Collect.{puts, laid, puts-times}
use Rattle.laws.specs.Gives.{Any, gives_done, then, gives_count}
use Rattle.inplace.specs.Held.{with}
use Rattle.inplace.specs.Rows.{state_row}
use Rattle.inplace.specs.Sections.{field_of, row_of, counted, ended, section_from, section}
use Rattle.agrees.specs.Forms.{padded, states_form, rules_form}
use Rattle.agrees.specs.Rows.{drop-zeros}
use Rattle.agrees.specs.After.{given, after_same, after-after, same_first, times_long, times-map}
use Rattle.laws.specs.Rows.{rows_long}

-- so many records, laid from the first on in a table of zeros
laid-all : {A : Type 0} (w N n : ℕ) (f : A → List ℤ) (l : List A) → ((a : A) → length (f a) ≡ w) → length l ≡ n → w * n ≤ N → laid w 0 n (zeros N) (list_of f l) ≡ padded N (list_of f l)
laid-all w N n f l wide e h =
    let long : length (flat (list_of f l)) ≡ w * n = rows_long w (λ i a. f a) (λ j a. wide a) l ∙ ap (λ (m : ℕ). w * m) e in
    let none : w * 0 ≡ 0 = omega arith in
    let all : w * (0 + n) ≡ length (flat (list_of f l)) = ap (λ (m : ℕ). w * m) (zero-add n) ∙ sym long in
    ap (λ (m : ℕ). take m (zeros N) ++ (flat (list_of f l) ++ drop (w * (0 + n)) (zeros N))) none
    ∙ ap (λ (m : ℕ). flat (list_of f l) ++ drop m (zeros N)) all
    ∙ ap (λ (x : List ℤ). flat (list_of f l) ++ x) (drop-zeros (length (flat (list_of f l))) N (omega arith))

-- A section of records that p reads and f lays out. There is room for all that may be counted.
module _ {A : Type 0} (t : Table) (p : ℕ → Prog A) (f : A → List ℤ) (row : row_of t ≡ (λ i. p i >>= (λ a. done (f a)))) (wide : (a : A) → length (f a) ≡ width t)
    (rooms : Table → ℕ) (N : ℕ) (fit : (n : ℕ) → n ≤ rooms t → width t * n ≤ N) (ws : List ℤ) where
  records : (n : ℕ) → n ≤ rooms t → (at : ℕ) → run (turns n 0 (puts (width t) (row_of t)) (zeros N)) ws rooms at ≡ after (run (times n 0 p) ws rooms at) (λ l m. ok (padded N (list_of f l)) m)
  records n h at =
      rw row (
      puts-times (width t) (λ i. p i >>= (λ a. done (f a))) ws rooms
      (λ i m r k e. given rooms (λ r. length r ≡ width t) (p i >>= (λ a. done (f a))) (then Any rooms (λ r. length r ≡ width t) (p i) _ (λ a. gives_done Any rooms (λ r. length r ≡ width t) (f a) (wide a))) ws m e)
      n 0 (zeros N) at (omega (arith, length-replicate N (pos 0), fit n h))
      ∙ ap (λ (o : Outcome (List (List ℤ))). after o (λ rs m. ok (laid (width t) 0 n (zeros N) rs) m)) (times-map p f ws rooms n 0 at)
      ∙ after-after (run (times n 0 p) ws rooms at) (λ l m. ok (list_of f l) m) (λ rs m. ok (laid (width t) 0 n (zeros N) rs) m)
      ∙ after_same (run (times n 0 p) ws rooms at) (λ l m. ok (laid (width t) 0 n (zeros N) (list_of f l)) m) (λ l m. ok (padded N (list_of f l)) m)
      (λ l m e. ap (λ (x : List ℤ). ok x m) (laid-all (width t) N n f l wide (times_long p n 0 ws rooms at e) (fit n h)))
      )

  section_is : (c : Counts) (at : ℕ) → run (section t (with c (zeros N))) ws rooms at ≡ after (run (count t (field_of t) >>= (λ n. times n 0 p)) ws rooms at) (λ l m. ok (with (counted t c (length l) m) (padded N (list_of f l))) m)
  unfolding section run
  section_is c at =
      same_first ws rooms at (count t (field_of t)) (section_from t (with c (zeros N))) (λ n. times n 0 p) _ (λ n m e.
      run_bind (turns n 0 (puts (width t) (row_of t)) (zeros N)) (ended t c n) ws rooms m
      ∙ ap (λ (o : Outcome (List ℤ)). after o (λ u k. ok (with (counted t c n k) u) k)) (records n (given rooms (λ n. n ≤ rooms t) (count t (field_of t)) (gives_count Any rooms t (field_of t)) ws at e) m)
      ∙ after-after (run (times n 0 p) ws rooms m) (λ l k. ok (padded N (list_of f l)) k) (λ u k. ok (with (counted t c n k) u) k)
      ∙ after_same (run (times n 0 p) ws rooms m) (λ l k. ok (with (counted t c n k) (padded N (list_of f l))) k) (λ l k. ok (with (counted t c (length l) k) (padded N (list_of f l))) k)
      (λ l k d. ap (λ (i : ℕ). ok (with (counted t c i k) (padded N (list_of f l))) k) (sym (times_long p n 0 ws rooms m d))))

module _ (rooms : Table → ℕ) (N : ℕ) (ws : List ℤ) (c : Counts) (at : ℕ) where
  pub states_are : ((n : ℕ) → n ≤ rooms States → 8 * n ≤ N) → run (section States (with c (zeros N))) ws rooms at ≡ after (run states ws rooms at) (λ ss m. ok (with (counted States c (length ss) m) (states_form N (λ s. 0) [] ss)) m)
  unfolding states row_of
  states_are fit = section_is States state state_row refl (λ a. refl) rooms N fit ws c at

  pub rules_are : ((n : ℕ) → n ≤ rooms Rules → 3 * n ≤ N) → run (section Rules (with c (zeros N))) ws rooms at ≡ after (run rules ws rooms at) (λ rs m. ok (with (counted Rules c (length rs) m) (rules_form N [] rs)) m)
  unfolding rules row_of
  rules_are fit = section_is Rules rule (λ x. pos x.start ∷ none ∷ x.token ∷ []) refl (λ a. refl) rooms N fit ws c at

  pub modes_are : ((n : ℕ) → n ≤ rooms Modes → 1 * n ≤ N) → run (section Modes (with c (zeros N))) ws rooms at ≡ after (run modes ws rooms at) (λ ms m. ok (with (counted Modes c (length ms) m) (padded N (list_of state_word ms))) m)
  unfolding modes row_of
  modes_are fit = section_is Modes (λ i. index (spot 17 i)) state_word refl (λ a. refl) rooms N fit ws c at

  pub decisions_are : ((n : ℕ) → n ≤ rooms Decisions → 1 * n ≤ N) → run (section Decisions (with c (zeros N))) ws rooms at ≡ after (run decisions ws rooms at) (λ ds m. ok (with (counted Decisions c (length ds) m) (padded N (list_of state_word ds))) m)
  unfolding decisions row_of
  decisions_are fit = section_is Decisions (λ i. index (spot 31 i)) state_word refl (λ a. refl) rooms N fit ws c at

  pub actions_are : ((n : ℕ) → n ≤ rooms Actions → 3 * n ≤ N) → run (section Actions (with c (zeros N))) ws rooms at ≡ after (run actions ws rooms at) (λ xs m. ok (with (counted Actions c (length xs) m) (padded N (list_of action_words xs))) m)
  unfolding actions row_of
  actions_are fit = section_is Actions action action_words refl (λ a. refl) rooms N fit ws c at
