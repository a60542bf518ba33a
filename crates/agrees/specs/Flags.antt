-- Flags 1 and 2, in the states' table: each named state's flags word gets one bit more.
use Rattle.std.specs.Prelude.{◌≡◌, refl, Bool, true, ◌||◌, ltb, ℤ, pos, negsuc, get_or}
use Rattle.std.proofs.Math.Path.{sym, ap, fun_ext}
use Rattle.std.proofs.Common.{◌∙◌, arith, ltb-true, eq-eqb, ne_eqb}
use mathlib.Core.List.{List, ◌∷◌}
use Rattle.std.proofs.Math.Bool.{false}
use Prim.Native.Nat.{ℕ, zero, suc, ◌+◌, ◌*◌, ◌<◌}
use Rattle.std.specs.Int.Bits.{bit_or}
use Rattle.std.proofs.Math.Dec.{eqb}
use Rattle.std.proofs.Math.ListN.{length}
use Rattle.format.specs.Reading.{Table, Outcome, ok, done, run, ◌>>=◌, times, pick, fail, natural, listed, index, spot}
use Rattle.format.specs.Sections.{State, Edge, bit, among, named, flags}
use Rattle.format.specs.declared.Counts.{Counts}
use Rattle.format.specs.declared.Spot.{Spot}
use Rattle.laws.specs.Running.{after, run_bind, turns}
use Rattle.laws.specs.Gives.{Gives, Any}
use Rattle.inplace.specs.Held.{with}
use Rattle.inplace.specs.Rows.{stored, with_bit, flag_at}
use Rattle.inplace.specs.Sections.{flag_one, moved, flags_end, flags_from, flagging}
use Rattle.agrees.specs.Forms.{state_line, states_form}
use Rattle.agrees.specs.Rows.{set-row}
use Rattle.agrees.specs.Words.{no_state, state_word_lem}
use Rattle.agrees.specs.After.{Given, given, after_same, after-after, laid-first, same_first, after_map}

-- One state's flags word, in the states' table: the flags G differ from F there alone.
pub flag_one_lem : (b s N : ℕ) (F G : ℕ → ℕ) (es : List Edge) (ss : List State) → s < length ss → ((j : ℕ) → (j ≡ s → ⊥) → F j ≡ G j) → bit_or (F s) b ≡ G s
    → flag_at b s (states_form N F es ss) ≡ states_form N G es ss
flag_one_lem b s N F G es ss h o e =
    ap (λ (v : ℤ). stored 8 (states_form N F es ss) s 4 (with_bit b v)) (state_word_lem N F es ss s 4 h (omega arith))
    ∙ set-row 8 N (state_line F es) (state_line G es) ss no_state (λ j a. refl) (λ j a. refl) s 4 (pos (bit_or (F s) b)) h (omega arith)
    (λ j k n. ap (λ (x : ℕ). state_line (λ i. x) es j (get_or ss j no_state)) (o j n)) (ap (λ (x : ℕ). state_line (λ i. x) es s (get_or ss s no_state)) e)

states-same : (N : ℕ) (es : List Edge) (ss : List State) (F G : ℕ → ℕ) → ((j : ℕ) → F j ≡ G j) → states_form N F es ss ≡ states_form N G es ss
states-same N es ss F G h = ap (λ (H : ℕ → ℕ). states_form N H es ss) (fun_ext h)

-- a named state is listed
named-listed : (rooms : Table → ℕ) (n : ℕ) (f : Spot) → Given rooms (λ s. s < n) (named n f)
unfolding named Gives ◌>>=◌
named-listed rooms n f = λ p v x. go p v
  where
    test : (p k : ℕ) (b : Bool) → ltb k n ≡ b → Gives Any rooms (λ s. s < n) (pick b (done k) (fail 7 f p (pos k)))
    test p k true e = ltb-true k n e
    test p k false e = tt

    go : (p : ℕ) (v : ℤ) → Gives Any rooms (λ s. s < n) (natural f p v >>= listed 7 n f p)
    go p (pos k) = test p k (ltb k n) refl
    go p (negsuc k) = tt

or_more : (a b c : Bool) → ((a || b) || c) ≡ (a || (b || c))
or_more true b c = refl
or_more false b c = refl

or_yes : (a b : Bool) → b ≡ true → (a || b) ≡ true
or_yes true b e = refl
or_yes false b e = e

or_no : (a b : Bool) → b ≡ false → (a || b) ≡ a
or_no true b e = refl
or_no false b e = e

-- The flag b is set exactly on the states that P tells, and mark says the whole word.
module _ (b N : ℕ) (mark : ℕ → Bool → ℕ) (or-mark : (s : ℕ) (x : Bool) → bit_or (mark s x) b ≡ mark s true) (es : List Edge) (ss : List State) (ws : List ℤ) (rooms : Table → ℕ) where
  one_flag : (P : ℕ → Bool) (s : ℕ) → s < length ss → flag_at b s (states_form N (λ j. mark j (P j)) es ss) ≡ states_form N (λ j. mark j (P j || eqb j s)) es ss
  one_flag P s h =
      flag_one_lem b s N (λ j. mark j (P j)) (λ j. mark j (P j || eqb j s)) es ss h
      (λ j n. ap (mark j) (sym (or_no (P j) (eqb j s) (ne_eqb j s n))))
      (or-mark s (P s) ∙ ap (mark s) (sym (or_yes (P s) (eqb s s) (eq-eqb s s refl))))

  flag_turns : (f k i : ℕ) (P : ℕ → Bool) (at : ℕ) → run (turns k i (flag_one b (length ss) f) (states_form N (λ j. mark j (P j)) es ss)) ws rooms at
      ≡ after (run (times k i (λ i. named (length ss) (spot f i))) ws rooms at) (λ l m. ok (states_form N (λ j. mark j (P j || among j l)) es ss) m)
  unfolding run turns times flag_one
  flag_turns f zero i P at = ap (λ (t : List ℤ). ok t at) (states-same N es ss (λ j. mark j (P j)) (λ j. mark j (P j || false)) (λ j. ap (mark j) (sym (or_no (P j) false refl))))
  flag_turns f (suc k) i P at =
      laid-first ws rooms at (named (length ss) (spot f i) >>= (λ s. done (flag_at b s (states_form N (λ j. mark j (P j)) es ss)))) _ (named (length ss) (spot f i)) _
      (λ s m. flag_at b s (states_form N (λ j. mark j (P j)) es ss)) _
      (run_bind (named (length ss) (spot f i)) (λ s. done (flag_at b s (states_form N (λ j. mark j (P j)) es ss))) ws rooms at)
      (λ s m e.
      ap (λ (t : List ℤ). run (turns k (i + 1) (flag_one b (length ss) f) t) ws rooms m) (one_flag P s (given rooms (λ s. s < length ss) (named (length ss) (spot f i)) (named-listed rooms (length ss) (spot f i)) ws at e))
      ∙ flag_turns f k (i + 1) (λ j. P j || eqb j s) m
      ∙ after_same (run (times k (i + 1) (λ i. named (length ss) (spot f i))) ws rooms m) _ (λ l n. ok (states_form N (λ j. mark j (P j || among j (s ∷ l))) es ss) n)
      (λ l n d. ap (λ (t : List ℤ). ok t n) (states-same N es ss (λ j. mark j ((P j || eqb j s) || among j l)) (λ j. mark j (P j || (eqb j s || among j l))) (λ j. ap (mark j) (or_more (P j) (eqb j s) (among j l)))))
      ∙ sym (after_map ws rooms m (times k (i + 1) (λ i. named (length ss) (spot f i))) (λ l. s ∷ l) (λ l n. ok (states_form N (λ j. mark j (P j || among j l)) es ss) n)))

  -- The section, where no state has the flag yet.
  flags_are : (f : ℕ) (c : Counts) (at : ℕ) → c.states ≡ length ss → run (flagging b f (with c (states_form N (λ j. mark j false) es ss))) ws rooms at
      ≡ after (run (flags (length ss) f) ws rooms at) (λ l m. ok (with (moved c m) (states_form N (λ j. mark j (among j l)) es ss)) m)
  unfolding flagging flags run
  flags_are f c at q =
      same_first ws rooms at (index (spot f 0)) (flags_from b f (with c (states_form N (λ j. mark j false) es ss))) (λ k. times k 0 (λ i. named (length ss) (spot (f + 1) i))) _ (λ k m e.
      ap (λ (n : ℕ). run (turns k 0 (flag_one b n (f + 1)) (states_form N (λ j. mark j false) es ss) >>= flags_end c) ws rooms m) q
      ∙ run_bind (turns k 0 (flag_one b (length ss) (f + 1)) (states_form N (λ j. mark j false) es ss)) (flags_end c) ws rooms m
      ∙ ap (λ (o : Outcome (List ℤ)). after o (λ t n. ok (with (moved c n) t) n)) (flag_turns (f + 1) k 0 (λ j. false) m)
      ∙ after-after (run (times k 0 (λ i. named (length ss) (spot (f + 1) i))) ws rooms m) (λ l n. ok (states_form N (λ j. mark j (among j l)) es ss) n) (λ t n. ok (with (moved c n) t) n))

or_one : (x : Bool) → bit_or (bit x) 1 ≡ 1
or_one true = refl
or_one false = refl

or_two : (x y : Bool) → bit_or (bit x + 2 * bit y) 2 ≡ bit x + 2
or_two true true = refl
or_two true false = refl
or_two false true = refl
or_two false false = refl

module _ (N : ℕ) (es : List Edge) (ss : List State) (ws : List ℤ) (rooms : Table → ℕ) (c : Counts) (at : ℕ) (q : c.states ≡ length ss) where
  -- "1 non-greedy"
  pub ones_are : run (flagging 1 9 (with c (states_form N (λ s. 0) es ss))) ws rooms at
      ≡ after (run (flags (length ss) 9) ws rooms at) (λ l m. ok (with (moved c m) (states_form N (λ s. bit (among s l)) es ss)) m)
  ones_are = flags_are 1 N (λ s x. bit x) (λ s x. or_one x) es ss ws rooms 9 c at q

  -- "2 left-recursive"
  pub twos_are : (ones : List ℕ) → run (flagging 2 11 (with c (states_form N (λ s. bit (among s ones)) es ss))) ws rooms at
      ≡ after (run (flags (length ss) 11) ws rooms at) (λ l m. ok (with (moved c m) (states_form N (λ s. bit (among s ones) + 2 * bit (among s l)) es ss)) m)
  twos_are ones =
      ap (λ (t : List ℤ). run (flagging 2 11 (with c t)) ws rooms at) (states-same N es ss (λ s. bit (among s ones)) (λ s. bit (among s ones) + 0) (λ s. omega arith))
      ∙ flags_are 2 N (λ s x. bit (among s ones) + 2 * bit x) (λ s x. or_two (among s ones) x) es ss ws rooms 11 c at q
