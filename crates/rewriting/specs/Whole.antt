-- What is readable, and has room, is read from its words; and what is read is readable.
use Rattle.std.specs.Prelude.{◌≡◌, refl, Bool, true, ℕ, ◌+◌, ◌≤◌, ℤ, pos, length}
use Rattle.std.proofs.Common.{ap, ◌∙◌, arith}
use mathlib.Core.List.{List, [], ◌∷◌, ◌++◌}
use Rattle.std.proofs.Math.Dec.{ltb}
use Rattle.format.specs.declared.Spot.{Spot}
use Rattle.format.specs.Reading.{Table, States, Edges, Sets, Rules, Modes, Decisions, Actions, ok, Prog, run, ◌>>=◌, spot, times, get, index, count}
use Rattle.format.specs.Sections.{State, Edge, Read, version, grammar, state, states, named, flags, rule, rules, modes, sets_from, sets, edge, edges, decisions, action, actions}
use Rattle.format.specs.Links.{each, every, derived}
use Rattle.format.specs.Tables.{room, state_word, action_words}
use Rattle.format.specs.Decode.{returning, dialect}
use Rattle.format.specs.Writing.{counted, state_form, rule_form, set_form, edge_form, words_of}
use Rattle.laws.specs.Fits.{Roomed}
use Rattle.laws.specs.Lists.{every_map}
use Rattle.laws.specs.Gives.{Gives, Every, gives_bind, gives_done, gives_run, then}
use Rattle.rewriting.specs.Formed.{state_read, kept, edge_read, action_read, Formed}
use Rattle.rewriting.specs.Tests.{every-all}
use Rattle.rewriting.specs.Takes.{Takes, takes_run, takes_bind, takes_map, takes_times, takes_count}
use Rattle.rewriting.specs.Parts.{state_takes, named_takes, index_takes, rule_takes, sets-take}
use Rattle.rewriting.specs.Edges.{edge_takes, edge_gives, action_takes, action_gives}
use Rattle.rewriting.specs.Reads.{every_gives, state_gives, flags_give, sets_give}

abbrev W : ℤ → Type 0
W v = Unit {0}

-- ---- given

module _ (room : Table → ℕ) where
  table_gives : {A : Type 0} (p : A → Bool) (t : Table) (f : ℕ) (q : ℕ → Prog A) → ((i : ℕ) → Gives W room (λ a. p a ≡ true) (q i)) → Gives W room (λ l. every p l ≡ true) (count t f >>= (λ n. times n 0 q))
  table_gives p t f q g = then W room (λ l. every p l ≡ true) (count t f) _ (λ n. every_gives room p n q g)

  dialect_gives : Gives W room Formed dialect
  unfolding dialect states sets edges actions
  dialect_gives =
      then W room Formed version _ (λ a. then W room Formed grammar _ (λ b. then W room Formed (get (spot 3 0)) _ (λ token.
      gives_bind W room (λ ss. every state_read ss ≡ true) Formed states _ (table_gives state_read States 4 state (state_gives room)) (λ ss h4.
      gives_bind W room (λ l. every (λ s. ltb s (length ss)) l ≡ true) Formed (flags (length ss) 9) _ (flags_give room (length ss) 9) (λ ones h9.
      gives_bind W room (λ l. every (λ s. ltb s (length ss)) l ≡ true) Formed (flags (length ss) 11) _ (flags_give room (length ss) 11) (λ twos h11.
      then W room Formed rules _ (λ rs. then W room Formed modes _ (λ ms.
      gives_bind W room (λ ls. every (kept 0) ls ≡ true) Formed sets _ (then W room (λ ls. every (kept 0) ls ≡ true) (count Sets 18) _ (λ n. sets_give room n 0 0)) (λ ls h18.
      gives_bind W room (λ es. every (edge_read (length ss) (length ls)) es ≡ true) Formed (edges (length ss) (length ls)) _ (table_gives (edge_read (length ss) (length ls)) Edges 23 (edge (length ss) (length ls)) (edge_gives room (length ss) (length ls))) (λ es h23.
      then W room Formed (returning ss (length rs) es) _ (λ es2. then W room Formed decisions _ (λ ds.
      gives_bind W room (λ xs. every action_read xs ≡ true) Formed actions _ (table_gives action_read Actions 32 action (action_gives room)) (λ xs h32.
      gives_done W room Formed _ (record { states = h4; ones = h9; twos = h11; sets = h18; edges = h23; actions = h32 }))))))))))))))

-- what is read is readable
pub read_formed : (ws : List ℤ) (room : Table → ℕ) (at : ℕ) (r : Read) (n : ℕ) → run dialect ws room at ≡ ok r n → Formed r
read_formed ws room at r n e = gives_run W room Formed dialect (dialect_gives room) ws at (λ i h. tt) e

-- ---- taken

module _ (room : Table → ℕ) where
  all_take : {A : Type 0} (p : A → Bool) (q : ℕ → Prog A) (f : A → List ℤ) (l : List A) → every p l ≡ true → ((a : A) → p a ≡ true → (i : ℕ) → Takes room (q i) (f a) a) → Takes room (times (length l) 0 q) (each f l) l
  all_take p q f l h g = takes_times room q f 0 l (every_map (λ a. p a ≡ true) (λ a. (i : ℕ) → Takes room (q i) (f a) a) g l (every-all p l h))

  any-take : {A : Type 0} (q : ℕ → Prog A) (f : A → List ℤ) (l : List A) → ((a : A) (i : ℕ) → Takes room (q i) (f a) a) → Takes room (times (length l) 0 q) (each f l) l
  any-take {A} q f l g = takes_times room q f 0 l (all l)
    where
      all : (m : List A) → Every (λ a. (i : ℕ) → Takes room (q i) (f a) a) m
      all [] = tt
      all (a ∷ m) = (g a, all m)

  version_takes : Takes room version (pos 4 ∷ []) (pos 4)
  unfolding Takes version
  version_takes = λ p. (refl, refl)

  grammar_takes : Takes room grammar (pos 0 ∷ []) (pos 0)
  unfolding Takes grammar
  grammar_takes = λ p. (refl, refl)

  get_takes : (f : Spot) (v : ℤ) → Takes room (get f) (v ∷ []) v
  unfolding Takes get
  get_takes f v = λ p. (refl, refl)

  flags-take : (n f : ℕ) (l : List ℕ) → every (λ s. ltb s n) l ≡ true → Takes room (flags n f) (counted state_word l) l
  unfolding flags
  flags-take n f l h = takes_bind room (index (spot f 0)) _ (state_word (length l)) (each state_word l) (length l) l (index_takes room (spot f 0) (length l)) (all_take (λ s. ltb s n) (λ i. named n (spot (f + 1) i)) state_word l h (λ s k i. named_takes room n (spot (f + 1) i) s k))

  returning_takes : (ss : List State) (n : ℕ) (es : List Edge) → length es + length (derived ss n es) ≤ room Edges → Takes room (returning ss n es) [] es
  unfolding Takes returning
  returning_takes ss n es h = λ p. (h, (refl, refl))

  pub dialect_takes : (r : Read) → Formed r → Roomed room r → Takes room dialect (words_of r) r
  unfolding dialect words_of states rules modes sets edges decisions actions
  dialect_takes r f m =
      takes_bind room version _ (pos 4 ∷ []) _ (pos 4) r version_takes
      (takes_bind room grammar _ (pos 0 ∷ []) _ (pos 0) r grammar_takes
      (takes_bind room (get (spot 3 0)) _ (r.token ∷ []) _ r.token r (get_takes (spot 3 0) r.token)
      (takes_bind room states _ (counted state_form r.states) _ r.states r (takes_count room States 4 (length r.states) (λ n. times n 0 state) (each state_form r.states) r.states m.states (all_take state_read state state_form r.states f.states (state_takes room)))
      (takes_bind room (flags (length r.states) 9) _ (counted state_word r.nongreedy) _ r.nongreedy r (flags-take (length r.states) 9 r.nongreedy f.ones)
      (takes_bind room (flags (length r.states) 11) _ (counted state_word r.recursive) _ r.recursive r (flags-take (length r.states) 11 r.recursive f.twos)
      (takes_bind room rules _ (counted rule_form r.rules) _ r.rules r (takes_count room Rules 13 (length r.rules) (λ n. times n 0 rule) (each rule_form r.rules) r.rules m.rules (any-take rule rule_form r.rules (rule_takes room)))
      (takes_bind room modes _ (counted state_word r.modes) _ r.modes r (takes_count room Modes 16 (length r.modes) (λ n. times n 0 (λ i. index (spot 17 i))) (each state_word r.modes) r.modes m.modes (any-take (λ i. index (spot 17 i)) state_word r.modes (λ s i. index_takes room (spot 17 i) s)))
      (takes_bind room sets _ (counted set_form r.sets) _ r.sets r (takes_count room Sets 18 (length r.sets) (λ n. sets_from n 0 0) (each set_form r.sets) r.sets m.sets (sets-take room 0 0 r.sets (every-all (kept 0) r.sets f.sets) (omega (arith, m.ranges))))
      (takes_bind room (edges (length r.states) (length r.sets)) _ (counted edge_form r.edges) _ r.edges r (takes_count room Edges 23 (length r.edges) (λ n. times n 0 (edge (length r.states) (length r.sets))) (each edge_form r.edges) r.edges (omega (arith, m.edges)) (all_take (edge_read (length r.states) (length r.sets)) (edge (length r.states) (length r.sets)) edge_form r.edges f.edges (λ e h i. edge_takes room (length r.states) (length r.sets) i e h)))
      (takes_bind room (returning r.states (length r.rules) r.edges) _ [] _ r.edges r (returning_takes r.states (length r.rules) r.edges m.edges)
      (takes_bind room decisions _ (counted state_word r.decisions) _ r.decisions r (takes_count room Decisions 30 (length r.decisions) (λ n. times n 0 (λ i. index (spot 31 i))) (each state_word r.decisions) r.decisions m.decisions (any-take (λ i. index (spot 31 i)) state_word r.decisions (λ s i. index_takes room (spot 31 i) s)))
      (takes_map room actions _ (counted action_words r.actions) r.actions (takes_count room Actions 32 (length r.actions) (λ n. times n 0 action) (each action_words r.actions) r.actions m.actions (all_take action_read action action_words r.actions f.actions (λ x h i. action_takes room i x h)))))))))))))))

  -- and so is run, with anything behind its words
  pub words_run : (r : Read) → Formed r → Roomed room r → (zs : List ℤ) → run dialect (words_of r ++ zs) room 0 ≡ ok r (length (words_of r))
  words_run r f m zs = takes_run room dialect (words_of r) r (dialect_takes r f m) [] zs ∙ ap (λ (n : ℕ). ok r n) (omega arith)
