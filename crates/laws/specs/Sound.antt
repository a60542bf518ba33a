-- Every edge of an accepted list, derived ones too, has a type from 1 to 10 and a listed source, a listed set where it has one, and a
-- follow state if it is a rule edge.
use Rattle.std.specs.Prelude.{◌≡◌, List, [], ◌∷◌, Bool, ◌&&◌, ◌||◌, ℤ, pos, negsuc, length}
use Rattle.std.proofs.Math.Path.{refl}
use Rattle.std.proofs.Common.{sym, ap, ◌∙◌, subst, arith}
use Rattle.std.proofs.Math.Bool.{true, false, or-false}
use Prim.Native.Nat.{ℕ, ◌+◌, ◌≤◌, ◌<◌}
use Rattle.std.proofs.Math.Dec.{ltb, leb, eqb}
use Rattle.std.proofs.Math.ListN.{get_or-map}
use borrow.Author.Tests.{leb-true, eqb-true, ltb-true}
use Rattle.format.specs.Reading.{Table, Edges, ok, Prog, done, run, ◌>>=◌, times, spot, pick, fail, natural, known, listed, get, index, count}
use Rattle.format.specs.Sections.{State, Edge, Read, size, among, edge_of, meaning, version, grammar, states, flags, rules, modes, sets, test_a, test_b, edge, edges, decisions, actions}
use Rattle.format.specs.Links.{each, names, leaving, numbers, state_at, stop_of, stops, returns, derived}
use Rattle.format.specs.Tables.{derived_of, edges_of}
use Rattle.format.specs.Decode.{returning, dialect}
use Rattle.format.specs.Questions.{setting}
use Rattle.laws.specs.Gives.{Gives, Any, Every, gives_any, gives_done, gives_bind, then, gives_run, gives_times, weaker}
use Rattle.laws.specs.Lists.{constant, every_append, every-each, every_map}
use Rattle.laws.specs.Safe.{and_true}

-- m states and n sets are listed
pub record Sound (m n : ℕ) (e : Edge) : Type 0 where
  pub low : 1 ≤ e.kind
  pub high : e.kind ≤ 10
  pub set : setting (pos e.kind) ≡ true → names n e.p ≡ true
  pub listed : e.source < m
  pub follow : e.kind ≡ 3 → e.q ≡ pos (size e.q)

pub never : {A : Type 0} {b : Bool} → b ≡ false → b ≡ true → A
never e t = absurd (let z : ◌≡◌ {A = ℕ} 0 1 = cc in omega arith)

module _ (k s t : ℕ) (a b c : ℤ) where
  meant_kind : (meaning k s t a b c).kind ≡ k
  meant_kind = rw (← get_or-map (λ (e : Edge). e.kind)) (constant 11 k k)

  pub meant_source : (meaning k s t a b c).source ≡ s
  meant_source = rw (← get_or-map (λ (e : Edge). e.source)) (constant 11 k s)

  meant_set : setting (pos k) ≡ true → (meaning k s t a b c).p ≡ a
  meant_set = go (eqb k 7) refl
    where
      go : (x : Bool) → eqb k 7 ≡ x → (x || eqb k 8) ≡ true → (meaning k s t a b c).p ≡ a
      go true q e = rw (eqb-true k 7 q) refl
      go false q e = rw (eqb-true k 8 e) refl

  meant_sound : (m n : ℕ) → (1 ≤ k) × (k ≤ 10) → (setting (pos k) ≡ true → names n a ≡ true) → s < m → Sound m n (meaning k s t a b c)
  meant_sound m n h g l =
      record {
        listed = subst (λ (u : ℕ). u < m) (sym meant_source) l;
        follow = λ e. subst (λ (u : ℕ). (meaning u s t a b c).q ≡ pos (size (meaning u s t a b c).q)) (sym e ∙ meant_kind) refl;
        low = omega (arith, meant_kind);
        high = omega (arith, meant_kind);
        set = λ e. let f : setting (pos k) ≡ true = ap (λ (x : ℕ). setting (pos x)) (sym meant_kind) ∙ e in ap (names n) (meant_set f) ∙ g f;
      }

abbrev W : ℤ → Type 0
W v = Unit {0}

module _ (rooms : Table → ℕ) (nstates n i : ℕ) where
  known_type : (p : ℕ) (w : ℤ) → Gives W rooms (λ k. (1 ≤ k) × (k ≤ 10)) (known 8 1 10 (spot 26 i) p w)
  unfolding Gives
  known_type p (pos k) = go (leb 1 k) (leb k 10) refl refl
    where
      go : (x y : Bool) → leb 1 k ≡ x → leb k 10 ≡ y → Gives W rooms (λ k. (1 ≤ k) × (k ≤ 10)) (pick (x && y) (done k) (fail 8 (spot 26 i) p (pos k)))
      go true true e f = (leb-true 1 k e, leb-true k 10 f)
      go true false e f = tt
      go false y e f = tt
  known_type p (negsuc k) = tt

  set-listed : (p : ℕ) (a : ℤ) → Gives W rooms (λ j. names n a ≡ true) (natural (spot 27 i) p a >>= listed 9 n (spot 27 i) p)
  unfolding Gives ◌>>=◌
  set-listed p (pos j) = go (ltb j n) refl
    where
      go : (x : Bool) → ltb j n ≡ x → Gives W rooms (λ x. ltb j n ≡ true) (pick x (done j) (fail 9 (spot 27 i) p (pos j)))
      go true e = e
      go false e = tt
  set-listed p (negsuc j) = tt

  a_tested : (k p : ℕ) (a : ℤ) → Gives W rooms (λ j. setting (pos k) ≡ true → names n a ≡ true) (test_a i n k p a)
  unfolding test_a
  a_tested k p a = go (among k (7 ∷ 8 ∷ [])) (sym (ap (λ (x : Bool). eqb k 7 || x) (or-false (eqb k 8))))
    where
      Q : ℕ → Type 0
      Q j = setting (pos k) ≡ true → names n a ≡ true

      rest : Prog ℕ
      rest = pick (among k (3 ∷ 4 ∷ 6 ∷ [])) (natural (spot 27 i) p a) (done 0)

      go : (x : Bool) → setting (pos k) ≡ x → Gives W rooms Q (pick x (natural (spot 27 i) p a >>= listed 9 n (spot 27 i) p) rest)
      go true e = weaker W rooms (λ j. names n a ≡ true) Q (λ j h f. h) (natural (spot 27 i) p a >>= listed 9 n (spot 27 i) p) (set-listed p a)
      go false e = weaker W rooms Any Q (λ j u f. never e f) rest (gives_any W rooms rest)

  source_listed : (p s : ℕ) → Gives W rooms (λ j. s < nstates) (listed 10 nstates (spot 24 i) p s)
  unfolding Gives
  source_listed p s = go (ltb s nstates) refl
    where
      go : (x : Bool) → ltb s nstates ≡ x → Gives W rooms (λ j. s < nstates) (pick x (done s) (fail 10 (spot 24 i) p (pos s)))
      go true e = ltb-true s nstates e
      go false e = tt

  pub edge-sound : Gives W rooms (Sound nstates n) (edge nstates n i)
  unfolding edge Gives
  edge-sound = λ place.
      then W rooms (Sound nstates n) (index (spot 24 i)) _ (λ s. then W rooms (Sound nstates n) (index (spot 25 i)) _ (λ t. then W rooms (Sound nstates n) (get (spot 26 i)) _ (λ w.
      then W rooms (Sound nstates n) (get (spot 27 i)) _ (λ a. then W rooms (Sound nstates n) (get (spot 28 i)) _ (λ b. then W rooms (Sound nstates n) (get (spot 29 i)) _ (λ c.
      gives_bind W rooms (λ k. (1 ≤ k) × (k ≤ 10)) (Sound nstates n) (known 8 1 10 (spot 26 i) (place + 2) w) _ (known_type (place + 2) w) (λ k h.
      gives_bind W rooms (λ j. setting (pos k) ≡ true → names n a ≡ true) (Sound nstates n) (test_a i n k (place + 3) a) _ (a_tested k (place + 3) a) (λ x g.
      then W rooms (Sound nstates n) (test_b i k (place + 4) b) _ (λ y. gives_bind W rooms (λ j. s < nstates) (Sound nstates n) (listed 10 nstates (spot 24 i) place s) _ (source_listed place s) (λ z l.
      gives_done W rooms (Sound nstates n) (meaning k s t a b c) (meant_sound k s t a b c nstates n h g l)))))))))))

module _ (rooms : Table → ℕ) (nstates n : ℕ) where
  pub edges-sound : Gives W rooms (Every (Sound nstates n)) (edges nstates n)
  unfolding edges
  edges-sound =
      then W rooms (Every (Sound nstates n)) (count Edges 23) _ (λ k.
      weaker W rooms (λ l. (length l ≡ k) × Every (Sound nstates n) l) (Every (Sound nstates n)) (λ l x. x.1) (times k 0 (edge nstates n)) (gives_times W rooms (Sound nstates n) k 0 (edge nstates n) (edge-sound rooms nstates n)))

abbrev AllSound : Read → Type 0
AllSound r = Every (Sound (length r.states) (length r.sets)) r.edges

dialect-sound : (rooms : Table → ℕ) → Gives W rooms AllSound dialect
unfolding dialect
dialect-sound rooms =
    then W rooms AllSound version _ (λ a. then W rooms AllSound grammar _ (λ b. then W rooms AllSound (get (spot 3 0)) _ (λ token.
    then W rooms AllSound states _ (λ ss. then W rooms AllSound (flags (length ss) 9) _ (λ ones. then W rooms AllSound (flags (length ss) 11) _ (λ twos.
    then W rooms AllSound rules _ (λ rs. then W rooms AllSound modes _ (λ ms. then W rooms AllSound sets _ (λ ls.
    gives_bind W rooms (Every (Sound (length ss) (length ls))) AllSound (edges (length ss) (length ls)) _ (edges-sound rooms (length ss) (length ls)) (λ es h.
    then W rooms AllSound (returning ss (length rs) es) _ (λ x. then W rooms AllSound decisions _ (λ ds. then W rooms AllSound actions _ (λ xs.
    gives_done W rooms AllSound _ h)))))))))))))

-- ---- derived edges

-- They are of type 1, and their sources are stops.
pub record Return (m : ℕ) (e : Edge) : Type 0 where
  pub plain : e.kind ≡ 1
  pub listed : e.source < m

stop_listed : (n : ℕ) (z : ℤ) → names n z ≡ true → size z < n
stop_listed n (pos k) e = ltb-true k n e
stop_listed n (negsuc k) e = never refl e

pub derived_are : (ss : List State) (n : ℕ) (es : List Edge) → Every (Return (length ss)) (derived ss n es)
unfolding derived
derived_are ss n es = every-each (Return (length ss)) (λ s. each (returns ss n) (leaving es s)) (numbers (λ s. true) ss) (λ s. every-each (Return (length ss)) (returns ss n) (leaving es s) one)
  where
    one : (e : Edge) → Every (Return (length ss)) (returns ss n e)
    one e = go (eqb e.kind 3 && ltb e.target (length ss) && stops ss n (state_at ss e.target).rule) refl
      where
        R : ℤ
        R = (state_at ss e.target).rule

        go : (b : Bool) → (eqb e.kind 3 && ltb e.target (length ss) && stops ss n R) ≡ b → Every (Return (length ss)) (pick b (edge_of 1 (size (stop_of ss R)) (size e.q) (pos 0) (pos 0) (pos 0) ∷ []) [])
        go true q =
            let x = and_true (eqb e.kind 3 && ltb e.target (length ss)) (stops ss n R) q in
            let y = and_true (names n R) (names (length ss) (stop_of ss R)) x.1 in
            (record { plain = refl; listed = stop_listed (length ss) (stop_of ss R) y.1 }, tt)
        go false q = tt

-- so they have no set and no follow state
return_sound : (m n : ℕ) (e : Edge) → Return m e → Sound m n e
return_sound m n e x =
    record {
      low = omega (arith, x.plain);
      high = omega (arith, x.plain);
      set = λ f. never (ap (λ (k : ℕ). setting (pos k)) x.plain) f;
      listed = x.listed;
      follow = λ q. absurd (omega (arith, x.plain));
    }

pub read-sound : (ws : List ℤ) (rooms : Table → ℕ) (at : ℕ) (r : Read) (n : ℕ) → run dialect ws rooms at ≡ ok r n → Every (Sound (length r.states) (length r.sets)) (edges_of r)
read-sound ws rooms at r n e =
    every_append (Sound (length r.states) (length r.sets)) r.edges (derived_of r) (gives_run W rooms AllSound dialect (dialect-sound rooms) ws at (λ i h. tt) e)
    (every_map (Return (length r.states)) (Sound (length r.states) (length r.sets)) (return_sound (length r.states) (length r.sets)) (derived_of r) (derived_are r.states (length r.rules) r.edges))
