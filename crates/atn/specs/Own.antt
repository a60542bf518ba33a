-- The states that are safe for their own rule (laws: `Own`): what their edges say, and that no cycle has one.
use Rattle.std.specs.Prelude.{◌≡◌, refl, true, not, ◌&&◌, List, ℕ, ◌<◌, ltb, eqb, ℤ, pos, negsuc, length, get_or}
use Rattle.std.proofs.Common.{sym, ap, ◌∙◌, lt-ltb, ltb-true, eq-eqb, ne_eqb, eqb-true}
use Rattle.std.proofs.lemmas.Bool.{eqb-false, not-true}
use Rattle.format.specs.Sections.{State, Edge, same, size}
use Rattle.format.specs.Links.{leaving, state_at, stop_of, stops, passable, target_of, Safe, stop, step}
use Rattle.laws.specs.Safe.{and_true, every_true, true_every}
use Rattle.laws.specs.Own.{Own, own_of}
use Rattle.atn.specs.Records.{no_edge}

abbrev pub rule_at : List State → ℕ → ℤ
rule_at ss s = (state_at ss s).rule

-- The stop of a state's own rule.
abbrev pub stop_at : List State → ℕ → ℕ
stop_at ss s = size (stop_of ss (rule_at ss s))

-- How many edges a state has.
abbrev pub degree : List Edge → ℕ → ℕ
degree es s = length (leaving es s)

-- The i-th edge of s is of type 1, and leads to a state of the same rule that is safe for it.
pub record Leads (ss : List State) (k : ℕ) (es : List Edge) (s i : ℕ) : Type 0 where
  pub free : (get_or (leaving es s) i no_edge).kind ≡ 1
  pub ruled : rule_at ss (target_of es s i) ≡ rule_at ss s
  pub own : Own ss k es (target_of es s i)

-- A state that can be passed, if its edges can: it is not the stop, and of its own it is passable.
pub record Way (ss : List State) (k : ℕ) (es : List Edge) (s : ℕ) : Type 0 where
  pub listed : s < length ss
  pub ends : stops ss k (rule_at ss s) ≡ true
  pub other : s ≡ stop_at ss s → ⊥
  pub unstopped : (state_at ss s).kind ≡ 7 → ⊥
  pub some : 0 < degree es s

pub same_self : (a : ℤ) → same a a ≡ true
same_self (pos n) = eq-eqb n n refl
same_self (negsuc n) = eq-eqb n n refl

module _ (ss : List State) (k : ℕ) (es : List Edge) where
  -- the stop of a state's own rule is safe
  pub stop_own : (s : ℕ) → s < length ss → stops ss k (rule_at ss s) ≡ true → s ≡ stop_at ss s → Own ss k es s
  stop_own s h x e = record { listed = h; ends = x; safely = stop e }

  -- any other is on the way, with edges that all lead on
  safe_on : {s : ℕ} → s < length ss → stops ss k (rule_at ss s) ≡ true → (s ≡ stop_at ss s → ⊥) → Safe ss es (rule_at ss s) (stop_at ss s) s
      → Way ss k es s × ((i : ℕ) → i < degree es s → Leads ss k es s i)
  safe_on h x n (stop e) = absurd (n e)
  safe_on {s} h x n (step p f) =
      let a = and_true _ _ p in
      let b = and_true _ _ a.0 in
      let c = and_true (ltb s (length ss) && same (rule_at ss s) (rule_at ss s)) (not (eqb (state_at ss s).kind 7)) b.0 in (
        record {
          listed = h;
          ends = x;
          other = n;
          unstopped = eqb-false (state_at ss s).kind 7 (not-true (eqb (state_at ss s).kind 7) c.1);
          some = ltb-true 0 (degree es s) b.1;
        },
        (λ i l.
            let y = (own_of ss k es (rule_at ss s) (target_of es s i)).0 (x, f i l) in
            record { free = eqb-true (get_or (leaving es s) i no_edge).kind 1 (every_true (λ e. eqb e.kind 1) no_edge (leaving es s) a.1 i l); ruled = y.0; own = y.1 }),
      )

  pub own-way : (s : ℕ) → (s ≡ stop_at ss s → ⊥) → Own ss k es s → Way ss k es s
  own-way s n o = (safe_on o.listed o.ends n o.safely).0

  pub own-leads : {s : ℕ} → Way ss k es s → Own ss k es s → (i : ℕ) → i < degree es s → Leads ss k es s i
  own-leads w o = (safe_on o.listed o.ends w.other o.safely).1

  pub leads-own : {s : ℕ} → Way ss k es s → ((i : ℕ) → i < degree es s → Leads ss k es s i) → Own ss k es s
  leads-own {s} w f = record { listed = w.listed; ends = w.ends; safely = step can (λ i h. ((own_of ss k es (rule_at ss s) (target_of es s i)).1 ((f i h).ruled, (f i h).own)).1) }
    where
      can : passable ss es (rule_at ss s) s ≡ true
      can =
          rw (lt-ltb s (length ss) w.listed, same_self (rule_at ss s), ne_eqb (state_at ss s).kind 7 w.unstopped, lt-ltb 0 (degree es s) w.some)
          (true_every (λ e. eqb e.kind 1) no_edge (leaving es s) (λ i h. eq-eqb (get_or (leaving es s) i no_edge).kind 1 (f i h).free))

  -- ---- no safe state among states that are no stops and have an edge to one another

  pub record Into (P : ℕ → Type 0) (s : ℕ) : Type 0 where
    pub other : s ≡ stop_at ss s → ⊥
    pub index : ℕ
    pub inside : index < degree es s
    pub goes : P (target_of es s index)

  no_safe : (P : ℕ → Type 0) → ((s : ℕ) → P s → Into P s) → (R : ℤ) → stops ss k R ≡ true → {s : ℕ} → Safe ss es R (size (stop_of ss R)) s → P s → ⊥
  no_safe P f R h {s} (stop e) m = (f s m).other (e ∙ ap (λ (q : ℤ). size (stop_of ss q)) (sym ((own_of ss k es R s).0 (h, stop e)).0))
  no_safe P f R h {s} (step p g) m = let x = f s m in no_safe P f R h (g x.index x.inside) x.goes

  pub no_cycle : (P : ℕ → Type 0) → ((s : ℕ) → P s → Into P s) → {s : ℕ} → P s → Own ss k es s → ⊥
  no_cycle P f {s} m o = no_safe P f (rule_at ss s) o.ends o.safely m
