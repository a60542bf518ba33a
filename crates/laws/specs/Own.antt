-- Safety for a state's own rule is safety for any rule, so that one search over the states serves all rule edges.
use Rattle.std.specs.Prelude.{◌≡◌, refl, true, ◌&&◌, List, ◌↔◌, ℕ, ◌<◌, ltb, eqb, ℤ, pos, negsuc, length}
use Rattle.std.proofs.Common.{sym, ap, ◌∙◌, subst, arith, ltb-true, eqb-true}
use Rattle.format.specs.Sections.{State, Edge, none, state_of, same, size}
use Rattle.format.specs.Links.{names, state_at, stop_of, stops, Safe, stop, step}
use Rattle.laws.specs.Safe.{and_true, TailCall}
use Rattle.laws.specs.Chains.{numbers_are, stop_highest}

pub same_true : (a b : ℤ) → same a b ≡ true → a ≡ b
same_true (pos a) (pos b) e = ap pos (eqb-true a b e)
same_true (pos a) (negsuc b) e = absurd (let z : ◌≡◌ {A = ℕ} 0 1 = cc in omega arith)
same_true (negsuc a) (pos b) e = absurd (let z : ◌≡◌ {A = ℕ} 0 1 = cc in omega arith)
same_true (negsuc a) (negsuc b) e = ap negsuc (eqb-true a b e)

-- a rule's stop that exists is a listed state of type 7 with that rule
pub stop_is : (ss : List State) (R : ℤ) → names (length ss) (stop_of ss R) ≡ true → (size (stop_of ss R) < length ss) × (((state_at ss (size (stop_of ss R))).kind ≡ 7) × ((state_at ss (size (stop_of ss R))).rule ≡ R))
stop_is ss R h = go (stop_of ss R) refl h
  where
    go : (z : ℤ) → stop_of ss R ≡ z → names (length ss) z ≡ true → (size z < length ss) × (((state_at ss (size z)).kind ≡ 7) × ((state_at ss (size z)).rule ≡ R))
    go (pos Z) e t =
        let m = (numbers_are (λ s. eqb s.kind 7 && same s.rule R) ss (state_of 0 none none none) Z).0 (stop_highest ss R Z e).0 in
        let b = and_true (eqb (state_at ss Z).kind 7) (same (state_at ss Z).rule R) m.1 in
        (m.0, (eqb-true (state_at ss Z).kind 7 b.0, same_true (state_at ss Z).rule R b.1))
    go (negsuc n) e t = absurd (let z : ◌≡◌ {A = ℕ} 0 1 = cc in omega arith)

-- safe for its own rule, which exists and has a stop
pub record Own (ss : List State) (n : ℕ) (es : List Edge) (s : ℕ) : Type 0 where
  pub listed : s < length ss
  pub ends : stops ss n (state_at ss s).rule ≡ true
  pub safely : Safe ss es (state_at ss s).rule (size (stop_of ss (state_at ss s).rule)) s

module _ (ss : List State) (n : ℕ) (es : List Edge) where
  safe_ruled : (R : ℤ) {s : ℕ} → stops ss n R ≡ true → Safe ss es R (size (stop_of ss R)) s → (s < length ss) × ((state_at ss s).rule ≡ R)
  safe_ruled R {s} h (stop e) =
      let z = stop_is ss R (and_true (names n R) (names (length ss) (stop_of ss R)) h).1 in
      (subst (λ (k : ℕ). k < length ss) (sym e) z.0, ap (λ (k : ℕ). (state_at ss k).rule) e ∙ z.1.1)
  safe_ruled R {s} h (step p f) =
      let a = and_true _ _ p in
      let b = and_true _ _ a.0 in
      let c = and_true _ _ b.0 in
      let d = and_true (ltb s (length ss)) (same (state_at ss s).rule R) c.0 in
      (ltb-true s (length ss) d.0, same_true (state_at ss s).rule R d.1)

  -- a state that is safe for some rule with a stop has that rule, and is safe for its own
  pub own_of : (R : ℤ) (s : ℕ) → (stops ss n R ≡ true) × Safe ss es R (size (stop_of ss R)) s ↔ ((state_at ss s).rule ≡ R) × Own ss n es s
  own_of R s = (
    (λ x.
        let y = safe_ruled R x.0 x.1 in (
          y.1,
          record {
            listed = y.0;
            ends = subst (λ (q : ℤ). stops ss n q ≡ true) (sym y.1) x.0;
            safely = subst (λ (q : ℤ). Safe ss es q (size (stop_of ss q)) s) (sym y.1) x.1;
          },
        )),
    (λ x. (subst (λ (q : ℤ). stops ss n q ≡ true) x.0 x.1.ends, subst (λ (q : ℤ). Safe ss es q (size (stop_of ss q)) s) x.0 x.1.safely)),
  )

  -- a rule edge is a tail call exactly if its follow state has its source's rule, and is safe for its own
  pub tail-own : (e : Edge) → TailCall ss n es e ↔ (e.kind ≡ 3) × ((state_at ss (size e.q)).rule ≡ (state_at ss e.source).rule) × Own ss n es (size e.q)
  tail-own e =
      let o = own_of (state_at ss e.source).rule (size e.q) in (
        (λ t. let x = o.0 (t.exist, t.safely) in (t.rule-edge, x.0, x.1)),
        (λ x. let y = o.1 (x.1, x.2) in record { rule-edge = x.0; exist = y.0; safely = y.1 }),
      )
