-- What was read comes of its written words; and two lists give the same written words exactly when they gave the same records and max token type.
use Rattle.std.specs.Prelude.{◌≡◌, refl, List, [], ◌++◌, ◌↔◌, ℕ, ◌+◌, ◌≤◌, ℤ, length}
use Rattle.std.proofs.Common.{sym, ap, ◌∙◌, subst, append-nil, arith}
use Rattle.format.specs.Reading.{Table, States, Edges, Ranges, Sets, Rules, Modes, Decisions, Actions, ok, run}
use Rattle.format.specs.Sections.{Read}
use Rattle.format.specs.Tables.{room, records}
use Rattle.format.specs.Decode.{dialect}
use Rattle.format.specs.Writing.{words_of, recovered}
use Rattle.laws.specs.Fits.{Roomed, read_roomed}
use Rattle.rewriting.specs.Formed.{plain}
use Rattle.rewriting.specs.Whole.{read_formed, words_run}
use Rattle.rewriting.specs.Plain.{plain-records, plain_formed, plain_roomed, recovered-records}

-- the words written of what was read, from its records
abbrev pub written : Read → List ℤ
written r = words_of (recovered (records r) r.token)

same_read : {r s : Read} {n m : ℕ} → ok r n ≡ ok s m → r ≡ s
same_read e = cc

pub more_roomed : (small large : Table → ℕ) (r : Read) → ((t : Table) → small t ≤ large t) → Roomed small r → Roomed large r
more_roomed small large r g m =
    record {
      states = omega (arith, g States, m.states);
      edges = omega (arith, g Edges, m.edges);
      ranges = omega (arith, g Ranges, m.ranges);
      sets = omega (arith, g Sets, m.sets);
      rules = omega (arith, g Rules, m.rules);
      modes = omega (arith, g Modes, m.modes);
      decisions = omega (arith, g Decisions, m.decisions);
      actions = omega (arith, g Actions, m.actions);
    }

-- ---- what was read comes of its written words, in any room that its records have

module _ (lent : Table → ℕ) (ws : List ℤ) (at : ℕ) (r : Read) (n : ℕ) (e : run dialect ws (room lent) at ≡ ok r n) where
  pub read_again : (rooms : Table → ℕ) → Roomed rooms r → (zs : List ℤ) → run dialect (written r ++ zs) rooms 0 ≡ ok (plain r) (length (written r))
  read_again rooms m zs =
      subst (λ (x : Read). run dialect (words_of x ++ zs) rooms 0 ≡ ok (plain r) (length (words_of x))) (sym (recovered-records r))
      (words_run rooms (plain r) (plain_formed r (read_formed ws (room lent) at r n e)) (plain_roomed rooms r m) zs)

  -- "Decoding what was written, with the same room, gives the same records"
  pub decodes-again : (run dialect (written r) (room lent) 0 ≡ ok (plain r) (length (written r))) × ((t : Table) → records (plain r) t ≡ records r t)
  decodes-again =
      (subst (λ (ws : List ℤ). run dialect ws (room lent) 0 ≡ ok (plain r) (length (written r))) (append-nil (written r)) (read_again (room lent) (read_roomed lent ws at r n e) []), plain-records r)

-- ---- "two accepted word lists give the same written words exactly when they gave the same records and max token type"

pub recovered-same : (S T : Table → List (List ℤ)) (token : ℤ) → ((t : Table) → S t ≡ T t) → recovered S token ≡ recovered T token
recovered-same S T token h = ap (λ (F : Table → List (List ℤ)). recovered F token) (λ i t. h t i)

plain_token : (r : Read) → (plain r).token ≡ r.token
unfolding plain
plain_token r = refl

module _ (lent : Table → ℕ) (ws : List ℤ) (at : ℕ) (r : Read) (n : ℕ) (e : run dialect ws (room lent) at ≡ ok r n)
    (lent' : Table → ℕ) (ws' : List ℤ) (at' : ℕ) (r' : Read) (n' : ℕ) (e' : run dialect ws' (room lent') at' ≡ ok r' n') where
  pub same-written : written r ≡ written r' ↔ ((t : Table) → records r t ≡ records r' t) × (r.token ≡ r'.token)
  same-written = (to, fro)
    where
      rooms : Table → ℕ
      rooms t = room lent t + room lent' t

      to : written r ≡ written r' → ((t : Table) → records r t ≡ records r' t) × (r.token ≡ r'.token)
      to w =
          let x = read_again lent ws at r n e rooms (more_roomed (room lent) rooms r (λ t. omega arith) (read_roomed lent ws at r n e)) [] in
          let y = read_again lent' ws' at' r' n' e' rooms (more_roomed (room lent') rooms r' (λ t. omega arith) (read_roomed lent' ws' at' r' n' e')) [] in
          let p : plain r ≡ plain r' = same_read (sym x ∙ ap (λ (u : List ℤ). run dialect (u ++ []) rooms 0) w ∙ y) in
          (λ t. sym (plain-records r t) ∙ ap (λ (q : Read). records q t) p ∙ plain-records r' t, sym (plain_token r) ∙ ap (λ (q : Read). q.token) p ∙ plain_token r')

      fro : ((t : Table) → records r t ≡ records r' t) × (r.token ≡ r'.token) → written r ≡ written r'
      fro h = ap words_of (recovered-same (records r) (records r') r.token h.0 ∙ ap (recovered (records r')) h.1)
