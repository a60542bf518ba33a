-- Tables whose records stand in a row: that they are linked, and what the marks make of them.
use Rattle.std.specs.Prelude.{◌≡◌, refl, Bool, true, false, List, [], ◌∷◌, ◌++◌, ℕ, ◌+◌, ◌*◌, ◌≤◌, ◌<◌, ◌^◌, ℤ, pos, length, get_or, set}
use Rattle.std.proofs.Common.{sym, ap, ◌∙◌, append_assoc, arith, length-append}
use Rattle.std.proofs.lemmas.List.{set_at}
use Rattle.format.specs.Reading.{pick}
use Rattle.format.specs.Sections.{State, Rule, Edge}
use Rattle.format.specs.Links.{flat, first, last, chain, next, stop_of, tail}
use Rattle.format.specs.Tables.{numbered}
use Rattle.atn.specs.Records.{no_state, no_edge, edge_at, Chained, Stopped, states_are, edges_are}
use Rattle.atn.specs.Marks.{mark_from, marked}
use Rattle.laws.specs.Rows.{rows_long, row_word}
use Rattle.laws.specs.Sound.{Sound}

-- The rows of states with the edges es, whatever their flags; of edges, whatever their marks; and of rules.
abbrev pub state_row : List Edge → (ℕ → ℤ) → ℕ → State → List ℤ
state_row es flags s x = pos x.kind ∷ x.rule ∷ x.end ∷ x.back ∷ flags s ∷ first (chain es s) ∷ last (chain es s) ∷ pos (length (chain es s)) ∷ []

abbrev pub edge_row : List Edge → (ℕ → Edge → ℤ) → ℕ → Edge → List ℤ
edge_row es marks i e = pos e.kind ∷ pos e.source ∷ pos e.target ∷ e.p ∷ e.q ∷ e.r ∷ marks i e ∷ next es e.source i ∷ []

abbrev pub rule_row : List State → ℕ → Rule → List ℤ
rule_row ss R x = pos x.start ∷ stop_of ss (pos R) ∷ x.token ∷ []

-- ---- words of rows

module _ {A : Type 0} (w : ℕ) (f : ℕ → A → List ℤ) (wide : (i : ℕ) (a : A) → length (f i a) ≡ w) where
  first_word : (l : List A) (zs : List ℤ) (d : A) (i : ℕ) → i < length l → 0 < w → get_or (flat (numbered 0 f l) ++ zs) (w * i) (pos 0) ≡ get_or (f i (get_or l i d)) 0 (pos 0)
  first_word l zs d i h b =
      let e : w * i ≡ w * i + 0 = omega arith in
      ap (λ (n : ℕ). get_or (flat (numbered 0 f l) ++ zs) n (pos 0)) e ∙ row_word w f wide l zs d i 0 h b

  rows_fit : (l : List A) (zs : List ℤ) → w * length l ≤ length (flat (numbered 0 f l) ++ zs)
  rows_fit l zs = omega (arith, length-append (flat (numbered 0 f l)) zs, rows_long w f wide l)

-- ---- such tables are linked

module _ (ss : List State) (es : List Edge) (flags : ℕ → ℤ) (marks : ℕ → Edge → ℤ) (zs ys : List ℤ) where
  abbrev st : List ℤ
  st = flat (numbered 0 (state_row es flags) ss) ++ zs

  abbrev ed : List ℤ
  ed = flat (numbered 0 (edge_row es marks) es) ++ ys

  pub chained-rows : {sets : ℕ} → length ss < 2 ^ 31 → length es < 2 ^ 31 → ((i : ℕ) → i < length es → Sound (length ss) sets (edge_at es i)) → Chained ss es (length ss) (length es) st ed
  chained-rows few few' sound =
      record {
        all-states = refl;
        all_edges = refl;
        few_states = few;
        few_edges = few';
        states_long = rows_fit 8 (state_row es flags) (λ i a. refl) ss zs;
        edges_long = rows_fit 8 (edge_row es marks) (λ i a. refl) es ys;
        states = λ s h.
            let word = row_word 8 (state_row es flags) (λ i a. refl) ss zs no_state s in
            record {
              kind = first_word 8 (state_row es flags) (λ i a. refl) ss zs no_state s h (omega arith);
              rule = word 1 h (omega arith);
              end = word 2 h (omega arith);
              back = word 3 h (omega arith);
              starts = word 5 h (omega arith);
              count = word 7 h (omega arith);
            };
        edges = λ i h.
            let word = row_word 8 (edge_row es marks) (λ j a. refl) es ys no_edge i in
            record {
              kind = first_word 8 (edge_row es marks) (λ j a. refl) es ys no_edge i h (omega arith);
              source = word 1 h (omega arith);
              target = word 2 h (omega arith);
              p = word 3 h (omega arith);
              q = word 4 h (omega arith);
              r = word 5 h (omega arith);
              onward = word 7 h (omega arith);
              listed = (sound i h).listed;
              follow = (sound i h).follow;
            };
      }

pub stopped-rows : (ss : List State) (rs : List Rule) (zs : List ℤ) → length rs < 2 ^ 31 → Stopped ss (length rs) (flat (numbered 0 (rule_row ss) rs) ++ zs)
stopped-rows ss rs zs few =
    record {
      few_rules = few;
      rules_long = rows_fit 3 (rule_row ss) (λ R a. refl) rs zs;
      stops_at = λ R h. row_word 3 (rule_row ss) (λ R a. refl) rs zs (record { start = 0; token = pos 0 }) R 1 h (omega arith);
    }

-- ---- their marks

module _ (t : Edge → Bool) (es : List Edge) (marks : ℕ → Edge → ℤ) where
  -- the marks that a test leaves
  abbrev after : ℕ → Edge → ℤ
  after i e = pick (t e) (pos 2) (marks i e)

  one-row : (i : ℕ) (e : Edge) (pre more : List ℤ) → length pre ≡ 8 * i
      → pick (t e) (set (pre ++ (edge_row es marks i e ++ more)) (8 * i + 6) (pos 2)) (pre ++ (edge_row es marks i e ++ more)) ≡ pre ++ (edge_row es after i e ++ more)
  one-row i e pre more h = go (t e)
    where
      six : List ℤ
      six = pos e.kind ∷ pos e.source ∷ pos e.target ∷ e.p ∷ e.q ∷ e.r ∷ []

      rest : List ℤ
      rest = next es e.source i ∷ more

      go : (b : Bool) → pick b (set (pre ++ (edge_row es marks i e ++ more)) (8 * i + 6) (pos 2)) (pre ++ (edge_row es marks i e ++ more)) ≡ pre ++ (six ++ (pick b (pos 2) (marks i e) ∷ rest))
      go true =
          ap (λ (l : List ℤ). set l (8 * i + 6) (pos 2)) (sym (append_assoc pre six (marks i e ∷ rest)))
          ∙ set_at (pre ++ six) (marks i e) rest (pos 2) (8 * i + 6) (omega (arith, length-append pre six))
          ∙ append_assoc pre six (pos 2 ∷ rest)
      go false = refl

  mark_rows : (i : ℕ) (l : List Edge) (pre ys : List ℤ) → length pre ≡ 8 * i → mark_from t i l (pre ++ (flat (numbered i (edge_row es marks) l) ++ ys)) ≡ pre ++ (flat (numbered i (edge_row es after) l) ++ ys)
  mark_rows i [] pre ys h = refl
  mark_rows i (e ∷ l) pre ys h =
      let old = flat (numbered (i + 1) (edge_row es marks) l) in
      let new = flat (numbered (i + 1) (edge_row es after) l) in
      let row = edge_row es after i e in
      ap (λ (x : List ℤ). mark_from t (i + 1) l x) (one-row i e pre (old ++ ys) h ∙ sym (append_assoc pre row (old ++ ys)))
      ∙ mark_rows (i + 1) l (pre ++ row) ys (omega (arith, length-append pre row))
      ∙ append_assoc pre row (new ++ ys)

-- the marks of a table of edges in a row
pub marked-rows : {ss : List State} {es : List Edge} {n m : ℕ} {st : List ℤ} (k : ℕ) (marks : ℕ → Edge → ℤ) (ys : List ℤ) → Chained ss es n m st (flat (numbered 0 (edge_row es marks) es) ++ ys)
    → marked n k m st (flat (numbered 0 (edge_row es marks) es) ++ ys) ≡ flat (numbered 0 (edge_row es (λ i e. pick (tail ss k es e) (pos 2) (marks i e))) es) ++ ys
unfolding marked
marked-rows {ss} {es} k marks ys C =
    let a = states_are C in
    let b = edges_are C in
    let ed = flat (numbered 0 (edge_row es marks) es) ++ ys in
    (λ i. mark_from (tail (a i) k (b i)) 0 (b i) ed) ∙ mark_rows (tail ss k es) es marks 0 es [] ys refl
