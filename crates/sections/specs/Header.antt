-- The header: what the words that were read come to.
use Rattle.std.specs.Prelude.{◌≡◌, refl, true, false, List, ℕ, ℤ, pos}
use Rattle.std.proofs.Math.Path.{sym}
use Rattle.std.proofs.Common.{◌∙◌}
use Rattle.format.specs.Reading.{Table, ok, no, Prog, done, run, ◌>>◌, pick, fail, refusal, spot, get}
use Rattle.format.specs.Sections.{same, version, grammar}
use Rattle.format.specs.declared.Refusal.{Refusal}
use Rattle.laws.specs.Running.{ok_then, no_then}
use Rattle.inplace.specs.Held.{with}
use Rattle.inplace.specs.Sections.{no_counts, begun, header}
use Rattle.sections.specs.Through.{word_ok, word_no}

abbrev four : ℕ → ℤ → Prog ℤ
four p v = pick (same v (pos 4)) (done v) (fail 3 (spot 1 0) p v)

abbrev lexer : ℕ → ℤ → Prog ℤ
lexer p v = pick (same v (pos 0)) (done v) (pick (same v (pos 1)) (fail 4 (spot 2 0) p v) (fail 5 (spot 2 0) p v))

module _ (ws : List ℤ) (rooms : Table → ℕ) (at : ℕ) {v : ℤ} {n : ℕ} where
  pub version_ok : ok v n ≡ run (get (spot 1 0)) ws rooms at → same v (pos 4) ≡ true → ok v n ≡ run version ws rooms at
  unfolding run version
  version_ok e b = sym (word_ok (spot 1 0) four ws rooms at e ∙ rw b refl)

  pub version_other : ok v n ≡ run (get (spot 1 0)) ws rooms at → same v (pos 4) ≡ false → no (refusal 3 (spot 1 0) at v) ≡ run version ws rooms at
  unfolding run version
  version_other e b = sym (word_ok (spot 1 0) four ws rooms at e ∙ rw b refl)

  pub grammar_ok : ok v n ≡ run (get (spot 2 0)) ws rooms at → same v (pos 0) ≡ true → ok v n ≡ run grammar ws rooms at
  unfolding run grammar
  grammar_ok e b = sym (word_ok (spot 2 0) lexer ws rooms at e ∙ rw b refl)

  pub grammar_parser : ok v n ≡ run (get (spot 2 0)) ws rooms at → same v (pos 0) ≡ false → same v (pos 1) ≡ true → no (refusal 4 (spot 2 0) at v) ≡ run grammar ws rooms at
  unfolding run grammar
  grammar_parser e b d = sym (word_ok (spot 2 0) lexer ws rooms at e ∙ rw (b, d) refl)

  pub grammar_other : ok v n ≡ run (get (spot 2 0)) ws rooms at → same v (pos 0) ≡ false → same v (pos 1) ≡ false → no (refusal 5 (spot 2 0) at v) ≡ run grammar ws rooms at
  unfolding run grammar
  grammar_other e b d = sym (word_ok (spot 2 0) lexer ws rooms at e ∙ rw (b, d) refl)

module _ (ws : List ℤ) (rooms : Table → ℕ) (at : ℕ) {r : Refusal} where
  pub version_no : no r ≡ run (get (spot 1 0)) ws rooms at → no r ≡ run version ws rooms at
  unfolding version
  version_no e = sym (word_no (spot 1 0) four ws rooms at e)

  pub grammar_no : no r ≡ run (get (spot 2 0)) ws rooms at → no r ≡ run grammar ws rooms at
  unfolding grammar
  grammar_no e = sym (word_no (spot 2 0) lexer ws rooms at e)

-- version, grammar type and max token type, one after another
abbrev typed : Prog ℤ
typed = version >> grammar

abbrev whole : Prog ℤ
whole = typed >> get (spot 3 0)

module _ (ws : List ℤ) (rooms : Table → ℕ) (at : ℕ) where
  pub version-ends : {r : Refusal} → no r ≡ run version ws rooms at → no r ≡ run header ws rooms at
  unfolding header
  version-ends e = sym (no_then whole begun ws rooms at (sym (no_then typed (λ _. get (spot 3 0)) ws rooms at (sym (no_then version (λ _. grammar) ws rooms at e)))))

  module _ {v : ℤ} {n : ℕ} (e : ok v n ≡ run version ws rooms at) where
    pub grammar-ends : {r : Refusal} → no r ≡ run grammar ws rooms n → no r ≡ run header ws rooms at
    unfolding header
    grammar-ends f = sym (no_then whole begun ws rooms at (sym (no_then typed (λ _. get (spot 3 0)) ws rooms at (f ∙ sym (ok_then version (λ _. grammar) ws rooms at e)))))

    module _ {g : ℤ} {m : ℕ} (f : ok g m ≡ run grammar ws rooms n) where
      whole_is : run whole ws rooms at ≡ run (get (spot 3 0)) ws rooms m
      whole_is = ok_then typed (λ _. get (spot 3 0)) ws rooms at (f ∙ sym (ok_then version (λ _. grammar) ws rooms at e))

      pub token_ends : {r : Refusal} → no r ≡ run (get (spot 3 0)) ws rooms m → no r ≡ run header ws rooms at
      unfolding header
      token_ends h = sym (no_then whole begun ws rooms at (h ∙ sym whole_is))

      pub header_ok : {t : ℤ} {k : ℕ} → ok t k ≡ run (get (spot 3 0)) ws rooms m → ok (with (no_counts t k) tt) k ≡ run header ws rooms at
      unfolding header run
      header_ok h = sym (ok_then whole begun ws rooms at (h ∙ sym whole_is))
