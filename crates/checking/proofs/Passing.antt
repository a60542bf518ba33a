-- A test of each record of a table, made by an iterator over them.
use mathlib.Core.Path.{◌≡◌, refl, sym, ap, ◌∙◌}
use mathlib.Core.Bool.{Bool, true, false, ◌&&◌}
use mathlib.Core.List.{List, [], ◌∷◌}
use Prim.Native.Nat.{ℕ, zero, suc}
use native.Mathlib.Numerals.{add-one}
use Rattle.std.proofs.Math.Bool.{and-true}
use lib.IntN.{ℤ}
use denote.Ref.{Bor}
use denote.Param.Members.{Mut}
use Rattle.std.specs.Prelude.{Option}
use Rattle.std.specs.Iterator.{YieldsThen}
use Rattle.std.proofs.lemmas.Fn.{fronts}
use Rattle.std.specs.declared.slice.Iter.{Iter}
use Rattle.std.specs.Slice.Iter.{iter_rest}
use Rattle.std.specs.List.{FoldsTo, list_all}
use Rattle.std.specs.Fn.{Called}
use Rattle.std.specs.Option.{MatchOption}
use Rattle.std.proofs.lemmas.Iterator.{YieldsList-from_slice}
use Rattle.std.proofs.lemmas.List.Folds.{list_all-append}
use Rattle.std.proofs.lemmas.Iterator.Search.{all_from_yields_List}
use Rattle.format.specs.Tables.{row_at}
use Rattle.format.specs.Writing.{rows_of}
use Rattle.rewriting.specs.Held.{rows_more}
use Rattle.rewriting.specs.Passes.{all}

-- a test of all records, by their numbers
all_rows : (p : List ℤ → Bool) (w n : ℕ) (t : List ℤ) → list_all p (rows_of w n t) ≡ all n (λ i. p (row_at w t i))
all_rows p w zero t = refl
all_rows p w (suc n) t =
    let l = rows_of w n t in
    let x = row_at w t n in
    ap (λ (k : ℕ). list_all p (rows_of w k t)) (sym (add-one n))
    ∙ ap (list_all p) (rows_more w n t)
    ∙ list_all-append p l (x ∷ [])
    ∙ ap (λ (b : Bool). list_all p l && b) (and-true (p x))
    ∙ ap (λ (b : Bool). b && p x) (all_rows p w n t)

-- what the iterator's test comes to: `ran` is its clause of that name, `rest` says what it goes over, and `test` what each call comes to
pub all_pass : {F : Type 0} {g : Mut F (Bor (List ℤ) × Unit {0}) Bool} {s u : Iter (List ℤ)} {f : F} {r : Bool} (p : List ℤ → Bool) (w n : ℕ) (t : List ℤ)
    → (xs : List (Bor (List ℤ))) × (o : Option (Bor (List ℤ))) × (j : F) × YieldsThen fronts s xs o u × FoldsTo (λ p x q. Called g p (x, tt) true q) f xs j × MatchOption o (r ≡ true) (λ x. (r ≡ false) × ((h : F) × Called g j (x, tt) false h))
    → iter_rest s ≡ rows_of w n t → ((x : Bor (List ℤ)) (b : Bool) (q : F) → Called g f (x, tt) b q → (q ≡ f) × (b ≡ p x.now)) → r ≡ all n (λ i. p (row_at w t i))
all_pass {u = u} {f} {r} p w n t ran rest test =
    all_from_yields_List p u f r ran (YieldsList-from_slice (rows_of w n t) rest) test ∙ all_rows p w n t
