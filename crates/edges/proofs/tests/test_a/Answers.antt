-- `edges::tests::test_a` meets its contract: as `test_a` goes, by the type. Assumes nothing.
use Rattle.std.proofs.Common.{◌≡◌, refl, sym, ◌∙◌, false, [], ◌∷◌, inl, inr, rules}
use Rattle.format.specs.Kinds.{edge_number}
use Rattle.format.specs.Reading.{run}
use Rattle.format.specs.Sections.{among, test_a}
use Rattle.laws.specs.Running.{ok_then, no_then}
use Rattle.words.specs.Laws.{handed_on}
use Rattle.words.proofs.Signs.{back32}
use Rattle.edges.proofs.Types.{no_set, no_index}
use Rattle.edges.proofs.tests.test_a.Goals as goal

pub returns-in_ok-set-in-Set : goal.returns-in_ok-set-in-Set
unfolding test_a
returns-in_ok-set-in-Set c =
    let a = c.args in
    let index = rw (back32 a.a c.ranges.a.sfits) at c.in_ok-set-in-Set.ensures.says in
    λ ws rooms.
    let says = c.listed.ensures.says ws rooms ∙ sym (ok_then _ _ _ _ _ (index ws rooms)) in
    elim c.in-Set.is [ inl e ↦ rw e says | inr e ↦ rw e says ]

pub returns-in_err-set-in-Set : goal.returns-in_err-set-in-Set
unfolding test_a
returns-in_err-set-in-Set c =
    let a = c.args in
    let index = rw (back32 a.a c.ranges.a.sfits) at c.in_err-set-in-Set.ensures.says in
    λ ws rooms. rw (handed_on c.from_residual.result c.in_err-set-in-Set.field-0.0 c.from_residual.ensures.1)
    (elim c.in-Set.is [ inl e ↦ rw e (sym (no_then _ _ _ _ _ (index ws rooms))) | inr e ↦ rw e (sym (no_then _ _ _ _ _ (index ws rooms))) ])

pub returns-in-Rule : goal.returns-in-Rule
unfolding test_a
returns-in-Rule c =
    let a = c.args in
    let says = rw (back32 a.a c.ranges.a.sfits) at c.read_index-in-Rule.ensures.says in
    λ ws rooms. elim c.in-Rule.is [
      | inl e ↦ rw e (says ws rooms)
      | inr f ↦ elim f [ inl e ↦ rw e (says ws rooms) | inr e ↦ rw e (says ws rooms) ]
    ]

pub returns-in_default : goal.returns-in_default
unfolding run test_a
returns-in_default c =
    let k = edge_number c.args.kind in
    let set : among k (7 ∷ 8 ∷ []) ≡ false = search (rules, no_set) in
    let index : among k (3 ∷ 4 ∷ 6 ∷ []) ≡ false = search (rules, no_index) in
    λ ws rooms. rw (set, index) refl
