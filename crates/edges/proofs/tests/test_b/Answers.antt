-- `edges::tests::test_b` meets its contract: as `test_b` goes, by the type. Assumes nothing.
use Rattle.std.proofs.Common.{◌≡◌, refl, false, [], ◌∷◌, inl, inr, rules}
use Rattle.format.specs.Kinds.{edge_number}
use Rattle.format.specs.Reading.{run}
use Rattle.format.specs.Sections.{among, test_b}
use Rattle.words.proofs.Signs.{back32}
use Rattle.edges.proofs.Types.{no_two}
use Rattle.edges.proofs.tests.test_b.Goals as goal

pub returns-in-Rule : goal.returns-in-Rule
unfolding test_b
returns-in-Rule c =
    let a = c.args in
    let says = rw (back32 a.b c.ranges.b.sfits) at c.read_index.ensures.says in
    λ ws rooms. elim c.in-Rule.is [ inl e ↦ rw e (says ws rooms) | inr e ↦ rw e (says ws rooms) ]

pub returns-in_default : goal.returns-in_default
unfolding run test_b
returns-in_default c =
    let plain : among (edge_number c.args.kind) (3 ∷ 4 ∷ []) ≡ false = search (rules, no_two) in
    λ ws rooms. rw plain refl
