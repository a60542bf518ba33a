-- All words of what is found again in lent tables, and the answer once they were laid.
use Rattle.std.specs.Prelude.{◌≡◌, refl, List, [], ◌∷◌, map, true, ◌&&◌, ℕ, ◌+◌, ◌*◌, ◌≤◌, ltb, leb, ℤ, length, take, drop}
use Rattle.std.proofs.Common.{arith, eqb-true}
use Rattle.format.specs.Reading.{Table, States, Edges, Ranges, Sets, Rules, Modes, Decisions, Actions, pick}
use Rattle.format.specs.Sets.{ranges_of}
use Rattle.format.specs.Sections.{Read}
use Rattle.format.specs.Links.{numbers, those}
use Rattle.format.specs.Tables.{nine, width}
use Rattle.format.specs.Writing.{state_back, rule_back, state_named, edge_back, action_back, flag1, flag2, own, recovered, rows_of, given, Writing, unwritten, wrote}
use Rattle.rewriting.specs.Formed.{kept, set_row}
use Rattle.rewriting.specs.Tests.{right}
use Rattle.rewriting.specs.Passes.{sets_from, sets_fine}
use Rattle.writing.specs.Parts.{count_of, in_sets, sets_back}

-- What is found again where so many records of each table count: of the edges, those that are not derived.
unfoldable pub read_off : (Table → List ℤ) → (Table → ℕ) → ℤ → Read
read_off tables counts token =
    let rows : Table → List (List ℤ) = λ t. rows_of (width t) (counts t) (tables t) in
    record {
      token = token;
      states = map state_back (rows States);
      nongreedy = numbers flag1 (rows States);
      recursive = numbers flag2 (rows States);
      rules = map rule_back (rows Rules);
      modes = map state_named (rows Modes);
      sets = sets_back (counts Ranges) (tables Ranges) (rows Sets);
      edges = map edge_back (rows Edges);
      decisions = map state_named (rows Decisions);
      actions = map action_back (rows Actions);
    }

-- it is what format finds in all m edges, where the first o are those that are not derived
pub off_recovered : (st ed ra se ru mo de ac : List ℤ) (n m o a s r u d c : ℕ) (token : ℤ) → those own (rows_of 8 m ed) ≡ rows_of 8 o ed
    → recovered (given (nine st ed ra se ru mo de ac []) (nine n m a s r u d c 0)) token ≡ read_off (nine st ed ra se ru mo de ac []) (nine n o a s r u d c 0) token
unfolding read_off recovered
off_recovered st ed ra se ru mo de ac n m o a s r u d c token e = rw e refl

-- ---- the answer

-- "16 exactly when the output is too short": of m words.
abbrev pub answer : List ℤ → ℕ → Writing
answer ws m = pick (ltb m (length ws)) (unwritten 16 m) (wrote ws m)

-- ---- sets that lie in a row lie inside the ranges

from_inside : (m : ℕ) (ra : List ℤ) (b : ℕ) (l : List (List ℤ)) → sets_from m ra b l ≡ true → b + in_sets l ≤ m
from_inside m ra b [] h = omega (arith, eqb-true b m h)
from_inside m ra b (x ∷ l) h =
    let row = set_row b x && leb (b + count_of x) m in
    let set = kept 0 (ranges_of (take (2 * count_of x) (drop (2 * b) ra))) in
    omega (arith, from_inside m ra (b + count_of x) l (right (row && set) (sets_from m ra (b + count_of x) l) h))

pub fine-inside : (k : ℕ) (se : List ℤ) (m : ℕ) (ra : List ℤ) → sets_fine k se m ra ≡ true → in_sets (rows_of 2 k se) ≤ m
fine-inside k se m ra h = omega (arith, from_inside m ra 0 (rows_of 2 k se) h)
