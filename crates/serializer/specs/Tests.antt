-- Refusal 15: all tests that the code makes, in its order, and what they come to (Exactly: `passes_comes`).
use Rattle.std.specs.Prelude.{List, Bool, ◌&&◌, ℕ, leb, ℤ}
use Rattle.format.specs.Reading.{Table, States, Edges, Ranges, Sets, Rules, Modes, Decisions, Actions}
use Rattle.format.specs.Writing.{eight, inside}
use Rattle.rewriting.specs.Passes.{states_fine, edges_fine, arguments_fine, starts_fine, names_fine, actions_fine, sets_fine}
use Rattle.wiring.specs.Chains.{chains_fine}
use Rattle.wiring.specs.Stops.{stops_fine}
use Rattle.wiring.specs.Returns.{returns_fine}
use Rattle.wiring.specs.Marks.{own_count, marks_fine}
use Rattle.wiring.specs.Decisions.{decisions_fine}

-- "counted as 65,536 at most": more records than that no room holds.
abbrev pub few_in : (Table → ℕ) → Bool
few_in counts = eight (λ t. leb (counts t) 65536)

-- The states, the edges and the rules; c sets are listed.
abbrev pub joined_in : ℕ → ℕ → ℕ → ℕ → List ℤ → List ℤ → List ℤ → Bool
joined_in n m k c st ed ru = states_fine n st && edges_fine n m ed && arguments_fine c m ed && starts_fine k ru && chains_fine n m st ed && stops_fine n k st ru

-- What follows from them.
abbrev pub marked_in : ℕ → ℕ → ℕ → List ℤ → List ℤ → List ℤ → Bool
marked_in n m k st ed ru = let o = own_count m ed in returns_fine n m k st ed ru o && marks_fine n m k st ed o && decisions_fine n m k st ed ru

-- Both: they are linked as a decode links them.
abbrev pub linked_in : ℕ → ℕ → ℕ → ℕ → List ℤ → List ℤ → List ℤ → Bool
linked_in n m k c st ed ru = joined_in n m k c st ed ru && marked_in n m k st ed ru

-- The sets, the modes, the decisions and the actions.
abbrev pub others_in : ℕ → ℕ → ℕ → ℕ → ℕ → List ℤ → List ℤ → List ℤ → List ℤ → List ℤ → Bool
others_in r c o d a ra se mo de ac = sets_fine c se r ra && names_fine o mo && names_fine d de && actions_fine a ac

-- All of it, of records that lie in their tables.
abbrev pub fine : (Table → List ℤ) → (Table → ℕ) → Bool
fine tables counts =
    few_in counts && linked_in (counts States) (counts Edges) (counts Rules) (counts Sets) (tables States) (tables Edges) (tables Rules)
    && others_in (counts Ranges) (counts Sets) (counts Modes) (counts Decisions) (counts Actions) (tables Ranges) (tables Sets) (tables Modes) (tables Decisions) (tables Actions)

-- The tests of records that are listed: all but `few_in`.
abbrev pub passed_in : (Table → List ℤ) → (Table → ℕ) → Bool
passed_in tables counts =
    linked_in (counts States) (counts Edges) (counts Rules) (counts Sets) (tables States) (tables Edges) (tables Rules)
    && others_in (counts Ranges) (counts Sets) (counts Modes) (counts Decisions) (counts Actions) (tables Ranges) (tables Sets) (tables Modes) (tables Decisions) (tables Actions)

-- No count exceeds its table's whole records, or the most that any room holds.
abbrev pub listed_in : (Table → List ℤ) → (Table → ℕ) → Bool
listed_in tables counts = inside tables counts && few_in counts
