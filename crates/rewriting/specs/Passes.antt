-- Refusal 15 as the code decides it: tests of single records, of chains and of sets, each made in one pass over a lent table.
-- Nobody has to believe these: they hold together exactly where some words decode to the records (serializer: Exactly, `passes_comes`).
use Rattle.std.specs.Prelude.{List, [], ◌∷◌, Bool, true, ◌&&◌, ℕ, zero, suc, ◌+◌, ◌*◌, leb, eqb, ℤ, pos, get_or, take, drop}
use Rattle.format.specs.Sets.{ranges_of}
use Rattle.format.specs.Links.{names}
use Rattle.format.specs.Places.{st_kind, st_flags, ed_kind, ed_source, ed_target, se_count, ru_start, ac_kind}
use Rattle.format.specs.Tables.{row_at}
use Rattle.format.specs.Writing.{cell, cell_size, state_back, edge_back, action_back, rows_of}
use Rattle.rewriting.specs.Formed.{natural, state_read, kept, set_row, args_read, action_read}

-- A test of all numbers below n.
abbrev pub all : ℕ → (ℕ → Bool) → Bool
all zero p = true
all (suc n) p = let before = all n p in before && p n

-- ---- records by themselves

abbrev pub state_fine : List ℤ → Bool
state_fine x = natural (cell x st_kind) && state_read (state_back x) && names 8 (cell x st_flags)

abbrev pub states_fine : ℕ → List ℤ → Bool
states_fine n st = all n (λ s. state_fine (row_at 8 st s))

-- n states are listed
abbrev pub edge_fine : ℕ → List ℤ → Bool
edge_fine n x = natural (cell x ed_kind) && names n (cell x ed_source) && natural (cell x ed_target)

abbrev pub edges_fine : ℕ → ℕ → List ℤ → Bool
edges_fine n m ed = all m (λ i. edge_fine n (row_at 8 ed i))

-- p, q and r of m edges, derived ones too; k sets are listed
abbrev pub arguments_fine : ℕ → ℕ → List ℤ → Bool
arguments_fine k m ed = all m (λ i. args_read k (edge_back (row_at 8 ed i)))

abbrev pub starts_fine : ℕ → List ℤ → Bool
starts_fine k ru = all k (λ R. natural (cell (row_at 3 ru R) ru_start))

-- modes and decisions
abbrev pub names_fine : ℕ → List ℤ → Bool
names_fine n t = all n (λ i. natural (get_or t i (pos 0)))

abbrev pub action_fine : List ℤ → Bool
action_fine x = natural (cell x ac_kind) && action_read (action_back x)

abbrev pub actions_fine : ℕ → List ℤ → Bool
actions_fine n ac = all n (λ i. action_fine (row_at 3 ac i))

-- ---- sets in a row, each of them kept; m ranges in all, b of them in the sets before

abbrev pub sets_from : ℕ → List ℤ → ℕ → List (List ℤ) → Bool
sets_from m ra b [] = eqb b m
sets_from m ra b (x ∷ l) =
    let n = cell_size x se_count in
    let rest = sets_from m ra (b + n) l in
    set_row b x && leb (b + n) m && kept 0 (ranges_of (take (2 * n) (drop (2 * b) ra))) && rest

abbrev pub sets_fine : ℕ → List ℤ → ℕ → List ℤ → Bool
sets_fine k se m ra = sets_from m ra 0 (rows_of 2 k se)
