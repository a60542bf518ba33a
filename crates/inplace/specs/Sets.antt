-- The sets: each merges its intervals inside the range table, from its first range on.
use Rattle.std.specs.Prelude.{List, [], ◌∷◌, ◌++◌, Bool, ℕ, ◌+◌, ◌-◌, ◌*◌, ℤ, pos, length, take, drop}
use Rattle.format.specs.Reading.{Prog, done, here, ◌>>=◌, spot, index, count, times}
use Rattle.format.specs.Sets.{Range, keep}
use Rattle.format.specs.Sections.{bit, eof, flagged, interval}
use Rattle.format.specs.Links.{each}
use Rattle.format.specs.Tables.{range_words, zeros}
use Rattle.format.specs.declared.Counts.{Counts}
use Rattle.laws.specs.Running.{turns}
use Rattle.laws.specs.Collect.{put}
use Rattle.inplace.specs.Held.{Held, with}

-- The range table, the set table, and how many ranges are kept so far.
pub record Keeping : Type 0 where
  pub ranges : List ℤ
  pub sets : List ℤ
  pub kept : ℕ

-- Of N words pairs that a set may use of its part of the range table: what it keeps, zeros, and the rest as it was.
abbrev pub kept_in : ℕ → List Range → List ℤ → List ℤ
kept_in N l part = each range_words l ++ (zeros (2 * N - 2 * length l) ++ drop (2 * N) part)

-- The same in the whole table, behind `kept` ranges.
abbrev pub kept_at : ℕ → ℕ → List Range → List ℤ → List ℤ
kept_at kept N l ra = take (2 * kept) ra ++ kept_in N l (drop (2 * kept) ra)

abbrev pub set_done : ℕ → Keeping → ℕ → Bool → List Range → Keeping
set_done i x n b l =
    record {
      ranges = kept_at x.kept (n + bit b) (keep (eof b ++ l)) x.ranges;
      sets = put 2 i (pos x.kept ∷ pos (length (keep (eof b ++ l))) ∷ []) x.sets;
      kept = x.kept + length (keep (eof b ++ l));
    }

unfoldable pub set_one : ℕ → Keeping → Prog Keeping
set_one i x = index (spot 19 i) >>= (λ n. flagged i x.kept n >>= (λ b. times n 0 (λ j. interval i) >>= (λ l. done (set_done i x n b l))))

-- The two tables.
pub record Sets2 : Type 0 where
  pub ranges : List ℤ
  pub sets : List ℤ

abbrev pub sets2 : List ℤ → List ℤ → Sets2
sets2 ra se = record { ranges = ra; sets = se }

abbrev pub keeping : Sets2 → Keeping
keeping t = record { ranges = t.ranges; sets = t.sets; kept = 0 }

abbrev pub sets_counted : Counts → ℕ → ℕ → ℕ → Counts
sets_counted c n kept p = record { words = p; token = c.token; states = c.states; edges = c.edges; derived = c.derived; ranges = kept; sets = n; rules = c.rules; modes = c.modes; decisions = c.decisions; actions = c.actions }

abbrev pub sets_end : Counts → ℕ → Keeping → Prog (Held Sets2)
sets_end c n x = here (λ p. done (with (sets_counted c n x.kept p) (sets2 x.ranges x.sets)))

abbrev pub sets_from : Held Sets2 → ℕ → Prog (Held Sets2)
sets_from h n = turns n 0 set_one (keeping h.table) >>= sets_end h.counts n

unfoldable pub setting : Held Sets2 → Prog (Held Sets2)
setting h = count Rattle.format.specs.Reading.Sets 18 >>= sets_from h
