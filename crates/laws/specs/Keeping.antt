-- The sets of an accepted list: kept in canonical form, with the members of their intervals; lookup is membership.
use Rattle.std.specs.Prelude.{◌≡◌, refl, List, [], ◌∷◌, ◌++◌, true, ◌↔◌, ℕ, zero, suc, ◌+◌, ◌<◌, ℤ, pos, length, get_or}
use Rattle.std.proofs.Common.{sym, ap, subst, SFits}
use Rattle.std.specs.Int.{w32}
use Rattle.format.specs.Reading.{Table, ok, run, times, spot, get, index, count, ◌>>=◌}
use Rattle.format.specs.Sets.{Range, keep, holds, ranges_of}
use Rattle.format.specs.Sections.{Read, eof, version, grammar, states, flags, rules, modes, interval, flagged, set, sets_from, sets, edges, decisions, actions}
use Rattle.format.specs.Links.{each}
use Rattle.format.specs.Tables.{range_words}
use Rattle.format.specs.Decode.{returning, dialect}
use Rattle.format.specs.Questions.{lookup}
use Rattle.laws.specs.Canonical.{Canonical, Fit}
use Rattle.laws.specs.Kept.{keep_canonical, keep_fit}
use Rattle.laws.specs.Meaning.{InZ, fit_eof, lookup_means}
use Rattle.laws.specs.Gives.{Gives, Any, gives_any, gives_done, gives_bind, then, gives_run, Every, gives_times}

-- what a set is known to be, in words of 32 bits
pub record Sorted (l : List Range) : Type 0 where
  pub canonical : Canonical l
  pub fit : Fit l

abbrev W : ℤ → Type 0
W v = SFits w32 v

Fit1 : Range → Type 0
Fit1 r = SFits w32 r.start × SFits w32 r.stop

fit_all : (l : List Range) → Every Fit1 l → Fit l
unfolding Fit1
fit_all [] h = tt
fit_all (r ∷ l) h = (h.0.0, (h.0.1, fit_all l h.1))

interval_fit : (room : Table → ℕ) (i : ℕ) → Gives W room Fit1 (interval i)
unfolding Fit1 interval get Gives ◌>>=◌
interval_fit room i = λ p v x q w y. (x, y)

set_sorted : (room : Table → ℕ) (i kept : ℕ) → Gives W room Sorted (set i kept)
unfolding set
set_sorted room i kept =
    then W room Sorted (index (spot 19 i)) _ (λ n. then W room Sorted (flagged i kept n) _ (λ b.
    gives_bind W room (λ (l : List Range). (length l ≡ n) × Every Fit1 l) Sorted (times n 0 (λ j. interval i)) _ (gives_times W room Fit1 n 0 (λ j. interval i) (λ j. interval_fit room i)) (λ l x.
    gives_done W room Sorted (keep (eof b ++ l)) (record { canonical = keep_canonical (eof b ++ l); fit = keep_fit (eof b ++ l) (fit_eof b l (fit_all l x.1)) }))))

sets_sorted : (room : Table → ℕ) (n i kept : ℕ) → Gives W room (Every Sorted) (sets_from n i kept)
unfolding sets_from
sets_sorted room zero i kept = gives_done W room (Every Sorted) [] tt
sets_sorted room (suc n) i kept =
    gives_bind W room Sorted (Every Sorted) (set i kept) _ (set_sorted room i kept) (λ s x.
    gives_bind W room (Every Sorted) (Every Sorted) (sets_from n (i + 1) (kept + length s)) _ (sets_sorted room n (i + 1) (kept + length s)) (λ l y.
    gives_done W room (Every Sorted) (s ∷ l) (x, y)))

abbrev SetsSorted : Read → Type 0
SetsSorted r = Every Sorted r.sets

dialect_sorted : (room : Table → ℕ) → Gives W room SetsSorted dialect
unfolding dialect sets
dialect_sorted room =
    then W room SetsSorted version _ (λ a. then W room SetsSorted grammar _ (λ b. then W room SetsSorted (get (spot 3 0)) _ (λ token. then W room SetsSorted states _ (λ ss.
    then W room SetsSorted (flags (length ss) 9) _ (λ ones. then W room SetsSorted (flags (length ss) 11) _ (λ twos. then W room SetsSorted rules _ (λ rs. then W room SetsSorted modes _ (λ ms.
    gives_bind W room (Every Sorted) SetsSorted sets _ (gives_bind W room Any (Every Sorted) (count Rattle.format.specs.Reading.Sets 18) _ (gives_any W room (count Rattle.format.specs.Reading.Sets 18)) (λ n x. sets_sorted room n 0 0)) (λ ls s.
    then W room SetsSorted (edges (length ss) (length ls)) _ (λ es. then W room SetsSorted (returning ss (length rs) es) _ (λ es2. then W room SetsSorted decisions _ (λ ds. then W room SetsSorted actions _ (λ xs.
    gives_done W room SetsSorted _ s)))))))))))))

-- every set of an accepted list is in canonical form: sorted, disjoint and not touching
pub sets-kept : (ws : List ℤ) (room : Table → ℕ) (at : ℕ) (r : Read) (n : ℕ) → ((i : ℕ) → i < length ws → SFits w32 (get_or ws i (pos 0))) → run dialect ws room at ≡ ok r n → Every Sorted r.sets
sets-kept ws room at r n w e = gives_run W room SetsSorted dialect (dialect_sorted room) ws at w e

-- a set's words hold its ranges
pub ranges_back : (l : List Range) → ranges_of (each range_words l) ≡ l
ranges_back [] = refl
ranges_back (r ∷ l) = ap (λ (m : List Range). r ∷ m) (ranges_back l)

-- "On a kept set this is membership": lookup in the words of a kept set
pub lookup_member : (l : List Range) (v : ℤ) → Sorted l → SFits w32 v → lookup (each range_words l) v ≡ true ↔ InZ v l
unfolding lookup
lookup_member l v s f = subst (λ (m : List Range). holds m v ≡ true ↔ InZ v l) (sym (ranges_back l)) (lookup_means l v s.canonical s.fit f)
