-- The words that `merge` leaves: after one pass where the starts rose, else after the records were put in order and joined again.
use mathlib.Core.Path.{◌≡◌, refl, sym, ap, ◌∙◌}
use mathlib.Core.Bool.{true}
use mathlib.Core.List.{List, [], ◌∷◌}
use mathlib.Core.Logic.{inl, inr, ◌↔◌}
use Prim.Native.Nat.{ℕ, zero, suc, ◌+◌, ◌*◌, ◌≤◌, ◌<◌}
use native.Mathlib.Omega.{arith}
use lib.IntN.{ℤ, pos}
use lib.ListN.{length, drop, length-drop}
use lib.Seq.{take_at, get_or-drop, ext_get_or}
use Rattle.format.specs.Sets.{Range, range, key, at}
use Rattle.format.specs.Links.{each}
use Rattle.format.specs.Tables.{range_words}
use Rattle.laws.specs.Canonical.{Within, In}
use Rattle.laws.specs.Gives.{Every, every-at}
use Rattle.ordering.specs.Heaps.{Rising}
use Rattle.ordering.specs.Records.{pair_at, starts, Moved}
use Rattle.ranges.specs.declared.joining.Joined.{Joined}
use Rattle.ranges.specs.Laid.{ranges_in, kept_of, over}
use Rattle.ranges.specs.Words.{words_long, ranges_in_lem, in_long, in_part, over-drop}
use Rattle.ranges.specs.Joining.{join_all, Joins, Merges}
use Rattle.ranges.proofs.Members.{Good, all_good, all_short, Ascending, kept_rising, kept_sorted}

-- ---- a list by its places

record Place (k : ℕ) (l : List Range) : Type 0 where
  place : ℕ
  below : place < length l
  holds : Within k (at l place).start (at l place).stop

in_at : (k : ℕ) (l : List Range) → In k l → Place k l
in_at k [] w = absurd w
in_at k (r ∷ l) (inl w) = record { place = 0; below = omega arith; holds = w }
in_at k (r ∷ l) (inr w) = let p = in_at k l w in record { place = suc p.place; below = omega (arith, p.below); holds = p.holds }

at_in : (k : ℕ) (l : List Range) (i : ℕ) → i < length l → Within k (at l i).start (at l i).stop → In k l
at_in k [] i h w = absurd (omega arith)
at_in k (r ∷ l) zero h w = inl w
at_in k (r ∷ l) (suc i) h w = inr (at_in k l i (omega arith) w)

at_every : (P : Range → Type 0) (l : List Range) → ((i : ℕ) → i < length l → P (at l i)) → Every P l
at_every P [] h = tt
at_every P (r ∷ l) h = (h 0 (omega arith), at_every P l (λ i k. h (suc i) (omega arith)))

at-ascending : (b : ℕ) (l : List Range) → ((i : ℕ) → i < length l → b ≤ key (at l i).start)
    → ((i j : ℕ) → i ≤ j → j < length l → key (at l i).start ≤ key (at l j).start) → Ascending b l
at-ascending b [] f h = tt
at-ascending b (r ∷ l) f h =
    (f 0 (omega arith), at-ascending (key r.start) l (λ i k. h 0 (suc i) (omega arith) (omega arith)) (λ i j a b. h (suc i) (suc j) (omega arith) (omega arith)))

-- ---- records that changed places

module _ {us vs : List ℤ} {m : ℕ} (moved : Moved m us vs) (room : 2 * m ≤ length us) where
  abbrev u : List Range
  u = ranges_in us m

  abbrev v : List Range
  v = ranges_in vs m

  u_long : length u ≡ m
  u_long = in_long us m room

  v_long : length v ≡ m
  v_long = in_long vs m (omega (arith, moved.long))

  at_u : (i : ℕ) → i < m → at u i ≡ pair_at us i
  at_u i h = in_part us m room i h

  at_v : (i : ℕ) → i < m → at v i ≡ pair_at vs i
  at_v i h = in_part vs m (omega (arith, moved.long)) i h

  moved_in : (k : ℕ) → In k v ↔ In k u
  moved_in k = (to, fro)
    where
      to : In k v → In k u
      to w =
          let p = in_at k v w in
          let h : p.place < m = omega (arith, p.below, v_long) in
          let x = moved.fro p.place h in
          at_in k u x.at (omega (arith, x.below, u_long)) (rw (at_v p.place h ∙ sym x.is ∙ sym (at_u x.at x.below)) at p.holds)

      fro : In k u → In k v
      fro w =
          let p = in_at k u w in
          let h : p.place < m = omega (arith, p.below, u_long) in
          let x = moved.to p.place h in
          at_in k v x.at (omega (arith, x.below, v_long)) (rw (at_u p.place h ∙ sym x.is ∙ sym (at_v x.at x.below)) at p.holds)

  moved-every : (P : Range → Type 0) → Every P u → Every P v
  moved-every P e =
      at_every P v
      (λ i h.
      let k : i < m = omega (arith, v_long) in
      let x = moved.fro i k in
      rw (at_v i k ∙ sym x.is ∙ sym (at_u x.at x.below)) (every-at P u (range (pos 0) (pos 0)) x.at e (omega (arith, x.below, u_long))))

  moved-ascending : Rising (starts vs) m → Ascending 0 v
  moved-ascending r =
      at-ascending 0 v (λ i h. omega arith)
      (λ i j a b.
      let p = ap (λ (r : Range). key r.start) (at_v i (omega (arith, v_long))) in
      let q = ap (λ (r : Range). key r.start) (at_v j (omega (arith, v_long))) in
      omega (arith, p, q, r.rises i j a (omega (arith, v_long))))

  moved-behind : (n : ℕ) → m ≤ n → drop (2 * n) vs ≡ drop (2 * n) us
  moved-behind n h =
      ext_get_or (pos 0) (drop (2 * n) vs) (drop (2 * n) us) (length-drop (2 * n) vs ∙ omega (arith, moved.long) ∙ sym (length-drop (2 * n) us))
      (λ i k. get_or-drop (2 * n) vs i (pos 0) ∙ moved.behind (2 * n + i) (omega arith) ∙ sym (get_or-drop (2 * n) us i (pos 0)))

-- ---- the two ways

-- what the set keeps was laid over a part that is as it was behind the n-th record
laid : (ws vs xs : List ℤ) (n r : ℕ) (l : List Range) → l ≡ kept_of ws n → r ≡ length l → length l ≤ n → xs ≡ over l vs → drop (2 * n) vs ≡ drop (2 * n) ws → Merges ws xs n r
laid ws vs xs n r l kept count few words behind =
    record {
      count = count ∙ ap length kept;
      few = omega arith;
      front = rw (count, words) (take_at (each range_words l) (drop (2 * length l) vs) (2 * length l) (words_long l) ∙ ap (each range_words) kept);
      behind = rw words (over-drop l vs (2 * n) (omega arith) ∙ behind);
    }

module _ {ws us : List ℤ} {n : ℕ} {first : Joined} (room : 2 * n ≤ length ws) (long : length us ≡ length ws) (a : Joins ws us n first) where
  abbrev rs : List Range
  rs = ranges_in ws n

  few : length (join_all rs) ≤ n
  few = omega (arith, all_short rs, in_long ws n room)

  pub merged_few : first.count ≤ n
  merged_few = omega (arith, a.count, few)

  pub merged_once : first.rising ≡ true → Merges ws us n first.count
  merged_once t = laid ws ws us n first.count (join_all rs) (kept_rising rs a.fits (sym a.rising ∙ t)) a.count few a.words refl

  module _ {vs xs : List ℤ} {second : Joined} (moved : Moved first.count us vs) (rising : Rising (starts vs) first.count) (b : Joins vs xs first.count second) where
    inside : 2 * first.count ≤ length us
    inside = omega (arith, merged_few)

    -- the records of the first pass
    left : ranges_in us first.count ≡ join_all rs
    left = rw (a.count, a.words) (ranges_in_lem (join_all rs) (drop (2 * length (join_all rs)) ws))

    kept : join_all (ranges_in vs first.count) ≡ kept_of ws n
    kept =
        kept_sorted rs (ranges_in vs first.count) a.fits (moved-every moved inside Good (rw left (all_good rs a.fits))) (moved-ascending moved inside rising)
        (λ k. rw left at (moved_in moved inside k))

    pub merged_twice : Merges ws xs n second.count
    merged_twice =
        laid ws vs xs n second.count (join_all (ranges_in vs first.count)) kept b.count
        (omega (arith, merged_few, all_short (ranges_in vs first.count), in_long vs first.count (omega (arith, inside, moved.long)))) b.words
        (moved-behind moved inside n merged_few ∙ ap (drop (2 * n)) a.words ∙ over-drop (join_all rs) ws (2 * n) (omega (arith, few)))
