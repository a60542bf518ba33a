-- Chaining an edge, by the number of the last edge before it.
use Rattle.std.specs.Prelude.{◌≡◌, refl, ℕ, ◌≤◌, ◌<◌, ◌^◌, pos}
use Rattle.std.proofs.Common.{arith}
use Rattle.inplace.specs.Rows.{word_of, stored}
use Rattle.inplace.specs.Links.{Net, net, first_or}
use Rattle.tables.specs.Words.{number_of}
use Rattle.links.specs.Numbers.{names_yes, names-size, names_no}

module _ (i s : ℕ) (t : Net) {last : ℕ} (e : last ≡ number_of (word_of 8 t.states s 6)) where
  pub first_next : last < i → i < 2 ^ 31 → first_or i s t ≡ net t.states (stored 8 t.edges last 7 (pos i))
  first_next h b =
      let z = word_of 8 t.states s 6 in
      rw (names_yes z i e h (omega arith), names-size z i e h (omega arith)) refl

  pub first_new : i ≤ last → first_or i s t ≡ net (stored 8 t.states s 5 (pos i)) t.edges
  first_new h = rw (names_no (word_of 8 t.states s 6) i e h) refl
