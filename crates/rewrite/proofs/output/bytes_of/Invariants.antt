-- `output::bytes_of` meets its contract: so far, each word that is read from the bytes is the word that was put. Assumes nothing.
use Rattle.std.proofs.Common.{◌≡◌, ℕ, ◌<◌, pos, get_or}
use Rattle.loading.specs.Bytes.{word_at}
use Rattle.rewrite.proofs.output.bytes_of.Given as goal

abbrev pub invariant-loop-i : goal.invariant-loop-i
invariant-loop-i l = (k : ℕ) → k < l.i → word_at l.out k ≡ get_or l.words k (pos 0)
