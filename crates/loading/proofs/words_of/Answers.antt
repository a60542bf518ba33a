-- `words_of` meets its contract: the i-th four bytes are the i-th word. Assumes nothing.
use Rattle.std.proofs.Common.{◌≡◌, refl, ap, ◌∙◌, ℕ, zero, suc, ◌+◌, ◌*◌, ◌<◌, arith, rules, ◌/◌, length, length-take-le, List, [], w32, to_z-of_z, ℤ, set, get_or, take, drop}
use Rattle.std.specs.Simd.{first_chunks}
use Rattle.std.proofs.lemmas.List.{get_or-take, get_or-drop, drop-drop}
use Rattle.loading.specs.Bytes.{word_at, filled}
use Rattle.loading.proofs.words_of.Goals as goal

-- the i-th of k fours
four_at : (k i : ℕ) (bytes : List ℕ) → i < k → get_or (first_chunks 4 k bytes) i [] ≡ take 4 (drop (4 * i) bytes)
four_at zero i bytes h = absurd (omega arith)
four_at (suc k) zero bytes h = refl
four_at (suc k) (suc i) bytes h =
    let e : 4 + 4 * i ≡ 4 * suc i = omega arith in
    four_at k i (drop 4 bytes) (omega arith) ∙ ap (take 4) (drop-drop (4 * i) 4 bytes) ∙ ap (λ n. take 4 (drop n bytes)) e

-- its word
word_of_four : (i : ℕ) (bytes : List ℕ) → word_at (take 4 (drop (4 * i) bytes)) 0 ≡ word_at bytes i
word_of_four i bytes =
    let byte : (j : ℕ) → j < 4 → get_or (take 4 (drop (4 * i) bytes)) j 0 ≡ get_or bytes (4 * i + j) 0 =
    λ j h. get_or-take 4 (drop (4 * i) bytes) j 0 h ∙ get_or-drop (4 * i) bytes j 0 in
    rw (byte 0 (omega arith), byte 1 (omega arith), byte 2 (omega arith), byte 3 (omega arith)) (search rules)

pub loop-i-init : goal.loop-i-init
unfolding filled
loop-i-init c = refl

-- one word more
more : (n : ℕ) (bytes : List ℕ) (out : List ℤ) → set (filled n bytes out) n (word_at bytes n) ≡ filled (n + 1) bytes out
unfolding filled
more n bytes out = let e : suc n ≡ n + 1 = omega arith in ap (λ (k : ℕ). filled k bytes out) e

pub loop-i-preserved : goal.loop-i-preserved
loop-i-preserved c =
    let i = c.loop-i.i in
    let n = c.min-n.result in
    let bytes = c.args.bytes.now in
    let fours = c.as_chunks.result.0.now in
    let below : i < n = omega (arith, length-take-le n fours (omega arith), c.loop-i-test.true) in
    let four = get_or-take n fours i [] below ∙ ap (λ l. get_or l i []) c.as_chunks.ensures.front ∙ four_at (length bytes / 4) i bytes (omega arith) in
    let read = to_z-of_z {w = w32} (record { sfits = c.word_of.type_inv }) ∙ c.word_of.ensures ∙ ap (λ l. word_at l 0) four ∙ word_of_four i bytes in
    ap (set c.loop-i.out i) read ∙ ap (λ t. set t i (word_at bytes i)) c.loop-i.invariant ∙ more i bytes c.args.out.now
