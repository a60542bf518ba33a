-- Words as bytes, the least byte first: the other way round than crate `loading`, whose `word_at` says what the i-th word of some bytes is.
use Rattle.std.specs.Prelude.{◌≡◌, List, ℕ, ◌+◌, ◌*◌, ◌/◌, ◌%◌, ◌≤◌, ◌<◌, length, get_or, set}
use Rattle.std.proofs.Common.{ap, ◌∙◌, arith, length-set, get_or-set_same, get_or-set_other}
use Rattle.loading.specs.Bytes.{unsigned_of, signed_of, word_at}

-- Four bytes, stored from a place on.
abbrev pub four : List ℕ → ℕ → ℕ → ℕ → ℕ → ℕ → List ℕ
four out at a b c d = set (set (set (set out at a) (at + 1) b) (at + 2) c) (at + 3) d

-- The 32 bits n, stored as the i-th word.
abbrev pub spelled : List ℕ → ℕ → ℕ → List ℕ
spelled out i n = four out (4 * i) (n % 256) (n / 256 % 256) (n / 65536 % 256) (n / 16777216)

-- ---- what is read then

-- a byte before the four is as it was
before : (out : List ℕ) (at a b c d j : ℕ) → j < at → get_or (four out at a b c d) j 0 ≡ get_or out j 0
before out at a b c d j h =
    get_or-set_other (set (set (set out at a) (at + 1) b) (at + 2) c) (at + 3) j d 0 (λ e. omega arith)
    ∙ get_or-set_other (set (set out at a) (at + 1) b) (at + 2) j c 0 (λ e. omega arith)
    ∙ get_or-set_other (set out at a) (at + 1) j b 0 (λ e. omega arith)
    ∙ get_or-set_other out at j a 0 (λ e. omega arith)

-- a word of equal bytes
word_by : (s t : List ℕ) (i j : ℕ)
    → get_or s (4 * i) 0 ≡ get_or t (4 * j) 0
    → get_or s (4 * i + 1) 0 ≡ get_or t (4 * j + 1) 0
    → get_or s (4 * i + 2) 0 ≡ get_or t (4 * j + 2) 0
    → get_or s (4 * i + 3) 0 ≡ get_or t (4 * j + 3) 0
    → word_at s i ≡ word_at t j
word_by s t i j a b c d = cc

-- The words before it are as they were.
pub kept : (out : List ℕ) (i n k : ℕ) → k < i → word_at (spelled out i n) k ≡ word_at out k
kept out i n k h =
    let at : (j : ℕ) → j < 4 * i → get_or (spelled out i n) j 0 ≡ get_or out j 0 =
    before out (4 * i) (n % 256) (n / 256 % 256) (n / 65536 % 256) (n / 16777216) in
    word_by (spelled out i n) out k k
    (at (4 * k) (omega arith))
    (at (4 * k + 1) (omega arith))
    (at (4 * k + 2) (omega arith))
    (at (4 * k + 3) (omega arith))

-- the four themselves
first : (out : List ℕ) (at a b c d : ℕ) → at + 4 ≤ length out → get_or (four out at a b c d) at 0 ≡ a
first out at a b c d h =
    get_or-set_other (set (set (set out at a) (at + 1) b) (at + 2) c) (at + 3) at d 0 (λ e. omega arith)
    ∙ get_or-set_other (set (set out at a) (at + 1) b) (at + 2) at c 0 (λ e. omega arith)
    ∙ get_or-set_other (set out at a) (at + 1) at b 0 (λ e. omega arith)
    ∙ get_or-set_same out at a 0 (omega arith)

second : (out : List ℕ) (at a b c d : ℕ) → at + 4 ≤ length out → get_or (four out at a b c d) (at + 1) 0 ≡ b
second out at a b c d h =
    get_or-set_other (set (set (set out at a) (at + 1) b) (at + 2) c) (at + 3) (at + 1) d 0 (λ e. omega arith)
    ∙ get_or-set_other (set (set out at a) (at + 1) b) (at + 2) (at + 1) c 0 (λ e. omega arith)
    ∙ get_or-set_same (set out at a) (at + 1) b 0 (simp length-set (omega arith))

third : (out : List ℕ) (at a b c d : ℕ) → at + 4 ≤ length out → get_or (four out at a b c d) (at + 2) 0 ≡ c
third out at a b c d h =
    get_or-set_other (set (set (set out at a) (at + 1) b) (at + 2) c) (at + 3) (at + 2) d 0 (λ e. omega arith)
    ∙ get_or-set_same (set (set out at a) (at + 1) b) (at + 2) c 0 (simp length-set (omega arith))

fourth : (out : List ℕ) (at a b c d : ℕ) → at + 4 ≤ length out → get_or (four out at a b c d) (at + 3) 0 ≡ d
fourth out at a b c d h = get_or-set_same (set (set (set out at a) (at + 1) b) (at + 2) c) (at + 3) d 0 (simp length-set (omega arith))

-- The word itself is those bits.
pub read : (out : List ℕ) (i n : ℕ) → 4 * i + 4 ≤ length out → word_at (spelled out i n) i ≡ signed_of n
read out i n h =
    let a = n % 256 in
    let b = n / 256 % 256 in
    let c = n / 65536 % 256 in
    let d = n / 16777216 in
    let e : unsigned_of a b c d ≡ n = omega arith in
    let ea : get_or (spelled out i n) (4 * i) 0 ≡ a = first out (4 * i) a b c d h in
    let eb : get_or (spelled out i n) (4 * i + 1) 0 ≡ b = second out (4 * i) a b c d h in
    let ec : get_or (spelled out i n) (4 * i + 2) 0 ≡ c = third out (4 * i) a b c d h in
    let ed : get_or (spelled out i n) (4 * i + 3) 0 ≡ d = fourth out (4 * i) a b c d h in
    rw (ea, eb, ec, ed) (ap signed_of e)
