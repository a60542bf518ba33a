-- A dialect file is a row of little-endian 32-bit words.
use Rattle.std.specs.Prelude.{List, ℕ, zero, suc, ◌+◌, ◌*◌, ◌-◌, ltb, ℤ, pos, negsuc, get_or, set}
use Rattle.format.specs.Reading.{pick}

-- Four bytes as a number, the least byte first.
abbrev pub unsigned_of : ℕ → ℕ → ℕ → ℕ → ℕ
unsigned_of a b c d = a + 256 * b + 65536 * c + 16777216 * d

-- The same 32 bits, signed: from 2³¹ on they are the numbers below 0, and 2³² − 1 is −1.
abbrev pub signed_of : ℕ → ℤ
signed_of n = pick (ltb n 2147483648) (pos n) (negsuc (4294967295 - n))

-- The i-th word.
abbrev pub word_at : List ℕ → ℕ → ℤ
word_at bytes i = signed_of (unsigned_of (get_or bytes (4 * i) 0) (get_or bytes (4 * i + 1) 0) (get_or bytes (4 * i + 2) 0) (get_or bytes (4 * i + 3) 0))

-- A table whose first n words are the bytes' first n words, and whose others are as they were.
unfoldable pub filled : ℕ → List ℕ → List ℤ → List ℤ
filled zero bytes out = out
filled (suc n) bytes out = set (filled n bytes out) n (word_at bytes n)
