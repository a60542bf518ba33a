-- Document 01, "Sets".
use Rattle.std.specs.Prelude.{List, [], ◌∷◌, Bool, false, ℕ, zero, suc, ◌+◌, ◌-◌, ◌/◌, ltb, leb, ℤ, pos, negsuc, length, get_or}
use Rattle.format.specs.Reading.{pick}

pub record Range : Type 0 where
  pub start : ℤ
  pub stop : ℤ

abbrev pub range : ℤ → ℤ → Range
range a b = record { start = a; stop = b }

-- The order of 32-bit numbers is that of their keys: z + 2,147,483,648.
abbrev pub key : ℤ → ℕ
key (pos n) = 2147483648 + n
key (negsuc n) = 2147483647 - n

abbrev pub lower : ℤ → ℤ → ℤ
lower a b = pick (leb (key a) (key b)) a b

abbrev pub upper : ℤ → ℤ → ℤ
upper a b = pick (leb (key a) (key b)) b a

-- "Kept ranges are sorted and disjoint, and touching ones joined": one more range, s to e, in a list of that form.
-- What lies before it stays before it; what lies behind it follows; what meets or touches it is joined with it.
-- (Where stop + 1 would saturate, no start lies behind it, and so the two meet or touch.)
unfoldable pub add : ℤ → ℤ → List Range → List Range
add s e [] = range s e ∷ []
add s e (r ∷ l) =
    let before = add s e l in
    let behind = add r.start r.stop l in
    let joined = add (lower s r.start) (upper e r.stop) l in
    pick (ltb (key r.stop + 1) (key s)) (r ∷ before)
    (pick (ltb (key e + 1) (key r.start)) (range s e ∷ behind) joined)

-- "A range with start above stop is swapped."
abbrev pub add_any : Range → List Range → List Range
add_any r l = add (lower r.start r.stop) (upper r.start r.stop) l

unfoldable pub keep_onto : List Range → List Range → List Range
keep_onto l [] = l
keep_onto l (r ∷ rs) = keep_onto (add_any r l) rs

-- What a set keeps of its intervals.
abbrev pub keep : List Range → List Range
keep rs = keep_onto [] rs

-- ---- "Lookup of v"

abbrev pub at : List Range → ℕ → Range
at l i = get_or l i (range (pos 0) (pos 0))

-- "halve (middle = low + (high − low)/2; low becomes middle + 1 where its start ≤ v, else high becomes middle) until they meet"
unfoldable pub halve : ℕ → List Range → ℤ → ℕ → ℕ → ℕ
halve zero l v low high = low
halve (suc f) l v low high =
    let middle = low + (high - low) / 2 in
    let up = halve f l v (middle + 1) high in
    let down = halve f l v low middle in
    pick (ltb low high) (pick (leb (key (at l middle).start) (key v)) up down) low

-- "yes if low is above 0 and range low − 1 has stop ≥ v"
abbrev pub found : List Range → ℤ → ℕ → Bool
found l v low = pick (ltb 0 low) (leb (key v) (key (at l (low - 1)).stop)) false

-- "from low 0 and high the number of ranges": they meet in at most so many steps
unfoldable pub holds : List Range → ℤ → Bool
holds l v = found l v (halve (length l) l v 0 (length l))

-- The ranges that a list of words holds, two words each; "an odd last word isn't read".
abbrev pub ranges_of : List ℤ → List Range
ranges_of [] = []
ranges_of (a ∷ []) = []
ranges_of (a ∷ b ∷ ws) = range a b ∷ ranges_of ws
