-- Document 01, "A state's edges are chained ..", "A rule's stop ..", and "Return edges, precedence, tail calls".
-- ss are the states, rs the rules, es the edges; a state, a rule and an edge are their numbers.
use Rattle.std.specs.Prelude.{◌≡◌, List, [], ◌∷◌, ◌++◌, Bool, true, false, not, ◌&&◌, ℕ, zero, suc, ◌+◌, ◌<◌, ltb, eqb, ℤ, pos, negsuc, length, get_or}
use Rattle.format.specs.Reading.{pick}
use Rattle.format.specs.Sections.{State, Rule, Edge, state_of, edge_of, none, same, among, size}

-- ---- lists

-- The members that pass a test, in order.
abbrev pub those : {A : Type 0} → (A → Bool) → List A → List A
those p [] = []
those p (a ∷ l) = let rest = those p l in pick (p a) (a ∷ rest) rest

-- Their numbers, in order, counted from i.
abbrev pub numbers_from : {A : Type 0} → ℕ → (A → Bool) → List A → List ℕ
numbers_from i p [] = []
numbers_from i p (a ∷ l) = let rest = numbers_from (i + 1) p l in pick (p a) (i ∷ rest) rest

abbrev pub numbers : {A : Type 0} → (A → Bool) → List A → List ℕ
numbers p l = numbers_from 0 p l

-- The first and the last of a list of numbers, as a word: "None" where there is none.
abbrev pub first : List ℕ → ℤ
first [] = none
first (n ∷ l) = pos n

abbrev pub last : List ℕ → ℤ
last [] = none
last (n ∷ []) = pos n
last (n ∷ m ∷ l) = last (m ∷ l)

abbrev pub every : {A : Type 0} → (A → Bool) → List A → Bool
every p [] = true
every p (a ∷ l) = let rest = every p l in pick (p a) rest false

abbrev pub each : {A B : Type 0} → (A → List B) → List A → List B
each f [] = []
each f (a ∷ l) = f a ++ each f l

abbrev pub flat : {A : Type 0} → List (List A) → List A
flat l = each (λ a. a) l

-- A word names one of n records: it "exists", it is "listed".
abbrev pub names : ℕ → ℤ → Bool
names n (pos k) = ltb k n
names n (negsuc k) = false

-- ---- chains: "A state's edges are chained in word order, derived ones last."

-- The edges of the state s, and their numbers: the first edge, the last edge and the edge count are those of this list.
abbrev pub leaving : List Edge → ℕ → List Edge
leaving es s = those (λ e. eqb e.source s) es

abbrev pub chain : List Edge → ℕ → List ℕ
chain es s = numbers (λ e. eqb e.source s) es

-- The next edge of the edge i from the state s: the first in the chain behind it.
abbrev pub next : List Edge → ℕ → ℕ → ℤ
next es s i = first (those (λ j. ltb i j) (chain es s))

-- ---- states and rules

abbrev pub state_at : List State → ℕ → State
state_at ss s = get_or ss s (state_of 0 none none none)

-- The state s is listed, and of the type k.
abbrev pub typed : List State → ℕ → ℕ → Bool
typed ss k s = ltb s (length ss) && eqb (state_at ss s).kind k

-- "A rule's stop is its highest-numbered state of type 7 with that rule, else −1."
abbrev pub stop_of : List State → ℤ → ℤ
stop_of ss R = last (numbers (λ s. eqb s.kind 7 && same s.rule R) ss)

-- Of n rules, the rule R and its stop exist.
abbrev pub stops : List State → ℕ → ℤ → Bool
stops ss n R = names n R && names (length ss) (stop_of ss R)

-- ---- return edges

-- "let R be the rule of its target state. If target, R and R's stop all exist, an epsilon edge from that stop to the follow state is added"
abbrev pub returns : List State → ℕ → Edge → List Edge
returns ss n e =
    let R = (state_at ss e.target).rule in
    pick (eqb e.kind 3 && ltb e.target (length ss) && stops ss n R)
    (edge_of 1 (size (stop_of ss R)) (size e.q) (pos 0) (pos 0) (pos 0) ∷ []) []

-- "for each rule edge, by source state and then chain order .. repeats and follow states outside the list included"; n rules
unfoldable pub derived : List State → ℕ → List Edge → List Edge
derived ss n es = each (λ s. each (returns ss n) (leaving es s)) (numbers (λ s. true) ss)

-- ---- precedence

-- The target of the edge with that number.
abbrev pub onto : List Edge → ℤ → ℕ
onto es e = (get_or es (size e) (edge_of 0 0 0 (pos 0) (pos 0) (pos 0))).target

-- There is such an edge, and it leads to a state of the type k.
abbrev pub leads : List State → List Edge → ℤ → ℕ → Bool
leads ss es e k = names (length es) e && typed ss k (onto es e)

abbrev pub start_of : List Rule → ℤ → ℕ
start_of rs R = (get_or rs (size R) (record { start = 0; token = pos 0 })).start

-- "Flag 4 is set on a type 10 state if its rule exists, that rule's start is a listed state with flag 2, its last edge's target
-- is a state of type 12, and that state's first edge's target is a state of type 7." Field 12 named the states in twos.
unfoldable pub decides : List State → List ℕ → List Rule → List Edge → ℕ → Bool
decides ss twos rs es s =
    let R = (state_at ss s).rule in
    let e = last (chain es s) in
    let t = onto es e in
    typed ss 10 s && names (length rs) R && ltb (start_of rs R) (length ss) && among (start_of rs R) twos
    && leads ss es e 12 && leads ss es (first (chain es t)) 7

-- ---- tail calls

-- "it is listed, has rule R, is not type 7, has at least one edge, all its edges are type 1"
abbrev pub passable : List State → List Edge → ℤ → ℕ → Bool
passable ss es R s =
    ltb s (length ss) && same (state_at ss s).rule R && not (eqb (state_at ss s).kind 7)
    && ltb 0 (length (leaving es s)) && every (λ e. eqb e.kind 1) (leaving es s)

-- The target of the i-th edge of the state s.
abbrev pub target_of : List Edge → ℕ → ℕ → ℕ
target_of es s i = (get_or (leaving es s) i (edge_of 0 0 0 (pos 0) (pos 0) (pos 0))).target

-- "Z is safe. Any other state is safe if .., and all their targets are safe by a finite chain of such reasons."
pub data Safe (ss : List State) (es : List Edge) (R : ℤ) (Z : ℕ) : ℕ → Type 0 where
  stop : {s : ℕ} → s ≡ Z → Safe ss es R Z s
  step : {s : ℕ} → passable ss es R s ≡ true → ((i : ℕ) → i < length (leaving es s) → Safe ss es R Z (target_of es s i)) → Safe ss es R Z s

-- The same by computation: safe by chains of at most f reasons.
unfoldable pub safe : List State → List Edge → ℤ → ℕ → ℕ → ℕ → Bool
safe ss es R Z zero s = eqb s Z
safe ss es R Z (suc f) s =
    let on = every (λ e. safe ss es R Z f e.target) (leaving es s) in
    pick (eqb s Z) true (pick (passable ss es R s) on false)

-- "for a rule edge from state s with rule R, let Z be R's stop; both must exist. .. The mark is 2 exactly if the follow state is safe."
-- Chains need be no longer than there are states (laws: `safe_decided`). n rules.
unfoldable pub tail : List State → ℕ → List Edge → Edge → Bool
tail ss n es e =
    let R = (state_at ss e.source).rule in
    let on = safe ss es R (size (stop_of ss R)) (length ss) (size e.q) in
    pick (eqb e.kind 3 && stops ss n R) on false
