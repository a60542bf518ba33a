-- The types of edges, by their numbers.
use Rattle.std.proofs.Common.{◌≡◌, refl, false, [], ◌∷◌, ℕ, ◌≤◌, ◌<◌, ◌⊎◌, inl, inr, arith, ℤ, pos, negsuc}
use Rattle.format.specs.declared.Spot.{Spot}
use Rattle.format.specs.declared.kinds.EdgeKind.{EdgeKind}
use Rattle.format.specs.declared.kinds.EdgeKind.TheVariants.{Epsilon, Range, Rule, Predicate, Atom, Action, Set, NotSet, Wildcard, Precedence}
use Rattle.format.specs.Kinds.{edge_number}
use Rattle.format.specs.Sections.{among}
use Rattle.format.specs.Reading.{refuse, known, refusal}
use Rattle.words.specs.Laws.{known-low, known_high, known_no}

pub first_type : (k : EdgeKind) → 1 ≤ edge_number k
first_type Epsilon = omega arith
first_type Range = omega arith
first_type Rule = omega arith
first_type Predicate = omega arith
first_type Atom = omega arith
first_type Action = omega arith
first_type Set = omega arith
first_type NotSet = omega arith
first_type Wildcard = omega arith
first_type Precedence = omega arith

pub last_type : (k : EdgeKind) → edge_number k ≤ 10
last_type Epsilon = omega arith
last_type Range = omega arith
last_type Rule = omega arith
last_type Predicate = omega arith
last_type Atom = omega arith
last_type Action = omega arith
last_type Set = omega arith
last_type NotSet = omega arith
last_type Wildcard = omega arith
last_type Precedence = omega arith

-- a word that no type has
pub unknown : (f : Spot) (p : ℕ) (v : ℤ) → ((n : ℕ) → v ≡ pos n → (n < 1) ⊎ (10 < n)) → known 8 1 10 f p v ≡ refuse (refusal 8 f p v)
unknown f p (pos n) h = elim (h n refl) [
  | inl l ↦ known-low 8 1 10 f p (pos n) n refl l
  | inr l ↦ known_high 8 1 10 f p (pos n) n refl (omega arith) l
]
unknown f p (negsuc n) h = known_no 8 1 10 f p (negsuc n) refl

-- a type of which a is no index, and one of which b is none
pub no_set : (k : EdgeKind) → (k ≡ Set → ⊥) → (k ≡ NotSet → ⊥) → among (edge_number k) (7 ∷ 8 ∷ []) ≡ false
no_set Epsilon s t = refl
no_set Range s t = refl
no_set Rule s t = refl
no_set Predicate s t = refl
no_set Atom s t = refl
no_set Action s t = refl
no_set Set s t = absurd (s refl)
no_set NotSet s t = absurd (t refl)
no_set Wildcard s t = refl
no_set Precedence s t = refl

pub no_two : (k : EdgeKind) → (k ≡ Rule → ⊥) → (k ≡ Predicate → ⊥) → among (edge_number k) (3 ∷ 4 ∷ []) ≡ false
no_two Epsilon r p = refl
no_two Range r p = refl
no_two Rule r p = absurd (r refl)
no_two Predicate r p = absurd (p refl)
no_two Atom r p = refl
no_two Action r p = refl
no_two Set r p = refl
no_two NotSet r p = refl
no_two Wildcard r p = refl
no_two Precedence r p = refl

pub no_index : (k : EdgeKind) → (k ≡ Rule → ⊥) → (k ≡ Predicate → ⊥) → (k ≡ Action → ⊥) → among (edge_number k) (3 ∷ 4 ∷ 6 ∷ []) ≡ false
no_index Epsilon r p a = refl
no_index Range r p a = refl
no_index Rule r p a = absurd (r refl)
no_index Predicate r p a = absurd (p refl)
no_index Atom r p a = refl
no_index Action r p a = absurd (a refl)
no_index Set r p a = refl
no_index NotSet r p a = refl
no_index Wildcard r p a = refl
no_index Precedence r p a = refl
