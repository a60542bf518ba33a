-- A word that is a type's number, and one that is none's, in the program that tests it.
use Rattle.std.specs.Prelude.{◌≡◌, refl, ◌⊎◌, ℕ, ◌≤◌, ◌<◌, ℤ, pos, negsuc}
use Rattle.std.proofs.Common.{arith, inl, inr}
use Rattle.format.specs.Reading.{done, refuse, known, refusal}
use Rattle.format.specs.Kinds.{state_number, action_number}
use Rattle.format.specs.declared.Spot.{Spot}
use Rattle.format.specs.declared.kinds.StateKind.{StateKind}
use Rattle.format.specs.declared.kinds.ActionKind.{ActionKind}
use Rattle.format.specs.declared.kinds.StateKind.TheVariants as St
use Rattle.format.specs.declared.kinds.ActionKind.TheVariants as Ac
use Rattle.words.specs.Laws.{known_ok, known_high, known_no}

module _ (number to : ℕ) (f : Spot) (p : ℕ) where
  pub known_named : (n : ℕ) (z : ℤ) → z ≡ pos n → n ≤ to → known number 0 to f p z ≡ done n
  known_named n z e h = rw e (known_ok number 0 to f p (pos n) n refl (omega arith) h)

  pub known_unnamed : (z : ℤ) → ((n : ℕ) → z ≡ pos n → (n < 0) ⊎ (to < n)) → known number 0 to f p z ≡ refuse (refusal number f p z)
  known_unnamed (pos n) h = elim (h n refl) [ inl l ↦ absurd (omega arith) | inr l ↦ known_high number 0 to f p (pos n) n refl (omega arith) l ]
  known_unnamed (negsuc n) h = known_no number 0 to f p (negsuc n) refl

pub state_below : (k : StateKind) → state_number k ≤ 12
state_below St.Invalid = omega arith
state_below St.Basic = omega arith
state_below St.RuleStart = omega arith
state_below St.BlockStart = omega arith
state_below St.PlusBlockStart = omega arith
state_below St.StarBlockStart = omega arith
state_below St.TokenStart = omega arith
state_below St.RuleStop = omega arith
state_below St.BlockEnd = omega arith
state_below St.StarLoopBack = omega arith
state_below St.StarLoopEntry = omega arith
state_below St.PlusLoopBack = omega arith
state_below St.LoopEnd = omega arith

pub action_below : (k : ActionKind) → action_number k ≤ 7
action_below Ac.Channel = omega arith
action_below Ac.Custom = omega arith
action_below Ac.Mode = omega arith
action_below Ac.More = omega arith
action_below Ac.PopMode = omega arith
action_below Ac.PushMode = omega arith
action_below Ac.Skip = omega arith
action_below Ac.Type = omega arith
