-- The numbers of documents 01 and 02 for what the code names: the types of states, edges and actions, and the refusals.
use Rattle.std.specs.Prelude.{◌≡◌, ℕ, ◌<◌, ◌⊎◌, ℤ, pos, Result, MatchResult}
use Rattle.format.specs.declared.kinds.StateKind.{StateKind}
use Rattle.format.specs.declared.kinds.StateKind.TheVariants as St
use Rattle.format.specs.declared.kinds.EdgeKind.{EdgeKind}
use Rattle.format.specs.declared.kinds.EdgeKind.TheVariants as Ed
use Rattle.format.specs.declared.kinds.ActionKind.{ActionKind}
use Rattle.format.specs.declared.kinds.ActionKind.TheVariants as Ac
use Rattle.format.specs.declared.kinds.UnknownKind.{UnknownKind}
use Rattle.format.specs.declared.reason.Reason.{Reason}
use Rattle.format.specs.declared.reason.Reason.TheVariants as Re
use Rattle.format.specs.declared.reason.UnknownReason.{UnknownReason}

-- "State types"
abbrev pub state_number : StateKind → ℕ
state_number St.Invalid = 0
state_number St.Basic = 1
state_number St.RuleStart = 2
state_number St.BlockStart = 3
state_number St.PlusBlockStart = 4
state_number St.StarBlockStart = 5
state_number St.TokenStart = 6
state_number St.RuleStop = 7
state_number St.BlockEnd = 8
state_number St.StarLoopBack = 9
state_number St.StarLoopEntry = 10
state_number St.PlusLoopBack = 11
state_number St.LoopEnd = 12

-- "Edge types"
abbrev pub edge_number : EdgeKind → ℕ
edge_number Ed.Epsilon = 1
edge_number Ed.Range = 2
edge_number Ed.Rule = 3
edge_number Ed.Predicate = 4
edge_number Ed.Atom = 5
edge_number Ed.Action = 6
edge_number Ed.Set = 7
edge_number Ed.NotSet = 8
edge_number Ed.Wildcard = 9
edge_number Ed.Precedence = 10

-- "Action types"
abbrev pub action_number : ActionKind → ℕ
action_number Ac.Channel = 0
action_number Ac.Custom = 1
action_number Ac.Mode = 2
action_number Ac.More = 3
action_number Ac.PopMode = 4
action_number Ac.PushMode = 5
action_number Ac.Skip = 6
action_number Ac.Type = 7

-- "Refusal numbers"
abbrev pub refusal_number : Reason → ℕ
refusal_number Re.Ended = 1
refusal_number Re.Negative = 2
refusal_number Re.WrongVersion = 3
refusal_number Re.ParserGrammar = 4
refusal_number Re.UnknownGrammar = 5
refusal_number Re.UnknownState = 6
refusal_number Re.UnlistedState = 7
refusal_number Re.UnknownEdge = 8
refusal_number Re.UnlistedSet = 9
refusal_number Re.UnlistedSource = 10
refusal_number Re.UnknownAction = 11
refusal_number Re.NoRoom = 12
refusal_number Re.NoSuchRecord = 13
refusal_number Re.Contradiction = 14
refusal_number Re.Unwritable = 15
refusal_number Re.ShortOutput = 16

-- What a word is told to be: the type with that number, or the word itself where no type has it.
abbrev pub Names : {K : Type 0} → (K → ℕ) → ℕ → ℕ → ℤ → Result K UnknownKind → Type 0
Names number first last z r = MatchResult r (λ k. z ≡ pos (number k)) (λ u. (u.0 ≡ z) × ((n : ℕ) → z ≡ pos n → (n < first) ⊎ (last < n)))

-- The refusal with a number; or that number, where no refusal has it.
abbrev pub NumberOf : ℕ → Result Reason UnknownReason → Type 0
NumberOf n r = MatchResult r (λ k. n ≡ refusal_number k) (λ u. (u.0 ≡ n) × ((n < 1) ⊎ (16 < n)))
