-- The counts stay within the rooms over the sections in word order: from the header to the flags, on to the rules, the sets and the actions.
use Rattle.std.proofs.Common.{◌≡◌, List, ℕ, ℤ}
use Rattle.format.specs.Reading.{Table, States, Rules, Modes, Decisions, Actions, run}
use Rattle.format.specs.Results.{Decoded}
use Rattle.inplace.specs.Held.{held, onward}
use Rattle.inplace.specs.Sections.{header, section, flagging, stopping}
use Rattle.inplace.specs.Sets.{Sets2, setting}
use Rattle.inplace.specs.Links.{Net, edging, returns}
use Rattle.serialized.specs.Within as W
use Rattle.serialized.specs.Within.{Roomed, kept}

module _ (R : Table → ℕ) (ws : List ℤ) where
  pub listed : (d e : Decoded) (at : ℕ) (t u : List ℤ) → held d tt ≡ run header ws R at → held e u ≡ onward (section States) ws R (held d t) → Roomed R e
  listed d e at t u p q = kept R (section States) (W.states-keep R) ws d e t u q (W.header_roomed R ws at d p)

  pub flagged : (b f : ℕ) (d e : Decoded) (t u : List ℤ) → Roomed R d → held e u ≡ onward (flagging b f) ws R (held d t) → Roomed R e
  flagged b f d e t u h p = kept R (flagging b f) (W.flags-keep R b f) ws d e t u p h

  pub ruled : (d e : Decoded) (t u : List ℤ) → Roomed R d → held e u ≡ onward (section Rules) ws R (held d t) → Roomed R e
  ruled d e t u h p = kept R (section Rules) (W.rules-keep R) ws d e t u p h

  pub set : (d e f g : Decoded) (st t u v w : List ℤ) (x y : Sets2) → Roomed R d → held e u ≡ onward (stopping st) ws R (held d t)
      → held f w ≡ onward (section Modes) ws R (held e v) → held g y ≡ onward setting ws R (held f x) → Roomed R g
  set d e f g st t u v w x y h p q r =
      kept R setting (W.sets-keep R) ws f g x y r
      (kept R (section Modes) (W.modes-keep R) ws e f v w q (kept R (stopping st) (W.stops-keep R st) ws d e t u p h))

  pub wired : (d e : Decoded) (x y : Net) → Roomed R d → held e y ≡ onward edging ws R (held d x) → Roomed R e
  wired d e x y h p = kept R edging (W.edges-keep R) ws d e x y p h

  pub acted : (room : ℕ) (ru : List ℤ) (d e f g : Decoded) (t u v w : List ℤ) (x y : Net) → Roomed R d → held e y ≡ onward (returns room ru) ws R (held d x)
      → held f u ≡ onward (section Decisions) ws R (held e t) → held g w ≡ onward (section Actions) ws R (held f v) → Roomed R g
  acted room ru d e f g t u v w x y h p q r =
      kept R (section Actions) (W.actions-keep R) ws f g v w r
      (kept R (section Decisions) (W.decisions-keep R) ws e f t u q (kept R (returns room ru) (W.returns-keep R room ru) ws d e x y p h))
