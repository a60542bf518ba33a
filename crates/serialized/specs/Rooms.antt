-- Document 01, "Lent tables": the rooms, as the code keeps them; and tables that they suit.
use Rattle.std.specs.Prelude.{◌≡◌, refl, ℕ, ◌*◌, ◌≤◌, length}
use Rattle.std.proofs.Common.{arith}
use Rattle.format.specs.Reading.{Table, States, Edges, Ranges, Sets, Rules, Modes, Decisions, Actions}
use Rattle.format.specs.Tables.{nine, room}
use Rattle.inplace.specs.Whole.{Tables}
use Rattle.serialized.specs.declared.lent.Rooms.{Rooms}

-- The lengths of nine tables.
abbrev pub lengths : Tables → Table → ℕ
lengths t =
    nine (length t.states) (length t.edges) (length t.ranges) (length t.sets) (length t.rules) (length t.modes)
    (length t.decisions) (length t.actions) (length t.scratch)

-- "Room is the number of whole records, counted as 65,536 at most; room for states is the smaller of the states' and the scratch's."
abbrev pub rooms_of : (Table → ℕ) → Rooms
rooms_of lent =
    record {
      states = room lent States;
      edges = room lent Edges;
      ranges = room lent Ranges;
      sets = room lent Sets;
      rules = room lent Rules;
      modes = room lent Modes;
      decisions = room lent Decisions;
      actions = room lent Actions;
    }

-- The rooms r, as a program's run asks for them.
pub record Are (room : Table → ℕ) (r : Rooms) : Type 0 where
  pub states : room States ≡ r.states
  pub edges : room Edges ≡ r.edges
  pub ranges : room Ranges ≡ r.ranges
  pub sets : room Sets ≡ r.sets
  pub rules : room Rules ≡ r.rules
  pub modes : room Modes ≡ r.modes
  pub decisions : room Decisions ≡ r.decisions
  pub actions : room Actions ≡ r.actions

abbrev pub room_in : Rooms → Table → ℕ
room_in r = nine r.states r.edges r.ranges r.sets r.rules r.modes r.decisions r.actions 0

-- So many records lie in the tables, and are few.
pub record Suits (r : Rooms) (t : Tables) : Type 0 where
  pub states : 8 * r.states ≤ length t.states
  pub edges : 8 * r.edges ≤ length t.edges
  pub ranges : 2 * r.ranges ≤ length t.ranges
  pub sets : 2 * r.sets ≤ length t.sets
  pub rules : 3 * r.rules ≤ length t.rules
  pub modes : r.modes ≤ length t.modes
  pub decisions : r.decisions ≤ length t.decisions
  pub actions : 3 * r.actions ≤ length t.actions
  pub few_states : r.states ≤ 65536
  pub few_edges : r.edges ≤ 65536
  pub few_ranges : r.ranges ≤ 65536
  pub few_sets : r.sets ≤ 65536
  pub few_rules : r.rules ≤ 65536
  pub few_modes : r.modes ≤ 65536
  pub few_decisions : r.decisions ≤ 65536
  pub few_actions : r.actions ≤ 65536

-- the rooms of tables suit them, whatever the scratch's length
pub suited : (lent : Table → ℕ) (t : Tables) → length t.states ≡ lent States → length t.edges ≡ lent Edges → length t.ranges ≡ lent Ranges → length t.sets ≡ lent Sets → length t.rules ≡ lent Rules → length t.modes ≡ lent Modes → length t.decisions ≡ lent Decisions → length t.actions ≡ lent Actions → Suits (rooms_of lent) t
suited lent t st ed ra se ru mo de ac =
    record {
      states = omega arith;
      edges = omega arith;
      ranges = omega arith;
      sets = omega arith;
      rules = omega arith;
      modes = omega arith;
      decisions = omega arith;
      actions = omega arith;
      few_states = omega arith;
      few_edges = omega arith;
      few_ranges = omega arith;
      few_sets = omega arith;
      few_rules = omega arith;
      few_modes = omega arith;
      few_decisions = omega arith;
      few_actions = omega arith;
    }

pub they_are : (lent : Table → ℕ) → Are (room lent) (rooms_of lent)
they_are lent = record { states = refl; edges = refl; ranges = refl; sets = refl; rules = refl; modes = refl; decisions = refl; actions = refl }
