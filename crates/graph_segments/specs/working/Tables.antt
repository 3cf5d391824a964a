-- What the tables of a closed list say of its commands.
use Rattle.std.specs.Prelude.{◌≡◌, ℕ, ◌+◌, ◌<◌, ◌≤◌, true, false, List, length, get_or, slice_get, Some}
use Rattle.command.specs.declared.command.Command.{Command}
use Rattle.command.specs.Ancestors.{IsAt, IsParent, IsUpTo}
use Rattle.command.specs.Wire.{command_id}
use Rattle.command.specs.Cuts.{cuts}
use Rattle.graph_segments.specs.Segments.{Tables, goes_on, located, locations, segments}
use Rattle.graph_segments.specs.declared.tables.Location.{Location}
use Rattle.graph_segments.specs.declared.tables.Segment.{Segment}

-- the command at a place stands there in that segment
pub record IsPlaced (cs : List Command) (place : ℕ) (at : Location) (seg : Segment) : Type 0 where
  pub inside : at.index < seg.len
  pub first : at.index ≡ 0 → seg.first ≡ place
  pub ends : seg.last ≡ place → at.index + 1 ≡ seg.len
  pub cut : get_or (cuts cs) place 0 + seg.len ≡ seg.cut + at.index + 1
  pub last : (x : Command) → IsAt cs place x → seg.last ≡ place → goes_on cs (command_id x) ≡ false
  pub passed : (x : Command) → IsAt cs place x → (seg.last ≡ place → ⊥) → goes_on cs (command_id x) ≡ true

-- a parent of the first command stands in an older segment, that of another one before it in its own
pub record IsLinked (at parent : Location) : Type 0 where
  pub out : at.index ≡ 0 → parent.segment < at.segment
  pub inside : (at.index ≡ 0 → ⊥) → parent.segment ≡ at.segment
  pub lower : (at.index ≡ 0 → ⊥) → parent.index < at.index

pub record IsSegment (count segment : ℕ) (locations : List Location) (seg : Segment) : Type 0 where
  pub first : slice_get locations seg.first ≡ Some (located segment 0)
  pub len : seg.len ≤ count
  pub cut : seg.cut < count

pub record AreTables (cs : List Command) (t : Tables) : Type 0 where
  pub located : length t.locations ≡ length cs
  pub few : length t.segments ≤ length cs
  pub placed : (place : ℕ) (at : Location) → slice_get t.locations place ≡ Some at → (seg : Segment) × (slice_get t.segments at.segment ≡ Some seg) × IsPlaced cs place at seg
  pub segment : (number : ℕ) (seg : Segment) → slice_get t.segments number ≡ Some seg → IsSegment (length cs) number t.locations seg
  pub linked : (i j : ℕ) (x m : Command) (at parent : Location) → IsAt cs i x → IsAt cs j m → IsParent cs m x → slice_get t.locations i ≡ Some at → slice_get t.locations j ≡ Some parent → IsLinked at parent
  pub chained : (i j : ℕ) (x z : Command) (at older : Location) → IsAt cs i x → IsAt cs j z → slice_get t.locations i ≡ Some at → slice_get t.locations j ≡ Some older → at.segment ≡ older.segment → older.index ≤ at.index → IsUpTo cs x z

-- two lists as the tables
abbrev pub tables_of : List Location → List Segment → Tables
tables_of locations segments = record { locations = locations; segments = segments }

-- where the command at a place stands, and its segment, as the tables say
pub record Stands (cs : List Command) (place : ℕ) (at : Location) (seg : Segment) : Type 0 where
  pub located : slice_get (locations cs) place ≡ Some at
  pub segment : slice_get (segments cs) at.segment ≡ Some seg
  pub placed : IsPlaced cs place at seg
  pub len : seg.len ≤ 65536
  pub cut : seg.cut < 65536
