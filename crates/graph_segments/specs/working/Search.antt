-- A search down the segments for one command: which segments are reached from a newer one, by their numbers from its own on.
use Rattle.std.specs.Prelude.{◌≡◌, ℕ, ◌+◌, ◌<◌, ◌≤◌, ◌⊎◌, Bool, true, false, List, length, get_or, slice_get, Some}
use Rattle.std.specs.List.{Contains}
use Rattle.command.specs.declared.command.Command.{Command}
use Rattle.command.specs.Ancestors.{IsAt, IsUpTo}
use Rattle.command.specs.Closed.{place_of}
use Rattle.command.specs.Kinds.{parents_of}
use Rattle.command.specs.Cuts.{cuts}
use Rattle.graph_segments.specs.Segments.{locations, segments}
use Rattle.graph_segments.specs.declared.tables.Location.{Location}
use Rattle.graph_segments.specs.declared.tables.Segment.{Segment}

abbrev pub IsMarked : List Bool → ℕ → Type 0
IsMarked marks k = get_or marks k false ≡ true

-- what stands there reaches the segment with this number from the old one's on; that one itself at the old one or behind it
pub record IsMet (old at : Location) (k : ℕ) : Type 0 where
  pub segment : at.segment ≡ old.segment + k
  pub index : k ≡ 0 → old.index ≤ at.index

-- the same of the command with one of these ids
pub record IsMetBy (cs : List Command) (old : Location) (ids : List (List ℕ)) (k : ℕ) : Type 0 where
  pub id : List ℕ
  pub inside : Contains ids id
  pub place : ℕ
  pub there : place_of cs id ≡ Some place
  pub at : Location
  pub located : slice_get (locations cs) place ≡ Some at
  pub met : IsMet old at k

-- those that meet a condition are marked too
pub record Marks (P : ℕ → Type 0) (marks next : List Bool) : Type 0 where
  pub size : length next ≡ length marks
  pub kept : (k : ℕ) → IsMarked marks k → IsMarked next k
  pub has : (k : ℕ) → P k → IsMarked next k
  pub only : (k : ℕ) → IsMarked next k → IsMarked marks k ⊎ P k

-- the commands with one of these ids stand in segments that can be marked
abbrev pub AreWithin : List Command → Location → ℕ → List (List ℕ) → Type 0
AreWithin cs old size ids = (id : List ℕ) (place : ℕ) (at : Location) → Contains ids id → place_of cs id ≡ Some place → slice_get (locations cs) place ≡ Some at → at.segment < old.segment + size

-- the first command of a segment
pub record IsFirst (cs : List Command) (number : ℕ) (seg : Segment) (x : Command) : Type 0 where
  pub segment : slice_get (segments cs) number ≡ Some seg
  pub at : IsAt cs seg.first x

-- one segment is looked at: where it is marked, those that its first command's parents reach are marked too, unless that command's cut is too low
pub record IsLooked (cs : List Command) (old : Location) (limit number : ℕ) (marks next : List Bool) : Type 0 where
  pub size : length next ≡ length marks
  pub kept : (k : ℕ) → IsMarked marks k → IsMarked next k
  pub only : (k : ℕ) → IsMarked next k → IsMarked marks k ⊎ (IsMarked marks number × ((seg : Segment) × (x : Command) × IsFirst cs (old.segment + number) seg x × IsMetBy cs old (parents_of x) k))
  pub done : IsMarked marks number → (seg : Segment) (x : Command) → IsFirst cs (old.segment + number) seg x → (get_or (cuts cs) seg.first 0 ≤ limit) ⊎ ((k : ℕ) → IsMetBy cs old (parents_of x) k → IsMarked next k)

-- what is reached from the newer command is marked, as far as the segments above the number are looked at
pub record IsSearched (cs : List Command) (old : Location) (limit newer last number : ℕ) (marks : List Bool) : Type 0 where
  pub size : length marks ≡ last + 1
  pub within : number ≤ last
  pub own : IsMarked marks last
  pub up : (k : ℕ) (y : Command) → IsMarked marks k → IsAt cs newer y → (place : ℕ) × (z : Command) × (at : Location) × IsAt cs place z × (slice_get (locations cs) place ≡ Some at) × IsMet old at k × IsUpTo cs y z
  pub done : (k : ℕ) (seg : Segment) (x : Command) → number < k → IsMarked marks k → IsFirst cs (old.segment + k) seg x → (get_or (cuts cs) seg.first 0 ≤ limit) ⊎ ((j : ℕ) → IsMetBy cs old (parents_of x) j → IsMarked marks j)
