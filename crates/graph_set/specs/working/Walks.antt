-- A walk back from one command of a graph: which commands are found, by their numbers from the oldest one on, and which of them
-- are still to be looked at.
use Rattle.std.specs.Prelude.{◌≡◌, ℕ, ◌+◌, ◌≤◌, ◌⊎◌, Bool, true, false, not, List, length, get_or, Some}
use Rattle.std.specs.List.{Contains, count_by}
use Rattle.command.specs.declared.command.Command.{Command}
use Rattle.command.specs.Ancestors.{IsAt, IsUpTo}
use Rattle.command.specs.Closed.{place_of}
use Rattle.command.specs.Kinds.{parents_of}

abbrev pub IsMarked : List Bool → ℕ → Type 0
IsMarked marks k = get_or marks k false ≡ true

-- how many aren't found
abbrev pub unmarked : List Bool → ℕ
unmarked marks = count_by not marks

-- the last one alone is found, and is to be looked at
pub record IsBegun (last : ℕ) (marks : List Bool) (due : List ℕ) : Type 0 where
  pub size : length marks ≡ last + 1
  pub own : IsMarked marks last
  pub only : (k : ℕ) → IsMarked marks k → (k ≡ last) × Contains due k
  pub found : (k : ℕ) → Contains due k → IsMarked marks k

-- those that meet a condition were found too, and those of them that weren't found before are to be looked at
pub record MarksWhere (P : ℕ → Type 0) (marks : List Bool) (due : List ℕ) (next : List Bool) (more : List ℕ) : Type 0 where
  pub size : length next ≡ length marks
  pub kept : (k : ℕ) → IsMarked marks k → IsMarked next k
  pub has : (k : ℕ) → P k → IsMarked next k
  pub only : (k : ℕ) → IsMarked next k → IsMarked marks k ⊎ (P k × Contains more k)
  pub stay : (k : ℕ) → Contains due k → Contains more k
  pub found : (k : ℕ) → Contains more k → Contains due k ⊎ IsMarked next k
  pub fewer : unmarked next + length more ≤ unmarked marks + length due

-- a command with one of these ids has this number, where the oldest stands at that place
abbrev pub IsNumbered : List Command → ℕ → List (List ℕ) → ℕ → Type 0
IsNumbered cs older ids k = (id : List ℕ) × Contains ids id × (place_of cs id ≡ Some (older + k))

-- all that are found are up to the newest one; and of each, but for those that are to be looked at, the parents are found
pub record IsWalked (cs : List Command) (older newer : ℕ) (marks : List Bool) (due : List ℕ) : Type 0 where
  pub size : older + length marks ≡ newer + 1
  pub own : (k : ℕ) → older + k ≡ newer → IsMarked marks k
  pub up : (k : ℕ) (z y : Command) → IsMarked marks k → IsAt cs (older + k) z → IsAt cs newer y → IsUpTo cs y z
  pub found : (k : ℕ) → Contains due k → IsMarked marks k
  pub done : (k : ℕ) → IsMarked marks k → Contains due k ⊎ ((z : Command) (n : ℕ) → IsAt cs (older + k) z → IsNumbered cs older (parents_of z) n → IsMarked marks n)
