-- Ancestors in a list of commands. A merge is a link as every other command is.
use Rattle.std.specs.Prelude.{◌≡◌, ℕ, ◌+◌, ◌⊎◌, Bool, true, if◌then◌else◌, List, [], ◌∷◌, ◌++◌, slice_get, Some}
use Rattle.std.specs.List.{Contains, list_any}
use Rattle.std.specs.Str.{bytes_eq}
use Rattle.command.specs.declared.command.Command.{Command}
use Rattle.command.specs.Kinds.{is_finalize, parents_of}
use Rattle.command.specs.Wire.{command_id}

-- x and y are of the list, and x is a parent of y
pub record IsParent (cs : List Command) (x y : Command) : Type 0 where
  pub older : Contains cs x
  pub newer : Contains cs y
  pub link : Contains (parents_of y) (command_id x)

-- x is a parent of y, or an ancestor of a parent of y
pub data Ancestor (cs : List Command) (x : Command) : Command → Type 0 where
  Parent : {y : Command} → IsParent cs x y → Ancestor cs x y
  Further : {m y : Command} → Ancestor cs x m → IsParent cs m y → Ancestor cs x y

-- x is y, or an ancestor of it
abbrev pub IsUpTo : List Command → Command → Command → Type 0
IsUpTo cs y x = (x ≡ y) ⊎ Ancestor cs x y

-- the command at a place, from 0
abbrev pub IsAt : List Command → ℕ → Command → Type 0
IsAt cs place x = slice_get cs place ≡ Some x

-- the closure of the tips, given by their places: x is a tip, or an ancestor of one
abbrev pub IsUnder : List Command → List ℕ → Command → Type 0
IsUnder cs tips x = (place : ℕ) × Contains tips place × ((tip : Command) × IsAt cs place tip × IsUpTo cs tip x)

-- whether some command of the list has this parent
abbrev pub is_parent : List Command → List ℕ → Bool
is_parent cs id = list_any (λ y. list_any (bytes_eq id) (parents_of y)) cs

-- the places of those whose id passes no test, where the first stands at a place
abbrev pub places_without : (List ℕ → Bool) → ℕ → List Command → List ℕ
places_without test place [] = []
places_without test place (c ∷ cs) = (if test (command_id c) then [] else place ∷ []) ++ places_without test (place + 1) cs

-- the places of the commands that are no other's parent, ascending
abbrev pub heads : List Command → List ℕ
heads cs = places_without (is_parent cs) 0 cs

-- of two finalize commands one is the other's ancestor
abbrev pub AreInLine : List Command → Type 0
AreInLine cs = (f g : Command) → Contains cs f → Contains cs g → is_finalize f ≡ true → is_finalize g ≡ true → (f ≡ g) ⊎ (Ancestor cs f g ⊎ Ancestor cs g f)
