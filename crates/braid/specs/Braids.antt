-- The braid: the one order of commands in which ancestors come first.
use Rattle.std.specs.Prelude.{◌≡◌, ℕ, ◌↔◌, false, List, [], ◌∷◌, ◌++◌, slice_get}
use Rattle.std.specs.List.{Contains, filter_map}
use Rattle.command.specs.declared.command.Command.{Command}
use Rattle.command.specs.Ancestors.{Ancestor, IsUnder, IsUpTo}
use Rattle.command.specs.Each.{Each}
use Rattle.command.specs.Kinds.{is_merge}
use Rattle.braid.specs.Lower.{IsLower}

-- y is an ancestor of none of these
abbrev pub IsTop : List Command → List Command → Command → Type 0
IsTop cs these y = (z : Command) → Contains these z → ¬ Ancestor cs y z

-- x stands behind these in a braid: it isn't among them, and with them it is an ancestor of none, and the lowest such
pub record IsPlaced (cs these : List Command) (x : Command) : Type 0 where
  pub once : ¬ Contains these x
  pub above : IsTop cs (these ++ x ∷ []) x
  pub lowest : (y : Command) → Contains these y → IsTop cs (these ++ x ∷ []) y → ¬ IsLower y x

-- the braid of those commands of a list that meet a test: each of them but the merges once, and each stands as its place asks
pub record IsBraidOf (cs : List Command) (P : Command → Type 0) (braid : List Command) : Type 0 where
  pub holds : (x : Command) → Contains braid x ↔ (Contains cs x × P x × (is_merge x ≡ false))
  pub placed : Each (IsPlaced cs) braid

-- the braid of a list
abbrev pub IsBraid : List Command → List Command → Type 0
IsBraid cs = IsBraidOf cs (λ x. Unit {0})

-- the braid of the closure of a command, and of tips given by their places
abbrev pub IsBraidTo : List Command → Command → List Command → Type 0
IsBraidTo cs tip = IsBraidOf cs (IsUpTo cs tip)

abbrev pub IsBraidUnder : List Command → List ℕ → List Command → Type 0
IsBraidUnder cs tips = IsBraidOf cs (IsUnder cs tips)

-- the commands at these places
abbrev pub picked : List Command → List ℕ → List Command
picked cs places = filter_map (slice_get cs) places
