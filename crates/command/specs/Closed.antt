-- Closed lists: each command has its form and an id of its own, and its parents stand before it.
use Rattle.std.specs.Prelude.{◌≡◌, ℕ, Bool, false, ◌||◌, IsTrue, List, [], ◌∷◌, Some}
use Rattle.std.specs.List.{Contains}
use Rattle.std.specs.Str.{bytes_eq}
use Rattle.command.specs.declared.command.Command.{Command}
pub use Rattle.command.specs.Places.{place_of}
use Rattle.command.specs.Cuts.{cut_behind}
use Rattle.command.specs.Each.{Each}
use Rattle.command.specs.Kinds.{carried, parents_of}
use Rattle.command.specs.Wire.{IsFormed, command_id}

-- a graph has at most so many commands
abbrev pub max_commands : ℕ
max_commands = 65536

-- whether some command of the list has this id
abbrev pub has_id : List Command → List ℕ → Bool
has_id [] id = false
has_id (c ∷ cs) id = bytes_eq id (command_id c) || has_id cs id

abbrev pub IsHeld : List Command → List ℕ → Type 0
IsHeld cs id = IsTrue (has_id cs id)

-- the command may stand behind these
pub record IsNext (front : List Command) (c : Command) : Type 0 where
  pub formed : IsFormed c
  pub fresh : IsHeld front (command_id c) → ⊥
  pub held : (parent : List ℕ) → Contains (parents_of c) parent → IsHeld front parent
  pub cut : (stated : ℕ) → carried c ≡ Some stated → stated ≡ cut_behind front c

abbrev pub IsClosed : List Command → Type 0
IsClosed cs = Each IsNext cs
