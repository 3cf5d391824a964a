-- Which of the heads stay when a command is added.
use Rattle.std.specs.Prelude.{ℕ, Bool, true, not, List, slice_get, Option, Some, None}
use Rattle.std.specs.List.{list_any}
use Rattle.std.specs.Str.{bytes_eq}
use Rattle.command.specs.Wire.{command_id}
use Rattle.command.specs.declared.command.Command.{Command}

abbrev pub has_none_of : List (List ℕ) → Option Command → Bool
has_none_of ids None = true
has_none_of ids (Some c) = not (list_any (bytes_eq (command_id c)) ids)

-- the command at a place has none of these ids
abbrev pub is_other : List Command → List (List ℕ) → ℕ → Bool
is_other cs ids place = has_none_of ids (slice_get cs place)
