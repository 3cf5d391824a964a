-- Places of commands in a list.
use Rattle.std.specs.Prelude.{ℕ, List, Option}
use Rattle.std.specs.List.{position}
use Rattle.std.specs.Str.{bytes_eq}
use Rattle.command.specs.declared.command.Command.{Command}
use Rattle.command.specs.Wire.{command_id}

-- the place, from 0, of the command with this id
abbrev pub place_of : List Command → List ℕ → Option ℕ
place_of cs id = position (λ c. bytes_eq id (command_id c)) cs
