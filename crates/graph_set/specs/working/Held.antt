-- What a map from ids to commands holds, where it is a graph.
use Rattle.std.specs.Prelude.{◌≡◌, ℕ, ◌≤◌, List, length, map}
use Rattle.std.proofs.Props.{props}
use Rattle.command.specs.declared.command.Command.{Command}
use Rattle.command.specs.Closed.{IsClosed, max_commands}
use Rattle.command.specs.working.Propositions.{closed_prop}
use Rattle.command.specs.Wire.{command_id}

-- each command stands under its own id, and the commands are a closed list that isn't too long
pub record IsGraph (ids : List (List ℕ)) (commands : List Command) : Type 0 where
  pub named : ids ≡ map command_id commands
  pub closed : IsClosed commands
  pub few : length commands ≤ max_commands

pub graph_prop : (ids : List (List ℕ)) (commands : List Command) → IsProp (IsGraph ids commands)
graph_prop ids commands = hlevel (props, closed_prop commands)
