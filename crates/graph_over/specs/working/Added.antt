-- What stands behind a graph that is borrowed.
use Rattle.std.specs.Prelude.{◌≡◌, ℕ, ◌≤◌, List, ◌++◌, length, map}
use Rattle.std.proofs.Props.{props}
use Rattle.command.specs.declared.command.Command.{Command}
use Rattle.command.specs.Closed.{IsClosed, max_commands}
use Rattle.command.specs.working.Propositions.{closed_prop}
use Rattle.command.specs.Wire.{command_id}

-- The ids are those of the added commands, and all commands are a closed list that isn't too long.
pub record IsOver (below : List Command) (ids : List (List ℕ)) (added : List Command) : Type 0 where
  pub named : ids ≡ map command_id added
  pub closed : IsClosed (below ++ added)
  pub few : length (below ++ added) ≤ max_commands

pub over_prop : (below : List Command) (ids : List (List ℕ)) (added : List Command) → IsProp (IsOver below ids added)
over_prop below ids added = hlevel (props, closed_prop (below ++ added))
