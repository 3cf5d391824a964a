use Rattle.std.proofs.Common.{◌≡◌, ◌++◌, ◌<◌, ℕ, get_or, map, drop}
use Rattle.std.specs.List.{concat}
use Rattle.command.specs.Wire.{IsFormed}
use Rattle.command.specs.declared.command.Command.{Command}
use Rattle.journal.specs.Commits.{counted_command}
use Rattle.journal.proofs.bodies.write_commands.Given as goal

abbrev pub invariant-loop-command : goal.invariant-loop-command
invariant-loop-command l = record {
  told : l.into ++ concat (map counted_command (drop l.command-index l.commands)) ≡ l.initial.into ++ concat (map counted_command l.commands);
  forms : (d : Command) (k : ℕ) → k < l.command-index → IsFormed (get_or l.commands k d);
}
