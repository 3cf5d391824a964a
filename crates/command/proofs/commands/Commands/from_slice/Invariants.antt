use Rattle.std.proofs.Common.{◌≡◌, take}
use Rattle.command.proofs.commands.Commands.from_slice.Given as goal

abbrev pub invariant-loop-command : goal.invariant-loop-command
invariant-loop-command l = l.all ≡ take l.command-index l.commands
