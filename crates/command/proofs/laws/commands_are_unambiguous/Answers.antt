use Rattle.command.proofs.WireLaws.{commands}
use Rattle.command.proofs.laws.commands_are_unambiguous.Goals as goal

pub returns : goal.returns
returns c = commands
