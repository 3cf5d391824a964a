use Rattle.accept.proofs.WelcomeFacts.{welcome}
use Rattle.accept.proofs.laws.sound_commands_are_welcome.Goals as goal

pub returns : goal.returns
returns c = welcome
