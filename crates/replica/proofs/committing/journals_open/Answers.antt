use Rattle.replica.proofs.Opens.{sound_opens}
use Rattle.replica.proofs.committing.journals_open.Goals as goal

pub returns-clause-opens : goal.returns-clause-opens
returns-clause-opens c = sound_opens c.sound_commands_are_welcome.ensures c.commands_have_one_answer.ensures
