use Rattle.replica.proofs.JoinFacts.{each_joined}
use Rattle.replica.proofs.JoinWhole.{whole_joined}
use Rattle.replica.proofs.laws.sessions_join.Goals as goal

pub returns : goal.returns
returns c = record {
  each = each_joined c.sound_commands_are_welcome.ensures;
  union = whole_joined c.sound_commands_are_welcome.ensures;
}
