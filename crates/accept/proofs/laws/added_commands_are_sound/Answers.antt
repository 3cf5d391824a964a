use Rattle.accept.proofs.AddedFacts.{follows, sound}
use Rattle.accept.proofs.laws.added_commands_are_sound.Goals as goal

pub returns : goal.returns
returns c = record {
  follows = λ criteria graph_id commands command standing formed added. follows criteria graph_id commands command standing.closed formed added standing;
  sound = λ criteria graph_id commands command are formed added. sound criteria graph_id commands command are.standing.closed formed added are;
}
