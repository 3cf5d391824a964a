use Rattle.replica.proofs.ExchangeFacts.{each_by_calls, union_by_calls}
use Rattle.replica.proofs.laws.calls_join.Goals as goal

pub returns : goal.returns
returns g c = record {
  each = λ good criteria id request asker responder exchanges end whole meet. each_by_calls c.sound_commands_are_welcome.ensures good criteria id asker responder request exchanges end whole meet;
  union = λ good criteria id request asker responder exchanges end whole meet. union_by_calls c.sound_commands_are_welcome.ensures good criteria id asker responder request exchanges end whole meet;
}
