use Rattle.accept.proofs.TakeFacts.{one_tally, take_is_sound, take_stands}
use Rattle.accept.proofs.laws.takes_keep_soundness.Goals as goal

pub returns : goal.returns
returns c = record { one = one_tally; standing = take_stands; sound = take_is_sound }
