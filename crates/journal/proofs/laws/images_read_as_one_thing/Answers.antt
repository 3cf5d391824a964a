use Rattle.journal.proofs.OneReading.{one_reading}
use Rattle.journal.proofs.laws.images_read_as_one_thing.Goals as goal

pub returns : goal.returns
returns c = one_reading
