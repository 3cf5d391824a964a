use Rattle.journal.proofs.SomeReading.{some_reading}
use Rattle.journal.proofs.laws.each_image_reads_as_something.Goals as goal

pub returns : goal.returns
returns c = some_reading
