use Rattle.outside.proofs.Crashes.{told_before}
use Rattle.outside.proofs.laws.earlier_crashes_are_told.Goals as goal

pub returns : goal.returns
returns c = told_before
