use Rattle.std.proofs.Common.{length}
use Rattle.command.proofs.cuts.+next_cut.Given as goal

abbrev pub decreases-next_cut : goal.decreases-next_cut
decreases-next_cut g l = length l.parents.now
