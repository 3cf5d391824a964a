use Rattle.std.proofs.Common.{length}
use Rattle.accept.proofs.cuts.+cut_behind.Given as goal

abbrev pub decreases-cut_behind : goal.decreases-cut_behind
decreases-cut_behind g l = length l.parents.now
