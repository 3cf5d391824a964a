use Rattle.std.proofs.Common.{length}
use Rattle.graph_over.proofs.parents.+add_all.Given as goal

abbrev pub decreases-add_all : goal.decreases-add_all
decreases-add_all l = length l.all.now
