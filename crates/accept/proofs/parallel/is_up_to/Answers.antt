use Rattle.std.proofs.Common.{rules}
use Rattle.accept.proofs.ParallelFacts.{other_is_up}
use Rattle.accept.proofs.parallel.is_up_to.Goals as goal

pub returns : goal.returns
returns g c =
    other_is_up (g.G.Graph.commands c.args.graph.now) (g.met.G.Graph.closed c.args.graph.now) c.args.place c.args.tip (search rules) c.in_ok-found.found c.in_ok-found.ensures
