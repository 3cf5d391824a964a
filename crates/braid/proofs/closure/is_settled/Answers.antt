use Rattle.std.proofs.Common.{rules}
use Rattle.braid.proofs.Skipping.{settled_by}
use Rattle.braid.proofs.closure.is_settled.Goals as goal

pub returns : goal.returns
returns g c =
    settled_by (g.G.Graph.commands c.args.graph.now) (g.met.G.Graph.closed c.args.graph.now) c.args.base c.in-Some.base c.args.place c.in-Some.is c.requires.base c.if-place-base.false c.in_ok-settled.settled c.in_ok-settled.ensures
