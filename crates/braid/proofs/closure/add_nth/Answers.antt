use Rattle.braid.specs.working.Links.{IsLeftId}
use Rattle.braid.proofs.Linking.{none_past}
use Rattle.braid.proofs.closure.add_nth.Goals as goal

pub returns-in-None-clause-adds : goal.returns-in-None-clause-adds
returns-in-None-clause-adds g c = λ skip skips. none_past (IsLeftId (g.G.Graph.commands c.args.graph.now) skip) (g.G.Graph.commands c.args.graph.now) c.args.ids.now c.args.nth c.args.places.now.keys c.in-None.ensures.lookup.3
