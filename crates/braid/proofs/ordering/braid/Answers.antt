use Rattle.braid.specs.Braids.{picked}
use Rattle.braid.proofs.Skipping.{no_base}
use Rattle.braid.proofs.ordering.braid.Goals as goal

pub returns-clause-braid : goal.returns-clause-braid
returns-clause-braid g c =
    let cs = g.G.Graph.commands c.args.graph.now in no_base cs c.args.tips.now (picked cs c.in_ok-places.places) c.in_ok-places.ensures.braid
