use Rattle.braid.specs.Braids.{picked}
use Rattle.braid.proofs.Skipping.{one_base}
use Rattle.braid.proofs.ordering.braid_above.Goals as goal

pub returns-clause-braid : goal.returns-clause-braid
returns-clause-braid g c = λ f at.
    let cs = g.G.Graph.commands c.args.graph.now in one_base cs c.args.tips.now c.args.base f at (picked cs c.in_ok-places.places) c.in_ok-places.ensures.braid
