use Rattle.world.proofs.events.graph_of.Goals as goal

pub returns : goal.returns
returns g c = record { graph = (c.replica_of.result.now, c.replica_of.ensures, (cc)) }
