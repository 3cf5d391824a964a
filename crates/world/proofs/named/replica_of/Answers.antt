use Rattle.world.proofs.PlaceFacts.{kept_there}
use Rattle.world.proofs.named.replica_of.Goals as goal

pub returns : goal.returns
returns g c =
    kept_there c.args.replicas.now c.args.name.now c.place_of.result c.one.inside.name c.one.inside.replica c.index-replicas-place_of.result
    c.requires.there c.place_of.ensures.place c.one.view_is c.index-replicas-place_of.is
