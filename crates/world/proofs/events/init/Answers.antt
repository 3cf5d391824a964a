use Rattle.std.proofs.Common.{◌≡◌, ap, ◌∙◌}
use Rattle.world.specs.working.Places.{place_in}
use Rattle.world.proofs.PlaceFacts.{kept_there, set_there}
use Rattle.world.proofs.events.init.Goals as goal

pub returns : goal.returns
returns g c =
    let at : c.place_of-place.result ≡ place_in c.args.replicas.now.items c.args.name.now = c.place_of-place.ensures.place ∙ ap (λ rs. place_in rs c.args.name.now) c.as_slice.ensures.value in
    record {
      step = (
        c.behind-replicas.inside.replica,
        c.init.new.self,
        kept_there c.args.replicas.now.items c.args.name.now c.place_of-place.result c.behind-replicas.inside.name c.behind-replicas.inside.replica c.index_mut.result.now c.requires.there at c.behind-replicas.view_is c.index_mut.ensures.value,
        (c.init.ensures.step, record { later = c.init.ensures.disk.later; as_honest = c.init.ensures.honest; cause = λ fell. (c.init.ensures.disk.cause fell.0 fell.1).0; crash = c.init.ensures.crash }),
        set_there c.args.replicas.now.items c.args.name.now c.place_of-place.result c.behind-replicas.inside.name c.behind-replicas.inside.replica c.index_mut.result.now c.init.new.self c.requires.there at c.behind-replicas.view_is c.index_mut.ensures.value,
      );
      later = c.init.ensures.later;
      cause = c.init.ensures.cause;
      seals = c.init.ensures.seals;
    }
