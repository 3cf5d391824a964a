use Rattle.std.proofs.Common.{◌≡◌, ap, ◌∙◌}
use Rattle.world.specs.working.Places.{place_in}
use Rattle.world.proofs.PlaceFacts.{kept_there, set_there}
use Rattle.world.proofs.events.act.Goals as goal

pub returns : goal.returns
returns g c =
    let at : c.place_of-place.result ≡ place_in c.args.replicas.now.items c.args.name.now = c.place_of-place.ensures.place ∙ ap (λ rs. place_in rs c.args.name.now) c.as_slice.ensures.value in
    record {
      step = (
        c.behind-replicas.inside.replica,
        c.act.new.self,
        kept_there c.args.replicas.now.items c.args.name.now c.place_of-place.result c.behind-replicas.inside.name c.behind-replicas.inside.replica c.index_mut.result.now c.requires.there at c.behind-replicas.view_is c.index_mut.ensures.value,
        (c.act.ensures.step, record { later = c.act.ensures.disk.later; as_honest = c.act.ensures.honest; cause = λ fell. (c.act.ensures.disk.cause fell.0 fell.1).0; crash = c.act.ensures.crash }),
        set_there c.args.replicas.now.items c.args.name.now c.place_of-place.result c.behind-replicas.inside.name c.behind-replicas.inside.replica c.index_mut.result.now c.act.new.self c.requires.there at c.behind-replicas.view_is c.index_mut.ensures.value,
      );
      later = c.act.ensures.later;
      cause = c.act.ensures.cause;
      seals = c.act.ensures.seals;
    }
