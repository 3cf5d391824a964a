use Rattle.std.proofs.Common.{ap, ◌∙◌}
use Rattle.sync_peer.specs.Samples.{ids_at, sample_places}
use Rattle.sync_peer.proofs.asking.sample.Goals as goal

pub returns : goal.returns
returns g c =
    let cs = g.G.Graph.commands c.args.graph.now in
    c.in_ok-ids.ensures ∙ ap (ids_at cs) (c.as_slice.ensures ∙ c.in_ok-places.ensures ∙ ap sample_places c.len.ensures)
