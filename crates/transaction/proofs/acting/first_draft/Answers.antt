use Rattle.std.proofs.Common.{◌<◌, length, sym, subst}
use Rattle.std.specs.List.{All}
use Rattle.braid_run.proofs.PublishedFacts.{heads_within}
use Rattle.transaction.proofs.acting.first_draft.Goals as goal

pub id_at-requires : goal.id_at-requires
id_at-requires g c =
    let cs = g.G.Graph.commands c.args.graph.now in
    subst (All (λ p. p < length cs)) (sym c.loop-place.invariant.2) (heads_within cs) c.loop-place.place-index _ c.loop-place-test.true
