use Rattle.std.proofs.Common.{rules}
use Rattle.sync_peer.specs.working.Walks.{commands_at}
use Rattle.sync_peer.proofs.PlaceLists.{response_in_form}
use Rattle.sync_peer.proofs.answering.answer_to.Goals as goal

pub returns-clause-form : goal.returns-clause-form
returns-clause-form g c =
    let cs = g.G.Graph.commands c.args.graph.now in
    response_in_form cs c.args.request.now (commands_at cs c.in_ok-missing.missing) c.in_ok-told.told (g.met.G.Graph.few c.args.graph.now) c.requires.form (search rules) (search rules)
    c.in_ok-told.ensures.formed
