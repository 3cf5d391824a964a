use Rattle.std.proofs.Common.{length, ap, arith}
use Rattle.sync_peer.proofs.SampleFacts.{small_sample}
use Rattle.sync_peer.proofs.asking.first_request.Goals as goal

pub returns-clause-request : goal.returns-clause-request
returns-clause-request g c = ap (λ ids. record { graph = c.args.id.now; sample = ids; from = 0 }) c.in_ok-sample.ensures

pub returns-clause-form : goal.returns-clause-form
returns-clause-form g c =
    let cs = g.G.Graph.commands c.args.graph.now in
    let few = (small_sample cs (g.met.G.Graph.few c.args.graph.now)).few in
    let same = ap length c.in_ok-sample.ensures in
    record { few_ids = omega (arith, few, same); near = omega arith }
