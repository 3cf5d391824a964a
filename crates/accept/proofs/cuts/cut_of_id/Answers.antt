use Rattle.std.proofs.Common.{◌≤◌, arith}
use Rattle.command.proofs.CutFacts.{cut_low}
use Rattle.accept.proofs.cuts.cut_of_id.Goals as goal

pub returns-in_ok-cut-in-Some-clause-small : goal.returns-in_ok-cut-in-Some-clause-small
returns-in_ok-cut-in-Some-clause-small g c =
    let low = cut_low (g.G.Graph.commands c.args.graph.now) c.in-Some.place in
    let few = g.met.G.Graph.few c.args.graph.now in
    omega (arith, low, few, c.in_ok-cut-in-Some.ensures)
