use Rattle.std.proofs.Common.{rules}
use Rattle.accept.proofs.ParallelFacts.{looks_beside}
use Rattle.accept.proofs.parallel.look_at.Goals as goal

pub returns-else-branch : goal.returns-else-branch
returns-else-branch g c = λ x p here there.
    looks_beside (g.G.Graph.commands c.args.graph.now) c.args.place c.args.tip c.at.result.now c.at.ensures (search rules) c.in_ok-is_up_to.field-0 c.in_ok-is_up_to.ensures x p here there
    c.if-branch.false c.id_at.result c.id_at.ensures
