use Rattle.std.specs.Vec.Iter.{into_iter_items}
use Rattle.braid_run.proofs.Appended.{next_is}
use Rattle.braid_run.proofs.state.append_all.Goals as goal

pub append_one-requires-clause-next : goal.append_one-requires-clause-next
append_one-requires-clause-next g c =
    next_is (g.G.Graph.commands c.loop-command.graph) (into_iter_items c.loop-command.command-iterator) _ _ c.in-Some.command c.loop-command.invariant.whole c.in-Some.ensures.steps.0 c.requires.closed
