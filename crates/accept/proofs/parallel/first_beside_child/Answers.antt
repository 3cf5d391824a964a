use Rattle.std.proofs.Common.{◌≡◌, None, Some, sym, ◌∙◌}
use Rattle.command.proofs.PlaceFacts.{held_place}
use Rattle.accept.proofs.ParallelFacts.{beside_child}
use Rattle.accept.proofs.parallel.first_beside_child.Goals as goal

pub unreachable-requires : goal.unreachable-requires
unreachable-requires g c =
    let found = held_place (g.G.Graph.commands c.args.graph.now) c.args.parent.now c.requires.held in
    let never : None ≡ Some found.0 = sym c.in-None.is ∙ c.place_of.ensures ∙ found.1 in absurd cc

pub returns : goal.returns
returns g c =
    beside_child (g.G.Graph.commands c.args.graph.now) (g.met.G.Graph.closed c.args.graph.now) c.args.parent.now c.in-Some.place c.in_ok-first-in-Some.first
    (sym c.place_of.ensures ∙ c.in-Some.is) c.in_ok-first-in-Some.ensures
