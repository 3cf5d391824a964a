use Rattle.std.proofs.Common.{ap, sym, ◌∙◌}
use Rattle.std.specs.Option.{is_some}
use Rattle.transaction.proofs.DraftFacts.{in_graph, known_first, known_later}
use Rattle.transaction.proofs.opening.is_known.Goals as goal

pub returns-then-is_some : goal.returns-then-is_some
returns-then-is_some g c =
    known_first (g.G.Graph.commands c.args.graph.now) c.args.draft.now.commands c.args.id.now c.is_some.result
    (c.is_some.ensures ∙ ap is_some c.place_of.ensures ∙ in_graph (g.G.Graph.commands c.args.graph.now) c.args.id.now) c.if-is_some.true

pub returns-else-is_some : goal.returns-else-is_some
returns-else-is_some g c =
    known_later (g.G.Graph.commands c.args.graph.now) c.args.draft.now.commands c.args.id.now c.has_made.result
    (sym (c.is_some.ensures ∙ ap is_some c.place_of.ensures ∙ in_graph (g.G.Graph.commands c.args.graph.now) c.args.id.now) ∙ c.if-is_some.false) c.has_made.ensures
