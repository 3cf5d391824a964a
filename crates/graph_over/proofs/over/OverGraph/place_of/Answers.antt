use Rattle.std.proofs.Common.{◌+◌, Some, sym, ap, ◌∙◌}
use Rattle.graph_over.proofs.PlaceFacts.{place_added, place_below, place_none}
use Rattle.graph_over.proofs.over.OverGraph.place_of.Goals as goal

pub returns-in-Some : goal.returns-in-Some
returns-in-Some g c =
    let s = c.args.self.now in
    sym (place_below (g.G.Graph.commands s.base.now) s.added.items s.graph.closed c.args.id.now c.in-Some.place (sym c.in-Some.ensures))

pub returns-in-Some-get_index_of : goal.returns-in-Some-get_index_of
returns-in-Some-get_index_of g c =
    let s = c.args.self.now in
    ap (λ n. Some (n + c.in-Some-get_index_of.place)) c.len.ensures
    ∙ sym (place_added (g.G.Graph.commands s.base.now) s.added.items s.graph.closed s.ids.keys s.graph.named c.args.id.now c.in-Some-get_index_of.place c.in-Some-get_index_of.ensures.index)

pub returns-in-None : goal.returns-in-None
returns-in-None g c =
    let s = c.args.self.now in
    sym (place_none (g.G.Graph.commands s.base.now) s.added.items s.ids.keys s.graph.named c.args.id.now (sym c.in_default.ensures) c.in-None.ensures.index)
