use Rattle.std.proofs.Common.{[], ◌∷◌, ◌++◌, subst, sym}
use Rattle.command.specs.Closed.{IsHeld}
use Rattle.graph_over.specs.working.Added.{IsOver}
use Rattle.graph_over.proofs.PlaceFacts.{fresh_id, over_more}
use Rattle.graph_over.proofs.over.Over.put.Goals as goal

pub note-requires-clause-fresh : goal.note-requires-clause-fresh
note-requires-clause-fresh g c =
    let s = c.args.self.now in
    let below = g.G.Graph.commands s.base.now in
    fresh_id below s.added.items s.ids.keys c.id_of-id.result s.graph.named (λ h. c.requires.fresh (subst (λ i. IsHeld (below ++ s.added.items) i) c.id_of-id.ensures.id h))

pub invariant_of-self-clause-graph : goal.invariant_of-self-clause-graph
invariant_of-self-clause-graph g c =
    let s = c.args.self.now in
    let below = g.G.Graph.commands s.base.now in
    subst (λ l. IsOver below l c.store.new.commands.items) (sym c.note.ensures.keys)
    (subst (λ l. IsOver below (s.ids.keys ++ c.id_of-id.result ∷ []) l) (sym c.store.ensures.items)
    (over_more below s.added.items s.ids.keys c.args.command c.id_of-id.result s.graph (record { formed = c.id_of-id.ensures.formed; fresh = c.requires.fresh; held = c.requires.held; cut = c.requires.cut }) c.requires.few c.id_of-id.ensures.id))
