use Rattle.std.proofs.Common.{◌≡◌, ◌<◌, ◌++◌, length, slice_get, Some, sym, ap, subst, ◌∙◌, rules}
use Rattle.std.proofs.lemmas.Option.{slice_get-get_or}
use Rattle.command.specs.Closed.{IsNext}
use Rattle.graph_over.proofs.PlaceFacts.{next_added}
use Rattle.graph_over.proofs.over.OverGraph.copy.Goals as goal

pub add-requires-clause-next : goal.add-requires-clause-next
add-requires-clause-next g c =
    let s = c.args.self.now in
    let below = g.G.Graph.commands s.base.now in
    let place = c.loop-place.place in
    let lt : place < length s.added.items = search rules in
    let at : slice_get s.added.items place ≡ Some c.index.result.now = slice_get-get_or s.added.items place c.index.result.now lt ∙ ap Some (sym c.index.ensures) in
    let next = next_added below s.added.items s.graph.closed place c.index.result.now at in
    subst (λ x. IsNext (g.G.Graph.commands c.loop-place.copy.base.now ++ c.loop-place.copy.added.items) x) (sym c.in_ok-command.ensures)
    (subst (λ l. IsNext (l ++ c.loop-place.copy.added.items) c.index.result.now) (sym c.loop-place.invariant.same_base)
    (subst (λ l. IsNext (below ++ l) c.index.result.now) (sym c.loop-place.invariant.same_added) next))
