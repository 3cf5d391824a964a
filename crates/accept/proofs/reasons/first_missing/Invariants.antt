use Rattle.std.proofs.Common.{◌≡◌, drop, find, not}
use Rattle.command.specs.Closed.{has_id}
use Rattle.accept.proofs.reasons.first_missing.Given as goal

abbrev pub invariant-loop-id : goal.invariant-loop-id
invariant-loop-id g l = find (λ id. not (has_id (g.G.Graph.commands l.graph) id)) (drop l.id-index l.ids) ≡ find (λ id. not (has_id (g.G.Graph.commands l.graph) id)) l.ids
