use Rattle.std.proofs.Common.{ℕ, Bool, ◌-◌, length}
use Rattle.braid.specs.working.Links.{Skips, listed}
use Rattle.braid.proofs.Linking.{Linked}
use Rattle.braid.proofs.closure.closure.Given as goal

abbrev pub invariant-loop-place : goal.invariant-loop-place
invariant-loop-place g l =
    (skip : ℕ → Bool) → Skips (g.G.Graph.commands l.graph) (listed l.base) skip → Linked (g.G.Graph.commands l.graph) skip (listed l.base) l.tips l.links.items l.places.keys

abbrev pub decreases-loop-place : goal.decreases-loop-place
decreases-loop-place g l = length (g.G.Graph.commands l.graph) - length l.links.items
