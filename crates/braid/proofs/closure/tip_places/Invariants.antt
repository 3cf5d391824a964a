use Rattle.std.proofs.Common.{◌≡◌, ℕ, Bool, false, ◌↔◌, take}
use Rattle.std.specs.List.{Contains}
use Rattle.braid.specs.working.Links.{Skips, listed}
use Rattle.braid.proofs.closure.tip_places.Given as goal

abbrev pub invariant-loop-tip : goal.invariant-loop-tip
invariant-loop-tip g l =
    (skip : ℕ → Bool) → Skips (g.G.Graph.commands l.graph) (listed l.base) skip → (p : ℕ) → Contains l.places.keys p ↔ (Contains (take l.tip-index l.tips) p × (skip p ≡ false))
