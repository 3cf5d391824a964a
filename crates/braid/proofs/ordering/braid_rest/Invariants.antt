use Rattle.std.proofs.Common.{◌≡◌, ℕ, Bool, ◌+◌, length}
use Rattle.std.specs.BinaryHeap.{heap_items}
use Rattle.std.specs.List.{sum}
use Rattle.braid.specs.working.Turns.{AreOrdered}
use Rattle.braid.specs.working.Links.{Skips, listed}
use Rattle.braid.proofs.Turning.{Going}
use Rattle.braid.proofs.ordering.braid_rest.Given as goal

abbrev pub invariant-loop-turn : goal.invariant-loop-turn
invariant-loop-turn g l = record {
  going : (skip : ℕ → Bool) → Skips (g.G.Graph.commands l.graph) (listed l.fn.base) skip → Going (g.G.Graph.commands l.graph) skip (listed l.fn.base) l.tips l.places l.children.items (heap_items l.heap) l.placed;
  order : AreOrdered (heap_items l.heap);
  length : length l.children.items ≡ length l.places;
}

abbrev pub decreases-loop-turn : goal.decreases-loop-turn
decreases-loop-turn g l = length (heap_items l.heap) + sum l.children.items
