use Rattle.std.proofs.Common.{◌≡◌, ℕ, Bool, ◌==◌, if◌then◌else◌, Some, slice_get, get_or, take, []}
use Rattle.std.specs.BinaryHeap.{heap_items}
use Rattle.std.specs.List.{All}
use Rattle.braid.specs.working.Links.{times}
use Rattle.braid.specs.working.Turns.{AreOrdered, IsTurn, spots, waiting}
use Rattle.braid.proofs.ordering.tops.Given as goal

abbrev pub invariant-loop-number : goal.invariant-loop-number
invariant-loop-number g l = record {
  order : AreOrdered (heap_items l.heap);
  turns : All (IsTurn (g.G.Graph.commands l.graph) l.places) (heap_items l.heap);
  ready : (skip : ℕ → Bool) → ((k p : ℕ) → slice_get l.places k ≡ Some p → get_or l.children k 0 ≡ waiting (g.G.Graph.commands l.graph) skip [] l.places p) →
      (p : ℕ) → times p (spots (heap_items l.heap)) ≡ (if waiting (g.G.Graph.commands l.graph) skip [] l.places p == 0 then times p (take l.number l.places) else 0);
}
