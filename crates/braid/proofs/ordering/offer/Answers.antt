use Rattle.std.specs.BinaryHeap.{heap_items}
use Rattle.std.proofs.Common.{get_or}
use Rattle.braid.proofs.Turning.{offered}
use Rattle.braid.proofs.ordering.offer.Goals as goal

pub returns-in_ok-push-clause-offers : goal.returns-in_ok-push-clause-offers
returns-in_ok-push-clause-offers g c =
    offered (g.G.Graph.commands c.args.graph.now) c.args.places.now c.args.number (get_or c.args.children.now c.args.number 0) (heap_items c.args.heap.now) (heap_items c.push.new.self) c.turn_of.result c.turn_of.ensures.turn c.turn_of.ensures.number
    c.if-children-number-eq0.true c.in_ok-push.ensures.permutation
