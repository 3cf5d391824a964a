use Rattle.std.proofs.Common.{◌≡◌, ℕ, Bool, ◌<◌, [], None, List, length, get_or, subst, sym, ap, ◌∙◌, arith, append-nil, rules}
use Rattle.std.specs.BinaryHeap.{heap_items}
use Rattle.std.specs.List.{All}
use Rattle.std.proofs.lemmas.Option.{slice_get_within}
use Rattle.command.specs.declared.command.Command.{Command}
use Rattle.braid.specs.Braids.{IsBraidOf, picked}
use Rattle.braid.specs.Bases.{IsRest}
use Rattle.braid.specs.declared.closure.Links.{Links}
use Rattle.braid.specs.working.Links.{IsClosureWith, listed, listed_links, parents_left}
use Rattle.braid.specs.working.Placing.{struck}
use Rattle.braid.specs.working.Turns.{Standing}
use Rattle.braid.proofs.Gathering.{some_skip}
use Rattle.braid.proofs.Numbers.{linked_at, linked_length, linked_within, numbers_split}
use Rattle.braid.proofs.Places.{reversed_all}
use Rattle.braid.proofs.Progress.{whole}
use Rattle.braid.proofs.Turning.{asked, ended, its_turn, popped, started, stepped, struck_once}
use Rattle.braid.proofs.ordering.braid_rest.Goals as goal

-- the closure, as it is lent
lent : (cs : List Command) (skip : ℕ → Bool) (bases tips keys places : List ℕ) (items links : List Links) → places ≡ keys → links ≡ items → IsClosureWith cs skip bases tips keys items → IsClosureWith cs skip bases tips places links
lent cs skip bases tips keys places items links same other whole = subst (λ l. IsClosureWith cs skip bases tips l links) (sym same) (subst (λ l. IsClosureWith cs skip bases tips keys l) (sym other) whole)

pub children-requires-clause-few : goal.children-requires-clause-few
children-requires-clause-few g c =
    let cs = g.G.Graph.commands c.args.graph.now in
    let places = c.as_slice-places.result.now in
    let links = c.as_slice-links.result.now in
    let bases = listed c.args.base in
    let some = some_skip cs (g.met.G.Graph.closed c.args.graph.now) bases in
    let skip = some.0 in
    let skips = some.1 in
    let whole = lent cs skip bases c.args.tips.now c.in_ok-found.found.places.keys places c.in_ok-found.found.links.items links c.as_slice-places.ensures.keys c.as_slice-links.ensures.value (c.in_ok-found.ensures skip skips) in
    let same = linked_length cs skip places links places whole.linked in
    let few = g.met.G.Graph.few c.args.graph.now in
    let most = whole.few in
    omega (arith, most, same, few)

pub children-requires-clause-within : goal.children-requires-clause-within
children-requires-clause-within g c =
    let cs = g.G.Graph.commands c.args.graph.now in
    let places = c.as_slice-places.result.now in
    let links = c.as_slice-links.result.now in
    let bases = listed c.args.base in
    let some = some_skip cs (g.met.G.Graph.closed c.args.graph.now) bases in
    let skip = some.0 in
    let skips = some.1 in
    let whole = lent cs skip bases c.args.tips.now c.in_ok-found.found.places.keys places c.in_ok-found.found.links.items links c.as_slice-places.ensures.keys c.as_slice-links.ensures.value (c.in_ok-found.ensures skip skips) in
    subst (λ n. All (λ them. All (λ k. k < n) (listed_links them)) links) (sym (linked_length cs skip places links places whole.linked)) (linked_within cs skip places links places whole.linked)

pub tops-requires-clause-children : goal.tops-requires-clause-children
tops-requires-clause-children g c =
    let cs = g.G.Graph.commands c.args.graph.now in
    let places = c.as_slice-places.result.now in
    let links = c.as_slice-links.result.now in
    let bases = listed c.args.base in
    let some = some_skip cs (g.met.G.Graph.closed c.args.graph.now) bases in
    let skip = some.0 in
    let skips = some.1 in
    let whole = lent cs skip bases c.args.tips.now c.in_ok-found.found.places.keys places c.in_ok-found.found.links.items links c.as_slice-places.ensures.keys c.as_slice-links.ensures.value (c.in_ok-found.ensures skip skips) in
    ap length c.as_slice.ensures.value ∙ c.in_ok-children.ensures.length ∙ linked_length cs skip places links places whole.linked

pub tops-requires-clause-within : goal.tops-requires-clause-within
tops-requires-clause-within g c =
    let cs = g.G.Graph.commands c.args.graph.now in
    let bases = listed c.args.base in
    let some = some_skip cs (g.met.G.Graph.closed c.args.graph.now) bases in
    let whole = lent cs some.0 bases c.args.tips.now c.in_ok-found.found.places.keys c.as_slice-places.result.now c.in_ok-found.found.links.items c.as_slice-links.result.now c.as_slice-places.ensures.keys c.as_slice-links.ensures.value (c.in_ok-found.ensures some.0 some.1) in
    whole.within

pub tops-requires-clause-once : goal.tops-requires-clause-once
tops-requires-clause-once g c =
    let cs = g.G.Graph.commands c.args.graph.now in
    let bases = listed c.args.base in
    let some = some_skip cs (g.met.G.Graph.closed c.args.graph.now) bases in
    let whole = lent cs some.0 bases c.args.tips.now c.in_ok-found.found.places.keys c.as_slice-places.result.now c.in_ok-found.found.links.items c.as_slice-links.result.now c.as_slice-places.ensures.keys c.as_slice-links.ensures.value (c.in_ok-found.ensures some.0 some.1) in
    whole.once

pub loop-turn-init : goal.loop-turn-init
loop-turn-init g c =
    let cs = g.G.Graph.commands c.args.graph.now in
    let places = c.as_slice-places.result.now in
    let links = c.as_slice-links.result.now in
    let bases = listed c.args.base in
    let some = some_skip cs (g.met.G.Graph.closed c.args.graph.now) bases in
    let skip = some.0 in
    let skips = some.1 in
    let whole = lent cs skip bases c.args.tips.now c.in_ok-found.found.places.keys places c.in_ok-found.found.links.items links c.as_slice-places.ensures.keys c.as_slice-links.ensures.value (c.in_ok-found.ensures skip skips) in
    record {
      going = λ skip skips.
          let whole = lent cs skip bases c.args.tips.now c.in_ok-found.found.places.keys places c.in_ok-found.found.links.items links c.as_slice-places.ensures.keys c.as_slice-links.ensures.value (c.in_ok-found.ensures skip skips) in
          started cs (g.met.G.Graph.closed c.args.graph.now) skip bases c.args.tips.now places skips links c.in_ok-children.children.items (heap_items c.in_ok-heap.heap) c.new-placed.result whole c.in_ok-children.ensures.counted
          (λ counted lefts. subst (λ l. Standing cs skip places l (heap_items c.in_ok-heap.heap) [] places) c.as_slice.ensures.value (c.in_ok-heap.ensures.standing skip (λ k p at. ap (λ l. get_or l k 0) c.as_slice.ensures.value ∙ counted k p at) lefts)) c.new-placed.ensures;
      order = c.in_ok-heap.ensures.heap;
      length = c.in_ok-children.ensures.length ∙ linked_length cs skip places links places whole.linked;
    }

pub bounds-links-turn : goal.bounds-links-turn
bounds-links-turn g c =
    let cs = g.G.Graph.commands c.args.graph.now in
    let places = c.as_slice-places.result.now in
    let links = c.as_slice-links.result.now in
    let bases = listed c.args.base in
    let some = some_skip cs (g.met.G.Graph.closed c.args.graph.now) bases in
    let skip = some.0 in
    let skips = some.1 in
    let whole = lent cs skip bases c.args.tips.now c.in_ok-found.found.places.keys places c.in_ok-found.found.links.items links c.as_slice-places.ensures.keys c.as_slice-links.ensures.value (c.in_ok-found.ensures skip skips) in
    let its = its_turn cs (g.met.G.Graph.closed c.args.graph.now) skip bases c.args.tips.now places c.loop-turn.children.items skips (heap_items c.loop-turn.heap) c.loop-turn.placed (c.loop-turn.invariant.going skip skips) c.in-Some.turn (heap_items c.first.new.heap) c.in-Some.ensures.taken in
    let lt = slice_get_within places c.in-Some.turn.number c.in-Some.turn.place its.number in
    let same = linked_length cs skip places links places whole.linked in
    omega (arith, lt, same)

pub offset_bounds-links-turn : goal.offset_bounds-links-turn
offset_bounds-links-turn g c =
    let cs = g.G.Graph.commands c.args.graph.now in
    let places = c.as_slice-places.result.now in
    let links = c.as_slice-links.result.now in
    let bases = listed c.args.base in
    let some = some_skip cs (g.met.G.Graph.closed c.args.graph.now) bases in
    let skip = some.0 in
    let skips = some.1 in
    let whole = lent cs skip bases c.args.tips.now c.in_ok-found.found.places.keys places c.in_ok-found.found.links.items links c.as_slice-places.ensures.keys c.as_slice-links.ensures.value (c.in_ok-found.ensures skip skips) in
    let its = its_turn cs (g.met.G.Graph.closed c.args.graph.now) skip bases c.args.tips.now places c.loop-turn.children.items skips (heap_items c.loop-turn.heap) c.loop-turn.placed (c.loop-turn.invariant.going skip skips) c.in-Some.turn (heap_items c.first.new.heap) c.in-Some.ensures.taken in
    let turn = c.in-Some.turn in
    let lt = slice_get_within places c.in-Some.turn.number c.in-Some.turn.place its.number in
    let same = linked_length cs skip places links places whole.linked in
    let within : turn.number < length links = omega (arith, lt, same) in
    search rules

pub release-requires-clause-within : goal.release-requires-clause-within
release-requires-clause-within g c =
    let cs = g.G.Graph.commands c.args.graph.now in
    let bases = listed c.args.base in
    let some = some_skip cs (g.met.G.Graph.closed c.args.graph.now) bases in
    let whole = lent cs some.0 bases c.args.tips.now c.in_ok-found.found.places.keys c.as_slice-places.result.now c.in_ok-found.found.links.items c.as_slice-links.result.now c.as_slice-places.ensures.keys c.as_slice-links.ensures.value (c.in_ok-found.ensures some.0 some.1) in
    whole.within

pub release-requires-in-Some-clause-within : goal.release-requires-in-Some-clause-within
release-requires-in-Some-clause-within g c =
    let cs = g.G.Graph.commands c.args.graph.now in
    let bases = listed c.args.base in
    let some = some_skip cs (g.met.G.Graph.closed c.args.graph.now) bases in
    let whole = lent cs some.0 bases c.args.tips.now c.in_ok-found.found.places.keys c.as_slice-places.result.now c.in_ok-found.found.links.items c.as_slice-links.result.now c.as_slice-places.ensures.keys c.as_slice-links.ensures.value (c.in_ok-found.ensures some.0 some.1) in
    whole.within

pub release-requires-clause-number : goal.release-requires-clause-number
release-requires-clause-number g c =
    let cs = g.G.Graph.commands c.args.graph.now in
    let closed = g.met.G.Graph.closed c.args.graph.now in
    let places = c.as_slice-places.result.now in
    let links = c.as_slice-links.result.now in
    let bases = listed c.args.base in
    let some = some_skip cs (g.met.G.Graph.closed c.args.graph.now) bases in
    let skip = some.0 in
    let skips = some.1 in
    let whole = lent cs skip bases c.args.tips.now c.in_ok-found.found.places.keys places c.in_ok-found.found.links.items links c.as_slice-places.ensures.keys c.as_slice-links.ensures.value (c.in_ok-found.ensures skip skips) in
    let now = (c.loop-turn.invariant.going skip skips) in
    let turn = c.in-Some.turn in
    let after = heap_items c.first.new.heap in
    let none : Links = record { left = None; right = None } in
    let them : Links = get_or links turn.number none in
    let its = its_turn cs closed skip bases c.args.tips.now places c.loop-turn.children.items skips (heap_items c.loop-turn.heap) c.loop-turn.placed now turn after c.in-Some.ensures.taken in
    let numbers = linked_at cs skip places links places whole.linked turn.number turn.place none its.number in
    let split = numbers_split places (listed them.left) (listed them.right) (parents_left cs skip turn.place) numbers in
    let start = subst (λ l. Standing cs skip places c.loop-turn.children.items after l (struck turn.place now.remaining)) split.2
    (popped cs closed skip bases c.args.tips.now places c.loop-turn.children.items skips (heap_items c.loop-turn.heap) c.loop-turn.placed now turn after c.in-Some.ensures.taken) in
    asked cs skip places c.loop-turn.children.items after split.1 (struck turn.place now.remaining) them.left split.0 split.3 start

pub release-requires-in-Some-clause-number : goal.release-requires-in-Some-clause-number
release-requires-in-Some-clause-number g c =
    let cs = g.G.Graph.commands c.args.graph.now in
    let closed = g.met.G.Graph.closed c.args.graph.now in
    let places = c.as_slice-places.result.now in
    let links = c.as_slice-links.result.now in
    let bases = listed c.args.base in
    let some = some_skip cs (g.met.G.Graph.closed c.args.graph.now) bases in
    let skip = some.0 in
    let skips = some.1 in
    let whole = lent cs skip bases c.args.tips.now c.in_ok-found.found.places.keys places c.in_ok-found.found.links.items links c.as_slice-places.ensures.keys c.as_slice-links.ensures.value (c.in_ok-found.ensures skip skips) in
    let now = (c.loop-turn.invariant.going skip skips) in
    let turn = c.in-Some.turn in
    let after = heap_items c.first.new.heap in
    let none : Links = record { left = None; right = None } in
    let them : Links = get_or links turn.number none in
    let rest = struck turn.place now.remaining in
    let its = its_turn cs closed skip bases c.args.tips.now places c.loop-turn.children.items skips (heap_items c.loop-turn.heap) c.loop-turn.placed now turn after c.in-Some.ensures.taken in
    let once = struck_once cs closed skip bases c.args.tips.now places c.loop-turn.children.items skips (heap_items c.loop-turn.heap) c.loop-turn.placed now turn after c.in-Some.ensures.taken in
    let numbers = linked_at cs skip places links places whole.linked turn.number turn.place none its.number in
    let split = numbers_split places (listed them.left) (listed them.right) (parents_left cs skip turn.place) numbers in
    let start = subst (λ l. Standing cs skip places c.loop-turn.children.items after l rest) split.2
    (popped cs closed skip bases c.args.tips.now places c.loop-turn.children.items skips (heap_items c.loop-turn.heap) c.loop-turn.placed now turn after c.in-Some.ensures.taken) in
    let half = c.in_ok-release.ensures.standing skip split.0 split.1 rest split.3 whole.once once start in
    asked cs skip places c.release.new.children.items (heap_items c.release.new.heap) [] rest them.right split.1 split.4
    (subst (λ l. Standing cs skip places c.release.new.children.items (heap_items c.release.new.heap) l rest) (sym (append-nil split.1)) half)

pub loop-turn-preserved : goal.loop-turn-preserved
loop-turn-preserved g c =
    let cs = g.G.Graph.commands c.args.graph.now in
    let closed = g.met.G.Graph.closed c.args.graph.now in
    let places = c.as_slice-places.result.now in
    let links = c.as_slice-links.result.now in
    record {
      going = λ skip skips.
          let bases = listed c.args.base in
          let whole = lent cs skip bases c.args.tips.now c.in_ok-found.found.places.keys places c.in_ok-found.found.links.items links c.as_slice-places.ensures.keys c.as_slice-links.ensures.value (c.in_ok-found.ensures skip skips) in
          let now = (c.loop-turn.invariant.going skip skips) in
          let turn = c.in-Some.turn in
          let after = heap_items c.first.new.heap in
          let none : Links = record { left = None; right = None } in
          let them : Links = get_or links turn.number none in
          let its = its_turn cs closed skip bases c.args.tips.now places c.loop-turn.children.items skips (heap_items c.loop-turn.heap) c.loop-turn.placed now turn after c.in-Some.ensures.taken in
          let numbers = linked_at cs skip places links places whole.linked turn.number turn.place none its.number in
          stepped cs closed skip bases c.args.tips.now places c.loop-turn.children.items skips (heap_items c.loop-turn.heap) c.loop-turn.placed now whole.once turn after c.in-Some.ensures.taken c.in-Some.ensures.lowest them numbers c.release.new.children.items
          c.release-in-Some.new.children.items (heap_items c.release.new.heap) (heap_items c.release-in-Some.new.heap) c.put.new.placed (c.in_ok-release.ensures.standing skip) (c.in_ok-release-2.ensures.standing skip) c.in_ok-put.ensures;
      order = c.in_ok-release-2.ensures.heap;
      length = c.in_ok-release-2.ensures.children ∙ c.in_ok-release.ensures.children ∙ c.loop-turn.invariant.length;
    }

pub returns-clause-braid : goal.returns-clause-braid
returns-clause-braid g c =
    let cs = g.G.Graph.commands c.args.graph.now in
    let closed = g.met.G.Graph.closed c.args.graph.now in
    let places = c.as_slice-places.result.now in
    let bases = listed c.args.base in
    let some = some_skip cs closed bases in
    let now = c.loop-turn.invariant.going some.0 some.1 in
    subst (λ l. IsBraidOf cs (IsRest cs bases c.args.tips.now) (picked cs l)) (sym c.reverse.ensures)
    (whole cs closed bases c.args.tips.now now.remaining _ c.loop-turn.placed now.placing (ended cs closed some.0 bases c.args.tips.now places c.loop-turn.children.items some.1 (heap_items c.loop-turn.heap) c.loop-turn.placed now c.in_default.ensures.none))

pub returns-clause-within : goal.returns-clause-within
returns-clause-within g c =
    let some = some_skip (g.G.Graph.commands c.args.graph.now) (g.met.G.Graph.closed c.args.graph.now) (listed c.args.base) in
    let P : ℕ → Type 0 = λ p. p < length (g.G.Graph.commands c.args.graph.now) in
    subst (λ l. All P l) (sym c.reverse.ensures) (reversed_all P c.loop-turn.placed (c.loop-turn.invariant.going some.0 some.1).placing.done)
