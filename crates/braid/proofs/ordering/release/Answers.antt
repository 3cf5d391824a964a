use Rattle.std.proofs.Common.{◌≡◌, ℕ, ◌+◌, ◌-◌, ◌<◌, length, get_or, set, get_or-set_other, get_or-set_same, subst, sym, ◌∙◌, arith, List}
use Rattle.std.specs.BinaryHeap.{heap_items}
use Rattle.std.specs.Option.{IfSome}
use Rattle.std.proofs.lemmas.Option.{get_or_from_slice_get, slice_get-get_or}
use Rattle.braid.specs.working.Links.{AreNumbers, listed}
use Rattle.braid.specs.working.Turns.{Offers}
use Rattle.braid.proofs.Turning.{released_one}
use Rattle.braid.proofs.ordering.release.Goals as goal

fewer : (children : List ℕ) (number count : ℕ) → number < length children → 0 < get_or children number 0 → count ≡ get_or children number 0 → get_or (set children number (count - 1)) number 0 + 1 ≡ get_or children number 0
fewer children number count lt some is = let there = get_or-set_same children number (count - 1) 0 lt in omega (arith, there, some, is)

pub returns-clause-standing : goal.returns-clause-standing
returns-clause-standing g c = λ skip parents due remaining numbers places_once once now.
    let number = c.in-Some.number in
    let places = c.args.places.now in
    let children = c.args.children.now.items in
    let asked = subst (λ o. IfSome o (λ k. (k < length places) × (0 < get_or children k 0))) c.in-Some.is c.requires.number in
    let lt : number < length children = omega (arith, asked.0, c.requires.children) in
    let count = c.index_mut.result.now in
    let same : count ≡ get_or children number 0 = c.index_mut.ensures.value ∙ sym (get_or_from_slice_get children number (get_or children number count) 0 (slice_get-get_or children number count lt)) in
    released_one (g.G.Graph.commands c.args.graph.now) (g.met.G.Graph.closed c.args.graph.now) skip places children (set children number (count - 1)) (heap_items c.args.heap.now) (heap_items c.offer.new.heap) number parents due remaining
    (subst (λ o. AreNumbers places (listed o) parents) c.in-Some.is numbers) places_once once (λ k differs. get_or-set_other children number k (count - 1) 0 differs) (fewer children number count lt asked.1 same)
    (subst (λ l. Offers (g.G.Graph.commands c.args.graph.now) places number (get_or l number 0) (heap_items c.args.heap.now) (heap_items c.offer.new.heap)) c.as_slice.ensures.value c.in_ok-offer.ensures.offers) now
