use Rattle.std.proofs.Common.{◌==◌, if◌then◌else◌, [], get_or, ap, ◌∙◌, arith}
use Rattle.std.specs.BinaryHeap.{heap_items}
use Rattle.std.proofs.lemmas.List.{take_all}
use Rattle.std.proofs.lemmas.Option.{slice_get-get_or}
use Rattle.command.proofs.ListFacts.{none_element}
use Rattle.braid.specs.working.Links.{times}
use Rattle.braid.specs.working.Turns.{waiting}
use Rattle.braid.proofs.Turning.{topped}
use Rattle.braid.proofs.ordering.tops.Goals as goal

pub loop-number-preserved : goal.loop-number-preserved
loop-number-preserved g c =
    let cs = g.G.Graph.commands c.args.graph.now in
    let places = c.args.places.now in
    let i = c.loop-number.number in
    let at = slice_get-get_or places i 0 c.loop-number-test.true in
    record {
      order = c.offer.ensures.heap;
      turns = c.in_ok-offer.ensures.offers.turns c.loop-number.invariant.turns;
      ready = λ skip counted.
          topped cs (g.met.G.Graph.closed c.args.graph.now) skip places c.args.children.now (heap_items c.loop-number.heap) (heap_items c.offer.new.heap) i (get_or places i 0) at (counted i (get_or places i 0) at) c.in_ok-offer.ensures.offers
          (c.loop-number.invariant.ready skip counted);
    }

pub returns-clause-standing : goal.returns-clause-standing
returns-clause-standing g c = λ skip counted lefts.
    let cs = g.G.Graph.commands c.args.graph.now in
    let places = c.args.places.now in
    record {
      counted = counted;
      ready = λ p. c.loop-number.invariant.ready skip counted p ∙ ap (λ l. if waiting cs skip [] places p == 0 then times p l else 0) (take_all c.loop-number.number places (omega (arith, c.loop-number-test.false)));
      turns = c.loop-number.invariant.turns;
      remain = λ p h. absurd (none_element p h);
      left = lefts;
    }
