use Rattle.std.proofs.Common.{◌≡◌, ℕ, ◌<◌, List, length, get_or, slice_get, Some, ap, subst, sym, ◌∙◌, arith}
use Rattle.std.proofs.lemmas.List.{take_all}
use Rattle.std.proofs.lemmas.Option.{slice_get-get_or}
use Rattle.command.specs.Closed.{place_of}
use Rattle.command.proofs.ListFacts.{none_element, one_element}
use Rattle.command.proofs.PlaceFacts.{inside_at}
use Rattle.indexmap.specs.IndexMap.{values}
use Rattle.graph_segments.specs.working.Search.{AreWithin, IsMetBy, Marks}
use Rattle.graph_segments.proofs.MarkFacts.{marks_none, more_ids}
use Rattle.graph_segments.proofs.segment_graph.SegmentGraph.reach_all.Goals as goal

at_index : (ids : List (List ℕ)) (i : ℕ) (id : List ℕ) → i < length ids → id ≡ get_or ids i id → slice_get ids i ≡ Some id
at_index ids i id lt is = slice_get-get_or ids i id lt ∙ ap Some (sym is)

pub loop-id-init : goal.loop-id-init
loop-id-init c = marks_none _ c.args.marks.now.items (λ k met. absurd (none_element met.id met.inside))

pub reach-requires : goal.reach-requires
reach-requires c = λ id place at link there is.
    let ids = c.args.ids.now in
    let inside = inside_at ids c.loop-id.id-index c.id-item.result (at_index ids c.loop-id.id-index c.id-item.result c.loop-id-test.true c.id-item.is) in
    let lt = c.requires c.id-item.result place at inside (subst (λ i. place_of (values c.args.self.now.list.commands) i ≡ Some place) (sym (one_element c.id-item.result id link)) there) is in
    omega (arith, lt, c.loop-id.invariant.size)

pub loop-id-preserved : goal.loop-id-preserved
loop-id-preserved c =
    let ids = c.args.ids.now in
    more_ids (values c.args.self.now.list.commands) c.args.old ids c.loop-id.id-index c.id-item.result (at_index ids c.loop-id.id-index c.id-item.result c.loop-id-test.true c.id-item.is) c.args.marks.now.items c.loop-id.marks.items c.reach.new.marks.items c.loop-id.invariant c.reach.ensures

pub returns : goal.returns
returns c =
    let all = take_all c.loop-id.id-index c.args.ids.now (omega (arith, c.loop-id-test.false)) in
    subst (λ l. Marks (IsMetBy (values c.args.self.now.list.commands) c.args.old l) c.args.marks.now.items c.loop-id.marks.items) all c.loop-id.invariant
