use Rattle.std.proofs.Common.{◌≡◌, List, Some, arith, length, ap, subst}
use Rattle.std.specs.Range.Bound.{bound_map}
use Rattle.base_bytes.specs.declared.value.Value.{Value}
use Rattle.fact_store.specs.declared.row.Row.{Row}
use Rattle.fact_store.specs.declared.wanted.Wanted.{Wanted}
use Rattle.fact_store.specs.Matching.{selected}
use Rattle.fact_layers.specs.Layers.{layered, shared}
use Rattle.fact_layers.specs.working.Walk.{found_next, rows_behind}
use Rattle.fact_layers.proofs.Walking.{begins-behind, begins-selected, found-behind}
use Rattle.fact_layers.proofs.layered_facts.LayeredFactsFactBase.count_up_to.Goals as goal

pub loop-found-init : goal.loop-found-init
loop-found-init c =
    let all = ap length (begins-selected c.args.wanted.now (layered (shared c.args.self.now.layers.items))) in
    record { behind = begins-behind c.args.wanted.now; left = omega (arith, all) }

pub loop-found-preserved : goal.loop-found-preserved
loop-found-preserved c =
    let e : Wanted × List Value = (c.in-Some.place.now, c.in-Some.field-0-1.now) in
    let from = bound_map (λ x. x.now) c.loop-found.from in
    let rows : List Row = layered (shared c.args.self.now.layers.items) in
    let is : selected c.args.wanted.now (rows_behind from rows) ≡ found_next c.args.wanted.now rows (Some e) =
    subst (λ ls. selected c.args.wanted.now (rows_behind from (layered (shared ls))) ≡ found_next c.args.wanted.now (layered (shared ls)) (Some e)) c.as_slice.ensures.value c.in-Some.ensures in
    let one_less = ap length is in
    record { behind = found-behind c.args.wanted.now rows from e is; left = omega (arith, c.loop-found.invariant.left, one_less) }
