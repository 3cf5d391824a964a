use Rattle.std.proofs.Common.{◌≡◌, List, ◌∷◌, [], ◌++◌, Some, append_assoc, sym, ap, subst, ◌∙◌}
use Rattle.std.specs.Range.Bound.{bound_map}
use Rattle.std.specs.declared.ops.Bound.TheVariants.{Excluded, Included}
use Rattle.base_bytes.specs.declared.value.Value.{Value}
use Rattle.fact_store.specs.declared.row.Row.{Row}
use Rattle.fact_store.specs.declared.wanted.Wanted.{Wanted}
use Rattle.fact_store.specs.Matching.{selected}
use Rattle.fact_layers.specs.Layers.{layered, shared}
use Rattle.fact_layers.specs.working.Walk.{found_next, rows_behind}
use Rattle.fact_layers.proofs.Walking.{begins-behind, begins-selected, found-behind}
use Rattle.fact_layers.proofs.layered_facts.LayeredFactsFactBase.select.Goals as goal

pub loop-place-init : goal.loop-place-init
loop-place-init c =
    let rows : List Row = layered (shared c.args.self.now.layers.items) in
    record {
      behind = begins-behind c.args.wanted.now;
      left = ap (λ found. found ++ selected c.args.wanted.now (rows_behind (Included c.args.wanted.now) rows)) c.new-found.ensures.items ∙ begins-selected c.args.wanted.now rows;
    }

pub loop-place-preserved : goal.loop-place-preserved
loop-place-preserved c =
    let e : Wanted × List Value = (c.in-Some.place.now, c.in-Some.values.now) in
    let from = bound_map (λ x. x.now) c.loop-place.from in
    let rows : List Row = layered (shared c.args.self.now.layers.items) in
    let later : List Row = selected c.args.wanted.now (rows_behind (Excluded c.in-Some.place.now) rows) in
    let is : selected c.args.wanted.now (rows_behind from rows) ≡ found_next c.args.wanted.now rows (Some e) =
    subst (λ ls. selected c.args.wanted.now (rows_behind from (layered (shared ls))) ≡ found_next c.args.wanted.now (layered (shared ls)) (Some e)) c.as_slice.ensures.value c.in-Some.ensures in
    record {
      behind = found-behind c.args.wanted.now rows from e is;
      left =
          ap (λ found. found ++ later) c.in_ok-push.ensures.items
          ∙ append_assoc c.loop-place.found.items (c.in_ok-row_at.field-0 ∷ []) later
          ∙ ap (λ all. c.loop-place.found.items ++ all) (ap (λ row. row ∷ later) c.in_ok-row_at.ensures ∙ sym is)
          ∙ c.loop-place.invariant.left;
    }
