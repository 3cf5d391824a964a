use Rattle.std.proofs.Common.{inr, refl, sym, ap, ◌∙◌}
use Rattle.fact_store.specs.declared.wanted.Wanted.{Wanted}
use Rattle.fact_store.specs.Rows.{are_keys}
use Rattle.fact_store.specs.Writes.{deleted}
use Rattle.fact_layers.specs.Layers.{layered, shared}
use Rattle.fact_layers.proofs.Writes.{delete-done, delete-missing, if-none, if-not-none}
use Rattle.fact_layers.proofs.layered_facts.LayeredFactsFactBase.delete.Goals as goal

pub returns-then-is_none : goal.returns-then-is_none
returns-then-is_none c =
    let key : Wanted = record { fact = c.args.fact; keys = c.in_ok-copy_values.field-0; values = c.new.result } in
    let copied = c.in_ok-copy_values.ensures ∙ c.as_slice.ensures in
    let are = ap are_keys copied ∙ c.requires in
    let none = if-none c.held.result key c.args.self.now.layers.items c.as_slice-2.result.now c.held.ensures c.as_slice-2.ensures.value c.is_none.result c.is_none.ensures c.if-is_none.true in (
      refl,
      inr (ap (λ keys. deleted c.args.fact keys (layered (shared c.args.self.now.layers.items))) (sym copied) ∙ delete-missing key are (shared c.args.self.now.layers.items) c.args.self.now.keyed none),
    )

pub returns : goal.returns
returns c =
    let key : Wanted = record { fact = c.args.fact; keys = c.in_ok-copy_values.field-0; values = c.new.result } in
    let copied = c.in_ok-copy_values.ensures ∙ c.as_slice.ensures in
    let are = ap are_keys copied ∙ c.requires in
    let found = if-not-none c.held.result key c.args.self.now.layers.items c.as_slice-2.result.now c.held.ensures c.as_slice-2.ensures.value c.is_none.result c.is_none.ensures c.if-is_none.false in
    ap (λ keys. deleted c.args.fact keys (layered (shared c.args.self.now.layers.items))) (sym copied)
    ∙ delete-done key are (shared c.args.self.now.layers.items) c.args.self.now.keyed (shared c.put.new.layers.items) found c.in_ok-put.ensures.ok
