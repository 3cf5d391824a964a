use Rattle.std.proofs.Common.{inr, sym, ap, ◌∙◌}
use Rattle.fact_store.specs.declared.wanted.Wanted.{Wanted}
use Rattle.fact_store.specs.Rows.{are_keys}
use Rattle.fact_store.specs.Stored.{rows_of}
use Rattle.fact_store.specs.Writes.{deleted}
use Rattle.fact_store.proofs.Written.{delete-base, delete-done, delete-missing}
use Rattle.fact_store.proofs.facts.FactsFactBase.delete.Goals as goal

pub invariant_of-self : goal.invariant_of-self
invariant_of-self c =
    let key : Wanted = record { fact = c.args.fact; keys = c.in_ok-copy_values.field-0; values = c.new.result } in
    let copied = c.in_ok-copy_values.ensures ∙ c.as_slice.ensures in
    let are = ap are_keys copied ∙ c.requires in
    record { base = delete-base key are c.args.self.now.stored.entries c.args.self.now.base c.remove.new.self.entries c.remove.ensures.entries }

pub returns-in-Some : goal.returns-in-Some
returns-in-Some c =
    let key : Wanted = record { fact = c.args.fact; keys = c.in_ok-copy_values.field-0; values = c.new.result } in
    let copied = c.in_ok-copy_values.ensures ∙ c.as_slice.ensures in
    let are = ap are_keys copied ∙ c.requires in
    ap (λ keys. deleted c.args.fact keys (rows_of c.args.self.now.stored.entries)) (sym copied)
    ∙ delete-done key are c.args.self.now.stored.entries c.args.self.now.base c.in-Some.field-0 c.remove.new.self.entries c.in-Some.ensures.value c.remove.ensures.entries

pub returns : goal.returns
returns c =
    let key : Wanted = record { fact = c.args.fact; keys = c.in_ok-copy_values.field-0; values = c.new.result } in
    let copied = c.in_ok-copy_values.ensures ∙ c.as_slice.ensures in
    let are = ap are_keys copied ∙ c.requires in (
      ap rows_of c.in-None.ensures.unchanged,
      inr (ap (λ keys. deleted c.args.fact keys (rows_of c.args.self.now.stored.entries)) (sym copied) ∙ delete-missing key are c.args.self.now.stored.entries c.args.self.now.base c.in-None.ensures.value),
    )
