use Rattle.std.proofs.Common.{Some, ap, ◌∙◌}
use Rattle.fact_store.specs.Matching.{first_row}
use Rattle.fact_layers.specs.Layers.{layered, shared}
use Rattle.fact_layers.proofs.Walking.{first-found, first-none}
use Rattle.fact_layers.proofs.layered_facts.LayeredFactsFactBase.first.Goals as goal

pub returns-in_ok-row_at-in-Some : goal.returns-in_ok-row_at-in-Some
returns-in_ok-row_at-in-Some c =
    ap Some c.in_ok-row_at-in-Some.ensures
    ∙ first-found c.args.wanted.now (layered (shared c.as_slice.result.now)) (c.in-Some.place.now, c.in-Some.values.now) c.in-Some.ensures
    ∙ ap (λ ls. first_row c.args.wanted.now (layered (shared ls))) c.as_slice.ensures.value

pub returns-in-None : goal.returns-in-None
returns-in-None c =
    first-none c.args.wanted.now (layered (shared c.as_slice.result.now)) c.in-None.ensures
    ∙ ap (λ ls. first_row c.args.wanted.now (layered (shared ls))) c.as_slice.ensures.value
