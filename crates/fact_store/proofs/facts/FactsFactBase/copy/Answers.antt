use Rattle.std.proofs.Common.{ap, ◌∙◌}
use Rattle.fact_store.specs.Rows.{is_base}
use Rattle.fact_store.proofs.Copied.{rows-copied}
use Rattle.fact_store.proofs.facts.FactsFactBase.copy.Goals as goal

pub invariant_of-result : goal.invariant_of-result
invariant_of-result c =
    let same = rows-copied c.args.self.now.stored c.in_ok-stored.stored c.loop-place.entries.items c.loop-place.place-iterator c.into_iter-place-iterator.ensures.into_iter_gives.5 c.args.self.now.base c.loop-place.invariant c.in-None.ensures.steps.0 c.in_ok-stored.ensures in
    record { base = ap is_base same ∙ c.args.self.now.base }

pub returns : goal.returns
returns c = rows-copied c.args.self.now.stored c.in_ok-stored.stored c.loop-place.entries.items c.loop-place.place-iterator c.into_iter-place-iterator.ensures.into_iter_gives.5 c.args.self.now.base c.loop-place.invariant c.in-None.ensures.steps.0 c.in_ok-stored.ensures
