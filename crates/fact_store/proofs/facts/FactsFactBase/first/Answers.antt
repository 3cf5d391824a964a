use Rattle.std.proofs.Common.{slice_get, sym, ap, ◌∙◌}
use Rattle.fact_store.proofs.Runs.{run_begins, run_over, run_selects}
use Rattle.fact_store.proofs.facts.FactsFactBase.first.Goals as goal

pub loop-place-init : goal.loop-place-init
loop-place-init c =
    let is = c.into_iter-place-iterator.ensures.into_iter_gives ∙ c.range-place-items.ensures.between tt in
    record {
      run = run_begins c.args.wanted.now c.args.self.now.stored.entries _ c.args.self.now.base is;
      left = run_selects c.args.wanted.now c.args.self.now.stored.entries _ is;
    }

pub returns-then-not-is_place_within : goal.returns-then-not-is_place_within
returns-then-not-is_place_within c =
    let over = run_over c.args.wanted.now (c.in-Some.place.now, c.in-Some.values.now) c.next.new.self _ c.requires c.loop-place.invariant.run c.in-Some.ensures.steps (sym c.is_place_within.ensures ∙ c.if-not-is_place_within.true) in
    sym (ap (λ rows. slice_get rows 0) (sym c.loop-place.invariant.left ∙ over))
