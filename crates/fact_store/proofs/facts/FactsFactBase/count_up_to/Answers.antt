use Rattle.std.proofs.Common.{length, arith, sym, ap, ◌∙◌}
use Rattle.fact_store.proofs.Runs.{run_begins, run_over, run_selects}
use Rattle.fact_store.proofs.facts.FactsFactBase.count_up_to.Goals as goal
use Rattle.fact_store.proofs.facts.FactsFactBase.count_up_to.Goals.{then-found-limit-via-then-found-limit, then-found-limit-via-else-found-limit+then-not-is_place_within}

pub loop-place-init : goal.loop-place-init
loop-place-init c =
    let is = c.into_iter-place-iterator.ensures.into_iter_gives ∙ c.range-place-items.ensures.between tt in
    let left = ap length (run_selects c.args.wanted.now c.args.self.now.stored.entries _ is) in
    record {
      run = run_begins c.args.wanted.now c.args.self.now.stored.entries _ c.args.self.now.base is;
      left = omega (arith, left);
      within = omega arith;
    }

pub returns-then-found-limit : goal.returns-then-found-limit
returns-then-found-limit c =
    elim c.then-found-limit.branch [
      | then-found-limit-via-then-found-limit w ↦ omega (arith, c.loop-place.invariant.left)
      | then-found-limit-via-else-found-limit+then-not-is_place_within w ↦
          let over = ap length (run_over c.args.wanted.now (c.in-Some.place.now, c.in-Some.values.now) c.next.new.self _ c.requires c.loop-place.invariant.run c.in-Some.ensures.steps (sym w.is_place_within.ensures ∙ w.if-not-is_place_within.true)) in
          omega (arith, over, c.loop-place.invariant.left, c.loop-place.invariant.within)
    ]
