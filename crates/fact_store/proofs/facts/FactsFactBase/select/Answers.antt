use Rattle.std.proofs.Common.{◌++◌, append-nil, sym, ap, ◌∙◌}
use Rattle.fact_store.specs.Matching.{selected}
use Rattle.fact_store.specs.Stored.{rows_of}
use Rattle.fact_store.proofs.Runs.{run_begins, run_over, run_selects}
use Rattle.fact_store.proofs.facts.FactsFactBase.select.Goals as goal

pub loop-place-init : goal.loop-place-init
loop-place-init c =
    let is = c.into_iter-place-iterator.ensures.into_iter_gives ∙ c.range-place-items.ensures.between tt in
    record {
      run = run_begins c.args.wanted.now c.args.self.now.stored.entries _ c.args.self.now.base is;
      left = ap (λ rows. rows ++ selected c.args.wanted.now (rows_of c.into_iter-place-iterator.result)) c.new-found.ensures.items ∙ run_selects c.args.wanted.now c.args.self.now.stored.entries _ is;
    }

pub returns-then-not-is_place_within : goal.returns-then-not-is_place_within
returns-then-not-is_place_within c =
    let over = run_over c.args.wanted.now (c.in-Some.place.now, c.in-Some.values.now) c.next.new.self _ c.requires c.loop-place.invariant.run c.in-Some.ensures.steps (sym c.is_place_within.ensures ∙ c.if-not-is_place_within.true) in
    sym (append-nil _) ∙ ap (λ rows. c.loop-place.found.items ++ rows) (sym over) ∙ c.loop-place.invariant.left
