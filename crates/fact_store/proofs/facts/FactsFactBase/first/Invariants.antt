use Rattle.std.proofs.Common.{◌≡◌}
use Rattle.fact_store.specs.Matching.{selected}
use Rattle.fact_store.specs.Stored.{rows_of}
use Rattle.fact_store.proofs.Runs.{IsRun}
use Rattle.fact_store.proofs.facts.FactsFactBase.first.Given as goal

abbrev pub invariant-loop-place : goal.invariant-loop-place
invariant-loop-place l = record {
  run : IsRun l.wanted (rows_of l.place-iterator);
  left : selected l.wanted (rows_of l.place-iterator) ≡ selected l.wanted (rows_of l.self.stored.entries);
}
