use Rattle.std.proofs.Common.{◌≡◌, ◌+◌, ◌≤◌, length}
use Rattle.fact_store.specs.Matching.{selected}
use Rattle.fact_store.specs.Stored.{rows_of}
use Rattle.fact_store.proofs.Runs.{IsRun}
use Rattle.fact_store.proofs.facts.FactsFactBase.count_up_to.Given as goal

abbrev pub invariant-loop-place : goal.invariant-loop-place
invariant-loop-place l = record {
  run : IsRun l.wanted (rows_of l.place-iterator);
  left : l.found + length (selected l.wanted (rows_of l.place-iterator)) ≡ length (selected l.wanted (rows_of l.self.stored.entries));
  within : l.found ≤ l.limit;
}
