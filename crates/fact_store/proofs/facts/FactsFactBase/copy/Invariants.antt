use Rattle.std.proofs.Common.{◌≡◌, ◌++◌}
use Rattle.fact_store.proofs.facts.FactsFactBase.copy.Given as goal

abbrev pub invariant-loop-place : goal.invariant-loop-place
invariant-loop-place l = l.entries.items ++ l.place-iterator ≡ l.self.stored.entries
