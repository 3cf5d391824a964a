use Rattle.std.proofs.Common.{IsTrue}
use Rattle.fact_store.specs.Rows.{are_keys}
use Rattle.facts_tests.proofs.samples.keys_of.Given as goal

abbrev pub invariant-loop-key : goal.invariant-loop-key
invariant-loop-key l = IsTrue (are_keys l.values)
