use Rattle.std.proofs.Common.{IsTrue}
use Rattle.fact_store.specs.Rows.{are_keys}
use Rattle.facts_tests.proofs.both.some_keys.Given as goal

abbrev pub invariant-keys : goal.invariant-keys
invariant-keys l = IsTrue (are_keys l.values)
