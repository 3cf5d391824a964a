use Rattle.std.proofs.Common.{◌≡◌, ◌≤◌, ◌+◌, drop}
use Rattle.policy_expressions.specs.Applying.{write_count}
use Rattle.policy_expressions.proofs.applying.write_count.Given as goal

abbrev pub invariant-loop-change : goal.invariant-loop-change
invariant-loop-change l = record {
  rest : l.count + write_count (drop l.change-index l.changes) ≡ write_count l.changes;
  few : l.count ≤ l.change-index;
}
