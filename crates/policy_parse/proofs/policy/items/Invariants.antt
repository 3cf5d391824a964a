use Rattle.std.proofs.Common.{◌≡◌, ◌-◌, ◌≤◌, [], length}
use Rattle.policy_ast.proofs.grammar.ReadingItems.{read_run}
use Rattle.policy_parse.proofs.policy.items.Given as goal

abbrev pub invariant-loop : goal.invariant-loop
invariant-loop l = record {
  read : read_run (length l.tokens - l.counter) l.found l.rest ≡ read_run (length l.tokens) [] l.tokens;
  within : length l.rest ≤ length l.tokens;
}
