use Rattle.std.proofs.Common.{◌≡◌, drop}
use Rattle.std.specs.List.{list_any}
use Rattle.policy_meaning.specs.Arms.{is_value, listed_value}
use Rattle.policy_expressions.proofs.arms.lists.Given as goal

abbrev pub invariant-loop-literal : goal.invariant-loop-literal
invariant-loop-literal l =
    list_any (λ p. is_value l.value (listed_value l.known p)) (drop l.literal-index l.literals) ≡ list_any (λ p. is_value l.value (listed_value l.known p)) l.literals
