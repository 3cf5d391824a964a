use Rattle.std.proofs.Common.{◌≡◌, length, drop}
use Rattle.policy_rules.specs.FieldLists.{arguments_fit}
use Rattle.policy_infer.proofs.field_lists.arguments_fit.Given as goal

abbrev pub invariant-loop-i : goal.invariant-loop-i
invariant-loop-i l = (length l.types ≡ length l.parameters) × (arguments_fit (drop l.i l.types) (drop l.i l.parameters) ≡ arguments_fit l.types l.parameters)
