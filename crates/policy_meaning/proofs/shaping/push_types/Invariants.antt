use Rattle.std.proofs.Common.{◌≡◌, ◌++◌, drop}
use Rattle.policy_rules.specs.Shapes.{field_value_types}
use Rattle.policy_meaning.proofs.shaping.push_types.Given as goal

abbrev pub invariant-loop-field : goal.invariant-loop-field
invariant-loop-field l =
    l.types ++ field_value_types l.heads (drop l.field-index l.fields) ≡ l.initial.types ++ field_value_types l.heads l.fields
