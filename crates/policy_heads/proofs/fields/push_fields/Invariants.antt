use Rattle.std.proofs.Common.{◌≡◌, ◌++◌, drop}
use Rattle.policy_rules.specs.Types.{declared}
use Rattle.policy_heads.proofs.fields.push_fields.Given as goal

abbrev pub invariant-loop-field : goal.invariant-loop-field
invariant-loop-field l = l.all ++ declared (drop l.field-index l.fields) ≡ l.initial.all ++ declared l.fields
