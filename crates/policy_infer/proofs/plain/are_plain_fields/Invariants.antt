use Rattle.std.proofs.Common.{◌≡◌, drop}
use Rattle.policy_rules.specs.Finish.{are_plain_or_gaps}
use Rattle.policy_infer.proofs.plain.are_plain_fields.Given as goal

abbrev pub invariant-loop-field : goal.invariant-loop-field
invariant-loop-field l = are_plain_or_gaps (drop l.field-index l.fields) ≡ are_plain_or_gaps l.fields
