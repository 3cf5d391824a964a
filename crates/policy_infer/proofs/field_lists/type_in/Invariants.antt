use Rattle.std.proofs.Common.{◌≡◌, drop}
use Rattle.policy_rules.specs.Scopes.{type_in}
use Rattle.policy_infer.proofs.field_lists.type_in.Given as goal

abbrev pub invariant-loop-field : goal.invariant-loop-field
invariant-loop-field l = type_in (drop l.field-index l.fields) l.name ≡ type_in l.fields l.name
