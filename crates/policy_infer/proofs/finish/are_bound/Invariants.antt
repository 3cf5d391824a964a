use Rattle.std.proofs.Common.{◌≡◌, drop}
use Rattle.std.specs.List.{list_all}
use Rattle.policy_rules.specs.Finish.{is_bound}
use Rattle.policy_infer.proofs.finish.are_bound.Given as goal

abbrev pub invariant-loop-field : goal.invariant-loop-field
invariant-loop-field l = list_all is_bound (drop l.field-index l.fields) ≡ list_all is_bound l.fields
