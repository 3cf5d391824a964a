use Rattle.std.proofs.Common.{◌≡◌, ◌++◌, drop, map}
use Rattle.policy_rules.specs.Types.{declared}
use Rattle.policy_heads.proofs.fields.push_effect_fields.Given as goal

abbrev pub invariant-loop-field : goal.invariant-loop-field
invariant-loop-field l = l.all ++ declared (map (λ f. f.field) (drop l.field-index l.fields)) ≡ l.initial.all ++ declared (map (λ f. f.field) l.fields)
