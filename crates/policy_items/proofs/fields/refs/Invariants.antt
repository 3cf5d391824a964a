use Rattle.std.proofs.Common.{◌≡◌, ◌++◌, drop, map}
use Rattle.policy_items.proofs.fields.refs.Given as goal

abbrev pub invariant-loop-field : goal.invariant-loop-field
invariant-loop-field l = map (λ f. f.now) l.refs.items ++ drop l.field-index l.fields ≡ l.fields
