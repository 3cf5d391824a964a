use Rattle.std.proofs.Common.{◌≡◌, drop}
use Rattle.policy_meaning.specs.Values.{field_names}
use Rattle.policy_rules.specs.Names.{is_among}
use Rattle.policy_meaning.proofs.given.has_field.Given as goal

abbrev pub invariant-loop-i : goal.invariant-loop-i
invariant-loop-i l = is_among l.name (drop l.i (field_names l.item)) ≡ is_among l.name (field_names l.item)
