use Rattle.std.proofs.Common.{◌≡◌, ◌++◌, drop}
use Rattle.policy_meaning.specs.Values.{field_names}
use Rattle.policy_rules.specs.WellTyped.{items_of}
use Rattle.state_texts.specs.Naming.{named_values}
use Rattle.state_texts.proofs.naming.+naming.Given as goal

abbrev pub invariant-named_fields-loop-i : goal.invariant-named_fields-loop-i
invariant-named_fields-loop-i l = l.all ++ named_values (items_of l.items) (drop l.i (field_names l.item)) (drop l.i l.values) ≡ named_values (items_of l.items) (field_names l.item) l.values
