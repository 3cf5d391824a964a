use Rattle.std.proofs.Common.{◌≡◌, drop}
use Rattle.std.specs.List.{list_all}
use Rattle.policy_rules.specs.Commands.{is_attribute}
use Rattle.policy_items.proofs.attributes.all_are.Given as goal

abbrev pub invariant-loop-a : goal.invariant-loop-a
invariant-loop-a l = list_all is_attribute (drop l.a-index l.attributes) ≡ list_all is_attribute l.attributes
