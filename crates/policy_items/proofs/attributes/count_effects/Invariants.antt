use Rattle.std.proofs.Common.{◌≡◌, ◌≤◌, length, take}
use Rattle.std.specs.Prelude.{filter}
use Rattle.policy_rules.specs.Commands.{has_effect}
use Rattle.policy_items.proofs.attributes.count_effects.Given as goal

abbrev pub invariant-loop-a : goal.invariant-loop-a
invariant-loop-a l = (l.count ≡ length (filter has_effect (take l.a-index l.attributes))) × (l.count ≤ l.a-index)
