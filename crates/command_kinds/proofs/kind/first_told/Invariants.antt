use Rattle.std.proofs.Common.{◌≡◌, true, drop}
use Rattle.std.specs.Prelude.{find}
use Rattle.std.specs.List.{list_all}
use Rattle.policy_rules.specs.Commands.{has_effect, is_attribute}
use Rattle.command_kinds.proofs.kind.first_told.Given as goal

abbrev pub invariant-loop-a : goal.invariant-loop-a
invariant-loop-a l = (find has_effect (drop l.a-index l.attributes) ≡ find has_effect l.attributes) × (list_all is_attribute (drop l.a-index l.attributes) ≡ true)
