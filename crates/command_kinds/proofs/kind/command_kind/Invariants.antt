use Rattle.std.proofs.Common.{◌≡◌, true, drop}
use Rattle.std.specs.List.{list_all}
use Rattle.policy_rules.specs.Commands.{attributes_of, command_kind, is_attribute}
use Rattle.command_kinds.proofs.kind.command_kind.Given as goal

abbrev pub invariant-loop-section : goal.invariant-loop-section
invariant-loop-section l = (command_kind (drop l.section-index l.sections) ≡ command_kind l.sections) × (list_all is_attribute (attributes_of (drop l.section-index l.sections)) ≡ true)
