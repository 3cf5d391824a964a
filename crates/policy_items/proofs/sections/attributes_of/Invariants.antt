use Rattle.std.proofs.Common.{◌≡◌, ◌≤◌, drop}
use Rattle.std.specs.Prelude.{count_by}
use Rattle.policy_rules.specs.Commands.{attributes_of, is_attributes}
use Rattle.policy_items.proofs.sections.attributes_of.Given as goal

abbrev pub invariant-loop-section : goal.invariant-loop-section
invariant-loop-section l = (attributes_of (drop l.section-index l.sections) ≡ attributes_of l.sections) × (count_by is_attributes (drop l.section-index l.sections) ≤ 1)
