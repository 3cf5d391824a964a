use Rattle.std.proofs.Common.{◌≡◌, drop}
use Rattle.policy_rules.specs.Heads.{command_fields}
use Rattle.state_texts.proofs.names.command_fields.Given as goal

abbrev pub invariant-loop-section : goal.invariant-loop-section
invariant-loop-section l = command_fields (drop l.section-index l.sections) ≡ command_fields l.sections
