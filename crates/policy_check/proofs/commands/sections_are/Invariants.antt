use Rattle.std.proofs.Common.{◌≡◌, drop}
use Rattle.policy_rules.specs.ItemJudging.{sections_are}
use Rattle.policy_check.proofs.commands.sections_are.Given as goal

abbrev pub invariant-loop-section : goal.invariant-loop-section
invariant-loop-section l = sections_are l.heads l.name (drop l.section-index l.sections) ≡ sections_are l.heads l.name l.sections
