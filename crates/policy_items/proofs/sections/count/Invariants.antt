use Rattle.std.proofs.Common.{◌≡◌, ◌≤◌, take}
use Rattle.std.specs.Prelude.{count_by}
use Rattle.policy_items.specs.working.Kinds.{is_of_kind}
use Rattle.policy_items.proofs.sections.count.Given as goal

abbrev pub invariant-loop-section : goal.invariant-loop-section
invariant-loop-section l = (l.count ≡ count_by (is_of_kind l.kind) (take l.section-index l.sections)) × (l.count ≤ l.section-index)
