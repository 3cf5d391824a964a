use Rattle.std.proofs.Common.{◌≡◌, ◌&&◌, ℕ, Bool, drop}
use Rattle.std.specs.List.{list_all}
use Rattle.policy_rules.specs.Calls.{section_calls}
use Rattle.policy_depths.specs.working.Gathering.{call_passes}
use Rattle.policy_depths.proofs.chains.push_sections.Given as goal

abbrev pub invariant-loop-section : goal.invariant-loop-section
invariant-loop-section l =
    (test : ℕ → Bool) → (list_all test l.numbers && list_all (section_calls (call_passes l.heads test)) (drop l.section-index l.sections))
    ≡ (list_all test l.initial.numbers && list_all (section_calls (call_passes l.heads test)) l.sections)
