use Rattle.std.proofs.Common.{sym, ap, subst, ◌∙◌, ◌+◌, drop, true, ◌≡◌}
use Rattle.std.specs.List.{list_all}
use Rattle.command_kinds.proofs.KindFacts.{later_are, left_at, told_ends, told_goes}
use Rattle.policy_rules.specs.Commands.{attributes_of, command_kind, is_attribute}
use Rattle.command_kinds.proofs.kind.command_kind.Goals as goal

pub returns-in-Some : goal.returns-in-Some
returns-in-Some c =
    let left = left_at c.args.sections.now c.loop-section.section-index c.section-item.result c.loop-section-test.true c.section-item.is in
    sym (told_ends c.section-item.result (drop (c.loop-section.section-index + 1) c.args.sections.now) _ (sym c.in-Some.ensures)) ∙ sym (ap command_kind left) ∙ c.loop-section.invariant.0

pub loop-section-preserved : goal.loop-section-preserved
loop-section-preserved c =
    let left = left_at c.args.sections.now c.loop-section.section-index c.section-item.result c.loop-section-test.true c.section-item.is in
    let rest = drop (c.loop-section.section-index + 1) c.args.sections.now in (
      sym (told_goes c.section-item.result rest (sym c.in_default.ensures)) ∙ sym (ap command_kind left) ∙ c.loop-section.invariant.0,
      later_are c.section-item.result rest (subst (λ l. list_all is_attribute (attributes_of l) ≡ true) left c.loop-section.invariant.1),
    )
