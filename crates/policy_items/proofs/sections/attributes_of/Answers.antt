use Rattle.std.proofs.Common.{◌∙◌}
use Rattle.policy_items.proofs.OneSection.{attributes_here}
use Rattle.policy_items.proofs.sections.attributes_of.Goals as goal

pub returns-in-Attributes : goal.returns-in-Attributes
returns-in-Attributes c =
    c.as_slice.ensures
    ∙ attributes_here c.args.sections.now c.loop-section.section-index c.section-item.result c.in-Attributes.attributes c.loop-section-test.true c.section-item.is c.in-Attributes.is (c.loop-section.invariant.1)
    ∙ c.loop-section.invariant.0
