use Rattle.std.proofs.Common.{None, Some, ap, sym, ◌∙◌}
use Rattle.std.specs.Option.{option_copied}
use Rattle.base_bytes.specs.declared.ty.Ty.{out-Ty}
use Rattle.policy_meaning.proofs.ArgumentFacts.{variant_found}
use Rattle.policy_rules.specs.WellTyped.{items_of}
use Rattle.policy_meaning.proofs.plain.variant_at.Goals as goal

pub returns-in-Some-variants_at : goal.returns-in-Some-variants_at
returns-in-Some-variants_at c =
    c.enum_value.ensures
    ∙ sym
    (variant_found (items_of c.args.policy.now) c.args.name.now c.args.variant.now (out-Ty c.args.ty.now) c.in-Some.number (sym c.enum_number.ensures ∙ c.in-Some.is)
    (Some c.in-Some-variants_at.variants.now) (sym (ap option_copied c.in-Some-variants_at.is) ∙ c.variants_at.ensures.value))

pub returns-in-None-variants_at : goal.returns-in-None-variants_at
returns-in-None-variants_at c = sym
    (variant_found (items_of c.args.policy.now) c.args.name.now c.args.variant.now (out-Ty c.args.ty.now) c.in-Some.number (sym c.enum_number.ensures ∙ c.in-Some.is) None
    (sym (ap option_copied c.in-None-variants_at.is) ∙ c.variants_at.ensures.value))
