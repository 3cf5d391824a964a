use Rattle.std.proofs.Common.{Some, ap, sym, ◌∙◌}
use Rattle.std.specs.Option.{option_copied}
use Rattle.policy_meaning.proofs.NumberFacts.{few_variants}
use Rattle.policy_meaning.proofs.plain.variants_at.Goals as goal

pub returns-in-Some-Enum-clause-few : goal.returns-in-Some-Enum-clause-few
returns-in-Some-Enum-clause-few c =
    rw c.as_slice.ensures.value
    (few_variants c.args.policy.now c.requires.well_typed c.args.number c.args.name.now c.in-Some-Enum.field-0-0 c.in-Some-Enum.variants
    (sym c.item_at.ensures ∙ ap option_copied c.in-Some-Enum.is ∙ ap (λ i. Some i) c.in-Some-Enum.field-0-is))
