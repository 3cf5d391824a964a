use Rattle.std.proofs.Common.{◌∙◌, false, ap, option_map, sym, unwrap_or}
use Rattle.std.specs.Option.{option_copied}
use Rattle.std.specs.Str.{bytes_eq}
use Rattle.policy_expressions.proofs.VariantFacts.{named_at}
use Rattle.policy_expressions.proofs.arms.has_ordinal.Goals as goal

pub returns-in-Some : goal.returns-in-Some
returns-in-Some c =
    c.eq.ensures
    ∙ ap (λ o. unwrap_or (option_map (bytes_eq c.args.variant.now) o) false) (sym (ap option_copied c.in-Some.is) ∙ c.at.ensures)
    ∙ named_at c.args.variants.now c.args.ordinal c.args.variant.now c.requires.distinct

pub returns-in-None : goal.returns-in-None
returns-in-None c =
    ap (λ o. unwrap_or (option_map (bytes_eq c.args.variant.now) o) false) (sym (ap option_copied c.in-None.is) ∙ c.at.ensures)
    ∙ named_at c.args.variants.now c.args.ordinal c.args.variant.now c.requires.distinct
