use Rattle.std.proofs.Common.{Some, None, ap, slice_get, sym, ◌∙◌}
use Rattle.std.specs.Option.{option_copied}
use Rattle.policy_meaning.proofs.NumberFacts.{stands_placed}
use Rattle.transaction.proofs.items.item_at.Goals as goal

pub returns-in-Some : goal.returns-in-Some
returns-in-Some c = sym
    (stands_placed c.args.policy.now c.args.number (Some c.in-Some.placed.now)
    (sym (ap option_copied c.in-Some.is) ∙ c.at.ensures ∙ ap (λ ps. slice_get ps c.args.number) c.items.ensures.value))

pub returns-in-None : goal.returns-in-None
returns-in-None c = sym
    (stands_placed c.args.policy.now c.args.number None
    (sym (ap option_copied c.in-None.is) ∙ c.at.ensures ∙ ap (λ ps. slice_get ps c.args.number) c.items.ensures.value))
