use Rattle.std.proofs.Common.{Some, None, ap, slice_get, sym, ◌∙◌}
use Rattle.std.specs.Option.{option_copied}
use Rattle.policy_rules.specs.Names.{is_named}
use Rattle.policy_meaning.proofs.NumberFacts.{means_none, means_other, means_own, stands_placed}
use Rattle.policy_meaning.proofs.given.item_at.Goals as goal

pub returns-then-is_named : goal.returns-then-is_named
returns-then-is_named c = sym
    (means_own c.args.policy.now c.requires.well_typed c.args.number c.in-Some.placed.now.item c.args.name.now
    (stands_placed c.args.policy.now c.args.number (Some c.in-Some.placed.now)
    (sym (ap option_copied c.in-Some.is) ∙ c.at.ensures ∙ ap (λ ps. slice_get ps c.args.number) c.items.ensures.value))
    (sym (c.is_named.ensures ∙ ap (λ n. is_named n c.in-Some.placed.now.item) c.as_slice.ensures.bytes) ∙ c.if-is_named.true))

pub returns-else-is_named : goal.returns-else-is_named
returns-else-is_named c = sym
    (means_other c.args.policy.now c.requires.well_typed c.args.number c.in-Some.placed.now.item c.args.name.now
    (stands_placed c.args.policy.now c.args.number (Some c.in-Some.placed.now)
    (sym (ap option_copied c.in-Some.is) ∙ c.at.ensures ∙ ap (λ ps. slice_get ps c.args.number) c.items.ensures.value))
    (sym (c.is_named.ensures ∙ ap (λ n. is_named n c.in-Some.placed.now.item) c.as_slice.ensures.bytes) ∙ c.if-is_named.false))

pub returns-in-None : goal.returns-in-None
returns-in-None c = sym
    (means_none c.args.policy.now c.requires.well_typed c.args.number c.args.name.now
    (stands_placed c.args.policy.now c.args.number None (sym (ap option_copied c.in-None.is) ∙ c.at.ensures ∙ ap (λ ps. slice_get ps c.args.number) c.items.ensures.value)))
