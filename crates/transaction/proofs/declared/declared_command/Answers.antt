use Rattle.std.proofs.Common.{◌≡◌, true, Some, ap, sym, subst, ◌∙◌, rules}
use Rattle.std.specs.List.{list_all}
use Rattle.std.specs.Option.{option_copied}
use Rattle.policy_rules.specs.Commands.{attributes_of, is_attribute}
use Rattle.transaction.proofs.CommandFacts.{kind_given, none_given, other_given}
use Rattle.transaction.proofs.declared.declared_command.Goals as goal

pub unreachable-requires : goal.unreachable-requires
unreachable-requires c = none_given c.args.policy.now c.args.number c.args.fields.now c.requires.declared (search rules)

pub command_kind-requires : goal.command_kind-requires
command_kind-requires c =
    subst (λ s. list_all is_attribute (attributes_of s) ≡ true) (sym c.as_slice.ensures)
    (kind_given c.args.policy.now c.args.number c.in-Command.name c.in-Command.sections c.requires.well_typed (sym (ap Some c.in-Command.is) ∙ sym (ap option_copied c.in-Some.is) ∙ c.item_at.ensures))

pub unreachable-requires-in_default-item : goal.unreachable-requires-in_default-item
unreachable-requires-in_default-item c =
    other_given c.args.policy.now c.args.number c.args.fields.now c.in-Some.item.now c.requires.declared (sym (ap option_copied c.in-Some.is) ∙ c.item_at.ensures) c.in_default-item.not-Command
