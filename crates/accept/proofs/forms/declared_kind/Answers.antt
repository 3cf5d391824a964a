use Rattle.std.proofs.Common.{rules, ◌≡◌, Some}
use Rattle.accept.proofs.FormFacts.{attributes_are}
use Rattle.policy_ast.specs.declared.item.Item.TheVariants as item
use Rattle.policy_rules.specs.Names.{item_named}
use Rattle.policy_rules.specs.WellTyped.{items_of}
use Rattle.accept.proofs.forms.declared_kind.Goals as goal

pub command_kind-requires : goal.command_kind-requires
command_kind-requires c =
    let found : item_named (items_of c.args.policy.now) c.args.name.now ≡ Some (item.Command c.in-Some-Command.field-0-0 c.as_slice-in-Some-Command.result.now) = search rules in
    attributes_are c.args.policy.now c.requires c.args.name.now c.in-Some-Command.field-0-0 c.as_slice-in-Some-Command.result.now found
