use Rattle.std.proofs.Common.{ap, sym, ◌∙◌, option_map}
use Rattle.policy_rules.specs.Shapes.{field_value_types}
use Rattle.policy_rules.specs.WellTyped.{items_of}
use Rattle.transaction.specs.Acting.{Action}
use Rattle.transaction.proofs.ArgumentFacts.{named_there, resolve_to}
use Rattle.transaction.proofs.starting.start_of.Goals as goal

pub returns-in-Some-2-clause-declared : goal.returns-in-Some-2-clause-declared
returns-in-Some-2-clause-declared c =
    let items = items_of c.args.policy.now in
    let found : Action = record { number = c.in-Some.found.number; parameters = c.in-Some.found.parameters.now } in
    let there = named_there items c.args.action.now found
    (sym c.action_named.ensures.action ∙ ap (option_map (λ action. record { number = action.number; parameters = action.parameters.now })) c.in-Some.is) in
    (c.resolved_arguments_are_typed.ensures c.args.policy.now c.requires.well_typed).of_actions found.number there.0 found.parameters there.1 there.2 c.args.args.now c.in-Some-2.arguments
    (resolve_to items (field_value_types items found.parameters) c.args.args.now c.in-Some-2.arguments (sym c.in_ok-arguments.ensures ∙ c.in-Some-2.is))
