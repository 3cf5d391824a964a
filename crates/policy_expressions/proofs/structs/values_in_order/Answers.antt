use Rattle.std.proofs.Common.{◌∙◌, sym}
use Rattle.policy_expressions.proofs.PlaceFacts.{as_they_stand, names_length}
use Rattle.policy_meaning.specs.Finish.{bind_names}
use Rattle.policy_rules.specs.Scopes.{names_in}
use Rattle.policy_expressions.proofs.structs.values_in_order.Goals as goal

pub returns-then-are_in_place : goal.returns-then-are_in_place
returns-then-are_in_place c =
    sym
    (as_they_stand (names_in c.args.fields.now) (bind_names c.args.binds.now) c.args.values c.requires.distinct
    (sym c.len.ensures ∙ c.if-len-fields.true ∙ sym (names_length c.args.fields.now)) (sym c.are_in_place.ensures ∙ c.if-are_in_place.true))
