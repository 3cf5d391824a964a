use Rattle.std.proofs.Common.{◌≡◌, drop}
use Rattle.std.specs.List.{list_all}
use Rattle.policy_meaning.specs.Values.{field_names}
use Rattle.policy_meaning.specs.working.Resolutions.{given_names}
use Rattle.policy_rules.specs.Names.{is_among}
use Rattle.policy_meaning.proofs.given.are_fields.Given as goal

abbrev pub invariant-loop-name : goal.invariant-loop-name
invariant-loop-name l =
    list_all (λ name. is_among name (field_names l.item)) (given_names (drop l.name-index l.given)) ≡ list_all (λ name. is_among name (field_names l.item)) (given_names l.given)
