use Rattle.std.proofs.Common.{◌≡◌, drop}
use Rattle.std.specs.List.{list_all}
use Rattle.policy_meaning.specs.Values.{field_names}
use Rattle.policy_meaning.specs.working.Resolutions.{given_names}
use Rattle.policy_rules.specs.Names.{is_among}
use Rattle.policy_meaning.proofs.given.are_given.Given as goal

abbrev pub invariant-loop-i : goal.invariant-loop-i
invariant-loop-i l =
    list_all (λ field. is_among field (given_names l.given)) (drop l.i (field_names l.item)) ≡ list_all (λ field. is_among field (given_names l.given)) (field_names l.item)
