use Rattle.std.proofs.Common.{◌≡◌, drop}
use Rattle.std.specs.List.{list_all}
use Rattle.policy_rules.specs.Names.{is_among}
use Rattle.policy_rules.specs.Scopes.{names_in}
use Rattle.policy_infer.proofs.field_lists.are_among.Given as goal

abbrev pub invariant-loop-field : goal.invariant-loop-field
invariant-loop-field l =
    list_all (λ field. is_among field l.names) (names_in (drop l.field-index l.fields)) ≡ list_all (λ field. is_among field l.names) (names_in l.fields)
