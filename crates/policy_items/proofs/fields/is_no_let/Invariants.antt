use Rattle.std.proofs.Common.{◌≡◌, drop, not}
use Rattle.std.specs.List.{list_all}
use Rattle.policy_rules.specs.Items.{field_names}
use Rattle.policy_rules.specs.Names.{is_among}
use Rattle.policy_rules.specs.Scopes.{let_names}
use Rattle.policy_items.proofs.fields.is_no_let.Given as goal

abbrev pub invariant-loop-field : goal.invariant-loop-field
invariant-loop-field l = list_all (λ name. not (is_among name (let_names l.heads))) (field_names (drop l.field-index l.fields)) ≡ list_all (λ name. not (is_among name (let_names l.heads))) (field_names l.fields)
