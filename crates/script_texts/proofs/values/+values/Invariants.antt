use Rattle.std.proofs.Common.{◌≡◌, ◌++◌, drop}
use Rattle.script_texts.specs.Values.{field_texts, names_and_values, names_from}
use Rattle.script_texts.proofs.values.+values.Given as goal

abbrev pub invariant-push_fields-loop-name : goal.invariant-push_fields-loop-name
invariant-push_fields-loop-name l = l.into ++ names_from l.before (field_texts (drop l.name-index l.fields)) ≡ l.initial.into ++ names_and_values (field_texts l.fields)
