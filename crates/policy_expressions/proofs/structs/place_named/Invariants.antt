use Rattle.std.proofs.Common.{◌≡◌, List, drop}
use Rattle.base_bytes.specs.declared.value.Value.{Value}
use Rattle.policy_meaning.specs.Values.{value_named}
use Rattle.policy_rules.specs.Scopes.{names_in}
use Rattle.policy_expressions.proofs.structs.place_named.Given as goal

abbrev pub invariant-loop-i : goal.invariant-loop-i
invariant-loop-i l = (values : List Value) → value_named (names_in (drop l.i l.fields)) (drop l.i values) l.name ≡ value_named (names_in l.fields) values l.name
