use Rattle.std.proofs.Common.{◌≡◌, ◌++◌, drop}
use Rattle.policy_rules.specs.WellTyped.{items_of}
use Rattle.state_texts.specs.Naming.{named_values, names_in}
use Rattle.state_texts.proofs.naming.named_row.Given as goal

abbrev pub invariant-loop-i : goal.invariant-loop-i
invariant-loop-i l = l.all ++ named_values (items_of l.items) (drop l.i (names_in l.fields)) (drop l.i l.values) ≡ named_values (items_of l.items) (names_in l.fields) l.values
