-- Functions that are called, as their parameters and their bodies.
use Rattle.std.specs.Prelude.{List, Option, Some, None, option_and_then}
use Rattle.policy_ast.specs.declared.field.Field.{Field}
use Rattle.policy_ast.specs.declared.item.Item.{Item}
use Rattle.policy_ast.specs.declared.item.Item.TheVariants as item
use Rattle.policy_ast.specs.declared.statement.Stmt.{Stmt}
use Rattle.policy_eval.specs.declared.calls.Callee.{Callee}
use Rattle.policy_rules.specs.Names.{Name, item_named}

abbrev pub callee_parts : Callee → List Field × List Stmt
callee_parts c = (c.parameters.now, c.body.now)

-- An item as a function.
abbrev pub parts_of : Item → Option (List Field × List Stmt)
parts_of (item.Function name parameters result body) = Some (parameters, body)
parts_of other = None

-- The function that a name means.
abbrev pub parts_named : List Item → Name → Option (List Field × List Stmt)
parts_named items name = option_and_then parts_of (item_named items name)
