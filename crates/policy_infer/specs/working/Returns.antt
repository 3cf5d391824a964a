-- Statements that end in a return, part by part.
use Rattle.std.specs.Prelude.{Bool, false, List, Option, Some, None}
use Rattle.std.specs.List.{list_all}
use Rattle.policy_ast.specs.declared.statement.Arm.{Arm}
use Rattle.policy_ast.specs.declared.statement.Else.{Else}
use Rattle.policy_ast.specs.declared.statement.Else.TheVariants as else_stmt
use Rattle.policy_ast.specs.declared.statement.Stmt.{Stmt}
use Rattle.policy_rules.specs.Statements.{always_returns, ends_in_return}

-- Each arm of a `match` ends in a return.
abbrev pub arms_return : List (Arm Stmt) → Bool
arms_return = list_all (λ a. ends_in_return a.body)

-- What follows `else` is there, and ends in a return.
abbrev pub else_returns_always : Option (Else Stmt) → Bool
else_returns_always None = false
else_returns_always (Some (else_stmt.Block body)) = ends_in_return body
else_returns_always (Some (else_stmt.If s)) = always_returns s
