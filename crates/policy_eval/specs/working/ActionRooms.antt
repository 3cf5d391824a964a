-- How much room a statement of an action takes: a number that falls with each call of what runs it.
use Rattle.std.specs.Prelude.{ℕ, ◌+◌, List, Option, Some, None}
use Rattle.policy_ast.specs.declared.statement.Arm.{Arm}
use Rattle.policy_ast.specs.declared.statement.Else.{Else}
use Rattle.policy_ast.specs.declared.statement.Else.TheVariants as else_stmt
use Rattle.policy_ast.specs.declared.statement.Stmt.{Stmt, fold-Stmt}
use Rattle.policy_ast.specs.declared.statement.Stmt.TheOpen.{Stmt-F}
use Rattle.policy_eval.specs.working.Rooms.{of_number, total}

abbrev pub else_layer : Option (Else ℕ) → ℕ
else_layer None = 0
else_layer (Some (else_stmt.Block body)) = total of_number body
else_layer (Some (else_stmt.If n)) = n

abbrev pub deed_layer : Stmt-F ℕ → ℕ
deed_layer (Stmt-F.If x) = total of_number x.then + else_layer x.otherwise + 4
deed_layer (Stmt-F.Match e arms) = total (λ a. total of_number a.body) arms + 4
deed_layer (Stmt-F.Map p name body) = total of_number body + 4
deed_layer other = 0

unfoldable pub deed_room : Stmt → ℕ
deed_room s = fold-Stmt ℕ deed_layer s

-- statements one after another
abbrev pub deeds_room : List Stmt → ℕ
deeds_room body = total deed_room body

-- the bodies of arms
abbrev pub arms_room : List (Arm Stmt) → ℕ
arms_room arms = total (λ a. deeds_room a.body) arms

-- what follows `else`
abbrev pub else_deed_room : Option (Else Stmt) → ℕ
else_deed_room None = 0
else_deed_room (Some (else_stmt.Block body)) = deeds_room body
else_deed_room (Some (else_stmt.If s)) = deed_room s
