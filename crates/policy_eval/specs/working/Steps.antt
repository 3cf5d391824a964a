-- What the small steps of statements and calls make of what was found.
use Rattle.std.specs.Prelude.{List}
use Rattle.base_bytes.specs.declared.value.Value.{Value}
use Rattle.policy_ast.specs.declared.item.Item.{Item}
use Rattle.policy_ast.specs.declared.statement.Arm.{Arm}
use Rattle.policy_ast.specs.declared.statement.Stmt.{Stmt}
use Rattle.policy_expressions.specs.Forms.{check_of}
use Rattle.policy_meaning.specs.Arms.{first_body}
use Rattle.policy_meaning.specs.Environments.{Env, with_value}
use Rattle.policy_meaning.specs.Functions.{returned}
use Rattle.policy_meaning.specs.Outcomes.{Out, ◌>>=◌, or_stuck}
use Rattle.policy_meaning.specs.Statements.{Goes, Ran, Returns, ran}
use Rattle.policy_rules.specs.Names.{Name}

-- The next statement runs, with one more name in scope.
abbrev pub let_of : Name → Env → Out Value → Out Ran
let_of name env out = out >>= λ v turns. ran Goes (with_value env name v) turns

-- It runs where the value is true.
abbrev pub checked_of : Env → Out Value → Out Ran
checked_of env out = check_of out >>= λ done turns. ran Goes env turns

-- The value is returned.
abbrev pub return_of : Env → Out Value → Out Ran
return_of env out = out >>= λ v turns. ran (Returns v) env turns

-- The body of the first arm that takes the value.
abbrev pub body_of : List Item → List (Arm Stmt) → Out Value → Out (List Stmt)
body_of items arms out = out >>= λ v turns. or_stuck (first_body items v arms) turns

-- The value that the statements of a function return.
abbrev pub value_returned : Out Ran → Out Value
value_returned out = out >>= λ r turns. returned r.flow turns
