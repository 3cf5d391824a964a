-- The meaning of the statements of functions, policy blocks and recall blocks.
use Rattle.std.specs.Prelude.{ℕ, Bool, List, [], ◌∷◌, map, Option, Some, None}
use Rattle.base_bytes.specs.declared.value.Value.{Value}
use Rattle.policy_ast.specs.declared.expr.Expr.{Expr}
use Rattle.policy_ast.specs.declared.finish.FinishStmt.{FinishStmt}
use Rattle.policy_ast.specs.declared.item.Item.{Item}
use Rattle.policy_ast.specs.declared.statement.Else.{Else}
use Rattle.policy_ast.specs.declared.statement.Else.TheVariants as else_stmt
use Rattle.policy_ast.specs.declared.statement.Stmt.{Stmt, fold-Stmt}
use Rattle.policy_ast.specs.declared.statement.Stmt.TheOpen.{Stmt-F}
use Rattle.policy_meaning.specs.Arms.{first_body}
use Rattle.policy_meaning.specs.Environments.{Env, with_value}
use Rattle.policy_meaning.specs.Expressions.{Meaning}
use Rattle.policy_meaning.specs.Finish.{Change, Listing}
use Rattle.policy_meaning.specs.Outcomes.{Out, Done, Ends, Check, Stuck, ◌>>=◌, branch}
use Rattle.policy_meaning.specs.Values.{truth}

-- What follows a statement: the next one, or the end with a value that is returned or with what `finish` lists.
pub data Flow : Type 0 where
  Goes : Flow
  Returns : Value → Flow
  Finishes : List Change → Flow

-- What a statement does: how it goes on, and the names behind it.
pub record Ran : Type 0 where
  pub flow : Flow
  pub env : Env

abbrev pub Run : Type 0
Run = Env → ℕ → Out Ran

abbrev pub ran : Flow → Env → ℕ → Out Ran
ran flow env turns = Done (record { flow = flow; env = env }) turns

-- The rest of a list of statements, which runs only where the one before goes on.
abbrev pub then : Run → Flow → Run
then rest Goes env turns = rest env turns
then rest (Returns v) env turns = ran (Returns v) env turns
then rest (Finishes changes) env turns = ran (Finishes changes) env turns

-- Statements one after another.
abbrev pub block : List Run → Run
block [] env turns = ran Goes env turns
block (s ∷ more) env turns = s env turns >>= λ r turns. then (block more) r.flow r.env turns

-- A block, whose names end with it.
abbrev pub within : Run → Run
within inner env turns = inner env turns >>= λ r turns. ran r.flow env turns

abbrev pub else_run : Option (Else Run) → Run
else_run None env turns = ran Goes env turns
else_run (Some (else_stmt.Block body)) env turns = block body env turns
else_run (Some (else_stmt.If s)) env turns = s env turns

-- The body of the arm that takes the value.
abbrev pub arm_run : Option (List Run) → Run
arm_run None env turns = Ends Stuck
arm_run (Some body) env turns = block body env turns

-- A check that fails ends the evaluation; it names no recall.
abbrev pub checked : Option Bool → Env → ℕ → Out Ran
checked test env turns = branch test (ran Goes env) (λ turns. Ends (Check None)) turns

module _ (items : List Item) (says : Expr → Meaning) (lists : List FinishStmt → Listing) where
  -- One form, where the statements inside are given by what they do. `map` and `publish` stand in actions alone.
  abbrev pub run_layer : Stmt-F Run → Run
  run_layer (Stmt-F.Let l) env turns = says l.value env turns >>= λ v turns. ran Goes (with_value env l.name v) turns
  run_layer (Stmt-F.Check e) env turns = says e env turns >>= λ v turns. checked (truth v) env turns
  run_layer (Stmt-F.If x) env turns = says x.head env turns >>= λ v turns. branch (truth v) (within (block x.then) env) (within (else_run x.otherwise) env) turns
  run_layer (Stmt-F.Match e arms) env turns = says e env turns >>= λ v turns. within (arm_run (first_body items v arms)) env turns
  run_layer (Stmt-F.Finish statements) env turns = lists statements env turns >>= λ changes turns. ran (Finishes changes) env turns
  run_layer (Stmt-F.Map p name body) env turns = Ends Stuck
  run_layer (Stmt-F.Publish e) env turns = Ends Stuck
  run_layer (Stmt-F.Return e) env turns = says e env turns >>= λ v turns. ran (Returns v) env turns

  abbrev pub run : Stmt → Run
  run = fold-Stmt Run run_layer

  -- The statements of a body.
  abbrev pub body_run : List Stmt → Run
  body_run body = block (map run body)
