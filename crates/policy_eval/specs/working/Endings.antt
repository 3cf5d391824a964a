-- What the calls of the evaluator leave, held against what the definitions give.
use Rattle.std.specs.Prelude.{◌≡◌, ℕ, Bool, true, false, List, Result, Ok, Err}
use Rattle.std.specs.Borrow.{Bor}
use Rattle.policy_ast.specs.declared.finish.FinishStmt.{FinishStmt}
use Rattle.policy_ast.specs.declared.statement.Stmt.{Stmt}
use Rattle.policy_eval.specs.declared.flow.Flow.{Flow}
use Rattle.policy_eval.specs.declared.flow.Flow.TheVariants as flow
use Rattle.policy_expressions.specs.Answers.{Gives, Keeps, Stops}
use Rattle.policy_expressions.specs.declared.stop.Stop.{Stop}
use Rattle.policy_meaning.specs.Environments.{Env}
use Rattle.policy_meaning.specs.Finish.{Listing}
use Rattle.policy_meaning.specs.Outcomes.{Out, Done, ◌>>=◌}
use Rattle.policy_meaning.specs.Statements.{Finishes, Goes, Ran, Returns, Run, ran}

-- A call answered what an evaluation gives, and left the names in scope as they were.
pub record Evaluates {A : Type 0} (result : Result A Stop) (means : Env → ℕ → Out A) (before after : Env) (turns left : ℕ) : Type 0 where
  pub gives : Gives result left (means before turns)
  pub kept : after ≡ before

-- The same of a call that may have put names behind those in scope.
pub record EvaluatesWithin {A : Type 0} (result : Result A Stop) (means : Env → ℕ → Out A) (before after : Env) (turns left : ℕ) : Type 0 where
  pub gives : Gives result left (means before turns)
  pub kept : Keeps before after

-- Statements came to what a definition says, where `finish` lists so: they go on with these names, or a value is returned, or they have come to a
-- `finish`, which is still to be listed with these names. Which names are in scope behind the last two says nothing.
abbrev pub Comes : Result Flow Stop → (List FinishStmt → Listing) → Env → ℕ → Out Ran → Type 0
Comes (Ok flow.Goes) lists after left out = out ≡ ran Goes after left
Comes (Ok (flow.Returns v)) lists after left out = (behind : Env) × (out ≡ ran (Returns v) behind left)
Comes (Ok (flow.Reached statements)) lists after left out = (behind : Env) × (out ≡ (lists statements.now after left >>= λ changes turns. ran (Finishes changes) behind turns))
Comes (Err why) lists after left out = Stops why out

-- A call ran statements, whatever `finish` lists. The names that were in scope are still the first.
pub record Runs (result : Result Flow Stop) (does : (List FinishStmt → Listing) → Run) (before after : Env) (turns left : ℕ) : Type 0 where
  pub comes : (lists : List FinishStmt → Listing) → Comes result lists after left (does lists before turns)
  pub kept : Keeps before after

-- The next statement runs.
abbrev pub goes_on : Result Flow Stop → Bool
goes_on (Ok flow.Goes) = true
goes_on (Ok (flow.Returns v)) = false
goes_on (Ok (flow.Reached statements)) = false
goes_on (Err why) = false

-- A call answered the statements that an evaluation gives.
abbrev pub GivesBody : Result (Bor (List Stmt)) Stop → ℕ → Out (List Stmt) → Type 0
GivesBody (Ok body) left out = out ≡ Done body.now left
GivesBody (Err why) left out = Stops why out
