-- What the expressions and statements of a policy mean, under names that proofs of code keep shut.
use Rattle.std.specs.Prelude.{ℕ, List, [], ◌∷◌, map, Option, Some, None, option_map}
use Rattle.base_bytes.specs.declared.value.Value.{Value}
use Rattle.fact_store.specs.declared.row.Row.{Row}
use Rattle.fact_store.specs.declared.wanted.Wanted.{Wanted}
use Rattle.policy_ast.specs.declared.bind.Bind.{Bind}
use Rattle.policy_ast.specs.declared.expr.ElseExpr.{ElseExpr}
use Rattle.policy_ast.specs.declared.expr.ElseExpr.TheVariants as else_expr
use Rattle.policy_ast.specs.declared.expr.Expr.{Expr}
use Rattle.policy_ast.specs.declared.expr.ExprBlock.{ExprBlock}
use Rattle.policy_ast.specs.declared.expr.Let.{Let}
use Rattle.policy_ast.specs.declared.finish.FinishStmt.{FinishStmt}
use Rattle.policy_ast.specs.declared.item.Item.{Item}
use Rattle.policy_ast.specs.declared.pattern.Free.{Free}
use Rattle.policy_ast.specs.declared.pattern.Pattern.{Pattern}
use Rattle.policy_ast.specs.declared.statement.Else.{Else}
use Rattle.policy_ast.specs.declared.statement.Else.TheVariants as else_stmt
use Rattle.policy_ast.specs.declared.statement.Stmt.{Stmt}
use Rattle.policy_meaning.specs.Environments.{Env, Setting, with_value}
use Rattle.policy_meaning.specs.Expressions.{Meaning, meaning}
use Rattle.policy_meaning.specs.Finish.{Listing}
use Rattle.policy_meaning.specs.Functions.{called}
use Rattle.policy_meaning.specs.Outcomes.{Done, Ends, Out, Stuck, ◌>>=◌, all_in_order}
use Rattle.policy_meaning.specs.Patterns.{gaps_in_order, wanted_in}
use Rattle.policy_meaning.specs.Statements.{Goes, Run, block, ran, run}

module _ (items : List Item) (rows : List Row) (setting : Setting) (depth : ℕ) where
  -- What an expression means, where calls stand in chains of at most so many.
  unfoldable pub meant : Expr → Meaning
  meant e env turns = meaning items rows setting (called items rows depth) e env turns

  -- Expressions in order.
  abbrev pub values_meant : List Expr → Env → ℕ → Out (List Value)
  values_meant es = all_in_order (map meant es)

  -- The expressions that are bound.
  abbrev pub binds_meant : List (Bind Expr) → Env → ℕ → Out (List Value)
  binds_meant binds = values_meant (map (λ b. b.value) binds)

  -- The expressions of a part of a pattern.
  abbrev pub gaps_meant : List (Free Expr) → Env → ℕ → Out (List (Option Value))
  gaps_meant frees = gaps_in_order (map (λ f. option_map meant f.value) frees)

  -- The rows that a pattern asks for.
  abbrev pub wanted_meant : Pattern Expr → Env → ℕ → Out Wanted
  wanted_meant p = wanted_in items meant p

  -- The names behind `let`s.
  abbrev pub lets_meant : List (Let Expr) → Env → ℕ → Out Env
  lets_meant [] env turns = Done env turns
  lets_meant (l ∷ lets) env turns = meant l.value env turns >>= λ v turns. lets_meant lets (with_value env l.name v) turns

  -- The value of a block.
  abbrev pub block_meant : ExprBlock Expr → Meaning
  block_meant b env turns = lets_meant b.lets env turns >>= λ inner turns. meant b.value inner turns

  -- What follows `else`.
  abbrev pub else_meant : ElseExpr Expr → Meaning
  else_meant (else_expr.Block b) env turns = block_meant b env turns
  else_meant (else_expr.If e) env turns = meant e env turns

  module _ (lists : List FinishStmt → Listing) where
    -- What a statement does, where `finish` lists so.
    unfoldable pub stmt_meant : Stmt → Run
    stmt_meant s env turns = run items (meaning items rows setting (called items rows depth)) lists s env turns

    -- Statements one after another.
    abbrev pub stmts_meant : List Stmt → Run
    stmts_meant body = block (map stmt_meant body)

    -- What follows `else`.
    abbrev pub else_stmt_meant : Option (Else Stmt) → Run
    else_stmt_meant None env turns = ran Goes env turns
    else_stmt_meant (Some (else_stmt.Block body)) env turns = stmts_meant body env turns
    else_stmt_meant (Some (else_stmt.If s)) env turns = stmt_meant s env turns

    -- The body of the arm that takes a value.
    abbrev pub arm_meant : Option (List Stmt) → Run
    arm_meant None env turns = Ends Stuck
    arm_meant (Some body) env turns = stmts_meant body env turns
