-- How far a `finish` block is listed, and what a call of a finish function needs.
use Rattle.std.specs.Prelude.{◌≡◌, ℕ, List, drop, Option, Some, None, option_and_then}
use Rattle.fact_store.specs.declared.row.Row.{Row}
use Rattle.policy_ast.specs.declared.field.Field.{Field}
use Rattle.policy_ast.specs.declared.finish.FinishStmt.{FinishStmt}
use Rattle.policy_ast.specs.declared.item.Item.{Item}
use Rattle.policy_ast.specs.declared.item.Item.TheVariants as item
use Rattle.policy_meaning.specs.Environments.{Env, Setting}
use Rattle.policy_meaning.specs.Finish.{Change}
use Rattle.policy_rules.specs.Names.{Name, item_named}
use Rattle.policy_eval.specs.declared.finish.FinishCallee.{FinishCallee}
use Rattle.policy_eval.specs.working.Listing.{behind, stmts_listed}

-- The first i statements are listed, and what is listed then with the rest is what all list.
pub record ListSoFar (items : List Item) (rows : List Row) (setting : Setting) (depth : ℕ) (statements : List FinishStmt) (i : ℕ) (before changes : List Change) (first env : Env) (turns now : ℕ) : Type 0 where
  pub rest : behind changes (stmts_listed items rows setting depth (drop i statements) env now) ≡ behind before (stmts_listed items rows setting depth statements first turns)
  pub same : env ≡ first

-- What a call of a finish function needs of its item: its parameters and its body.
abbrev pub finish_parts_of : Item → Option (List Field × List FinishStmt)
finish_parts_of (item.FinishFunction name parameters body) = Some (parameters, body)
finish_parts_of other = None

abbrev pub finish_parts : List Item → Name → Option (List Field × List FinishStmt)
finish_parts items name = option_and_then finish_parts_of (item_named items name)

-- The same as the code keeps it.
abbrev pub kept_parts : FinishCallee → List Field × List FinishStmt
kept_parts callee = (callee.parameters.now, callee.body.now)
