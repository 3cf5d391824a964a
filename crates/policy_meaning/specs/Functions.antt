-- Calls of functions, and what the expressions and statements of a policy mean with them.
use Rattle.std.specs.Prelude.{ℕ, zero, suc, List, Option, Some}
use Rattle.base_bytes.specs.declared.value.Value.{Value}
use Rattle.fact_store.specs.declared.row.Row.{Row}
use Rattle.policy_ast.specs.declared.expr.Expr.{Expr}
use Rattle.policy_ast.specs.declared.finish.FinishStmt.{FinishStmt}
use Rattle.policy_ast.specs.declared.item.Item.{Item}
use Rattle.policy_ast.specs.declared.item.Item.TheVariants as item
use Rattle.policy_ast.specs.declared.statement.Stmt.{Stmt}
use Rattle.policy_meaning.specs.Environments.{Setting, bound_parameters, no_setting}
use Rattle.policy_meaning.specs.Expressions.{Calls, Meaning, meaning}
use Rattle.policy_meaning.specs.Finish.{Listing, all_listed, finish_called}
use Rattle.policy_meaning.specs.Outcomes.{Out, Done, Ends, Stuck, ◌>>=◌, with_turn}
use Rattle.policy_meaning.specs.Statements.{Flow, Returns, Run, body_run}
use Rattle.policy_rules.specs.Calls.{longest_chain}
use Rattle.policy_rules.specs.Names.{item_named}
use Rattle.policy_rules.specs.Types.{declared}

-- The value that a body returns.
abbrev pub returned : Flow → ℕ → Out Value
returned (Returns v) turns = Done v turns
returned other turns = Ends Stuck

-- A function with its arguments: it takes a turn as it begins. No `finish` stands in it.
abbrev pub entered : (List Stmt → Run) → List Value → Option Item → ℕ → Out Value
entered body_of values (Some (item.Function name parameters result body)) turns =
    with_turn (λ turns. body_of body (bound_parameters (declared parameters) values) turns >>= λ r turns. returned r.flow turns) turns
entered body_of values other turns = Ends Stuck

abbrev pub no_listing : List FinishStmt → Listing
no_listing statements env turns = Ends Stuck

-- Calls of functions over these rows, in chains of at most so many. No well-typed policy has longer ones.
abbrev pub called : List Item → List Row → ℕ → Calls
called items rows zero name values turns = Ends Stuck
called items rows (suc depth) name values turns =
    entered (body_run items (meaning items rows no_setting (called items rows depth)) no_listing) values (item_named items name) turns

module _ (items : List Item) (rows : List Row) (setting : Setting) where
  -- An expression of a policy, where the facts are these rows.
  abbrev pub expression : Expr → Meaning
  expression = meaning items rows setting (called items rows longest_chain)

  -- In finish functions an expression knows its names alone.
  abbrev pub finish_expression : Expr → Meaning
  finish_expression = meaning items rows no_setting (called items rows longest_chain)

  -- What a `finish` block lists.
  abbrev pub finish : List FinishStmt → Listing
  finish = all_listed items expression (finish_called items finish_expression longest_chain)

  -- The statements of a policy or recall block.
  abbrev pub statements : List Stmt → Run
  statements = body_run items expression finish
