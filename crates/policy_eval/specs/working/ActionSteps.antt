-- How far an action has come: what is done of a block, or of the rows of a `map`, and what is left to do.
use Rattle.std.specs.Prelude.{◌≡◌, ℕ, List, drop}
use Rattle.fact_store.specs.declared.row.Row.{Row}
use Rattle.policy_ast.specs.declared.item.Item.{Item}
use Rattle.policy_ast.specs.declared.policy.PlacedItem.{PlacedItem}
use Rattle.policy_ast.specs.declared.statement.Stmt.{Stmt}
use Rattle.policy_expressions.specs.Answers.{Keeps}
use Rattle.policy_meaning.specs.Actions.{Did, each_row, inside, ◌>>>◌}
use Rattle.policy_meaning.specs.Desks.{Posting}
use Rattle.policy_meaning.specs.Environments.{Env, Setting}
use Rattle.policy_rules.specs.Names.{Name}
use Rattle.policy_eval.specs.working.Acting.{Acted, Standing}
use Rattle.policy_eval.specs.working.Deeds.{deeds}

module _ {D : Type 0} (publishes : D → List Row → Posting → D → Type 0) (policy : List PlacedItem) (items : List Item) (setting : Setting) where
  -- The first i statements of a block are done.
  pub record BlockSoFar (body : List Stmt) (first : Env) (i : ℕ) (env : Env) (old now : Standing D) : Type 0 where
    pub acted : Acted publishes policy (inside (deeds items setting body) first) (λ w. deeds items setting (drop i body) env w >>> λ inner w. Did first w) old now
    pub kept : Keeps first env

  -- These rows are left.
  pub record RowsSoFar (name : Name) (body : List Stmt) (all left : List Row) (first env : Env) (old now : Standing D) : Type 0 where
    pub acted : Acted publishes policy (each_row name (deeds items setting body) first all) (each_row name (deeds items setting body) first left) old now
    pub same : env ≡ first
