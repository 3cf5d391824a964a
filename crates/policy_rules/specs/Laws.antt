-- Laws over the rules alone.
use Rattle.std.specs.Prelude.{◌≡◌, ◌↔◌, ◌⊎◌, ℕ, true, List, Some}
use Rattle.policy_ast.specs.declared.expr.Expr.{Expr}
use Rattle.policy_ast.specs.declared.item.Item.{Item}
use Rattle.policy_ast.specs.declared.policy.PlacedItem.{PlacedItem}
use Rattle.policy_ast.specs.declared.statement.Stmt.{Stmt}
use Rattle.policy_rules.specs.Expressions.{HasType}
use Rattle.policy_rules.specs.Items.{IsItem}
use Rattle.policy_rules.specs.Names.{Name}
use Rattle.policy_rules.specs.Scopes.{Scope}
use Rattle.policy_rules.specs.Statements.{IsStmt}
use Rattle.policy_rules.specs.WellTyped.{HasTypeFault, IsWellTyped}
use Rattle.policy_rules.specs.declared.context.Context.{Context}
use Rattle.policy_rules.specs.declared.types.NamedType.{NamedType}
use Rattle.policy_rules.specs.Inference.{inferred}
use Rattle.policy_rules.specs.ItemJudging.{item_is}
use Rattle.policy_rules.specs.Judging.{judged}

-- An expression has at most one type in a scope, and it is the type that is inferred.
pub record HasOneType (items : List Item) (context : Context) (scope : Scope) (e : Expr) : Type 0 where
  pub one : (t u : NamedType) → HasType items context scope e t → HasType items context scope e u → t ≡ u
  pub is_inferred : (t : NamedType) → HasType items context scope e t ↔ (inferred items context e scope ≡ Some t)

-- The scope behind a statement is one, and it is the one that is found; an item is well typed exactly where it is found so.
pub record AreJudged (items : List Item) : Type 0 where
  pub of_statements : (context : Context) (scope after : Scope) (s : Stmt) → IsStmt items context scope s after ↔ ((judged items context s).behind scope ≡ Some after)
  pub of_items : (earlier : List Name) (i : Item) → IsItem items earlier i ↔ (item_is items earlier i ≡ true)

-- A policy is well typed or has a fault of types in one line, and never both.
pub record HasOneVerdict (policy : List PlacedItem) : Type 0 where
  pub verdict : IsWellTyped policy ⊎ ((line : ℕ) × HasTypeFault policy line)
  pub one_line : (line other : ℕ) → HasTypeFault policy line → HasTypeFault policy other → line ≡ other
  pub not_both : (line : ℕ) → HasTypeFault policy line → IsWellTyped policy → ⊥
