-- How much room the evaluation of a tree takes: a number that falls with each call of the evaluator.
use Rattle.std.specs.Prelude.{ℕ, zero, suc, ◌+◌, ◌≤◌, List, [], ◌∷◌, Option, Some, None}
use Rattle.policy_ast.specs.declared.bind.Bind.{Bind}
use Rattle.policy_ast.specs.declared.expr.ElseExpr.{ElseExpr}
use Rattle.policy_ast.specs.declared.expr.ElseExpr.TheVariants as else_expr
use Rattle.policy_ast.specs.declared.expr.Expr.{Expr, fold-Expr}
use Rattle.policy_ast.specs.declared.expr.Expr.TheOpen.{Expr-F}
use Rattle.policy_ast.specs.declared.expr.ExprBlock.{ExprBlock}
use Rattle.policy_ast.specs.declared.expr.Let.{Let}
use Rattle.policy_ast.specs.declared.item.Item.{Item}
use Rattle.policy_ast.specs.declared.item.Item.TheVariants as item
use Rattle.policy_ast.specs.declared.pattern.Free.{Free}
use Rattle.policy_ast.specs.declared.pattern.Pattern.{Pattern}
use Rattle.policy_ast.specs.declared.statement.Arm.{Arm}
use Rattle.policy_ast.specs.declared.statement.Else.{Else}
use Rattle.policy_ast.specs.declared.statement.Else.TheVariants as else_stmt
use Rattle.policy_ast.specs.declared.statement.Stmt.{Stmt, fold-Stmt}
use Rattle.policy_ast.specs.declared.statement.Stmt.TheOpen.{Stmt-F}
use Rattle.policy_rules.specs.Expressions.{value_part}

-- the sum over a list
abbrev pub total : {A : Type 0} → (A → ℕ) → List A → ℕ
total f [] = 0
total f (x ∷ xs) = f x + total f xs

abbrev pub of_number : ℕ → ℕ
of_number n = n

abbrev pub gap_room : Option ℕ → ℕ
gap_room None = 0
gap_room (Some n) = n

abbrev pub frees_room : List (Free ℕ) → ℕ
frees_room = total (λ f. gap_room f.value)

abbrev pub pattern_room : Pattern ℕ → ℕ
pattern_room p = frees_room p.keys + frees_room (value_part p.values) + 2

abbrev pub block_room : ExprBlock ℕ → ℕ
block_room b = total (λ l. l.value) b.lets + b.value + 2

abbrev pub else_room : ElseExpr ℕ → ℕ
else_room (else_expr.Block b) = block_room b
else_room (else_expr.If n) = n

-- an expression, by the rooms of its parts and of a call
abbrev pub room_layer : ℕ → Expr-F ℕ → ℕ
room_layer below (Expr-F.Or a b) = a + b + 1
room_layer below (Expr-F.And a b) = a + b + 1
room_layer below (Expr-F.Compare a op b) = a + b + 1
room_layer below (Expr-F.Is a op) = a + 1
room_layer below (Expr-F.Unary op a) = a + 1
room_layer below (Expr-F.Field a name) = a + 1
room_layer below (Expr-F.Literal l) = 1
room_layer below Expr-F.None = 1
room_layer below (Expr-F.Some a) = a + 1
room_layer below Expr-F.This = 1
room_layer below (Expr-F.Name name) = 1
room_layer below (Expr-F.ForeignCall of called arguments) = 1
room_layer below (Expr-F.Call called arguments) = total of_number arguments + below + 2
room_layer below (Expr-F.Struct name binds) = total (λ b. b.value) binds + 2
room_layer below (Expr-F.Arithmetic op a b) = a + b + 1
room_layer below (Expr-F.Query p) = pattern_room p + 1
room_layer below (Expr-F.Exists p) = pattern_room p + 1
room_layer below (Expr-F.Count op n p) = pattern_room p + 1
room_layer below (Expr-F.If x) = x.head + block_room x.then + else_room x.otherwise + 2

abbrev pub else_stmt_room : Option (Else ℕ) → ℕ
else_stmt_room None = 0
else_stmt_room (Some (else_stmt.Block body)) = total of_number body + 1
else_stmt_room (Some (else_stmt.If n)) = n

module _ (below : ℕ) where
  unfoldable pub room : Expr → ℕ
  room e = fold-Expr ℕ (room_layer below) e

  abbrev pub bind_room : Bind Expr → ℕ
  bind_room b = room b.value

  abbrev pub opt_room : Option Expr → ℕ
  opt_room None = 0
  opt_room (Some e) = room e

  abbrev pub free_room : Free Expr → ℕ
  free_room f = opt_room f.value

  abbrev pub let_room : Let Expr → ℕ
  let_room l = room l.value

  -- one layer of a statement, by the rooms of the statements inside
  abbrev pub stmt_layer : Stmt-F ℕ → ℕ
  stmt_layer (Stmt-F.Let l) = room l.value + 1
  stmt_layer (Stmt-F.Check e) = room e + 1
  stmt_layer (Stmt-F.If x) = room x.head + total of_number x.then + else_stmt_room x.otherwise + 3
  stmt_layer (Stmt-F.Match e arms) = room e + total (λ a. total of_number a.body) arms + 3
  stmt_layer (Stmt-F.Finish statements) = 1
  stmt_layer (Stmt-F.Map p name body) = 1
  stmt_layer (Stmt-F.Publish e) = 1
  stmt_layer (Stmt-F.Return e) = room e + 1

  unfoldable pub stmt_room : Stmt → ℕ
  stmt_room s = fold-Stmt ℕ stmt_layer s

  abbrev pub arm_room : Arm Stmt → ℕ
  arm_room a = total stmt_room a.body

-- the body of an item that is called
abbrev pub item_room : ℕ → Item → ℕ
item_room below (item.Function name parameters result body) = total (stmt_room below) body
item_room below other = 0

-- a call, where so many may still nest
abbrev pub call_room : List Item → ℕ → ℕ
call_room items zero = 0
call_room items (suc depth) = total (item_room (call_room items depth)) items + 2

-- Statements take no more room than all bodies of functions together.
abbrev pub IsBodyOf : List Item → List Stmt → Type 0
IsBodyOf items body = (below : ℕ) → total (stmt_room below) body ≤ total (item_room below) items

-- Statements take no more room than all arms together.
abbrev pub IsAmongArms : List Stmt → List (Arm Stmt) → Type 0
IsAmongArms body arms = (below : ℕ) → total (stmt_room below) body ≤ total (arm_room below) arms
