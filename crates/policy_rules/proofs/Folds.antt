-- What folds and layers are at trees that are written out: one equation a form. Rows of tests compute by them.
use Rattle.std.proofs.Common.{◌≡◌, ℤ, List, sym, ap, ◌∙◌}
use Rattle.policy_ast.specs.declared.expr.Expr.{Expr, fold-Expr, fold-roll-Expr, map-Expr}
use Rattle.policy_ast.specs.declared.expr.Expr.TheOpen.{Expr-F}
use Rattle.policy_ast.specs.declared.expr.Expr.TheVariants as expr
use Rattle.policy_ast.specs.declared.statement.Stmt.{Stmt, fold-Stmt, fold-roll-Stmt, map-Stmt}
use Rattle.policy_ast.specs.declared.statement.Stmt.TheOpen.{Stmt-F}
use Rattle.policy_ast.specs.declared.statement.Stmt.TheVariants as stmt
use Rattle.policy_ast.specs.declared.field.FieldType.{FieldType, fold-FieldType, fold-roll-FieldType, map-FieldType}
use Rattle.policy_ast.specs.declared.field.FieldType.TheOpen.{FieldType-F}
use Rattle.policy_ast.specs.declared.field.FieldType.TheVariants as field_type
use Rattle.policy_rules.specs.declared.types.NamedType.{NamedType, fold-NamedType, fold-roll-NamedType, map-NamedType}
use Rattle.policy_rules.specs.declared.types.NamedType.TheOpen.{NamedType-F}
use Rattle.policy_rules.specs.declared.types.NamedType.TheVariants as named_type
use Rattle.policy_ast.specs.declared.expr.Arithmetic.{Arithmetic}
use Rattle.policy_ast.specs.declared.expr.Comparison.{Comparison}
use Rattle.policy_ast.specs.declared.expr.Count.{Count}
use Rattle.policy_ast.specs.declared.expr.Presence.{Presence}
use Rattle.policy_ast.specs.declared.expr.Unary.{Unary}
use Rattle.policy_ast.specs.declared.expr.IfExpr.{IfExpr}
use Rattle.policy_ast.specs.declared.expr.Let.{Let}
use Rattle.policy_ast.specs.declared.bind.Bind.{Bind}
use Rattle.policy_ast.specs.declared.literal.Literal.{Literal}
use Rattle.policy_ast.specs.declared.pattern.Pattern.{Pattern}
use Rattle.policy_ast.specs.declared.finish.FinishStmt.{FinishStmt}
use Rattle.policy_ast.specs.declared.statement.Arm.{Arm}
use Rattle.policy_ast.specs.declared.statement.IfStmt.{IfStmt}
use Rattle.policy_rules.specs.Names.{Name}

module _ {A : Type 0} (step : Expr-F A → A) where
  abbrev fold_expr : Expr → A
  fold_expr = fold-Expr A step

  pub fold-expr-Or : (a : Expr) (b : Expr) → fold-Expr A step (expr.Or a b) ≡ step (map-Expr Expr A (fold-Expr A step) (Expr-F.Or a b))
  fold-expr-Or a b = ap fold_expr (sym (expr.rolls-Or a b)) ∙ fold-roll-Expr A step (Expr-F.Or a b)

  pub fold-expr-And : (a : Expr) (b : Expr) → fold-Expr A step (expr.And a b) ≡ step (map-Expr Expr A (fold-Expr A step) (Expr-F.And a b))
  fold-expr-And a b = ap fold_expr (sym (expr.rolls-And a b)) ∙ fold-roll-Expr A step (Expr-F.And a b)

  pub fold-expr-Compare : (a : Expr) (op : Comparison) (b : Expr) → fold-Expr A step (expr.Compare a op b) ≡ step (map-Expr Expr A (fold-Expr A step) (Expr-F.Compare a op b))
  fold-expr-Compare a op b = ap fold_expr (sym (expr.rolls-Compare a op b)) ∙ fold-roll-Expr A step (Expr-F.Compare a op b)

  pub fold-expr-Is : (a : Expr) (op : Presence) → fold-Expr A step (expr.Is a op) ≡ step (map-Expr Expr A (fold-Expr A step) (Expr-F.Is a op))
  fold-expr-Is a op = ap fold_expr (sym (expr.rolls-Is a op)) ∙ fold-roll-Expr A step (Expr-F.Is a op)

  pub fold-expr-Unary : (op : Unary) (a : Expr) → fold-Expr A step (expr.Unary op a) ≡ step (map-Expr Expr A (fold-Expr A step) (Expr-F.Unary op a))
  fold-expr-Unary op a = ap fold_expr (sym (expr.rolls-Unary op a)) ∙ fold-roll-Expr A step (Expr-F.Unary op a)

  pub fold-expr-Field : (a : Expr) (name : Name) → fold-Expr A step (expr.Field a name) ≡ step (map-Expr Expr A (fold-Expr A step) (Expr-F.Field a name))
  fold-expr-Field a name = ap fold_expr (sym (expr.rolls-Field a name)) ∙ fold-roll-Expr A step (Expr-F.Field a name)

  pub fold-expr-Literal : (l : Literal) → fold-Expr A step (expr.Literal l) ≡ step (map-Expr Expr A (fold-Expr A step) (Expr-F.Literal l))
  fold-expr-Literal l = ap fold_expr (sym (expr.rolls-Literal l)) ∙ fold-roll-Expr A step (Expr-F.Literal l)

  pub fold-expr-None : fold-Expr A step expr.None ≡ step (map-Expr Expr A (fold-Expr A step) Expr-F.None)
  fold-expr-None = ap fold_expr (sym expr.rolls-None) ∙ fold-roll-Expr A step Expr-F.None

  pub fold-expr-Some : (a : Expr) → fold-Expr A step (expr.Some a) ≡ step (map-Expr Expr A (fold-Expr A step) (Expr-F.Some a))
  fold-expr-Some a = ap fold_expr (sym (expr.rolls-Some a)) ∙ fold-roll-Expr A step (Expr-F.Some a)

  pub fold-expr-This : fold-Expr A step expr.This ≡ step (map-Expr Expr A (fold-Expr A step) Expr-F.This)
  fold-expr-This = ap fold_expr (sym expr.rolls-This) ∙ fold-roll-Expr A step Expr-F.This

  pub fold-expr-Name : (name : Name) → fold-Expr A step (expr.Name name) ≡ step (map-Expr Expr A (fold-Expr A step) (Expr-F.Name name))
  fold-expr-Name name = ap fold_expr (sym (expr.rolls-Name name)) ∙ fold-roll-Expr A step (Expr-F.Name name)

  pub fold-expr-ForeignCall : (of : Name) (called : Name) (arguments : List Expr) → fold-Expr A step (expr.ForeignCall of called arguments) ≡ step (map-Expr Expr A (fold-Expr A step) (Expr-F.ForeignCall of called arguments))
  fold-expr-ForeignCall of called arguments = ap fold_expr (sym (expr.rolls-ForeignCall of called arguments)) ∙ fold-roll-Expr A step (Expr-F.ForeignCall of called arguments)

  pub fold-expr-Call : (called : Name) (arguments : List Expr) → fold-Expr A step (expr.Call called arguments) ≡ step (map-Expr Expr A (fold-Expr A step) (Expr-F.Call called arguments))
  fold-expr-Call called arguments = ap fold_expr (sym (expr.rolls-Call called arguments)) ∙ fold-roll-Expr A step (Expr-F.Call called arguments)

  pub fold-expr-Struct : (name : Name) (binds : List (Bind Expr)) → fold-Expr A step (expr.Struct name binds) ≡ step (map-Expr Expr A (fold-Expr A step) (Expr-F.Struct name binds))
  fold-expr-Struct name binds = ap fold_expr (sym (expr.rolls-Struct name binds)) ∙ fold-roll-Expr A step (Expr-F.Struct name binds)

  pub fold-expr-Arithmetic : (op : Arithmetic) (a : Expr) (b : Expr) → fold-Expr A step (expr.Arithmetic op a b) ≡ step (map-Expr Expr A (fold-Expr A step) (Expr-F.Arithmetic op a b))
  fold-expr-Arithmetic op a b = ap fold_expr (sym (expr.rolls-Arithmetic op a b)) ∙ fold-roll-Expr A step (Expr-F.Arithmetic op a b)

  pub fold-expr-Query : (p : Pattern Expr) → fold-Expr A step (expr.Query p) ≡ step (map-Expr Expr A (fold-Expr A step) (Expr-F.Query p))
  fold-expr-Query p = ap fold_expr (sym (expr.rolls-Query p)) ∙ fold-roll-Expr A step (Expr-F.Query p)

  pub fold-expr-Exists : (p : Pattern Expr) → fold-Expr A step (expr.Exists p) ≡ step (map-Expr Expr A (fold-Expr A step) (Expr-F.Exists p))
  fold-expr-Exists p = ap fold_expr (sym (expr.rolls-Exists p)) ∙ fold-roll-Expr A step (Expr-F.Exists p)

  pub fold-expr-Count : (op : Count) (n : ℤ) (p : Pattern Expr) → fold-Expr A step (expr.Count op n p) ≡ step (map-Expr Expr A (fold-Expr A step) (Expr-F.Count op n p))
  fold-expr-Count op n p = ap fold_expr (sym (expr.rolls-Count op n p)) ∙ fold-roll-Expr A step (Expr-F.Count op n p)

  pub fold-expr-If : (x : IfExpr Expr) → fold-Expr A step (expr.If x) ≡ step (map-Expr Expr A (fold-Expr A step) (Expr-F.If x))
  fold-expr-If x = ap fold_expr (sym (expr.rolls-If x)) ∙ fold-roll-Expr A step (Expr-F.If x)

module _ {A : Type 0} (step : Stmt-F A → A) where
  abbrev fold_stmt : Stmt → A
  fold_stmt = fold-Stmt A step

  pub fold-stmt-Let : (l : Let Expr) → fold-Stmt A step (stmt.Let l) ≡ step (map-Stmt Stmt A (fold-Stmt A step) (Stmt-F.Let l))
  fold-stmt-Let l = ap fold_stmt (sym (stmt.rolls-Let l)) ∙ fold-roll-Stmt A step (Stmt-F.Let l)

  pub fold-stmt-Check : (e : Expr) → fold-Stmt A step (stmt.Check e) ≡ step (map-Stmt Stmt A (fold-Stmt A step) (Stmt-F.Check e))
  fold-stmt-Check e = ap fold_stmt (sym (stmt.rolls-Check e)) ∙ fold-roll-Stmt A step (Stmt-F.Check e)

  pub fold-stmt-If : (x : IfStmt Stmt) → fold-Stmt A step (stmt.If x) ≡ step (map-Stmt Stmt A (fold-Stmt A step) (Stmt-F.If x))
  fold-stmt-If x = ap fold_stmt (sym (stmt.rolls-If x)) ∙ fold-roll-Stmt A step (Stmt-F.If x)

  pub fold-stmt-Match : (e : Expr) (arms : List (Arm Stmt)) → fold-Stmt A step (stmt.Match e arms) ≡ step (map-Stmt Stmt A (fold-Stmt A step) (Stmt-F.Match e arms))
  fold-stmt-Match e arms = ap fold_stmt (sym (stmt.rolls-Match e arms)) ∙ fold-roll-Stmt A step (Stmt-F.Match e arms)

  pub fold-stmt-Finish : (statements : List FinishStmt) → fold-Stmt A step (stmt.Finish statements) ≡ step (map-Stmt Stmt A (fold-Stmt A step) (Stmt-F.Finish statements))
  fold-stmt-Finish statements = ap fold_stmt (sym (stmt.rolls-Finish statements)) ∙ fold-roll-Stmt A step (Stmt-F.Finish statements)

  pub fold-stmt-Map : (p : Pattern Expr) (name : Name) (body : List Stmt) → fold-Stmt A step (stmt.Map p name body) ≡ step (map-Stmt Stmt A (fold-Stmt A step) (Stmt-F.Map p name body))
  fold-stmt-Map p name body = ap fold_stmt (sym (stmt.rolls-Map p name body)) ∙ fold-roll-Stmt A step (Stmt-F.Map p name body)

  pub fold-stmt-Publish : (e : Expr) → fold-Stmt A step (stmt.Publish e) ≡ step (map-Stmt Stmt A (fold-Stmt A step) (Stmt-F.Publish e))
  fold-stmt-Publish e = ap fold_stmt (sym (stmt.rolls-Publish e)) ∙ fold-roll-Stmt A step (Stmt-F.Publish e)

  pub fold-stmt-Return : (e : Expr) → fold-Stmt A step (stmt.Return e) ≡ step (map-Stmt Stmt A (fold-Stmt A step) (Stmt-F.Return e))
  fold-stmt-Return e = ap fold_stmt (sym (stmt.rolls-Return e)) ∙ fold-roll-Stmt A step (Stmt-F.Return e)

module _ {A : Type 0} (step : FieldType-F A → A) where
  abbrev fold_field_type : FieldType → A
  fold_field_type = fold-FieldType A step

  pub fold-field_type-Int : fold-FieldType A step field_type.Int ≡ step (map-FieldType FieldType A (fold-FieldType A step) FieldType-F.Int)
  fold-field_type-Int = ap fold_field_type (sym field_type.rolls-Int) ∙ fold-roll-FieldType A step FieldType-F.Int

  pub fold-field_type-Bool : fold-FieldType A step field_type.Bool ≡ step (map-FieldType FieldType A (fold-FieldType A step) FieldType-F.Bool)
  fold-field_type-Bool = ap fold_field_type (sym field_type.rolls-Bool) ∙ fold-roll-FieldType A step FieldType-F.Bool

  pub fold-field_type-Str : fold-FieldType A step field_type.Str ≡ step (map-FieldType FieldType A (fold-FieldType A step) FieldType-F.Str)
  fold-field_type-Str = ap fold_field_type (sym field_type.rolls-Str) ∙ fold-roll-FieldType A step FieldType-F.Str

  pub fold-field_type-Raw : fold-FieldType A step field_type.Raw ≡ step (map-FieldType FieldType A (fold-FieldType A step) FieldType-F.Raw)
  fold-field_type-Raw = ap fold_field_type (sym field_type.rolls-Raw) ∙ fold-roll-FieldType A step FieldType-F.Raw

  pub fold-field_type-Ident : fold-FieldType A step field_type.Ident ≡ step (map-FieldType FieldType A (fold-FieldType A step) FieldType-F.Ident)
  fold-field_type-Ident = ap fold_field_type (sym field_type.rolls-Ident) ∙ fold-roll-FieldType A step FieldType-F.Ident

  pub fold-field_type-Enum : (name : Name) → fold-FieldType A step (field_type.Enum name) ≡ step (map-FieldType FieldType A (fold-FieldType A step) (FieldType-F.Enum name))
  fold-field_type-Enum name = ap fold_field_type (sym (field_type.rolls-Enum name)) ∙ fold-roll-FieldType A step (FieldType-F.Enum name)

  pub fold-field_type-Struct : (name : Name) → fold-FieldType A step (field_type.Struct name) ≡ step (map-FieldType FieldType A (fold-FieldType A step) (FieldType-F.Struct name))
  fold-field_type-Struct name = ap fold_field_type (sym (field_type.rolls-Struct name)) ∙ fold-roll-FieldType A step (FieldType-F.Struct name)

  pub fold-field_type-Optional : (inner : FieldType) → fold-FieldType A step (field_type.Optional inner) ≡ step (map-FieldType FieldType A (fold-FieldType A step) (FieldType-F.Optional inner))
  fold-field_type-Optional inner = ap fold_field_type (sym (field_type.rolls-Optional inner)) ∙ fold-roll-FieldType A step (FieldType-F.Optional inner)

module _ {A : Type 0} (step : NamedType-F A → A) where
  abbrev fold_named_type : NamedType → A
  fold_named_type = fold-NamedType A step

  pub fold-named_type-Int : fold-NamedType A step named_type.Int ≡ step (map-NamedType NamedType A (fold-NamedType A step) NamedType-F.Int)
  fold-named_type-Int = ap fold_named_type (sym named_type.rolls-Int) ∙ fold-roll-NamedType A step NamedType-F.Int

  pub fold-named_type-Bool : fold-NamedType A step named_type.Bool ≡ step (map-NamedType NamedType A (fold-NamedType A step) NamedType-F.Bool)
  fold-named_type-Bool = ap fold_named_type (sym named_type.rolls-Bool) ∙ fold-roll-NamedType A step NamedType-F.Bool

  pub fold-named_type-Str : fold-NamedType A step named_type.Str ≡ step (map-NamedType NamedType A (fold-NamedType A step) NamedType-F.Str)
  fold-named_type-Str = ap fold_named_type (sym named_type.rolls-Str) ∙ fold-roll-NamedType A step NamedType-F.Str

  pub fold-named_type-Raw : fold-NamedType A step named_type.Raw ≡ step (map-NamedType NamedType A (fold-NamedType A step) NamedType-F.Raw)
  fold-named_type-Raw = ap fold_named_type (sym named_type.rolls-Raw) ∙ fold-roll-NamedType A step NamedType-F.Raw

  pub fold-named_type-Ident : fold-NamedType A step named_type.Ident ≡ step (map-NamedType NamedType A (fold-NamedType A step) NamedType-F.Ident)
  fold-named_type-Ident = ap fold_named_type (sym named_type.rolls-Ident) ∙ fold-roll-NamedType A step NamedType-F.Ident

  pub fold-named_type-Enum : (name : Name) → fold-NamedType A step (named_type.Enum name) ≡ step (map-NamedType NamedType A (fold-NamedType A step) (NamedType-F.Enum name))
  fold-named_type-Enum name = ap fold_named_type (sym (named_type.rolls-Enum name)) ∙ fold-roll-NamedType A step (NamedType-F.Enum name)

  pub fold-named_type-Struct : (name : Name) → fold-NamedType A step (named_type.Struct name) ≡ step (map-NamedType NamedType A (fold-NamedType A step) (NamedType-F.Struct name))
  fold-named_type-Struct name = ap fold_named_type (sym (named_type.rolls-Struct name)) ∙ fold-roll-NamedType A step (NamedType-F.Struct name)

  pub fold-named_type-Optional : (inner : NamedType) → fold-NamedType A step (named_type.Optional inner) ≡ step (map-NamedType NamedType A (fold-NamedType A step) (NamedType-F.Optional inner))
  fold-named_type-Optional inner = ap fold_named_type (sym (named_type.rolls-Optional inner)) ∙ fold-roll-NamedType A step (NamedType-F.Optional inner)

  pub fold-named_type-Never : fold-NamedType A step named_type.Never ≡ step (map-NamedType NamedType A (fold-NamedType A step) NamedType-F.Never)
  fold-named_type-Never = ap fold_named_type (sym named_type.rolls-Never) ∙ fold-roll-NamedType A step NamedType-F.Never

pub ruleset expr_rules = (fold-expr-Or, fold-expr-And, fold-expr-Compare, fold-expr-Is, fold-expr-Unary, fold-expr-Field, fold-expr-Literal, fold-expr-None, fold-expr-Some, fold-expr-This, fold-expr-Name, fold-expr-ForeignCall, fold-expr-Call, fold-expr-Struct, fold-expr-Arithmetic, fold-expr-Query, fold-expr-Exists, fold-expr-Count, fold-expr-If, expr.outs-Or, expr.outs-And, expr.outs-Compare, expr.outs-Is, expr.outs-Unary, expr.outs-Field, expr.outs-Literal, expr.outs-None, expr.outs-Some, expr.outs-This, expr.outs-Name, expr.outs-ForeignCall, expr.outs-Call, expr.outs-Struct, expr.outs-Arithmetic, expr.outs-Query, expr.outs-Exists, expr.outs-Count, expr.outs-If)

pub ruleset stmt_rules = (fold-stmt-Let, fold-stmt-Check, fold-stmt-If, fold-stmt-Match, fold-stmt-Finish, fold-stmt-Map, fold-stmt-Publish, fold-stmt-Return, stmt.outs-Let, stmt.outs-Check, stmt.outs-If, stmt.outs-Match, stmt.outs-Finish, stmt.outs-Map, stmt.outs-Publish, stmt.outs-Return)

pub ruleset field_type_rules = (fold-field_type-Int, fold-field_type-Bool, fold-field_type-Str, fold-field_type-Raw, fold-field_type-Ident, fold-field_type-Enum, fold-field_type-Struct, fold-field_type-Optional, field_type.outs-Int, field_type.outs-Bool, field_type.outs-Str, field_type.outs-Raw, field_type.outs-Ident, field_type.outs-Enum, field_type.outs-Struct, field_type.outs-Optional)

pub ruleset named_type_rules = (fold-named_type-Int, fold-named_type-Bool, fold-named_type-Str, fold-named_type-Raw, fold-named_type-Ident, fold-named_type-Enum, fold-named_type-Struct, fold-named_type-Optional, fold-named_type-Never, named_type.outs-Int, named_type.outs-Bool, named_type.outs-Str, named_type.outs-Raw, named_type.outs-Ident, named_type.outs-Enum, named_type.outs-Struct, named_type.outs-Optional, named_type.outs-Never)

pub ruleset tree_rules = (expr_rules, stmt_rules, field_type_rules, named_type_rules)
