-- What a map over one layer of a statement does to the lists and the `else` inside it.
use Rattle.std.proofs.Common.{◌≡◌, List, [], ◌∷◌, map, Option, None, refl, ap}
use Rattle.policy_ast.specs.declared.expr.Expr.TheVariants as expr
use Rattle.policy_ast.specs.declared.statement.Arm.{Arm}
use Rattle.policy_ast.specs.declared.statement.Else.{Else}
use Rattle.policy_ast.specs.declared.statement.Stmt.{map-Stmt}
use Rattle.policy_ast.specs.declared.statement.Stmt.TheOpen.{Stmt-F}
use Rattle.policy_rules.specs.Statements.{is_last_layer}

module _ {A : Type 0} where
  abbrev else_in : Stmt-F A → Option (Else A)
  else_in (Stmt-F.If x) = x.otherwise
  else_in other = None

module _ {X A : Type 0} where
  abbrev pub map_arm : (X → A) → Arm X → Arm A
  map_arm f a = record { pattern = a.pattern; body = map f a.body }

  abbrev pub map_else : (X → A) → Option (Else X) → Option (Else A)
  map_else f o = else_in (map-Stmt X A f (Stmt-F.If (record { head = expr.This; then = []; otherwise = o })))

  pub arm_patterns : (f : X → A) (arms : List (Arm X)) → map (λ a. a.pattern) (map (map_arm f) arms) ≡ map (λ a. a.pattern) arms
  arm_patterns f [] = refl
  arm_patterns f (a ∷ arms) = ap (λ patterns. a.pattern ∷ patterns) (arm_patterns f arms)

  pub last_map : (f : X → A) (layer : Stmt-F X) → is_last_layer (map-Stmt X A f layer) ≡ is_last_layer layer
  last_map f (Stmt-F.Let l) = refl
  last_map f (Stmt-F.Check e) = refl
  last_map f (Stmt-F.If x) = refl
  last_map f (Stmt-F.Match e arms) = refl
  last_map f (Stmt-F.Finish statements) = refl
  last_map f (Stmt-F.Map p name body) = refl
  last_map f (Stmt-F.Publish e) = refl
  last_map f (Stmt-F.Return e) = refl
