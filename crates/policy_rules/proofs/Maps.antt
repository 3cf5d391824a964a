-- What a map over one layer of an expression does to the lists, gaps and blocks inside it. The maps of options and of enums do not compute at a variable, so
-- they are named by way of the layer.
use Rattle.std.proofs.Common.{◌≡◌, List, [], ◌∷◌, map, Option, Some, None, refl, ap}
use Rattle.policy_ast.specs.declared.bind.Bind.{Bind}
use Rattle.policy_ast.specs.declared.expr.ElseExpr.{ElseExpr}
use Rattle.policy_ast.specs.declared.expr.ElseExpr.TheVariants as else_expr
use Rattle.policy_ast.specs.declared.expr.Expr.{map-Expr}
use Rattle.policy_ast.specs.declared.expr.Expr.TheOpen.{Expr-F}
use Rattle.policy_ast.specs.declared.expr.ExprBlock.{ExprBlock}
use Rattle.policy_ast.specs.declared.expr.IfExpr.{IfExpr}
use Rattle.policy_ast.specs.declared.expr.Let.{Let}
use Rattle.policy_ast.specs.declared.pattern.Free.{Free}
use Rattle.policy_ast.specs.declared.pattern.Pattern.{Pattern}
use Rattle.policy_rules.specs.Expressions.{value_part}

module _ {A : Type 0} where
  abbrev first_gap : List (Free A) → Option A
  first_gap [] = None
  first_gap (x ∷ more) = x.value

  abbrev gap_in : Expr-F A → Option A
  gap_in (Expr-F.Query p) = first_gap p.keys
  gap_in other = None

  abbrev values_in : Expr-F A → Option (List (Free A))
  values_in (Expr-F.Query p) = p.values
  values_in other = None

  abbrev otherwise_in : Expr-F A → A → ElseExpr A
  otherwise_in (Expr-F.If x) a = x.otherwise
  otherwise_in other a = else_expr.If a

module _ {X A : Type 0} where
  abbrev pub map_bind : (X → A) → Bind X → Bind A
  map_bind f b = record { name = b.name; value = f b.value }

  abbrev pub map_let : (X → A) → Let X → Let A
  map_let f b = record { name = b.name; value = f b.value }

  abbrev pub map_block : (X → A) → ExprBlock X → ExprBlock A
  map_block f b = record { lets = map (map_let f) b.lets; value = f b.value }

  -- an expression or a `?`
  abbrev pub map_gap : (X → A) → Option X → Option A
  map_gap f o = gap_in (map-Expr X A f (Expr-F.Query (record { fact = []; keys = record { name = []; value = o } ∷ []; values = None })))

  abbrev pub map_free : (X → A) → Free X → Free A
  map_free f x = record { name = x.name; value = map_gap f x.value }

  abbrev pub map_values : (X → A) → Option (List (Free X)) → Option (List (Free A))
  map_values f o = values_in (map-Expr X A f (Expr-F.Query (record { fact = []; keys = []; values = o })))

  abbrev pub map_pattern : (X → A) → Pattern X → Pattern A
  map_pattern f p = record { fact = p.fact; keys = map (map_free f) p.keys; values = map_values f p.values }

  -- what follows `else`, of the `if` around it
  abbrev pub map_else : (X → A) → IfExpr X → ElseExpr X → ElseExpr A
  map_else f x e = otherwise_in (map-Expr X A f (Expr-F.If (record { head = x.head; then = x.then; otherwise = e }))) (f x.head)

  -- these are the maps
  pattern_map : (f : X → A) (p : Pattern X) → map-Expr X A f (Expr-F.Query p) ≡ Expr-F.Query (map_pattern f p)
  pattern_map f p = refl

  choice_map : (f : X → A) (x : IfExpr X) → map-Expr X A f (Expr-F.If x) ≡ Expr-F.If (record { head = f x.head; then = map_block f x.then; otherwise = map_else f x x.otherwise })
  choice_map f x = refl

  -- ---- names and values behind a map

  pub bind_names : (f : X → A) (bs : List (Bind X)) → map (λ b. b.name) (map (map_bind f) bs) ≡ map (λ b. b.name) bs
  bind_names f [] = refl
  bind_names f (b ∷ bs) = ap (λ names. b.name ∷ names) (bind_names f bs)

  pub bind_values : (f : X → A) (bs : List (Bind X)) → map (λ b. b.value) (map (map_bind f) bs) ≡ map f (map (λ b. b.value) bs)
  bind_values f [] = refl
  bind_values f (b ∷ bs) = ap (λ values. f b.value ∷ values) (bind_values f bs)

  pub free_names : (f : X → A) (xs : List (Free X)) → map (λ x. x.name) (map (map_free f) xs) ≡ map (λ x. x.name) xs
  free_names f [] = refl
  free_names f (x ∷ xs) = ap (λ names. x.name ∷ names) (free_names f xs)

  pub free_values : (f : X → A) (xs : List (Free X)) → map (λ x. x.value) (map (map_free f) xs) ≡ map (map_gap f) (map (λ x. x.value) xs)
  free_values f [] = refl
  free_values f (x ∷ xs) = ap (λ values. map_gap f x.value ∷ values) (free_values f xs)

  pub value_part_map : (f : X → A) (o : Option (List (Free X))) → value_part (map_values f o) ≡ map (map_free f) (value_part o)
  value_part_map f None = refl
  value_part_map f (Some xs) = refl
