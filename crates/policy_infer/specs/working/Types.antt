-- The types that are inferred, under names that proofs of code keep shut.
use Rattle.std.specs.Prelude.{Bool, false, List, [], ◌∷◌, codes, map, Option, Some, None, option_map}
use Rattle.std.specs.Str.{bytes_eq}
use Rattle.policy_ast.specs.declared.bind.Bind.{Bind}
use Rattle.policy_ast.specs.declared.expr.ElseExpr.{ElseExpr}
use Rattle.policy_ast.specs.declared.expr.ElseExpr.TheVariants as else_expr
use Rattle.policy_ast.specs.declared.expr.Expr.{Expr, out-Expr}
use Rattle.policy_ast.specs.declared.expr.Expr.TheOpen.{Expr-F}
use Rattle.policy_ast.specs.declared.expr.ExprBlock.{ExprBlock}
use Rattle.policy_ast.specs.declared.expr.Let.{Let}
use Rattle.policy_ast.specs.declared.item.Item.{Item}
use Rattle.policy_ast.specs.declared.pattern.Free.{Free}
use Rattle.policy_ast.specs.declared.pattern.Pattern.{Pattern}
use Rattle.policy_rules.specs.Expressions.{value_part}
use Rattle.policy_rules.specs.Names.{Name}
use Rattle.policy_rules.specs.Scopes.{Scope, may_introduce, with_name}
use Rattle.policy_rules.specs.declared.context.Context.{Context}
use Rattle.policy_rules.specs.declared.types.NamedType.{NamedType}
use Rattle.policy_rules.specs.Inference.{◌>>=◌, inferred, only_if, with_pattern}

-- one layer of an expression is the name `envelope`
abbrev pub is_envelope_layer : Expr-F Expr → Bool
is_envelope_layer (Expr-F.Name name) = bytes_eq name (codes "envelope")
is_envelope_layer other = false

-- the expression is the name `envelope`
abbrev pub is_envelope : Expr → Bool
is_envelope e = is_envelope_layer (out-Expr e)

-- for each of the expressions, whether it is
abbrev pub are_envelopes : List Expr → List Bool
are_envelopes = map is_envelope

module _ (items : List Item) (context : Context) where
  -- the type of an expression
  unfoldable pub type_of : Expr → Scope → Option NamedType
  type_of e scope = inferred items context e scope

  -- the types of a list of expressions
  abbrev pub types_of : List Expr → Scope → Option (List NamedType)
  types_of [] scope = Some []
  types_of (e ∷ es) scope = type_of e scope >>= λ t. option_map (λ types. t ∷ types) (types_of es scope)

  -- the types of the expressions that are bound
  abbrev pub bind_types : List (Bind Expr) → Scope → Option (List NamedType)
  bind_types [] scope = Some []
  bind_types (b ∷ binds) scope = type_of b.value scope >>= λ t. option_map (λ types. t ∷ types) (bind_types binds scope)

  -- the type of an expression, where no `?` stands in its place
  abbrev pub gap_type_of : Option Expr → Scope → Option (Option NamedType)
  gap_type_of None scope = Some None
  gap_type_of (Some e) scope = option_map Some (type_of e scope)

  -- the same, one by one
  abbrev pub gap_types_of : List (Free Expr) → Scope → Option (List (Option NamedType))
  gap_types_of [] scope = Some []
  gap_types_of (f ∷ frees) scope = gap_type_of f.value scope >>= λ t. option_map (λ types. t ∷ types) (gap_types_of frees scope)

  -- this type, where the pattern is one of its fact's rows
  abbrev pub pattern_type : Pattern Expr → NamedType → Scope → Option NamedType
  pattern_type p t scope =
      with_pattern items p.fact (map (λ f. f.name) p.keys) (gap_types_of p.keys scope) (map (λ f. f.name) (value_part p.values)) (gap_types_of (value_part p.values) scope) t

  -- the scope with one more name, for a value of the type that was found
  abbrev pub introduced : Name → Scope → Option NamedType → Option Scope
  introduced name scope found = found >>= λ t. only_if (may_introduce items context scope name) (Some (with_name scope name t))

  -- the scope behind `let`s
  abbrev pub lets_behind : List (Let Expr) → Scope → Option Scope
  lets_behind [] scope = Some scope
  lets_behind (l ∷ lets) scope = type_of l.value scope >>= λ t. only_if (may_introduce items context scope l.name) (lets_behind lets (with_name scope l.name t))

  -- the type of a block's value
  abbrev pub block_of : ExprBlock Expr → Scope → Option NamedType
  block_of b scope = lets_behind b.lets scope >>= λ inner. type_of b.value inner

  -- the type of what follows `else`
  abbrev pub otherwise_of : ElseExpr Expr → Scope → Option NamedType
  otherwise_of (else_expr.Block b) scope = block_of b scope
  otherwise_of (else_expr.If e) scope = type_of e scope
