-- The type of an expression, found from the types of its parts.
use Rattle.std.specs.Prelude.{Bool, true, false, ◌&&◌, ◌||◌, List, [], ◌∷◌, codes, map, Option, Some, None, option_map, option_and_then}
use Rattle.std.specs.Str.{bytes_eq}
use Rattle.policy_ast.specs.declared.expr.Arithmetic.{Arithmetic}
use Rattle.policy_ast.specs.declared.expr.Comparison.{Comparison}
use Rattle.policy_ast.specs.declared.expr.ElseExpr.{ElseExpr}
use Rattle.policy_ast.specs.declared.expr.ElseExpr.TheVariants as else_expr
use Rattle.policy_ast.specs.declared.expr.Expr.{Expr, fold-Expr}
use Rattle.policy_ast.specs.declared.expr.Expr.TheOpen.{Expr-F}
use Rattle.policy_ast.specs.declared.expr.ExprBlock.{ExprBlock}
use Rattle.policy_ast.specs.declared.expr.Let.{Let}
use Rattle.policy_ast.specs.declared.expr.Unary.{Unary}
use Rattle.policy_ast.specs.declared.expr.Unary.TheVariants as unary
use Rattle.policy_ast.specs.declared.item.Item.{Item}
use Rattle.policy_ast.specs.declared.pattern.Free.{Free}
use Rattle.policy_ast.specs.declared.pattern.Pattern.{Pattern}
use Rattle.policy_rules.specs.Expressions.{arithmetic_type, count_type, is_device_call, is_envelope_call, is_equality, is_positive, value_part}
use Rattle.policy_rules.specs.FieldLists.{arguments_fit, in_any_order, pattern_fits}
use Rattle.policy_rules.specs.Heads.{fact_named, function_named, literal_type, struct_named}
use Rattle.policy_rules.specs.Names.{Name}
use Rattle.policy_rules.specs.Scopes.{Scope, may_introduce, name_type, type_in, with_name}
use Rattle.policy_rules.specs.Types.{joined}
use Rattle.policy_rules.specs.declared.context.Block.{Block}
use Rattle.policy_rules.specs.declared.context.Block.TheVariants as block
use Rattle.policy_rules.specs.declared.context.Context.{Context}
use Rattle.policy_rules.specs.declared.types.NamedType.{NamedType, out-NamedType}
use Rattle.policy_rules.specs.declared.types.NamedType.TheOpen.{NamedType-F}
use Rattle.policy_rules.specs.declared.types.NamedType.TheVariants as ty

infixl 20 ◌>>=◌
abbrev pub ◌>>=◌ : {A B : Type 0} → Option A → (A → Option B) → Option B
o >>= f = option_and_then f o

abbrev pub only_if : {A : Type 0} → Bool → Option A → Option A
only_if true o = o
only_if false o = None

-- ---- what a type is

abbrev pub is_bool_layer : NamedType-F NamedType → Bool
is_bool_layer NamedType-F.Bool = true
is_bool_layer other = false

abbrev pub is_bool : NamedType → Bool
is_bool t = is_bool_layer (out-NamedType t)

abbrev pub is_int_layer : NamedType-F NamedType → Bool
is_int_layer NamedType-F.Int = true
is_int_layer other = false

abbrev pub is_int : NamedType → Bool
is_int t = is_int_layer (out-NamedType t)

abbrev pub inner_layer : NamedType-F NamedType → Option NamedType
inner_layer (NamedType-F.Optional inner) = Some inner
inner_layer other = None

-- the type inside an optional
abbrev pub inner_of : NamedType → Option NamedType
inner_of t = inner_layer (out-NamedType t)

abbrev pub struct_layer : NamedType-F NamedType → Option Name
struct_layer (NamedType-F.Struct name) = Some name
struct_layer other = None

-- the name of a struct
abbrev pub struct_of : NamedType → Option Name
struct_of t = struct_layer (out-NamedType t)

abbrev pub is_command_block : Block → Bool
is_command_block block.Command = true
is_command_block other = false

abbrev pub is_action_block : Block → Bool
is_action_block block.Action = true
is_action_block other = false

-- ---- one form each, by what was found of its parts

abbrev pub logic_of : Option NamedType → Option NamedType → Option NamedType
logic_of o p = o >>= λ t. p >>= λ u. only_if (is_bool t && is_bool u) (Some ty.Bool)

abbrev pub compared_type : Bool → NamedType → NamedType → Option NamedType
compared_type true t u = option_map (λ w. ty.Bool) (joined t u)
compared_type false t u = only_if (is_int t && is_int u) (Some ty.Bool)

abbrev pub compare_of : Comparison → Option NamedType → Option NamedType → Option NamedType
compare_of op o p = o >>= λ t. p >>= λ u. compared_type (is_equality op) t u

abbrev pub presence_of : Option NamedType → Option NamedType
presence_of o = o >>= λ t. option_map (λ inner. ty.Bool) (inner_of t)

abbrev pub unary_type : Unary → NamedType → Option NamedType
unary_type unary.Not t = only_if (is_bool t) (Some ty.Bool)
unary_type unary.Unwrap t = inner_of t
unary_type unary.CheckUnwrap t = inner_of t

abbrev pub unary_of : Unary → Option NamedType → Option NamedType
unary_of op o = o >>= λ t. unary_type op t

abbrev pub calculation_of : Arithmetic → Option NamedType → Option NamedType → Option NamedType
calculation_of op o p = o >>= λ t. p >>= λ u. only_if (is_int t && is_int u) (Some (arithmetic_type op))

abbrev pub choice_of : Option NamedType → Option NamedType → Option NamedType → Option NamedType
choice_of head o p = head >>= λ c. o >>= λ t. p >>= λ u. only_if (is_bool c) (joined t u)

abbrev pub field_of : List Item → Name → Option NamedType → Option NamedType
field_of items name o = o >>= λ t. struct_of t >>= λ struct_name. struct_named items struct_name >>= λ fields. type_in fields name

abbrev pub call_of : List Item → Name → Option (List NamedType) → Option NamedType
call_of items called found = function_named items called >>= λ function. found >>= λ types. only_if (arguments_fit types function.parameters) (Some function.result)

abbrev pub struct_literal_of : List Item → Name → List Name → Option (List NamedType) → Option NamedType
struct_literal_of items struct_name names found =
    struct_named items struct_name >>= λ declared. found >>= λ types. only_if (in_any_order declared names types) (Some (ty.Struct struct_name))

-- whether there is one argument, the name `envelope`, is told for each argument
abbrev pub is_one_envelope : List Bool → Bool
is_one_envelope (b ∷ []) = b
is_one_envelope other = false

abbrev pub is_nothing : List Bool → Bool
is_nothing [] = true
is_nothing other = false

abbrev pub is_foreign_call : Context → Name → Name → List Bool → Bool
is_foreign_call context of called envelopes =
    (is_envelope_call of called && (is_command_block context.block && is_one_envelope envelopes))
    || (is_device_call of called && (is_action_block context.block && is_nothing envelopes))

-- where a pattern is one of its fact's rows, this type
abbrev pub with_pattern : List Item → Name → List Name → Option (List (Option NamedType)) → List Name → Option (List (Option NamedType)) → NamedType → Option NamedType
with_pattern items fact_name key_names keys value_names values t =
    fact_named items fact_name >>= λ fact. keys >>= λ ks. values >>= λ vs. only_if (pattern_fits fact key_names ks value_names vs) (Some t)

-- ---- all forms

-- What is found of an expression: whether it is the name `envelope`, and its type in a scope.
pub record Found : Type 0 where
  pub is_envelope : Bool
  pub type_within : Scope → Option NamedType

abbrev pub all_types : List Found → Scope → Option (List NamedType)
all_types [] scope = Some []
all_types (f ∷ found) scope = f.type_within scope >>= λ t. option_map (λ types. t ∷ types) (all_types found scope)

abbrev pub gap_types : List (Option Found) → Scope → Option (List (Option NamedType))
gap_types [] scope = Some []
gap_types (None ∷ found) scope = option_map (λ types. None ∷ types) (gap_types found scope)
gap_types (Some f ∷ found) scope = f.type_within scope >>= λ t. option_map (λ types. Some t ∷ types) (gap_types found scope)

module _ (items : List Item) (context : Context) where
  abbrev pub introduced : List (Let Found) → Scope → Option Scope
  introduced [] scope = Some scope
  introduced (l ∷ lets) scope = l.value.type_within scope >>= λ t. only_if (may_introduce items context scope l.name) (introduced lets (with_name scope l.name t))

  abbrev pub block_type : ExprBlock Found → Scope → Option NamedType
  block_type b scope = introduced b.lets scope >>= λ inner. b.value.type_within inner

  abbrev pub else_type : ElseExpr Found → Scope → Option NamedType
  else_type (else_expr.Block b) scope = block_type b scope
  else_type (else_expr.If f) scope = f.type_within scope

  abbrev pub pattern_of : Pattern Found → Scope → NamedType → Option NamedType
  pattern_of p scope t =
      with_pattern items p.fact (map (λ f. f.name) p.keys) (gap_types (map (λ f. f.value) p.keys) scope)
      (map (λ f. f.name) (value_part p.values)) (gap_types (map (λ f. f.value) (value_part p.values)) scope) t

  abbrev pub type_layer : Expr-F Found → Scope → Option NamedType
  type_layer (Expr-F.Or a b) scope = logic_of (a.type_within scope) (b.type_within scope)
  type_layer (Expr-F.And a b) scope = logic_of (a.type_within scope) (b.type_within scope)
  type_layer (Expr-F.Compare a op b) scope = compare_of op (a.type_within scope) (b.type_within scope)
  type_layer (Expr-F.Is a op) scope = presence_of (a.type_within scope)
  type_layer (Expr-F.Unary op a) scope = unary_of op (a.type_within scope)
  type_layer (Expr-F.Field a name) scope = field_of items name (a.type_within scope)
  type_layer (Expr-F.Literal l) scope = literal_type items l
  type_layer Expr-F.None scope = Some (ty.Optional ty.Never)
  type_layer (Expr-F.Some a) scope = option_map ty.Optional (a.type_within scope)
  type_layer Expr-F.This scope = option_map ty.Struct context.this
  type_layer (Expr-F.Name name) scope = name_type items context scope name
  type_layer (Expr-F.ForeignCall of called arguments) scope = only_if (is_foreign_call context of called (map (λ f. f.is_envelope) arguments)) (Some ty.Ident)
  type_layer (Expr-F.Call called arguments) scope = call_of items called (all_types arguments scope)
  type_layer (Expr-F.Struct name binds) scope = struct_literal_of items name (map (λ b. b.name) binds) (all_types (map (λ b. b.value) binds) scope)
  type_layer (Expr-F.Arithmetic op a b) scope = calculation_of op (a.type_within scope) (b.type_within scope)
  type_layer (Expr-F.Query p) scope = pattern_of p scope (ty.Optional (ty.Struct p.fact))
  type_layer (Expr-F.Exists p) scope = pattern_of p scope ty.Bool
  type_layer (Expr-F.Count op n p) scope = only_if (is_positive n) (pattern_of p scope (count_type op))
  type_layer (Expr-F.If x) scope = choice_of (x.head.type_within scope) (block_type x.then scope) (else_type x.otherwise scope)

  abbrev pub envelope_layer : Expr-F Found → Bool
  envelope_layer (Expr-F.Name name) = bytes_eq name (codes "envelope")
  envelope_layer other = false

  abbrev pub found_layer : Expr-F Found → Found
  found_layer layer = record { is_envelope = envelope_layer layer; type_within = type_layer layer }

  abbrev pub found : Expr → Found
  found = fold-Expr Found found_layer

  -- the type of an expression in a scope, where it has one
  abbrev pub inferred : Expr → Scope → Option NamedType
  inferred e scope = (found e).type_within scope

  -- ---- parts of statements, by what is found of each expression

  abbrev pub found_gap : Option Expr → Option Found
  found_gap None = None
  found_gap (Some e) = Some (found e)

  abbrev pub found_free : Free Expr → Free Found
  found_free f = record { name = f.name; value = found_gap f.value }

  abbrev pub found_values : Option (List (Free Expr)) → Option (List (Free Found))
  found_values None = None
  found_values (Some fields) = Some (map found_free fields)

  abbrev pub found_pattern : Pattern Expr → Pattern Found
  found_pattern p = record { fact = p.fact; keys = map found_free p.keys; values = found_values p.values }

  -- the types of a list of expressions, where each has one
  abbrev pub types_within : List Expr → Scope → Option (List NamedType)
  types_within es scope = all_types (map found es) scope
