-- The scope behind statements, under names that proofs of code keep shut.
use Rattle.std.specs.Prelude.{Bool, true, not, ◌&&◌, List, [], ◌∷◌, map, Option, Some, None}
use Rattle.std.specs.Option.{is_some}
use Rattle.policy_ast.specs.declared.bind.Bind.{Bind}
use Rattle.policy_ast.specs.declared.expr.Expr.{Expr}
use Rattle.policy_ast.specs.declared.finish.FinishStmt.{FinishStmt}
use Rattle.policy_ast.specs.declared.finish.FinishStmt.TheVariants as finish
use Rattle.policy_ast.specs.declared.item.Item.{Item}
use Rattle.policy_ast.specs.declared.pattern.Pattern.{Pattern}
use Rattle.policy_ast.specs.declared.statement.Arm.{Arm}
use Rattle.policy_ast.specs.declared.statement.Else.{Else}
use Rattle.policy_ast.specs.declared.statement.Else.TheVariants as else_stmt
use Rattle.policy_ast.specs.declared.statement.Stmt.{Stmt}
use Rattle.policy_rules.specs.Coverage.{are_arm_patterns}
use Rattle.policy_rules.specs.FieldLists.{arguments_fit, in_any_order, in_declared_order}
use Rattle.policy_rules.specs.Finish.{are_plain, binds_all_keys, is_plain}
use Rattle.policy_rules.specs.Heads.{FactHead, fact_named, finish_function_named, is_command, is_effect, names_item}
use Rattle.policy_rules.specs.Names.{Name}
use Rattle.policy_rules.specs.Scopes.{Scope, may_introduce, with_name}
use Rattle.policy_rules.specs.Statements.{may_precede, within_finish}
use Rattle.policy_rules.specs.Types.{fits}
use Rattle.policy_rules.specs.declared.context.Context.{Context}
use Rattle.policy_rules.specs.declared.types.Named.{Named}
use Rattle.policy_rules.specs.declared.types.NamedType.{NamedType}
use Rattle.policy_rules.specs.declared.types.NamedType.TheVariants as ty
use Rattle.policy_rules.specs.Inference.{◌>>=◌, is_action_block, is_bool, is_command_block, only_if, struct_of}
use Rattle.policy_rules.specs.Judging.{holds, judged}
use Rattle.policy_infer.specs.working.Types.{bind_types, pattern_type, type_of, types_of}

-- each key of a fact in order, by the types that were found
abbrev pub keys_bound_of : FactHead → List (Bind Expr) → Option (List NamedType) → Bool
keys_bound_of fact binds found = holds found (λ types. are_plain (map (λ b. b.value) binds) && in_declared_order fact.keys (map (λ b. b.name) binds) types)

-- each value field of a fact once, by the types that were found
abbrev pub values_bound_of : FactHead → List (Bind Expr) → Option (List NamedType) → Bool
values_bound_of fact binds found = holds found (λ types. are_plain (map (λ b. b.value) binds) && in_any_order fact.values (map (λ b. b.name) binds) types)

-- the arguments of a finish function
abbrev pub arguments_of : List Named → List Expr → Option (List NamedType) → Bool
arguments_of parameters arguments found = holds found (λ types. are_plain arguments && arguments_fit types parameters)

-- what `emit` takes
abbrev pub emits_of : List Item → Expr → Option NamedType → Bool
emits_of items e found = holds (found >>= struct_of) (λ effect. is_plain e && names_item is_effect items effect)

-- what `check` and the head of an `if` take
abbrev pub is_bool_of : Option NamedType → Bool
is_bool_of found = holds found is_bool

-- the patterns of a `match` over a value of the type that was found
abbrev pub matches_of : List Item → List (Arm Stmt) → Option NamedType → Bool
matches_of items arms found = holds found (λ t. are_arm_patterns items t (map (λ a. a.pattern) arms))

-- what `return` takes
abbrev pub returns_of : Context → Option NamedType → Bool
returns_of context found = holds context.result (λ result. holds found (λ t. fits t result))

-- ---- statements of `finish`

module _ (items : List Item) (context : Context) where
  -- the statement of `finish` is well typed
  abbrev pub finish_is : FinishStmt → Scope → Bool
  finish_is (finish.Create name keys values) scope =
      holds (fact_named items name) (λ fact. keys_bound_of fact keys (bind_types items context keys scope) && values_bound_of fact values (bind_types items context values scope))
  finish_is (finish.Update p to) scope =
      holds (fact_named items p.fact) (λ fact.
      not fact.is_immutable && (is_some (pattern_type items context p ty.Bool scope) && (binds_all_keys fact p && values_bound_of fact to (bind_types items context to scope))))
  finish_is (finish.Delete name keys) scope = holds (fact_named items name) (λ fact. keys_bound_of fact keys (bind_types items context keys scope))
  finish_is (finish.Emit e) scope = emits_of items e (type_of items context e scope)
  finish_is (finish.Call name arguments) scope =
      holds (finish_function_named items name) (λ parameters. arguments_of parameters arguments (types_of items context arguments scope))

  -- all of these are
  abbrev pub finish_are : List FinishStmt → Scope → Bool
  finish_are [] scope = true
  finish_are (s ∷ more) scope = finish_is s scope && finish_are more scope

-- ---- other statements

module _ (items : List Item) (context : Context) where
  -- the scope behind a statement
  unfoldable pub behind : Stmt → Scope → Option Scope
  behind s scope = (judged items context s).behind scope

  -- a list of statements is well typed
  abbrev pub are_stmts : List Stmt → Scope → Bool
  are_stmts [] scope = true
  are_stmts (s ∷ more) scope = holds (behind s scope) (λ after. may_precede s more && are_stmts more after)

  -- what follows `else`, if anything
  abbrev pub is_else : Option (Else Stmt) → Scope → Bool
  is_else None scope = true
  is_else (Some (else_stmt.Block body)) scope = are_stmts body scope
  is_else (Some (else_stmt.If s)) scope = is_some (behind s scope)

  -- the bodies of all arms
  abbrev pub are_arms : List (Arm Stmt) → Scope → Bool
  are_arms [] scope = true
  are_arms (a ∷ arms) scope = are_stmts a.body scope && are_arms arms scope

  -- ---- forms, by the types of their expressions

  -- the scope of the body of `map`
  abbrev pub mapped : Pattern Expr → Name → Scope → Option Scope
  mapped p name scope =
      only_if (is_action_block context.block && (is_some (pattern_type items context p ty.Bool scope) && may_introduce items context scope name)) (Some (with_name scope name (ty.Struct p.fact)))

  -- what `publish` takes
  abbrev pub publishes_of : Option NamedType → Bool
  publishes_of found = holds (found >>= struct_of) (λ command. is_action_block context.block && names_item is_command items command)

  -- a block of `finish`
  abbrev pub finishes : List FinishStmt → Scope → Bool
  finishes statements scope = is_command_block context.block && finish_are items (within_finish context) statements scope
