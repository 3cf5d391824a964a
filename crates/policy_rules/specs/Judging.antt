-- Whether statements are well typed, and the scope behind each, found from their parts.
use Rattle.std.specs.Prelude.{Bool, true, false, not, ◌&&◌, List, [], ◌∷◌, map, Option, Some, None}
use Rattle.std.specs.Option.{is_some}
use Rattle.policy_ast.specs.declared.bind.Bind.{Bind}
use Rattle.policy_ast.specs.declared.expr.Expr.{Expr}
use Rattle.policy_ast.specs.declared.finish.FinishStmt.{FinishStmt}
use Rattle.policy_ast.specs.declared.finish.FinishStmt.TheVariants as finish
use Rattle.policy_ast.specs.declared.item.Item.{Item}
use Rattle.policy_ast.specs.declared.pattern.Pattern.{Pattern}
use Rattle.policy_ast.specs.declared.statement.Arm.{Arm}
use Rattle.policy_ast.specs.declared.statement.Else.{Else}
use Rattle.policy_ast.specs.declared.statement.Else.TheVariants as else_stmt
use Rattle.policy_ast.specs.declared.statement.Stmt.{Stmt, fold-Stmt}
use Rattle.policy_ast.specs.declared.statement.Stmt.TheOpen.{Stmt-F}
use Rattle.policy_rules.specs.Coverage.{are_arm_patterns}
use Rattle.policy_rules.specs.FieldLists.{arguments_fit, in_any_order, in_declared_order}
use Rattle.policy_rules.specs.Finish.{are_plain, binds_all_keys, is_plain}
use Rattle.policy_rules.specs.Heads.{FactHead, fact_named, finish_function_named, is_command, is_effect, names_item}
use Rattle.policy_rules.specs.Scopes.{Scope, may_introduce, with_name}
use Rattle.policy_rules.specs.Statements.{is_last_layer, within_finish}
use Rattle.policy_rules.specs.Types.{fits}
use Rattle.policy_rules.specs.declared.context.Context.{Context}
use Rattle.policy_rules.specs.declared.types.NamedType.TheVariants as ty
use Rattle.policy_rules.specs.Inference.{◌>>=◌, found_pattern, inferred, is_action_block, is_bool, is_command_block, only_if, pattern_of, struct_of, types_within}

-- There is something, and it passes a test.
abbrev pub holds : {A : Type 0} → Option A → (A → Bool) → Bool
holds None test = false
holds (Some x) test = test x

module _ (items : List Item) (context : Context) where
  abbrev pub is_bool_within : Expr → Scope → Bool
  is_bool_within e scope = holds (inferred items context e scope) is_bool

  abbrev pub is_pattern_within : Pattern Expr → Scope → Bool
  is_pattern_within p scope = is_some (pattern_of items context (found_pattern items context p) scope ty.Bool)

  -- ---- finish

  abbrev pub keys_bound : FactHead → List (Bind Expr) → Scope → Bool
  keys_bound fact binds scope =
      holds (types_within items context (map (λ b. b.value) binds) scope) (λ types. are_plain (map (λ b. b.value) binds) && in_declared_order fact.keys (map (λ b. b.name) binds) types)

  abbrev pub values_bound : FactHead → List (Bind Expr) → Scope → Bool
  values_bound fact binds scope =
      holds (types_within items context (map (λ b. b.value) binds) scope) (λ types. are_plain (map (λ b. b.value) binds) && in_any_order fact.values (map (λ b. b.name) binds) types)

  abbrev pub finish_stmt_is : FinishStmt → Scope → Bool
  finish_stmt_is (finish.Create name keys values) scope = holds (fact_named items name) (λ fact. keys_bound fact keys scope && values_bound fact values scope)
  finish_stmt_is (finish.Update p to) scope =
      holds (fact_named items p.fact) (λ fact. not fact.is_immutable && (is_pattern_within p scope && (binds_all_keys fact p && values_bound fact to scope)))
  finish_stmt_is (finish.Delete name keys) scope = holds (fact_named items name) (λ fact. keys_bound fact keys scope)
  finish_stmt_is (finish.Emit e) scope = holds (inferred items context e scope >>= struct_of) (λ effect. is_plain e && names_item is_effect items effect)
  finish_stmt_is (finish.Call name arguments) scope =
      holds (finish_function_named items name) (λ parameters. holds (types_within items context arguments scope) (λ types. are_plain arguments && arguments_fit types parameters))

  abbrev pub finish_stmts_are : List FinishStmt → Scope → Bool
  finish_stmts_are [] scope = true
  finish_stmts_are (s ∷ more) scope = finish_stmt_is s scope && finish_stmts_are more scope

-- What is found of a statement: whether it has to be the last of its list, and the scope behind it where it is well typed.
pub record Judged : Type 0 where
  pub is_last : Bool
  pub behind : Scope → Option Scope

-- A statement that has to be the last of its list may stand before these.
abbrev pub precedes : Bool → List Judged → Bool
precedes is_last [] = true
precedes is_last more = not is_last

abbrev pub block_is : List Judged → Scope → Bool
block_is [] scope = true
block_is (s ∷ more) scope = holds (s.behind scope) (λ after. precedes s.is_last more && block_is more after)

abbrev pub else_is : Option (Else Judged) → Scope → Bool
else_is None scope = true
else_is (Some (else_stmt.Block body)) scope = block_is body scope
else_is (Some (else_stmt.If s)) scope = is_some (s.behind scope)

abbrev pub arms_are : List (Arm Judged) → Scope → Bool
arms_are [] scope = true
arms_are (a ∷ arms) scope = block_is a.body scope && arms_are arms scope

module _ (items : List Item) (context : Context) where
  abbrev pub behind_layer : Stmt-F Judged → Scope → Option Scope
  behind_layer (Stmt-F.Let l) scope = inferred items context l.value scope >>= λ t. only_if (may_introduce items context scope l.name) (Some (with_name scope l.name t))
  behind_layer (Stmt-F.Check e) scope = only_if (is_bool_within items context e scope) (Some scope)
  behind_layer (Stmt-F.If x) scope = only_if (is_bool_within items context x.head scope && (block_is x.then scope && else_is x.otherwise scope)) (Some scope)
  behind_layer (Stmt-F.Match e arms) scope =
      inferred items context e scope >>= λ t. only_if (are_arm_patterns items t (map (λ a. a.pattern) arms) && arms_are arms scope) (Some scope)
  behind_layer (Stmt-F.Finish statements) scope = only_if (is_command_block context.block && finish_stmts_are items (within_finish context) statements scope) (Some scope)
  behind_layer (Stmt-F.Map p name body) scope =
      only_if (is_action_block context.block && (is_pattern_within items context p scope && (may_introduce items context scope name
      && block_is body (with_name scope name (ty.Struct p.fact))))) (Some scope)
  behind_layer (Stmt-F.Publish e) scope =
      inferred items context e scope >>= struct_of >>= λ command. only_if (is_action_block context.block && names_item is_command items command) (Some scope)
  behind_layer (Stmt-F.Return e) scope = context.result >>= λ result. inferred items context e scope >>= λ t. only_if (fits t result) (Some scope)

  abbrev pub judged_layer : Stmt-F Judged → Judged
  judged_layer layer = record { is_last = is_last_layer layer; behind = behind_layer layer }

  abbrev pub judged : Stmt → Judged
  judged = fold-Stmt Judged judged_layer

  -- A list of statements is well typed in a scope.
  abbrev pub body_is : List Stmt → Scope → Bool
  body_is body scope = block_is (map judged body) scope
