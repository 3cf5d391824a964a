-- The scope behind each form of statement: one equation a form, over names that stay shut.
use Rattle.std.proofs.Common.{◌≡◌, Bool, true, false, not, ◌&&◌, List, [], ◌∷◌, map, Option, Some, None, refl, ap, ◌∙◌}
use Rattle.std.specs.Option.{is_some}
use Rattle.policy_ast.specs.declared.expr.Expr.{Expr}
use Rattle.policy_ast.specs.declared.expr.Let.{Let}
use Rattle.policy_ast.specs.declared.finish.FinishStmt.{FinishStmt}
use Rattle.policy_ast.specs.declared.finish.FinishStmt.TheVariants as finish
use Rattle.policy_ast.specs.declared.item.Item.{Item}
use Rattle.policy_ast.specs.declared.pattern.Pattern.{Pattern}
use Rattle.policy_ast.specs.declared.statement.Arm.{Arm}
use Rattle.policy_ast.specs.declared.statement.Else.{Else}
use Rattle.policy_ast.specs.declared.statement.Else.TheVariants as else_stmt
use Rattle.policy_ast.specs.declared.statement.IfStmt.{IfStmt}
use Rattle.policy_ast.specs.declared.statement.Stmt.{Stmt, fold_out-Stmt, out-Stmt}
use Rattle.policy_ast.specs.declared.statement.Stmt.TheVariants as stmt
use Rattle.policy_infer.proofs.FormTypes.{bind_list_same, list_same, pattern_found}
use Rattle.policy_rules.proofs.Folds.{fold-stmt-Check, fold-stmt-Finish, fold-stmt-If, fold-stmt-Let, fold-stmt-Map, fold-stmt-Match, fold-stmt-Publish, fold-stmt-Return}
use Rattle.policy_rules.proofs.StatementMaps.{arm_patterns, last_map, map_arm, map_else}
use Rattle.policy_rules.specs.Coverage.{are_arm_patterns}
use Rattle.policy_rules.specs.Heads.{is_command, names_item}
use Rattle.policy_rules.specs.Names.{Name}
use Rattle.policy_rules.specs.Scopes.{Scope, may_introduce, with_name}
use Rattle.policy_rules.specs.Statements.{is_last_layer, may_precede, within_finish}
use Rattle.policy_rules.specs.Types.{fits}
use Rattle.policy_rules.specs.declared.context.Context.{Context}
use Rattle.policy_rules.specs.declared.types.NamedType.TheVariants as ty
use Rattle.policy_rules.specs.Inference.{◌>>=◌, is_action_block, is_command_block, only_if, struct_of}
use Rattle.policy_rules.specs.Judging.{Judged, arms_are, block_is, else_is, finish_stmt_is, finish_stmts_are, holds, judged, judged_layer, precedes}
use Rattle.policy_infer.specs.working.Behind.{are_arms, are_stmts, behind, finish_are, finish_is, finishes, is_bool_of, is_else, mapped, matches_of, publishes_of, returns_of}
use Rattle.policy_infer.specs.working.Types.{introduced, pattern_type, type_of}

both_in : {A : Type 0} (o : Option A) (f : A → Bool) (b : Bool) (s : Scope) → (o >>= λ x. only_if (f x && b) (Some s)) ≡ only_if (holds o f && b) (Some s)
both_in None f b s = refl
both_in (Some x) f b s = refl

one_in : {A : Type 0} (o : Option A) (f : A → Bool) (s : Scope) → (o >>= λ x. only_if (f x) (Some s)) ≡ only_if (holds o f) (Some s)
one_in None f s = refl
one_in (Some x) f s = refl

two_in : {A B : Type 0} (o : Option A) (p : Option B) (f : A → B → Bool) (s : Scope) → (o >>= λ x. p >>= λ y. only_if (f x y) (Some s)) ≡ only_if (holds o (λ x. holds p (f x))) (Some s)
two_in None p f s = refl
two_in (Some x) p f s = one_in p (f x) s

module _ (items : List Item) (context : Context) where
  abbrev judge : Stmt → Judged
  judge = judged items context

  last_same : (s : Stmt) → (judge s).is_last ≡ is_last_layer (out-Stmt s)
  last_same s = ap (λ j. j.is_last) (fold_out-Stmt Judged (judged_layer items context) s) ∙ last_map judge (out-Stmt s)

  precedes_same : (s : Stmt) (more : List Stmt) → precedes (judge s).is_last (map judge more) ≡ may_precede s more
  precedes_same s [] = refl
  precedes_same s (m ∷ more) = ap not (last_same s)

  -- a list of statements
  pub stmts_same : (body : List Stmt) (scope : Scope) → block_is (map judge body) scope ≡ are_stmts items context body scope
  unfolding behind
  stmts_same [] scope = refl
  stmts_same (s ∷ more) scope = by (behind items context s scope) (stmts_same more)
    where
      by : (o : Option Scope) → ((after : Scope) → block_is (map judge more) after ≡ are_stmts items context more after)
          → holds o (λ after. precedes (judge s).is_last (map judge more) && block_is (map judge more) after)
          ≡ holds o (λ after. may_precede s more && are_stmts items context more after)
      by None later = refl
      by (Some after) later = ap (λ b. b && block_is (map judge more) after) (precedes_same s more) ∙ ap (λ b. may_precede s more && b) (later after)

  else_same : (o : Option (Else Stmt)) (scope : Scope) → else_is (map_else judge o) scope ≡ is_else items context o scope
  unfolding behind
  else_same None scope = refl
  else_same (Some (else_stmt.Block body)) scope = stmts_same body scope
  else_same (Some (else_stmt.If s)) scope = refl

  arms_same : (arms : List (Arm Stmt)) (scope : Scope) → arms_are (map (map_arm judge) arms) scope ≡ are_arms items context arms scope
  arms_same [] scope = refl
  arms_same (a ∷ arms) scope = ap (λ b. b && arms_are (map (map_arm judge) arms) scope) (stmts_same a.body scope) ∙ ap (λ b. are_stmts items context a.body scope && b) (arms_same arms scope)

  -- ---- statements of `finish`

  finish_same : (s : FinishStmt) (scope : Scope) → finish_stmt_is items context s scope ≡ finish_is items context s scope
  unfolding type_of
  finish_same (finish.Create name keys values) scope = rw (bind_list_same items context keys scope, bind_list_same items context values scope) refl
  finish_same (finish.Update p to) scope = rw (bind_list_same items context to scope, pattern_found items context p scope ty.Bool) refl
  finish_same (finish.Delete name keys) scope = rw (bind_list_same items context keys scope) refl
  finish_same (finish.Emit e) scope = refl
  finish_same (finish.Call name arguments) scope = rw (list_same items context arguments scope) refl

  pub finishes_same : (statements : List FinishStmt) (scope : Scope) → finish_stmts_are items context statements scope ≡ finish_are items context statements scope
  finishes_same [] scope = refl
  finishes_same (s ∷ more) scope = ap (λ b. b && finish_stmts_are items context more scope) (finish_same s scope) ∙ ap (λ b. finish_is items context s scope && b) (finishes_same more scope)

module _ (items : List Item) (context : Context) (scope : Scope) where
  -- ---- forms

  pub let_is : (l : Let Expr) → behind items context (stmt.Let l) scope ≡ introduced items context l.name scope (type_of items context l.value scope)
  unfolding behind type_of
  let_is l = ap (λ j. j.behind scope) (fold-stmt-Let (judged_layer items context) l)

  pub check_is : (e : Expr) → behind items context (stmt.Check e) scope ≡ only_if (is_bool_of (type_of items context e scope)) (Some scope)
  unfolding behind type_of
  check_is e = ap (λ j. j.behind scope) (fold-stmt-Check (judged_layer items context) e)

  pub choice_is : (x : IfStmt Stmt) → behind items context (stmt.If x) scope
      ≡ only_if (is_bool_of (type_of items context x.head scope) && (are_stmts items context x.then scope && is_else items context x.otherwise scope)) (Some scope)
  unfolding behind type_of
  choice_is x =
      ap (λ j. j.behind scope) (fold-stmt-If (judged_layer items context) x)
      ∙ ap (λ b. only_if (is_bool_of (type_of items context x.head scope) && (b && else_is (map_else (judged items context) x.otherwise) scope)) (Some scope)) (stmts_same items context x.then scope)
      ∙ ap (λ b. only_if (is_bool_of (type_of items context x.head scope) && (are_stmts items context x.then scope && b)) (Some scope)) (else_same items context x.otherwise scope)

  pub match_is : (e : Expr) (arms : List (Arm Stmt)) → behind items context (stmt.Match e arms) scope
      ≡ only_if (matches_of items arms (type_of items context e scope) && are_arms items context arms scope) (Some scope)
  unfolding behind type_of
  match_is e arms =
      ap (λ j. j.behind scope) (fold-stmt-Match (judged_layer items context) e arms)
      ∙ both_in (type_of items context e scope) (λ t. are_arm_patterns items t (map (λ a. a.pattern) (map (map_arm (judged items context)) arms))) (arms_are (map (map_arm (judged items context)) arms) scope) scope
      ∙ ap (λ ps. only_if (holds (type_of items context e scope) (λ t. are_arm_patterns items t ps) && arms_are (map (map_arm (judged items context)) arms) scope) (Some scope)) (arm_patterns (judged items context) arms)
      ∙ ap (λ b. only_if (matches_of items arms (type_of items context e scope) && b) (Some scope)) (arms_same items context arms scope)

  pub finish_block_is : (statements : List FinishStmt) → behind items context (stmt.Finish statements) scope ≡ only_if (finishes items context statements scope) (Some scope)
  unfolding behind
  finish_block_is statements =
      ap (λ j. j.behind scope) (fold-stmt-Finish (judged_layer items context) statements)
      ∙ ap (λ b. only_if (is_command_block context.block && b) (Some scope)) (finishes_same items (within_finish context) statements scope)

  pub map_is : (p : Pattern Expr) (name : Name) (body : List Stmt) → behind items context (stmt.Map p name body) scope
      ≡ (mapped items context p name scope >>= λ inner. only_if (are_stmts items context body inner) (Some scope))
  unfolding behind
  map_is p name body =
      ap (λ j. j.behind scope) (fold-stmt-Map (judged_layer items context) p name body)
      ∙ ap (λ o. only_if (is_action_block context.block && (is_some o && (may_introduce items context scope name && block_is (map (judged items context) body) (with_name scope name (ty.Struct p.fact))))) (Some scope))
      (pattern_found items context p scope ty.Bool)
      ∙ ap (λ b. only_if (is_action_block context.block && (is_some (pattern_type items context p ty.Bool scope) && (may_introduce items context scope name && b))) (Some scope))
      (stmts_same items context body (with_name scope name (ty.Struct p.fact)))
      ∙ by (is_action_block context.block) (is_some (pattern_type items context p ty.Bool scope)) (may_introduce items context scope name)
    where
      by : (a b c : Bool) → only_if (a && (b && (c && are_stmts items context body (with_name scope name (ty.Struct p.fact))))) (Some scope)
          ≡ (only_if (a && (b && c)) (Some (with_name scope name (ty.Struct p.fact))) >>= λ inner. only_if (are_stmts items context body inner) (Some scope))
      by false b c = refl
      by true false c = refl
      by true true false = refl
      by true true true = refl

  pub publish_is : (e : Expr) → behind items context (stmt.Publish e) scope ≡ only_if (publishes_of items context (type_of items context e scope)) (Some scope)
  unfolding behind type_of
  publish_is e =
      ap (λ j. j.behind scope) (fold-stmt-Publish (judged_layer items context) e)
      ∙ one_in (type_of items context e scope >>= struct_of) (λ command. is_action_block context.block && names_item is_command items command) scope

  pub return_is : (e : Expr) → behind items context (stmt.Return e) scope ≡ only_if (returns_of context (type_of items context e scope)) (Some scope)
  unfolding behind type_of
  return_is e =
      ap (λ j. j.behind scope) (fold-stmt-Return (judged_layer items context) e)
      ∙ two_in context.result (type_of items context e scope) (λ result t. fits t result) scope
