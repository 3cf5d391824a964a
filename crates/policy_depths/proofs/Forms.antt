-- What each form of a statement calls.
use Rattle.std.proofs.Common.{◌≡◌, ◌∙◌, ℕ, Bool, ◌&&◌, List, [], ◌∷◌, map, Option, Some, None, refl, ap, sym}
use Rattle.std.specs.List.{list_all}
use Rattle.policy_ast.specs.declared.bind.Bind.{Bind}
use Rattle.policy_ast.specs.declared.expr.Expr.{Expr}
use Rattle.policy_ast.specs.declared.expr.Expr.TheVariants as expr
use Rattle.policy_ast.specs.declared.expr.Let.{Let}
use Rattle.policy_ast.specs.declared.field.Field.{Field}
use Rattle.policy_ast.specs.declared.field.FieldType.{FieldType}
use Rattle.policy_ast.specs.declared.finish.FinishStmt.{FinishStmt}
use Rattle.policy_ast.specs.declared.finish.FinishStmt.TheVariants as finish
use Rattle.policy_ast.specs.declared.item.Item.{Item}
use Rattle.policy_ast.specs.declared.item.Item.TheVariants as item
use Rattle.policy_ast.specs.declared.item.Section.{Section}
use Rattle.policy_ast.specs.declared.item.Section.TheVariants as section
use Rattle.policy_ast.specs.declared.pattern.Free.{Free}
use Rattle.policy_ast.specs.declared.pattern.Pattern.{Pattern}
use Rattle.policy_ast.specs.declared.statement.Arm.{Arm}
use Rattle.policy_ast.specs.declared.statement.Else.{Else}
use Rattle.policy_ast.specs.declared.statement.Else.TheVariants as else_stmt
use Rattle.policy_ast.specs.declared.statement.IfStmt.{IfStmt}
use Rattle.policy_ast.specs.declared.statement.Stmt.{Stmt, fold-roll-Stmt, map-Stmt, roll-Stmt}
use Rattle.policy_ast.specs.declared.statement.Stmt.TheOpen.{Stmt-F}
use Rattle.policy_rules.specs.Calls.{a_finish_function, all_hold, binds_call, else_stmt_calls, expression_calls, finish_calls, gap_calls, gaps_call, item_calls, pattern_calls, section_calls, statement_calls, statement_calls_layer}
use Rattle.policy_rules.specs.Expressions.{value_part}
use Rattle.policy_depths.specs.working.Gathering.{call_passes, else_statement_passes, expression_passes, finish_passes, gap_passes, item_passes, statement_passes}

abbrev else_in : {A : Type 0} → Stmt-F A → Option (Else A)
else_in (Stmt-F.If x) = x.otherwise
else_in other = None

abbrev map_else : (Stmt → Bool) → Option (Else Stmt) → Option (Else Bool)
map_else f o = else_in (map-Stmt Stmt Bool f (Stmt-F.If (record { head = expr.This; then = []; otherwise = o })))

module _ (f : Stmt → Bool) where
  all_mapped : (ss : List Stmt) → all_hold (map f ss) ≡ list_all (λ s. f s) ss
  all_mapped [] = refl
  all_mapped (s ∷ ss) = ap (λ b. f s && b) (all_mapped ss)

  abbrev all_arms : List (Arm Bool) → Bool
  all_arms = list_all (λ a. all_hold a.body)

  arms_mapped : (arms : List (Arm Stmt)) → all_arms (map (λ a. record { pattern = a.pattern; body = map f a.body }) arms) ≡ list_all (λ a. list_all (λ s. f s) a.body) arms
  arms_mapped [] = refl
  arms_mapped (a ∷ arms) = rw (all_mapped a.body, arms_mapped arms) refl

module _ (items : List Item) (test : ℕ → Bool) where
  pub expression_open : (e : Expr) → expression_passes items test e ≡ expression_calls (call_passes items test) e
  unfolding expression_passes
  expression_open e = refl

  expressions_open : (es : List Expr) → list_all (λ e. expression_passes items test e) es ≡ list_all (expression_calls (call_passes items test)) es
  unfolding expression_passes
  expressions_open es = refl

  binds_open : (bs : List (Bind Expr)) → list_all (λ b. expression_passes items test b.value) bs ≡ binds_call (call_passes items test) bs
  unfolding expression_passes
  binds_open bs = refl

  gap_open : (o : Option Expr) → gap_passes items test o ≡ gap_calls (call_passes items test) o
  unfolding expression_passes
  gap_open None = refl
  gap_open (Some e) = refl

  gaps_open : (xs : List (Free Expr)) → list_all (λ x. gap_passes items test x.value) xs ≡ gaps_call (call_passes items test) xs
  gaps_open [] = refl
  gaps_open (x ∷ xs) = rw (gap_open x.value, gaps_open xs) refl

  pattern_open : (p : Pattern Expr) → (list_all (λ x. gap_passes items test x.value) p.keys && list_all (λ x. gap_passes items test x.value) (value_part p.values)) ≡ pattern_calls (call_passes items test) p
  pattern_open p = rw (gaps_open p.keys, gaps_open (value_part p.values)) refl

  statements_open : (ss : List Stmt) → list_all (λ s. statement_passes items test s) ss ≡ list_all (statement_calls (call_passes items test)) ss
  unfolding statement_passes
  statements_open ss = refl

  finishes_open : (ss : List FinishStmt) → list_all (λ s. finish_passes items test s) ss ≡ list_all (finish_calls (call_passes items test)) ss
  unfolding finish_passes
  finishes_open ss = refl

  -- ---- the forms of a statement of `finish`

  finish_open : (s : FinishStmt) → finish_passes items test s ≡ finish_calls (call_passes items test) s
  unfolding finish_passes
  finish_open s = refl

  pub finish_create : (s : FinishStmt) (name : List ℕ) (keys values : List (Bind Expr)) → s ≡ finish.Create name keys values
      → finish_passes items test s ≡ (list_all (λ b. expression_passes items test b.value) keys && list_all (λ b. expression_passes items test b.value) values)
  finish_create s name keys values is = finish_open s ∙ rw (is, binds_open keys, binds_open values) refl

  pub finish_update : (s : FinishStmt) (p : Pattern Expr) (to : List (Bind Expr)) → s ≡ finish.Update p to
      → finish_passes items test s ≡ ((list_all (λ x. gap_passes items test x.value) p.keys && list_all (λ x. gap_passes items test x.value) (value_part p.values))
      && list_all (λ b. expression_passes items test b.value) to)
  finish_update s p to is = finish_open s ∙ rw (is, pattern_open p, binds_open to) refl

  pub finish_delete : (s : FinishStmt) (name : List ℕ) (keys : List (Bind Expr)) → s ≡ finish.Delete name keys
      → finish_passes items test s ≡ list_all (λ b. expression_passes items test b.value) keys
  finish_delete s name keys is = finish_open s ∙ rw (is, binds_open keys) refl

  pub finish_emit : (s : FinishStmt) (e : Expr) → s ≡ finish.Emit e → finish_passes items test s ≡ expression_passes items test e
  finish_emit s e is = finish_open s ∙ rw (is, expression_open e) refl

  pub finish_call : (s : FinishStmt) (name : List ℕ) (arguments : List Expr) → s ≡ finish.Call name arguments
      → finish_passes items test s ≡ (call_passes items test a_finish_function name && list_all (λ e. expression_passes items test e) arguments)
  finish_call s name arguments is = finish_open s ∙ rw (is, expressions_open arguments) refl

  -- ---- the forms of a statement

  at_layer : (s : Stmt) (layer : Stmt-F Stmt) → s ≡ roll-Stmt layer → statement_passes items test s ≡ statement_calls_layer (call_passes items test) (map-Stmt Stmt Bool (statement_passes items test) layer)
  unfolding statement_passes
  at_layer s layer is = ap (λ s. statement_calls (call_passes items test) s) is ∙ fold-roll-Stmt Bool (statement_calls_layer (call_passes items test)) layer

  else_mapped : (o : Option (Else Stmt)) → else_stmt_calls (call_passes items test) (map_else (statement_passes items test) o) ≡ else_statement_passes items test o
  else_mapped None = refl
  else_mapped (Some (else_stmt.Block body)) = all_mapped (statement_passes items test) body
  else_mapped (Some (else_stmt.If s)) = refl

  pub let_is : (s : Stmt) (l : Let Expr) → s ≡ roll-Stmt (Stmt-F.Let l) → statement_passes items test s ≡ expression_passes items test l.value
  let_is s l is = at_layer s (Stmt-F.Let l) is ∙ sym (expression_open l.value)

  pub check_is : (s : Stmt) (e : Expr) → s ≡ roll-Stmt (Stmt-F.Check e) → statement_passes items test s ≡ expression_passes items test e
  check_is s e is = at_layer s (Stmt-F.Check e) is ∙ sym (expression_open e)

  pub publish_is : (s : Stmt) (e : Expr) → s ≡ roll-Stmt (Stmt-F.Publish e) → statement_passes items test s ≡ expression_passes items test e
  publish_is s e is = at_layer s (Stmt-F.Publish e) is ∙ sym (expression_open e)

  pub return_is : (s : Stmt) (e : Expr) → s ≡ roll-Stmt (Stmt-F.Return e) → statement_passes items test s ≡ expression_passes items test e
  return_is s e is = at_layer s (Stmt-F.Return e) is ∙ sym (expression_open e)

  pub if_is : (s : Stmt) (x : IfStmt Stmt) → s ≡ roll-Stmt (Stmt-F.If x)
      → statement_passes items test s ≡ ((expression_passes items test x.head && list_all (λ s. statement_passes items test s) x.then) && else_statement_passes items test x.otherwise)
  if_is s x is = at_layer s (Stmt-F.If x) is ∙ rw (expression_open x.head, all_mapped (statement_passes items test) x.then, else_mapped x.otherwise) refl

  pub match_is : (s : Stmt) (e : Expr) (arms : List (Arm Stmt)) → s ≡ roll-Stmt (Stmt-F.Match e arms)
      → statement_passes items test s ≡ (expression_passes items test e && list_all (λ a. list_all (λ s. statement_passes items test s) a.body) arms)
  match_is s e arms is = at_layer s (Stmt-F.Match e arms) is ∙ rw (expression_open e, arms_mapped (statement_passes items test) arms) refl

  pub finish_is : (s : Stmt) (all : List FinishStmt) → s ≡ roll-Stmt (Stmt-F.Finish all) → statement_passes items test s ≡ list_all (λ s. finish_passes items test s) all
  finish_is s all is = at_layer s (Stmt-F.Finish all) is ∙ sym (finishes_open all)

  pub map_is : (s : Stmt) (p : Pattern Expr) (name : List ℕ) (body : List Stmt) → s ≡ roll-Stmt (Stmt-F.Map p name body)
      → statement_passes items test s ≡ ((list_all (λ x. gap_passes items test x.value) p.keys && list_all (λ x. gap_passes items test x.value) (value_part p.values))
      && list_all (λ s. statement_passes items test s) body)
  map_is s p name body is = at_layer s (Stmt-F.Map p name body) is ∙ rw (pattern_open p, all_mapped (statement_passes items test) body) refl

  -- ---- sections and items

  pub policy_is : (s : Section) (body : List Stmt) → s ≡ section.Policy body → section_calls (call_passes items test) s ≡ list_all (λ s. statement_passes items test s) body
  policy_is s body is = rw (is, statements_open body) refl

  pub recall_is : (s : Section) (body : List Stmt) → s ≡ section.Recall body → section_calls (call_passes items test) s ≡ list_all (λ s. statement_passes items test s) body
  recall_is s body is = rw (is, statements_open body) refl

  pub item_open : (i : Item) → item_passes items test i ≡ item_calls (call_passes items test) i
  unfolding item_passes
  item_open i = refl

  pub function_is : (i : Item) (name : List ℕ) (parameters : List Field) (result : FieldType) (body : List Stmt) → i ≡ item.Function name parameters result body
      → item_passes items test i ≡ list_all (λ s. statement_passes items test s) body
  function_is i name parameters result body is = item_open i ∙ rw (is, statements_open body) refl

  pub finish_function_is : (i : Item) (name : List ℕ) (parameters : List Field) (body : List FinishStmt) → i ≡ item.FinishFunction name parameters body
      → item_passes items test i ≡ list_all (λ s. finish_passes items test s) body
  finish_function_is i name parameters body is = item_open i ∙ rw (is, finishes_open body) refl

  pub action_is : (i : Item) (name : List ℕ) (parameters : List Field) (body : List Stmt) → i ≡ item.Action name parameters body
      → item_passes items test i ≡ list_all (λ s. statement_passes items test s) body
  action_is i name parameters body is = item_open i ∙ rw (is, statements_open body) refl

  pub command_is : (i : Item) (name : List ℕ) (sections : List Section) → i ≡ item.Command name sections
      → item_passes items test i ≡ list_all (section_calls (call_passes items test)) sections
  command_is i name sections is = item_open i ∙ rw is refl
