-- What calls only what one test lets be called, calls only what a wider test lets be called.
use Rattle.std.proofs.Common.{◌≡◌, Bool, true, ◌&&◌, List, [], ◌∷◌, map, Option, Some, None, unwrap_or, refl, sym, subst, ◌∙◌}
use Rattle.std.specs.List.{list_all}
use Rattle.base_bytes.proofs.Bools.{and_both, and_then}
use Rattle.policy_ast.specs.declared.bind.Bind.{Bind}
use Rattle.policy_ast.specs.declared.expr.ElseExpr.{ElseExpr}
use Rattle.policy_ast.specs.declared.expr.ElseExpr.TheVariants as else_expr
use Rattle.policy_ast.specs.declared.expr.Expr.{Expr, fold-roll-Expr, ind-Expr, map-Expr, roll-Expr}
use Rattle.policy_ast.specs.declared.expr.Expr.TheOpen.{Expr-F}
use Rattle.policy_ast.specs.declared.expr.ExprBlock.{ExprBlock}
use Rattle.policy_ast.specs.declared.expr.IfExpr.{IfExpr}
use Rattle.policy_ast.specs.declared.expr.Let.{Let}
use Rattle.policy_ast.specs.declared.finish.FinishStmt.{FinishStmt}
use Rattle.policy_ast.specs.declared.finish.FinishStmt.TheVariants as finish
use Rattle.policy_ast.specs.declared.item.Item.{Item}
use Rattle.policy_ast.specs.declared.item.Item.TheVariants as item
use Rattle.policy_ast.specs.declared.item.Section.{Section}
use Rattle.policy_ast.specs.declared.item.Section.TheVariants as section
use Rattle.policy_ast.specs.declared.pattern.Free.{Free}
use Rattle.policy_ast.specs.declared.pattern.Pattern.{Pattern}
use Rattle.policy_ast.specs.declared.statement.Arm.{Arm}
use Rattle.policy_ast.specs.declared.statement.Else.{Else}
use Rattle.policy_ast.specs.declared.statement.Else.TheVariants as else_stmt
use Rattle.policy_ast.specs.declared.statement.Stmt.{Stmt, fold-roll-Stmt, ind-Stmt, map-Stmt, roll-Stmt}
use Rattle.policy_ast.specs.declared.statement.Stmt.TheOpen.{Stmt-F}
use Rattle.policy_rules.proofs.Maps.{map_bind, map_block, map_else as map_else_expr, map_free, map_gap, map_let, map_pattern, map_values}
use Rattle.policy_rules.proofs.StatementMaps.{map_arm, map_else}
use Rattle.policy_rules.specs.Calls.{Callee, a_finish_function, a_function, all_hold, binds_call, binds_hold, block_holds, called_calls, else_holds, else_stmt_calls, expression_calls, expression_calls_layer, finish_calls, gap_calls, gaps_call, gaps_hold, item_calls, pattern_calls, pattern_holds, section_calls, statement_calls, statement_calls_layer}
use Rattle.policy_rules.specs.Expressions.{value_part}
use Rattle.policy_rules.specs.Names.{Name}

and_wider : (a b c d : Bool) → (a ≡ true → c ≡ true) → (b ≡ true → d ≡ true) → (a && b) ≡ true → (c && d) ≡ true
and_wider a b c d first second both = and_then a b both (λ one other. and_both c d (first one) (second other))

all_wider : {A : Type 0} (p q : A → Bool) → ((x : A) → p x ≡ true → q x ≡ true) → (xs : List A) → list_all p xs ≡ true → list_all q xs ≡ true
all_wider p q wider [] all = refl
all_wider p q wider (x ∷ xs) all = and_wider (p x) (list_all p xs) (q x) (list_all q xs) (wider x) (all_wider p q wider xs) all

module _ (may more : Callee → Name → Bool) (wider : (callee : Callee) (name : Name) → may callee name ≡ true → more callee name ≡ true) where
  abbrev narrow : Expr → Bool
  narrow = expression_calls may

  abbrev wide : Expr → Bool
  wide = expression_calls more

  abbrev Widens : Expr → Type 0
  Widens e = narrow e ≡ true → wide e ≡ true

  abbrev Child : Type 0
  Child = (e : Expr) × Widens e

  abbrev tree : Child → Expr
  tree c = c.0

  abbrev plain : Expr-F Child → Expr-F Expr
  plain layer = map-Expr Child Expr tree layer

  arguments_wider : (cs : List Child) → all_hold (map narrow (map tree cs)) ≡ true → all_hold (map wide (map tree cs)) ≡ true
  arguments_wider [] all = refl
  arguments_wider (c ∷ cs) all = and_wider (narrow c.0) (all_hold (map narrow (map tree cs))) (wide c.0) (all_hold (map wide (map tree cs))) c.1 (arguments_wider cs) all

  binds_wider : (binds : List (Bind Child)) → binds_hold (map (map_bind narrow) (map (map_bind tree) binds)) ≡ true → binds_hold (map (map_bind wide) (map (map_bind tree) binds)) ≡ true
  binds_wider [] all = refl
  binds_wider (b ∷ binds) all =
      and_wider (narrow b.value.0) (binds_hold (map (map_bind narrow) (map (map_bind tree) binds))) (wide b.value.0) (binds_hold (map (map_bind wide) (map (map_bind tree) binds))) b.value.1 (binds_wider binds) all

  gap_wider : (o : Option Child) → unwrap_or (map_gap narrow (map_gap tree o)) true ≡ true → unwrap_or (map_gap wide (map_gap tree o)) true ≡ true
  gap_wider None is = refl
  gap_wider (Some c) is = c.1 is

  gaps_wider : (xs : List (Free Child)) → gaps_hold (map (map_free narrow) (map (map_free tree) xs)) ≡ true → gaps_hold (map (map_free wide) (map (map_free tree) xs)) ≡ true
  gaps_wider [] all = refl
  gaps_wider (x ∷ xs) all =
      and_wider (unwrap_or (map_gap narrow (map_gap tree x.value)) true) (gaps_hold (map (map_free narrow) (map (map_free tree) xs))) (unwrap_or (map_gap wide (map_gap tree x.value)) true)
      (gaps_hold (map (map_free wide) (map (map_free tree) xs))) (gap_wider x.value) (gaps_wider xs) all

  values_wider : (o : Option (List (Free Child))) → gaps_hold (value_part (map_values narrow (map_values tree o))) ≡ true → gaps_hold (value_part (map_values wide (map_values tree o))) ≡ true
  values_wider None all = refl
  values_wider (Some xs) all = gaps_wider xs all

  pattern_wider : (p : Pattern Child) → pattern_holds (map_pattern narrow (map_pattern tree p)) ≡ true → pattern_holds (map_pattern wide (map_pattern tree p)) ≡ true
  pattern_wider p all =
      and_wider (gaps_hold (map (map_free narrow) (map (map_free tree) p.keys))) (gaps_hold (value_part (map_values narrow (map_values tree p.values)))) (gaps_hold (map (map_free wide) (map (map_free tree) p.keys)))
      (gaps_hold (value_part (map_values wide (map_values tree p.values)))) (gaps_wider p.keys) (values_wider p.values) all

  lets_wider : (lets : List (Let Child)) → list_all (λ l. l.value) (map (map_let narrow) (map (map_let tree) lets)) ≡ true → list_all (λ l. l.value) (map (map_let wide) (map (map_let tree) lets)) ≡ true
  lets_wider [] all = refl
  lets_wider (l ∷ lets) all =
      and_wider (narrow l.value.0) (list_all (λ l. l.value) (map (map_let narrow) (map (map_let tree) lets))) (wide l.value.0) (list_all (λ l. l.value) (map (map_let wide) (map (map_let tree) lets))) l.value.1 (lets_wider lets) all

  block_wider : (b : ExprBlock Child) → block_holds (map_block narrow (map_block tree b)) ≡ true → block_holds (map_block wide (map_block tree b)) ≡ true
  block_wider b all =
      and_wider (list_all (λ l. l.value) (map (map_let narrow) (map (map_let tree) b.lets))) (narrow b.value.0) (list_all (λ l. l.value) (map (map_let wide) (map (map_let tree) b.lets))) (wide b.value.0) (lets_wider b.lets) b.value.1 all

  -- what follows `else`, of the `if` around it
  abbrev else_tree : IfExpr Child → ElseExpr Child → ElseExpr Expr
  else_tree x e = map_else_expr tree x e

  abbrev head_tree : IfExpr Child → IfExpr Expr
  head_tree x = record { head = x.head.0; then = map_block tree x.then; otherwise = else_tree x x.otherwise }

  else_wider : (x : IfExpr Child) (e : ElseExpr Child) → else_holds (map_else_expr narrow (head_tree x) (else_tree x e)) ≡ true → else_holds (map_else_expr wide (head_tree x) (else_tree x e)) ≡ true
  else_wider x (else_expr.Block b) all = block_wider b all
  else_wider x (else_expr.If c) all = c.1 all

  layers : (layer : Expr-F Child) → expression_calls_layer may (map-Expr Expr Bool narrow (plain layer)) ≡ true → expression_calls_layer more (map-Expr Expr Bool wide (plain layer)) ≡ true
  layers (Expr-F.Or a b) is = and_wider (narrow a.0) (narrow b.0) (wide a.0) (wide b.0) a.1 b.1 is
  layers (Expr-F.And a b) is = and_wider (narrow a.0) (narrow b.0) (wide a.0) (wide b.0) a.1 b.1 is
  layers (Expr-F.Compare a op b) is = and_wider (narrow a.0) (narrow b.0) (wide a.0) (wide b.0) a.1 b.1 is
  layers (Expr-F.Is a op) is = a.1 is
  layers (Expr-F.Unary op a) is = a.1 is
  layers (Expr-F.Field a name) is = a.1 is
  layers (Expr-F.Literal l) is = refl
  layers Expr-F.None is = refl
  layers (Expr-F.Some a) is = a.1 is
  layers Expr-F.This is = refl
  layers (Expr-F.Name name) is = refl
  layers (Expr-F.ForeignCall of called arguments) is = arguments_wider arguments is
  layers (Expr-F.Call called arguments) is =
      and_wider (may a_function called) (all_hold (map narrow (map tree arguments))) (more a_function called) (all_hold (map wide (map tree arguments))) (wider a_function called) (arguments_wider arguments) is
  layers (Expr-F.Struct name binds) is = binds_wider binds is
  layers (Expr-F.Arithmetic op a b) is = and_wider (narrow a.0) (narrow b.0) (wide a.0) (wide b.0) a.1 b.1 is
  layers (Expr-F.Query p) is = pattern_wider p is
  layers (Expr-F.Exists p) is = pattern_wider p is
  layers (Expr-F.Count op n p) is = pattern_wider p is
  layers (Expr-F.If x) is =
      let narrow_then : Bool = block_holds (map_block narrow (map_block tree x.then)) in
      let wide_then : Bool = block_holds (map_block wide (map_block tree x.then)) in
      and_wider (narrow x.head.0 && narrow_then) (else_holds (map_else_expr narrow (head_tree x) (else_tree x x.otherwise))) (wide x.head.0 && wide_then)
      (else_holds (map_else_expr wide (head_tree x) (else_tree x x.otherwise))) (and_wider (narrow x.head.0) narrow_then (wide x.head.0) wide_then x.head.1 (block_wider x.then)) (else_wider x x.otherwise) is

  step : (layer : Expr-F Child) → Widens (roll-Expr (plain layer))
  step layer is = fold-roll-Expr Bool (expression_calls_layer more) (plain layer) ∙ layers layer (sym (fold-roll-Expr Bool (expression_calls_layer may) (plain layer)) ∙ is)

  expression_wider : (e : Expr) → Widens e
  expression_wider = ind-Expr Widens (λ x y is. subst (λ l. Widens (roll-Expr l)) is (step y))

  -- ---- patterns and `finish`

  bound_wider : (binds : List (Bind Expr)) → binds_call may binds ≡ true → binds_call more binds ≡ true
  bound_wider binds is = all_wider (λ b. narrow b.value) (λ b. wide b.value) (λ b is. expression_wider b.value is) binds is

  open_gap_wider : (o : Option Expr) → gap_calls may o ≡ true → gap_calls more o ≡ true
  open_gap_wider None is = refl
  open_gap_wider (Some e) is = expression_wider e is

  open_gaps_wider : (xs : List (Free Expr)) → gaps_call may xs ≡ true → gaps_call more xs ≡ true
  open_gaps_wider xs is = all_wider (λ x. gap_calls may x.value) (λ x. gap_calls more x.value) (λ x is. open_gap_wider x.value is) xs is

  pattern_calls_wider : (p : Pattern Expr) → pattern_calls may p ≡ true → pattern_calls more p ≡ true
  pattern_calls_wider p is =
      and_wider (gaps_call may p.keys) (gaps_call may (value_part p.values)) (gaps_call more p.keys) (gaps_call more (value_part p.values)) (open_gaps_wider p.keys) (open_gaps_wider (value_part p.values)) is

  finish_wider : (s : FinishStmt) → finish_calls may s ≡ true → finish_calls more s ≡ true
  finish_wider (finish.Create name keys values) is = and_wider (binds_call may keys) (binds_call may values) (binds_call more keys) (binds_call more values) (bound_wider keys) (bound_wider values) is
  finish_wider (finish.Update p to) is = and_wider (pattern_calls may p) (binds_call may to) (pattern_calls more p) (binds_call more to) (pattern_calls_wider p) (bound_wider to) is
  finish_wider (finish.Delete name keys) is = bound_wider keys is
  finish_wider (finish.Emit e) is = expression_wider e is
  finish_wider (finish.Call called arguments) is =
      and_wider (may a_finish_function called) (list_all narrow arguments) (more a_finish_function called) (list_all wide arguments) (wider a_finish_function called) (all_wider narrow wide expression_wider arguments) is

  -- ---- statements

  abbrev narrow_stmt : Stmt → Bool
  narrow_stmt = statement_calls may

  abbrev wide_stmt : Stmt → Bool
  wide_stmt = statement_calls more

  abbrev WidensStmt : Stmt → Type 0
  WidensStmt s = narrow_stmt s ≡ true → wide_stmt s ≡ true

  abbrev ChildStmt : Type 0
  ChildStmt = (s : Stmt) × WidensStmt s

  abbrev stmt_of : ChildStmt → Stmt
  stmt_of c = c.0

  abbrev plain_stmt : Stmt-F ChildStmt → Stmt-F Stmt
  plain_stmt layer = map-Stmt ChildStmt Stmt stmt_of layer

  body_wider : (cs : List ChildStmt) → all_hold (map narrow_stmt (map stmt_of cs)) ≡ true → all_hold (map wide_stmt (map stmt_of cs)) ≡ true
  body_wider [] all = refl
  body_wider (c ∷ cs) all = and_wider (narrow_stmt c.0) (all_hold (map narrow_stmt (map stmt_of cs))) (wide_stmt c.0) (all_hold (map wide_stmt (map stmt_of cs))) c.1 (body_wider cs) all

  else_stmt_wider : (o : Option (Else ChildStmt)) → else_stmt_calls may (map_else narrow_stmt (map_else stmt_of o)) ≡ true → else_stmt_calls more (map_else wide_stmt (map_else stmt_of o)) ≡ true
  else_stmt_wider None all = refl
  else_stmt_wider (Some (else_stmt.Block cs)) all = body_wider cs all
  else_stmt_wider (Some (else_stmt.If c)) all = c.1 all

  arms_wider : (arms : List (Arm ChildStmt)) → list_all (λ a. all_hold a.body) (map (map_arm narrow_stmt) (map (map_arm stmt_of) arms)) ≡ true
      → list_all (λ a. all_hold a.body) (map (map_arm wide_stmt) (map (map_arm stmt_of) arms)) ≡ true
  arms_wider [] all = refl
  arms_wider (a ∷ arms) all =
      and_wider (all_hold (map narrow_stmt (map stmt_of a.body))) (list_all (λ a. all_hold a.body) (map (map_arm narrow_stmt) (map (map_arm stmt_of) arms))) (all_hold (map wide_stmt (map stmt_of a.body)))
      (list_all (λ a. all_hold a.body) (map (map_arm wide_stmt) (map (map_arm stmt_of) arms))) (body_wider a.body) (arms_wider arms) all

  stmt_layers : (layer : Stmt-F ChildStmt) → statement_calls_layer may (map-Stmt Stmt Bool narrow_stmt (plain_stmt layer)) ≡ true → statement_calls_layer more (map-Stmt Stmt Bool wide_stmt (plain_stmt layer)) ≡ true
  stmt_layers (Stmt-F.Let l) is = expression_wider l.value is
  stmt_layers (Stmt-F.Check e) is = expression_wider e is
  stmt_layers (Stmt-F.If x) is =
      let narrow_then : Bool = all_hold (map narrow_stmt (map stmt_of x.then)) in
      let wide_then : Bool = all_hold (map wide_stmt (map stmt_of x.then)) in
      and_wider (narrow x.head && narrow_then) (else_stmt_calls may (map_else narrow_stmt (map_else stmt_of x.otherwise))) (wide x.head && wide_then)
      (else_stmt_calls more (map_else wide_stmt (map_else stmt_of x.otherwise))) (and_wider (narrow x.head) narrow_then (wide x.head) wide_then (expression_wider x.head) (body_wider x.then)) (else_stmt_wider x.otherwise) is
  stmt_layers (Stmt-F.Match e arms) is =
      and_wider (narrow e) (list_all (λ a. all_hold a.body) (map (map_arm narrow_stmt) (map (map_arm stmt_of) arms))) (wide e) (list_all (λ a. all_hold a.body) (map (map_arm wide_stmt) (map (map_arm stmt_of) arms)))
      (expression_wider e) (arms_wider arms) is
  stmt_layers (Stmt-F.Finish statements) is = all_wider (finish_calls may) (finish_calls more) finish_wider statements is
  stmt_layers (Stmt-F.Map p name body) is =
      and_wider (pattern_calls may p) (all_hold (map narrow_stmt (map stmt_of body))) (pattern_calls more p) (all_hold (map wide_stmt (map stmt_of body))) (pattern_calls_wider p) (body_wider body) is
  stmt_layers (Stmt-F.Publish e) is = expression_wider e is
  stmt_layers (Stmt-F.Return e) is = expression_wider e is

  stmt_step : (layer : Stmt-F ChildStmt) → WidensStmt (roll-Stmt (plain_stmt layer))
  stmt_step layer is = fold-roll-Stmt Bool (statement_calls_layer more) (plain_stmt layer) ∙ stmt_layers layer (sym (fold-roll-Stmt Bool (statement_calls_layer may) (plain_stmt layer)) ∙ is)

  statement_wider : (s : Stmt) → WidensStmt s
  statement_wider = ind-Stmt WidensStmt (λ x y is. subst (λ l. WidensStmt (roll-Stmt l)) is (stmt_step y))

  -- ---- items

  section_wider : (s : Section) → section_calls may s ≡ true → section_calls more s ≡ true
  section_wider (section.Policy body) is = all_wider narrow_stmt wide_stmt statement_wider body is
  section_wider (section.Recall body) is = all_wider narrow_stmt wide_stmt statement_wider body is
  section_wider s is = refl

  pub item_wider : (i : Item) → item_calls may i ≡ true → item_calls more i ≡ true
  item_wider (item.Command name sections) is = all_wider (section_calls may) (section_calls more) section_wider sections is
  item_wider (item.Function name parameters result body) is = all_wider narrow_stmt wide_stmt statement_wider body is
  item_wider (item.FinishFunction name parameters body) is = all_wider (finish_calls may) (finish_calls more) finish_wider body is
  item_wider (item.Action name parameters body) is = all_wider narrow_stmt wide_stmt statement_wider body is
  item_wider i is = refl

  pub called_wider : (callee : Callee) (o : Option Item) → called_calls may callee o ≡ true → called_calls more callee o ≡ true
  called_wider a_function (Some (item.Function name parameters result body)) is = all_wider narrow_stmt wide_stmt statement_wider body is
  called_wider a_finish_function (Some (item.FinishFunction name parameters body)) is = all_wider (finish_calls may) (finish_calls more) finish_wider body is
  called_wider callee o is = refl
