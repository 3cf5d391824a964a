-- What each form of statement of an action does: one equation a form, over names that stay shut.
use Rattle.std.proofs.Common.{◌≡◌, ◌==◌, ◌-◌, Bool, true, false, cond, List, [], ◌∷◌, map, Option, Some, None, option_map, refl, ap, ◌∙◌}
use Rattle.base_bytes.specs.declared.value.Value.{Value}
use Rattle.fact_store.specs.Matching.{selected}
use Rattle.fact_store.specs.declared.row.Row.{Row}
use Rattle.policy_ast.specs.declared.expr.Expr.{Expr}
use Rattle.policy_ast.specs.declared.expr.Let.{Let}
use Rattle.policy_ast.specs.declared.finish.FinishStmt.{FinishStmt}
use Rattle.policy_ast.specs.declared.item.Item.{Item}
use Rattle.policy_ast.specs.declared.pattern.Pattern.{Pattern}
use Rattle.policy_ast.specs.declared.statement.Arm.{Arm}
use Rattle.policy_ast.specs.declared.statement.Else.{Else}
use Rattle.policy_ast.specs.declared.statement.Else.TheVariants as else_stmt
use Rattle.policy_ast.specs.declared.statement.IfStmt.{IfStmt}
use Rattle.policy_ast.specs.declared.statement.Stmt.{Stmt}
use Rattle.policy_ast.specs.declared.statement.Stmt.TheVariants as stmt
use Rattle.policy_expressions.specs.Meant.{meant, wanted_meant}
use Rattle.policy_meaning.specs.Actions.{Act, Deed, Did, Halts, Stops, World, ◌>>>◌, act, act_layer, acts, arm_act, choose, each_row, else_act, inside, published, told, with_turn, with_turns}
use Rattle.policy_meaning.specs.Arms.{first_body, takes}
use Rattle.policy_meaning.specs.Environments.{Env, Setting, with_value}
use Rattle.policy_meaning.specs.Expressions.{Meaning}
use Rattle.policy_meaning.specs.Functions.{expression}
use Rattle.policy_meaning.specs.Outcomes.{Check, Fault, Stuck}
use Rattle.policy_meaning.specs.Patterns.{row_value, wanted_in}
use Rattle.policy_meaning.specs.Values.{struct_parts, truth}
use Rattle.policy_meaning.specs.declared.ends.FaultKind.TheVariants as fault
use Rattle.policy_rules.proofs.Folds.{fold-stmt-Check, fold-stmt-Finish, fold-stmt-If, fold-stmt-Let, fold-stmt-Map, fold-stmt-Match, fold-stmt-Publish, fold-stmt-Return}
use Rattle.policy_rules.proofs.StatementMaps.{map_arm, map_else}
use Rattle.policy_rules.specs.Calls.{longest_chain}
use Rattle.policy_rules.specs.Names.{Name}
use Rattle.policy_eval.specs.working.Deeds.{arm_deed, deed, deeds, else_deed}

module _ {A B : Type 0} where
  pub then_same : (d : Deed A) (f g : A → World → Deed B) → ((x : A) (w : World) → f x w ≡ g x w) → (d >>> f) ≡ (d >>> g)
  then_same (Did x w) f g same = same x w
  then_same (Stops stop w) f g same = refl

module _ {A : Type 0} where
  choose_same : (o : Option Bool) (f g f' g' : World → Deed A) (w : World) → f w ≡ f' w → g w ≡ g' w → choose o f g w ≡ choose o f' g' w
  choose_same (Some true) f g f' g' w one other = one
  choose_same (Some false) f g f' g' w one other = other
  choose_same None f g f' g' w one other = refl

  turn_same : (f g : World → Deed A) (w : World) → ((w : World) → f w ≡ g w) → with_turn f w ≡ with_turn g w
  turn_same f g w same = ap (λ d. cond (w.turns == 0) (Stops (Halts (Fault fault.Turns)) w) d) (same (with_turns w (w.turns - 1)))

first_body_map : {S T : Type 0} (items : List Item) (f : S → T) (v : Value) (arms : List (Arm S)) → first_body items v (map (map_arm f) arms) ≡ option_map (map f) (first_body items v arms)
first_body_map items f v [] = refl
first_body_map items f v (a ∷ arms) = by (takes items v a.pattern) (first_body_map items f v arms)
  where
    by : (b : Bool) → first_body items v (map (map_arm f) arms) ≡ option_map (map f) (first_body items v arms)
        → cond b (Some (map f a.body)) (first_body items v (map (map_arm f) arms)) ≡ option_map (map f) (cond b (Some a.body) (first_body items v arms))
    by true rest = refl
    by false rest = rest

module _ (items : List Item) (setting : Setting) where
  abbrev says : List Row → Expr → Meaning
  says rows = expression items rows setting

  abbrev step : Stmt → Act
  step = act items says

  pub deeds_same : (body : List Stmt) (env : Env) (w : World) → acts (map step body) env w ≡ deeds items setting body env w
  unfolding deed
  deeds_same [] env w = refl
  deeds_same (s ∷ more) env w = then_same (step s env w) (acts (map step more)) (deeds items setting more) (deeds_same more)

  inside_same : (f g : Act) (env : Env) (w : World) → f env w ≡ g env w → inside f env w ≡ inside g env w
  inside_same f g env w same = ap (λ d. d >>> λ inner w. Did env w) same

  else_same : (o : Option (Else Stmt)) (env : Env) (w : World) → else_act (map_else step o) env w ≡ else_deed items setting o env w
  unfolding deed
  else_same None env w = refl
  else_same (Some (else_stmt.Block body)) env w = deeds_same body env w
  else_same (Some (else_stmt.If s)) env w = refl

  arm_same : (o : Option (List Stmt)) (env : Env) (w : World) → arm_act (option_map (map step) o) env w ≡ arm_deed items setting o env w
  arm_same (Some body) env w = deeds_same body env w
  arm_same None env w = refl

  rows_same : (name : Name) (body : List Stmt) (env : Env) (rows : List Row) (w : World) → each_row name (acts (map step body)) env rows w ≡ each_row name (deeds items setting body) env rows w
  rows_same name body env [] w = refl
  rows_same name body env (row ∷ rows) w =
      ap (λ d. d >>> λ inner w. each_row name (acts (map step body)) env rows w)
      (turn_same (acts (map step body) (with_value env name (row_value row))) (deeds items setting body (with_value env name (row_value row))) w (deeds_same body (with_value env name (row_value row))))
      ∙ then_same (with_turn (deeds items setting body (with_value env name (row_value row))) w) (λ inner w. each_row name (acts (map step body)) env rows w)
      (λ inner w. each_row name (deeds items setting body) env rows w) (λ inner w. rows_same name body env rows w)

  module _ (env : Env) (w : World) where
    pub let_is : (l : Let Expr) → deed items setting (stmt.Let l) env w ≡ (told w (meant items w.rows setting longest_chain l.value env w.turns) >>> λ v w. Did (with_value env l.name v) w)
    unfolding deed meant
    let_is l = ap (λ a. a env w) (fold-stmt-Let (act_layer items says) l)

    pub check_is : (e : Expr) → deed items setting (stmt.Check e) env w
        ≡ (told w (meant items w.rows setting longest_chain e env w.turns) >>> λ v w. choose (truth v) (Did env) (Stops (Halts (Check None))) w)
    unfolding deed meant
    check_is e = ap (λ a. a env w) (fold-stmt-Check (act_layer items says) e)

    pub choice_is : (x : IfStmt Stmt) → deed items setting (stmt.If x) env w
        ≡ (told w (meant items w.rows setting longest_chain x.head env w.turns) >>> λ v w. choose (truth v) (inside (deeds items setting x.then) env) (inside (else_deed items setting x.otherwise) env) w)
    unfolding deed meant
    choice_is x =
        ap (λ a. a env w) (fold-stmt-If (act_layer items says) x)
        ∙ then_same (told w (says w.rows x.head env w.turns)) (λ v w. choose (truth v) (inside (acts (map step x.then)) env) (inside (else_act (map_else step x.otherwise)) env) w)
        (λ v w. choose (truth v) (inside (deeds items setting x.then) env) (inside (else_deed items setting x.otherwise) env) w)
        (λ v w. choose_same (truth v) (inside (acts (map step x.then)) env) (inside (else_act (map_else step x.otherwise)) env) (inside (deeds items setting x.then) env) (inside (else_deed items setting x.otherwise) env) w
        (inside_same (acts (map step x.then)) (deeds items setting x.then) env w (deeds_same x.then env w))
        (inside_same (else_act (map_else step x.otherwise)) (else_deed items setting x.otherwise) env w (else_same x.otherwise env w)))

    pub match_is : (e : Expr) (arms : List (Arm Stmt)) → deed items setting (stmt.Match e arms) env w
        ≡ (told w (meant items w.rows setting longest_chain e env w.turns) >>> λ v w. inside (arm_deed items setting (first_body items v arms)) env w)
    unfolding deed meant
    match_is e arms =
        ap (λ a. a env w) (fold-stmt-Match (act_layer items says) e arms)
        ∙ then_same (told w (says w.rows e env w.turns)) (λ v w. inside (arm_act (first_body items v (map (map_arm step) arms))) env w)
        (λ v w. inside (arm_deed items setting (first_body items v arms)) env w)
        (λ v w. ap (λ o. inside (arm_act o) env w) (first_body_map items step v arms)
        ∙ inside_same (arm_act (option_map (map step) (first_body items v arms))) (arm_deed items setting (first_body items v arms)) env w (arm_same (first_body items v arms) env w))

    pub map_is : (p : Pattern Expr) (name : Name) (body : List Stmt) → deed items setting (stmt.Map p name body) env w
        ≡ (told w (wanted_meant items w.rows setting longest_chain p env w.turns) >>> λ q w. each_row name (deeds items setting body) env (selected q w.rows) w)
    unfolding deed meant
    map_is p name body =
        ap (λ a. a env w) (fold-stmt-Map (act_layer items says) p name body)
        ∙ then_same (told w (wanted_in items (says w.rows) p env w.turns)) (λ q w. each_row name (acts (map step body)) env (selected q w.rows) w)
        (λ q w. each_row name (deeds items setting body) env (selected q w.rows) w) (λ q w. rows_same name body env (selected q w.rows) w)

    pub publish_is : (e : Expr) → deed items setting (stmt.Publish e) env w
        ≡ (told w (meant items w.rows setting longest_chain e env w.turns) >>> λ v w. published (struct_parts v) w >>> λ done w. Did env w)
    unfolding deed meant
    publish_is e = ap (λ a. a env w) (fold-stmt-Publish (act_layer items says) e)

    pub finish_is : (statements : List FinishStmt) → deed items setting (stmt.Finish statements) env w ≡ Stops (Halts Stuck) w
    unfolding deed meant
    finish_is statements = ap (λ a. a env w) (fold-stmt-Finish (act_layer items says) statements)

    pub return_is : (e : Expr) → deed items setting (stmt.Return e) env w ≡ Stops (Halts Stuck) w
    unfolding deed meant
    return_is e = ap (λ a. a env w) (fold-stmt-Return (act_layer items says) e)
