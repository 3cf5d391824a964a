-- What each form of statement does: one equation a form, over names that stay shut.
use Rattle.std.proofs.Common.{◌≡◌, ℕ, Bool, true, false, if◌then◌else◌, List, [], ◌∷◌, map, Option, Some, None, option_map, refl, ap, ◌∙◌}
use Rattle.base_bytes.specs.declared.value.Value.{Value}
use Rattle.fact_store.specs.declared.row.Row.{Row}
use Rattle.policy_ast.specs.declared.expr.Expr.{Expr}
use Rattle.policy_ast.specs.declared.expr.Let.{Let}
use Rattle.policy_ast.specs.declared.finish.FinishStmt.{FinishStmt}
use Rattle.policy_ast.specs.declared.item.Item.{Item}
use Rattle.policy_ast.specs.declared.pattern.Pattern.{Pattern}
use Rattle.policy_ast.specs.declared.statement.Arm.{Arm}
use Rattle.policy_ast.specs.declared.statement.Else.{Else}
use Rattle.policy_ast.specs.declared.statement.Else.TheVariants as else_stmt
use Rattle.policy_ast.specs.declared.statement.IfStmt.{IfStmt}
use Rattle.policy_ast.specs.declared.statement.Stmt.{Stmt}
use Rattle.policy_ast.specs.declared.statement.Stmt.TheOpen.{Stmt-F}
use Rattle.policy_ast.specs.declared.statement.Stmt.TheVariants as stmt
use Rattle.policy_expressions.proofs.FormMeanings.{branch_chosen}
use Rattle.policy_expressions.specs.Forms.{check_of, chosen, passed, truth_of}
use Rattle.policy_expressions.specs.Meant.{arm_meant, else_stmt_meant, meant, stmt_meant, stmts_meant}
use Rattle.policy_meaning.specs.Arms.{first_body, takes}
use Rattle.policy_meaning.specs.Environments.{Env, Setting, with_value}
use Rattle.policy_meaning.specs.Expressions.{Meaning, meaning}
use Rattle.policy_meaning.specs.Finish.{Listing}
use Rattle.policy_meaning.specs.Functions.{called}
use Rattle.policy_meaning.specs.Outcomes.{Done, Ends, Out, Stuck, ◌>>=◌}
use Rattle.policy_meaning.specs.Statements.{Finishes, Goes, Ran, Returns, Run, arm_run, block, checked, else_run, ran, run, run_layer, within}
use Rattle.policy_meaning.specs.Values.{truth}
use Rattle.policy_rules.proofs.Folds.{fold-stmt-Let, fold-stmt-Check, fold-stmt-If, fold-stmt-Match, fold-stmt-Finish, fold-stmt-Map, fold-stmt-Publish, fold-stmt-Return}
use Rattle.policy_rules.proofs.StatementMaps.{map_arm, map_else}
use Rattle.policy_rules.specs.Names.{Name}

-- a check of what was found
pub checks : (out : Out Value) (env : Env) → (out >>= λ v turns. checked (truth v) env turns) ≡ (check_of out >>= λ done turns. ran Goes env turns)
checks (Ends halt) env = refl
checks (Done v turns) env = by (truth v)
  where
    by : (o : Option Bool) → checked o env turns ≡ (passed o turns >>= λ done turns. ran Goes env turns)
    by None = refl
    by (Some true) = refl
    by (Some false) = refl

module _ {A B : Type 0} (f : A → B) (items : List Item) (v : Value) where
  -- the first arm that takes a value, behind a map
  pub first_mapped : (arms : List (Arm A)) → first_body items v (map (map_arm f) arms) ≡ option_map (map f) (first_body items v arms)
  first_mapped [] = refl
  first_mapped (a ∷ arms) = by (takes items v a.pattern) (first_mapped arms)
    where
      by : (b : Bool) → first_body items v (map (map_arm f) arms) ≡ option_map (map f) (first_body items v arms)
          → (if b then Some (map f a.body) else first_body items v (map (map_arm f) arms)) ≡ option_map (map f) (if b then Some a.body else first_body items v arms)
      by true more = refl
      by false more = more

module _ (items : List Item) (rows : List Row) (setting : Setting) (depth : ℕ) (lists : List FinishStmt → Listing) where
  abbrev says : Expr → Meaning
  says = meaning items rows setting (called items rows depth)

  abbrev runs : Stmt → Run
  runs = run items says lists

  abbrev layer : Stmt-F Run → Run
  layer = run_layer items says lists

  else_same : (o : Option (Else Stmt)) (env : Env) (n : ℕ) → else_run (map_else runs o) env n ≡ else_stmt_meant items rows setting depth lists o env n
  unfolding stmt_meant
  else_same None env n = refl
  else_same (Some (else_stmt.Block body)) env n = refl
  else_same (Some (else_stmt.If s)) env n = refl

  arm_same : (o : Option (List Stmt)) (env : Env) (n : ℕ) → arm_run (option_map (map runs) o) env n ≡ arm_meant items rows setting depth lists o env n
  unfolding stmt_meant
  arm_same None env n = refl
  arm_same (Some body) env n = refl

  arms_same : (v : Value) (arms : List (Arm Stmt)) (env : Env) (n : ℕ)
      → arm_run (first_body items v (map (map_arm runs) arms)) env n ≡ arm_meant items rows setting depth lists (first_body items v arms) env n
  arms_same v arms env n = ap (λ o. arm_run o env n) (first_mapped runs items v arms) ∙ arm_same (first_body items v arms) env n

  -- ---- forms

  module _ (env : Env) (n : ℕ) where
    abbrev does : Stmt → Out Ran
    does s = stmt_meant items rows setting depth lists s env n

    abbrev ends : Expr → Out Value
    ends e = meant items rows setting depth e env n

    pub let_does : (l : Let Expr) → does (stmt.Let l) ≡ (ends l.value >>= λ v turns. ran Goes (with_value env l.name v) turns)
    unfolding meant stmt_meant
    let_does l = ap (λ f. f env n) (fold-stmt-Let layer l)

    pub check_does : (e : Expr) → does (stmt.Check e) ≡ (check_of (ends e) >>= λ done turns. ran Goes env turns)
    unfolding meant stmt_meant
    check_does e = ap (λ f. f env n) (fold-stmt-Check layer e) ∙ checks (says e env n) env

    pub choice_does : (x : IfStmt Stmt) → does (stmt.If x)
        ≡ chosen (truth_of (ends x.head)) (within (stmts_meant items rows setting depth lists x.then) env) (within (else_stmt_meant items rows setting depth lists x.otherwise) env)
    unfolding meant stmt_meant
    choice_does x =
        ap (λ f. f env n) (fold-stmt-If layer x)
        ∙ branch_chosen (says x.head env n) (within (block (map runs x.then)) env) (within (else_run (map_else runs x.otherwise)) env)
        ∙ ap (λ (second : ℕ → Out Ran). chosen (truth_of (says x.head env n)) (within (block (map runs x.then)) env) second)
        (λ i turns. else_same x.otherwise env turns i >>= λ r turns. ran r.flow env turns)

    pub match_does : (e : Expr) (arms : List (Arm Stmt)) → does (stmt.Match e arms)
        ≡ (ends e >>= λ v turns. within (arm_meant items rows setting depth lists (first_body items v arms)) env turns)
    unfolding meant stmt_meant
    match_does e arms =
        ap (λ f. f env n) (fold-stmt-Match layer e arms)
        ∙ ap (λ (next : Value → ℕ → Out Ran). says e env n >>= next) (λ i v turns. arms_same v arms env turns i >>= λ r turns. ran r.flow env turns)

    pub finish_does : (statements : List FinishStmt) → does (stmt.Finish statements) ≡ (lists statements env n >>= λ changes turns. ran (Finishes changes) env turns)
    unfolding meant stmt_meant
    finish_does statements = ap (λ f. f env n) (fold-stmt-Finish layer statements)

    pub map_does : (p : Pattern Expr) (name : Name) (body : List Stmt) → does (stmt.Map p name body) ≡ Ends Stuck
    unfolding meant stmt_meant
    map_does p name body = ap (λ f. f env n) (fold-stmt-Map layer p name body)

    pub publish_does : (e : Expr) → does (stmt.Publish e) ≡ Ends Stuck
    unfolding meant stmt_meant
    publish_does e = ap (λ f. f env n) (fold-stmt-Publish layer e)

    pub return_does : (e : Expr) → does (stmt.Return e) ≡ (ends e >>= λ v turns. ran (Returns v) env turns)
    unfolding meant stmt_meant
    return_does e = ap (λ f. f env n) (fold-stmt-Return layer e)
