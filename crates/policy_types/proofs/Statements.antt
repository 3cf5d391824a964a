-- Statements of functions and of policy and recall blocks: how they go on, and the names behind them.
use Rattle.std.proofs.Common.{◌≡◌, ℕ, Bool, true, false, cond, ◌&&◌, ◌||◌, List, [], ◌∷◌, map, Option, Some, None, refl, sym, ap, subst, ◌∙◌}
use Rattle.std.proofs.lemmas.Bool.{false≢true}
use Rattle.std.specs.List.{list_all, list_any}
use Rattle.base_bytes.proofs.Bools.{and_then}
use Rattle.base_bytes.specs.declared.value.Value.{Value}
use Rattle.fact_store.specs.declared.row.Row.{Row}
use Rattle.policy_ast.specs.declared.expr.Expr.{Expr}
use Rattle.policy_ast.specs.declared.finish.FinishStmt.{FinishStmt}
use Rattle.policy_ast.specs.declared.item.Item.{Item}
use Rattle.policy_ast.specs.declared.statement.Arm.{Arm}
use Rattle.policy_ast.specs.declared.statement.Else.{Else}
use Rattle.policy_ast.specs.declared.statement.Stmt.{Stmt, fold_out-Stmt, map-Stmt, out-Stmt}
use Rattle.policy_ast.specs.declared.statement.Stmt.TheOpen.{Stmt-F}
use Rattle.policy_meaning.specs.Arms.{first_body, takes}
use Rattle.policy_meaning.specs.Environments.{Env, Setting}
use Rattle.policy_meaning.specs.Expressions.{Calls, Meaning, meaning}
use Rattle.policy_meaning.specs.Finish.{Listing}
use Rattle.policy_meaning.specs.Outcomes.{Check, Out, Done, Ends, ◌>>=◌}
use Rattle.policy_meaning.specs.Statements.{Flow, Goes, Returns, Finishes, Ran, Run, arm_run, block as run_block, checked, else_run, ran, run, run_layer, then, within}
use Rattle.policy_meaning.specs.Values.{truth}
use Rattle.policy_rules.proofs.StatementMaps.{map_arm, map_else}
use Rattle.policy_rules.specs.Calls.{Callee, all_hold, expression_calls, finish_calls, statement_calls, statement_calls_layer, else_stmt_calls}
use Rattle.policy_rules.specs.Expressions.{HasType}
use Rattle.policy_rules.specs.Finish.{AreFinishStmts}
use Rattle.policy_rules.specs.Names.{Name}
use Rattle.policy_rules.specs.Scopes.{Scope, with_name}
use Rattle.policy_rules.specs.Statements as rules
use Rattle.policy_rules.specs.Statements.{AreArms, IsBlock, IsElse, IsStmt, IsStmtByForm, always_returns, ends_in_return, else_returns, last_does, returns_layer, within_finish}
use Rattle.policy_rules.specs.Shapes.{shapes_of}
use Rattle.policy_rules.specs.WellTyped.{IsWellTypedAt}
use Rattle.policy_rules.specs.declared.context.Block.TheVariants as block
use Rattle.policy_rules.specs.declared.context.Context.{Context}
use Rattle.policy_rules.specs.declared.types.NamedType.{NamedType}
use Rattle.policy_rules.specs.declared.types.NamedType.TheVariants as ty
use Rattle.policy_types.proofs.Coverage.{one_takes}
use Rattle.policy_types.proofs.Expressions.{Keeps, gives}
use Rattle.policy_types.proofs.Fields.{fits_with}
use Rattle.policy_types.proofs.Fitting.{widens}
use Rattle.policy_types.proofs.Giving.{branch_gives, gives_then}
use Rattle.policy_types.proofs.Layers.{truth_of}
use Rattle.policy_types.proofs.Rows.{AreRows}
use Rattle.policy_types.proofs.Values.{as_bool}
use Rattle.policy_types.specs.Endings.{Gives}
use Rattle.policy_types.specs.Fitting.{Fits, IsOf, Suits}
use Rattle.policy_types.specs.Listed.{AreTypedChanges}

-- A list of statements goes on behind its end only where it need not end in a return; it returns values of the declared type, and lists typed changes.
abbrev pub FlowIs : List Item → Context → Bool → Flow → Type 0
FlowIs items context must Goes = must ≡ false
FlowIs items context must (Returns v) = (result : NamedType) × (context.result ≡ Some result) × IsOf items result v
FlowIs items context must (Finishes changes) = (context.block ≡ block.Command) × AreTypedChanges items changes

-- What a `finish` block lists is typed.
abbrev pub Lists : List Item → Context → (Callee → Name → Bool) → (List FinishStmt → Listing) → Type 0
Lists items context may lists = context.block ≡ block.Command → (scope : Scope) (statements : List FinishStmt) → AreFinishStmts items (within_finish context) scope statements
    → list_all (finish_calls may) statements ≡ true → (env : Env) → Fits items scope env → (turns : ℕ) → Gives (AreTypedChanges items) (lists statements env turns)

module _ (items : List Item) (well : (n : ℕ) → IsWellTypedAt items n) (rows : List Row) (typed : AreRows items rows) (context : Context) (no_action : context.block ≡ block.Action → ⊥) (setting : Setting)
    (suits : Suits items context setting) (may : Callee → Name → Bool) (call : Calls) (keeps : Keeps items may call) (lists : List FinishStmt → Listing) (listed : Lists items context may lists) where
  abbrev says : Expr → Meaning
  says = meaning items rows setting call

  abbrev runs_of : Stmt → Run
  runs_of = run items says lists

  abbrev calls : Stmt → Bool
  calls = statement_calls may

  abbrev of : NamedType → Value → Type 0
  of t = IsOf items t

  abbrev Flows : Bool → Ran → Type 0
  Flows must r = FlowIs items context must r.flow

  abbrev GoesTo : Scope → Bool → Ran → Type 0
  GoesTo after must r = FlowIs items context must r.flow × Fits items after r.env

  -- ---- what may go on

  and_left : (a b : Bool) → a ≡ false → (a && b) ≡ false
  and_left a b is = rw is refl

  and_right : (a b : Bool) → b ≡ false → (a && b) ≡ false
  and_right true b is = is
  and_right false b is = refl

  weaker : (a b : Bool) → (a ≡ false → b ≡ false) → (flow : Flow) → FlowIs items context a flow → FlowIs items context b flow
  weaker a b less Goes is = less is
  weaker a b less (Returns v) is = is
  weaker a b less (Finishes changes) is = is

  same : (out : Out Ran) → (out >>= λ r turns. Done r turns) ≡ out
  same (Done r turns) = refl
  same (Ends halt) = refl

  weakened : (a b : Bool) → (a ≡ false → b ≡ false) → (out : Out Ran) → Gives (Flows a) out → Gives (Flows b) out
  weakened a b less out is = subst (Gives (Flows b)) (same out) (gives_then (Flows a) (Flows b) out (λ r turns. Done r turns) is (λ r turns flow. weaker a b less r.flow flow))

  -- a block within others leaves the names as they were
  within_gives : (scope : Scope) (must : Bool) (inner : Run) (env : Env) → Fits items scope env → (turns : ℕ) → Gives (Flows must) (inner env turns) → Gives (GoesTo scope must) (within inner env turns)
  within_gives scope must inner env fit turns is = gives_then (Flows must) (GoesTo scope must) (inner env turns) (λ r turns. ran r.flow env turns) is (λ r n flow. (flow, fit))

  then_gives : (after : Scope) (must : Bool) (rest : Run) (must_all : Bool) → (flow : Flow) → FlowIs items context must flow → (env : Env) → Fits items after env → (turns : ℕ)
      → (must ≡ false → Gives (Flows must_all) (rest env turns)) → Gives (Flows must_all) (then rest flow env turns)
  then_gives after must rest must_all Goes is env fit turns go = go is
  then_gives after must rest must_all (Returns v) is env fit turns go = is
  then_gives after must rest must_all (Finishes changes) is env fit turns go = is

  check_gives : (scope : Scope) (v : Value) → of ty.Bool v → (env : Env) → Fits items scope env → (turns : ℕ) → Gives (GoesTo scope false) (checked (truth v) env turns)
  check_gives scope v is env fit turns =
      branch_gives (GoesTo scope false) (truth v) (truth_of (shapes_of items) v (as_bool items v is)) (ran Goes env) (λ turns. Ends (Check None)) turns (refl, fit) refl

  expression_gives : {scope : Scope} {e : Expr} {t : NamedType} → HasType items context scope e t → expression_calls may e ≡ true → (env : Env) → Fits items scope env → (turns : ℕ) → Gives (of t) (says e env turns)
  expression_gives p may_call env fit turns = gives items well rows typed context setting suits may call keeps p may_call env fit turns

  -- the body of this arm, or one of the rest
  arm_by : (a : Arm Stmt) (more : List (Arm Stmt)) (v : Value) (env : Env) (turns : ℕ) → (b : Bool) → (b || list_any (takes items v) (map (λ a. a.pattern) more)) ≡ true
      → Gives (Flows (ends_in_return a.body)) (run_block (map runs_of a.body) env turns)
      → (list_any (takes items v) (map (λ a. a.pattern) more) ≡ true
      → Gives (Flows (list_all (λ a. last_does a.body) (map (map_arm always_returns) more))) (arm_run (first_body items v (map (map_arm runs_of) more)) env turns))
      → Gives (Flows (ends_in_return a.body && list_all (λ a. last_does a.body) (map (map_arm always_returns) more)))
      (arm_run (cond b (Some (map runs_of a.body)) (first_body items v (map (map_arm runs_of) more))) env turns)
  arm_by a more v env turns true any one later =
      let rest : Bool = list_all (λ a. last_does a.body) (map (map_arm always_returns) more) in
      weakened (ends_in_return a.body) (ends_in_return a.body && rest) (and_left (ends_in_return a.body) rest) (run_block (map runs_of a.body) env turns) one
  arm_by a more v env turns false any one later =
      let rest : Bool = list_all (λ a. last_does a.body) (map (map_arm always_returns) more) in
      weakened rest (ends_in_return a.body && rest) (and_right (ends_in_return a.body) rest) (arm_run (first_body items v (map (map_arm runs_of) more)) env turns) (later any)

  mutual
    pub runs : {scope after : Scope} {s : Stmt} → IsStmt items context scope s after → calls s ≡ true → (env : Env) → Fits items scope env → (turns : ℕ)
        → Gives (GoesTo after (always_returns s)) (runs_of s env turns)
    runs {after = after} {s = s} (rules.stmt r) may_call env fit turns =
        subst (Gives (GoesTo after (always_returns s))) (sym (ap (λ f. f env turns) (fold_out-Stmt Run (run_layer items says lists) s)))
        (subst (λ must. Gives (GoesTo after must) (run_layer items says lists (map-Stmt Stmt Run runs_of (out-Stmt s)) env turns)) (sym (fold_out-Stmt Bool returns_layer s))
        (runs_layer r (sym (fold_out-Stmt Bool (statement_calls_layer may) s) ∙ may_call) env fit turns))

    runs_layer : {scope after : Scope} {layer : Stmt-F Stmt} → IsStmtByForm items context scope layer after → statement_calls_layer may (map-Stmt Stmt Bool calls layer) ≡ true
        → (env : Env) → Fits items scope env → (turns : ℕ)
        → Gives (GoesTo after (returns_layer (map-Stmt Stmt Bool always_returns layer))) (run_layer items says lists (map-Stmt Stmt Run runs_of layer) env turns)
    runs_layer (rules.introduces {scope = scope} {l = l} t p new) may_call env fit turns =
        gives_then (of t) (GoesTo (with_name scope l.name t) false) (says l.value env turns) _ (expression_gives p may_call env fit turns) (λ v n is. (refl, fits_with items scope env fit l.name t v is))
    runs_layer (rules.checks {scope = scope} {e = e} p) may_call env fit turns =
        gives_then (of ty.Bool) (GoesTo scope false) (says e env turns) _ (expression_gives p may_call env fit turns) (λ v n is. check_gives scope v is env fit n)
    runs_layer (rules.chooses {scope = scope} {x = x} head body otherwise) may_call env fit turns =
        let then_must : Bool = last_does (map always_returns x.then) in
        let else_must : Bool = else_returns (map_else always_returns x.otherwise) in
        and_then (expression_calls may x.head && all_hold (map calls x.then)) (else_stmt_calls may (map_else calls x.otherwise)) may_call (λ both last.
        and_then (expression_calls may x.head) (all_hold (map calls x.then)) both (λ first inner.
        gives_then (of ty.Bool) (GoesTo scope (then_must && else_must)) (says x.head env turns) _ (expression_gives head first env fit turns) (λ v n is.
        branch_gives (GoesTo scope (then_must && else_must)) (truth v) (truth_of (shapes_of items) v (as_bool items v is))
        (within (run_block (map runs_of x.then)) env) (within (else_run (map_else runs_of x.otherwise)) env) n
        (within_gives scope (then_must && else_must) (run_block (map runs_of x.then)) env fit n
        (weakened then_must (then_must && else_must) (and_left then_must else_must) (run_block (map runs_of x.then) env n) (runs_block body inner env fit n)))
        (within_gives scope (then_must && else_must) (else_run (map_else runs_of x.otherwise)) env fit n
        (weakened else_must (then_must && else_must) (and_right then_must else_must) (else_run (map_else runs_of x.otherwise) env n) (runs_else otherwise last env fit n))))))
    runs_layer (rules.matches {scope = scope} {e = e} {arms = arms} t p patterns bodies) may_call env fit turns =
        let must : Bool = list_all (λ a. last_does a.body) (map (map_arm always_returns) arms) in
        and_then (expression_calls may e) (list_all (λ a. all_hold a.body) (map (map_arm calls) arms)) may_call (λ first inner.
        gives_then (of t) (GoesTo scope must) (says e env turns) _ (expression_gives p first env fit turns) (λ v n is.
        within_gives scope must (arm_run (first_body items v (map (map_arm runs_of) arms))) env fit n
        (runs_arms bodies inner v (one_takes items well t (map (λ a. a.pattern) arms) patterns v is) env fit n)))
    runs_layer (rules.finishes {scope = scope} {statements = statements} at p) may_call env fit turns =
        gives_then (AreTypedChanges items) (GoesTo scope false) (lists statements env turns) _ (listed at scope statements p may_call env fit turns) (λ changes n are. ((at, are), fit))
    runs_layer (rules.maps at p new body) may_call env fit turns = absurd (no_action at)
    runs_layer (rules.publishes command at p names) may_call env fit turns = absurd (no_action at)
    runs_layer (rules.returns {scope = scope} {e = e} t result is p fit_result) may_call env fit turns =
        gives_then (of t) (GoesTo scope true) (says e env turns) _ (expression_gives p may_call env fit turns) (λ v n is_v. ((result, is, widens items t result fit_result v is_v), fit))

    pub runs_block : {scope : Scope} {body : List Stmt} → IsBlock items context scope body → all_hold (map calls body) ≡ true → (env : Env) → Fits items scope env → (turns : ℕ)
        → Gives (Flows (ends_in_return body)) (run_block (map runs_of body) env turns)
    runs_block rules.no_stmts may_call env fit turns = refl
    runs_block (rules.more_stmts {s = s} {more = []} after p precedes rest) may_call env fit turns = and_then (calls s) true may_call (λ one others.
        gives_then (GoesTo after (always_returns s)) (Flows (always_returns s)) (runs_of s env turns) _ (runs p one env fit turns) (λ r n is.
        then_gives after (always_returns s) (run_block []) (always_returns s) r.flow is.0 r.env is.1 n (λ goes. goes)))
    runs_block (rules.more_stmts {s = s} {more = next ∷ more} after p precedes rest) may_call env fit turns =
        let must : Bool = ends_in_return (next ∷ more) in
        and_then (calls s) (all_hold (map calls (next ∷ more))) may_call (λ one others.
        gives_then (GoesTo after (always_returns s)) (Flows must) (runs_of s env turns) _ (runs p one env fit turns) (λ r n is.
        then_gives after (always_returns s) (run_block (map runs_of (next ∷ more))) must r.flow is.0 r.env is.1 n (λ goes. runs_block rest others r.env is.1 n)))

    runs_else : {scope : Scope} {o : Option (Else Stmt)} → IsElse items context scope o → else_stmt_calls may (map_else calls o) ≡ true → (env : Env) → Fits items scope env → (turns : ℕ)
        → Gives (Flows (else_returns (map_else always_returns o))) (else_run (map_else runs_of o) env turns)
    runs_else rules.no_else may_call env fit turns = refl
    runs_else (rules.else_block body) may_call env fit turns = runs_block body may_call env fit turns
    runs_else (rules.else_if {s = s} after p) may_call env fit turns =
        subst (Gives (Flows (always_returns s))) (same (runs_of s env turns))
        (gives_then (GoesTo after (always_returns s)) (Flows (always_returns s)) (runs_of s env turns) (λ r turns. Done r turns) (runs p may_call env fit turns) (λ r n is. is.0))

    runs_arms : {scope : Scope} {arms : List (Arm Stmt)} → AreArms items context scope arms → list_all (λ a. all_hold a.body) (map (map_arm calls) arms) ≡ true → (v : Value)
        → list_any (takes items v) (map (λ a. a.pattern) arms) ≡ true → (env : Env) → Fits items scope env → (turns : ℕ)
        → Gives (Flows (list_all (λ a. last_does a.body) (map (map_arm always_returns) arms))) (arm_run (first_body items v (map (map_arm runs_of) arms)) env turns)
    runs_arms rules.no_arms may_call v any env fit turns = absurd (false≢true any)
    runs_arms (rules.more_arms {a = a} {more = more} body rest) may_call v any env fit turns =
        and_then (all_hold (map calls a.body)) (list_all (λ a. all_hold a.body) (map (map_arm calls) more)) may_call (λ one others.
        arm_by a more v env turns (takes items v a.pattern) any (runs_block body one env fit turns) (λ there. runs_arms rest others v there env fit turns))
