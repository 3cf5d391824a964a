-- What the small steps of statements and of calls come to.
use Rattle.std.proofs.Common.{◌≡◌, ℕ, zero, suc, ◌+◌, ◌-◌, ◌<◌, ◌≤◌, ◌==◌, Bool, true, false, if◌then◌else◌, List, [], ◌∷◌, find, Option, Some, None, Result, option_and_then, refl, sym, ap, subst, ◌∙◌, arith}
use Rattle.std.proofs.lemmas.Bool.Decides.{nat_tests}
use Rattle.base_bytes.specs.declared.value.Value.{Value}
use Rattle.fact_store.specs.declared.row.Row.{Row}
use Rattle.policy_ast.specs.declared.field.Field.{Field}
use Rattle.policy_ast.specs.declared.item.Item.{Item}
use Rattle.policy_ast.specs.declared.item.Item.TheVariants as item
use Rattle.policy_ast.specs.declared.statement.Arm.{Arm}
use Rattle.policy_ast.specs.declared.statement.Stmt.{Stmt}
use Rattle.policy_eval.specs.declared.flow.Flow.{Flow}
use Rattle.policy_eval.specs.working.Callees.{parts_named, parts_of}
use Rattle.policy_eval.specs.working.Endings.{Comes, Runs}
use Rattle.policy_eval.specs.working.Rooms.{IsAmongArms, IsBodyOf, arm_room, item_room, stmt_room, total}
use Rattle.policy_eval.specs.working.Steps.{value_returned}
use Rattle.policy_expressions.proofs.FormMeanings.{call_in}
use Rattle.policy_expressions.specs.Answers.{Gives, Stops}
use Rattle.policy_expressions.specs.Meant.{stmts_meant}
use Rattle.policy_expressions.specs.declared.stop.Stop.{Stop}
use Rattle.policy_expressions.specs.declared.stop.Stop.TheVariants as stop
use Rattle.policy_meaning.specs.Arms.{first_body, takes}
use Rattle.policy_meaning.specs.Environments.{Env, bound_parameters, no_setting}
use Rattle.policy_meaning.specs.Functions.{called, entered, no_listing}
use Rattle.policy_meaning.specs.Outcomes.{Out, Ends, Fault, Stuck, with_turn}
use Rattle.policy_meaning.specs.Statements.{Ran, Run}
use Rattle.policy_meaning.specs.declared.ends.FaultKind.TheVariants as fault
use Rattle.policy_rules.specs.Names.{Name, is_named, item_named}
use Rattle.policy_rules.specs.Types.{declared}

some_same : {A : Type 0} {x y : A} → Some x ≡ Some y → x ≡ y
some_same is = cc

-- an arm that is taken is among all arms
pub arm_among : (items : List Item) (v : Value) (arms : List (Arm Stmt)) (body : List Stmt) → first_body items v arms ≡ Some body → IsAmongArms body arms
arm_among items v [] body is below = absurd cc
arm_among items v (a ∷ arms) body is below = by (takes items v a.pattern) is (λ is. arm_among items v arms body is below)
  where
    by : (b : Bool) → (if b then Some a.body else first_body items v arms) ≡ Some body
        → (first_body items v arms ≡ Some body → total (stmt_room below) body ≤ total (arm_room below) arms)
        → total (stmt_room below) body ≤ total (stmt_room below) a.body + total (arm_room below) arms
    by true is later =
        let same : total (stmt_room below) a.body ≡ total (stmt_room below) body = ap (total (stmt_room below)) (some_same is) in
        omega arith
    by false is later =
        let rest : total (stmt_room below) body ≤ total (arm_room below) arms = later is in
        omega arith

-- an item that is found is among all items
pub item_among : (f : Item → ℕ) (test : Item → Bool) (items : List Item) (i : Item) → find test items ≡ Some i → f i ≤ total f items
item_among f test [] i is = absurd cc
item_among f test (first ∷ items) i is = by (test first) is (item_among f test items i)
  where
    by : (b : Bool) → (if b then Some first else find test items) ≡ Some i → (find test items ≡ Some i → f i ≤ total f items) → f i ≤ f first + total f items
    by true is later =
        let same : f first ≡ f i = ap f (some_same is) in
        omega arith
    by false is later =
        let rest : f i ≤ total f items = later is in
        omega arith

-- ---- calls

-- a function as its parts is entered
abbrev pub parts_entered : (List Stmt → Run) → List Value → Option (List Field × List Stmt) → ℕ → Out Value
parts_entered next values None turns = Ends Stuck
parts_entered next values (Some parts) turns = with_turn (λ n. value_returned (next parts.1 (bound_parameters (declared parts.0) values) n)) turns

entered_same : (next : List Stmt → Run) (values : List Value) (o : Option Item) (turns : ℕ) → entered next values o turns ≡ parts_entered next values (option_and_then parts_of o) turns
entered_same next values None turns = refl
entered_same next values (Some (item.Use used)) turns = refl
entered_same next values (Some (item.Let name l)) turns = refl
entered_same next values (Some (item.Enum name variants)) turns = refl
entered_same next values (Some (item.Struct name fields)) turns = refl
entered_same next values (Some (item.Effect name fields)) turns = refl
entered_same next values (Some (item.Fact is_immutable name keys fields)) turns = refl
entered_same next values (Some (item.Command name sections)) turns = refl
entered_same next values (Some (item.Function name parameters result body)) turns = refl
entered_same next values (Some (item.FinishFunction name parameters body)) turns = refl
entered_same next values (Some (item.Action name parameters body)) turns = refl

-- the body of a function is among those of all items
pub body_among : (items : List Item) (name : Name) (parts : List Field × List Stmt) → parts_named items name ≡ Some parts → IsBodyOf items parts.1
body_among items name parts is below = by (item_named items name) refl is
  where
    found : (i : Item) → parts_of i ≡ Some parts → total (stmt_room below) parts.1 ≤ item_room below i
    found (item.Function name parameters result body) is =
        let same : total (stmt_room below) body ≡ total (stmt_room below) parts.1 = ap (λ p. total (stmt_room below) p.1) (some_same is) in
        omega arith
    found (item.Use used) is = absurd cc
    found (item.Let name l) is = absurd cc
    found (item.Enum name variants) is = absurd cc
    found (item.Struct name fields) is = absurd cc
    found (item.Effect name fields) is = absurd cc
    found (item.Fact is_immutable name keys fields) is = absurd cc
    found (item.Command name sections) is = absurd cc
    found (item.FinishFunction name parameters body) is = absurd cc
    found (item.Action name parameters body) is = absurd cc

    by : (o : Option Item) → item_named items name ≡ o → option_and_then parts_of o ≡ Some parts → total (stmt_room below) parts.1 ≤ total (item_room below) items
    by None named is = absurd cc
    by (Some i) named is =
        let one : item_room below i ≤ total (item_room below) items = item_among (item_room below) (is_named name) items i named in
        let two : total (stmt_room below) parts.1 ≤ item_room below i = found i is in
        omega arith

module _ (items : List Item) (rows : List Row) (name : Name) (values : List Value) where
  -- a call at a depth above 0 enters its function
  pub called_deeper : (depth : ℕ) (turns : ℕ) → 0 < depth
      → called items rows depth name values turns ≡ parts_entered (stmts_meant items rows no_setting (depth - 1) no_listing) values (parts_named items name) turns
  called_deeper zero turns lt = absurd (omega arith)
  called_deeper (suc depth) turns lt =
      let less : suc depth - 1 ≡ depth = omega arith in
      call_in items rows depth name values turns ∙ entered_same (stmts_meant items rows no_setting depth no_listing) values (item_named items name) turns
      ∙ ap (λ d. parts_entered (stmts_meant items rows no_setting d no_listing) values (parts_named items name) turns) (sym less)

  pub called_unknown : (depth : ℕ) (turns : ℕ) → 0 < depth → parts_named items name ≡ None → called items rows depth name values turns ≡ Ends Stuck
  called_unknown depth turns lt is =
      called_deeper depth turns lt ∙ ap (λ o. parts_entered (stmts_meant items rows no_setting (depth - 1) no_listing) values o turns) is

  turned : (next : ℕ → Out Value) (turns : ℕ) → turns ≡ 0 → with_turn next turns ≡ Ends (Fault fault.Turns)
  turned next turns is = ap (with_turn next) is

  turned_on : (next : ℕ → Out Value) (turns left : ℕ) → turns ≡ left + 1 → with_turn next turns ≡ next left
  turned_on next turns left is =
      let some : (turns == 0) ≡ false = grind (arith, nat_tests) in
      let less : turns - 1 ≡ left = omega arith in
      ap (λ b. if b then Ends (Fault fault.Turns) else next (turns - 1)) some ∙ ap next less

  -- no turn is left
  pub called_late : (depth : ℕ) (turns : ℕ) (why : Stop) (parts : List Field × List Stmt) → 0 < depth → parts_named items name ≡ Some parts → (turns ≡ 0) × (why ≡ stop.Fault fault.Turns)
      → Stops why (called items rows depth name values turns)
  called_late depth turns why parts lt is late =
      subst (λ why. Stops why (called items rows depth name values turns)) (sym late.1)
      (called_deeper depth turns lt ∙ ap (λ o. parts_entered (stmts_meant items rows no_setting (depth - 1) no_listing) values o turns) is
      ∙ turned (λ n. value_returned (stmts_meant items rows no_setting (depth - 1) no_listing parts.1 (bound_parameters (declared parts.0) values) n)) turns late.0)

  -- the body runs
  pub called_on : (depth : ℕ) (turns left after : ℕ) (parts : List Field × List Stmt) (env last : Env) (r : Result Value Stop) (f : Result Flow Stop) → 0 < depth
      → parts_named items name ≡ Some parts → turns ≡ left + 1 → env ≡ bound_parameters (declared parts.0) values
      → Runs f (λ lists. stmts_meant items rows no_setting (depth - 1) lists parts.1) env last left after
      → ((env : Env) (n : ℕ) (out : Out Ran) → Comes f no_listing env n out → Gives r n (value_returned out)) → Gives r after (called items rows depth name values turns)
  called_on depth turns left after parts env last r f lt is turn names p ends =
      subst (λ o. Gives r after o)
      (sym
      (called_deeper depth turns lt ∙ ap (λ o. parts_entered (stmts_meant items rows no_setting (depth - 1) no_listing) values o turns) is
      ∙ turned_on (λ n. value_returned (stmts_meant items rows no_setting (depth - 1) no_listing parts.1 (bound_parameters (declared parts.0) values) n)) turns left turn
      ∙ ap (λ env. value_returned (stmts_meant items rows no_setting (depth - 1) no_listing parts.1 env left)) (sym names)))
      (ends last after (stmts_meant items rows no_setting (depth - 1) no_listing parts.1 env left) (p.comes no_listing))
