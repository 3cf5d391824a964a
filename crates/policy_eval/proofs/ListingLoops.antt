-- Statements of `finish` one after another.
use Rattle.std.proofs.Common.{◌≡◌, ◌≤◌, ◌<◌, ℕ, suc, ◌+◌, ◌-◌, ◌==◌, Bool, true, false, cond, List, length, drop, get_or, Option, Some, None, option_and_then, Result, refl, sym, ap, subst, ◌∙◌, arith}
use Rattle.std.proofs.lemmas.Bool.Decides.{nat_tests}
use Rattle.std.proofs.lemmas.List.{append-nil}
use Rattle.base_bytes.specs.declared.value.Value.{Value}
use Rattle.fact_store.specs.declared.row.Row.{Row}
use Rattle.policy_ast.specs.declared.expr.Expr.{Expr}
use Rattle.policy_ast.specs.declared.field.Field.{Field}
use Rattle.policy_ast.specs.declared.finish.FinishStmt.{FinishStmt}
use Rattle.policy_ast.specs.declared.finish.FinishStmt.TheVariants as finish
use Rattle.policy_ast.specs.declared.item.Item.{Item}
use Rattle.policy_ast.specs.declared.item.Item.TheVariants as item
use Rattle.policy_expressions.specs.Answers.{Leaves, Stops}
use Rattle.policy_expressions.specs.Forms.{one_more}
use Rattle.policy_expressions.specs.Meant.{values_meant}
use Rattle.policy_expressions.specs.declared.stop.Stop.{Stop}
use Rattle.policy_expressions.specs.declared.stop.Stop.TheVariants as stop
use Rattle.policy_meaning.specs.Environments.{Env, Setting, bound_parameters, no_setting}
use Rattle.policy_meaning.specs.Finish.{Change, all_listed, finish_called, finish_entered}
use Rattle.policy_meaning.specs.Functions.{expression}
use Rattle.policy_meaning.specs.Outcomes.{Out, Done, Ends, Fault, Stuck, ◌>>=◌, with_turn}
use Rattle.policy_meaning.specs.declared.ends.FaultKind.TheVariants as fault
use Rattle.policy_rules.specs.Calls.{longest_chain}
use Rattle.policy_rules.specs.Names.{Name, item_named}
use Rattle.policy_rules.specs.Types.{declared}
use Rattle.policy_eval.proofs.ActionLoops.{left_at, past}
use Rattle.policy_eval.proofs.ListingForms.{behind_first, behind_one, behind_then, call_listed, stmts_same}
use Rattle.policy_eval.specs.working.Listing.{behind, finish_call, one, stmt_listed, stmts_listed}
use Rattle.policy_eval.specs.working.ListingSteps.{ListSoFar, finish_parts, finish_parts_of}

-- ---- evaluations that end early

pub stops_then : {A B : Type 0} (why : Stop) (out : Out A) (next : A → ℕ → Out B) → Stops why out → Stops why (out >>= next)
stops_then stop.Check out next is = ap (λ out. out >>= next) is
stops_then (stop.Fault kind) out next is = ap (λ out. out >>= next) is
stops_then stop.Stuck out next is = ap (λ out. out >>= next) is
stops_then stop.NoMemory out next is = tt

pub stops_as : {A : Type 0} (why : Stop) (out other : Out A) → out ≡ other → Stops why other → Stops why out
stops_as why out other same is = subst (Stops why) (sym same) is

pub leaves_as : {A B : Type 0} (r : Result B Stop) (x : A) (left : ℕ) (out other : Out A) → out ≡ other → Leaves r x left other → Leaves r x left out
leaves_as r x left out other same is = subst (Leaves r x left) (sym same) is

-- ---- one statement

-- a write or an effect
pub change_on : (r : Result (Unit {0}) Stop) (front now : List Change) (left : ℕ) (whole : Out (List Change)) (out : Out Change) → whole ≡ one out → Leaves r now left (one_more front out) → Leaves r now left (behind front whole)
change_on r front now left whole out is gives = leaves_as r now left (behind front whole) (one_more front out) (ap (behind front) is ∙ behind_one front out) gives

-- a turn is there
pub turn_taken : {A : Type 0} (next : ℕ → Out A) (left : ℕ) → with_turn next (left + 1) ≡ next left
turn_taken next left = by (left + 1 == 0) some (left + 1 - 1) back
  where
    some : (left + 1 == 0) ≡ false
    some = grind (arith, nat_tests)

    back : left + 1 - 1 ≡ left
    back = omega arith

    by : (b : Bool) → b ≡ false → (n : ℕ) → n ≡ left → cond b (Ends (Fault fault.Turns)) (next n) ≡ next left
    by true is n same = absurd (cc)
    by false is n same = ap next same

module _ (items : List Item) (rows : List Row) (setting : Setting) (depth : ℕ) where
  -- a call of a finish function, whose arguments have no values
  pub call_fails : (why : Stop) (front : List Change) (called : Name) (arguments : List Expr) (env : Env) (turns : ℕ) → Stops why (values_meant items rows setting longest_chain arguments env turns)
      → Stops why (behind front (stmt_listed items rows setting depth (finish.Call called arguments) env turns))
  call_fails why front called arguments env turns is =
      stops_as why _ _ (ap (behind front) (call_listed items rows setting depth env turns called arguments) ∙ behind_then front (values_meant items rows setting longest_chain arguments env turns) (λ vs turns. finish_call items rows depth called vs turns))
      (stops_then why (values_meant items rows setting longest_chain arguments env turns) (λ vs turns. behind front (finish_call items rows depth called vs turns)) is)

  -- and where they have
  pub call_on : (r : Result (Unit {0}) Stop) (front now : List Change) (called : Name) (arguments : List Expr) (env : Env) (values : List Value) (turns middle left : ℕ)
      → values_meant items rows setting longest_chain arguments env turns ≡ Done values middle → Leaves r now left (behind front (finish_call items rows depth called values middle))
      → Leaves r now left (behind front (stmt_listed items rows setting depth (finish.Call called arguments) env turns))
  call_on r front now called arguments env values turns middle left is gives =
      leaves_as r now left _ _ (ap (behind front) (call_listed items rows setting depth env turns called arguments ∙ ap (λ out. out >>= λ vs turns. finish_call items rows depth called vs turns) is)) gives

  -- ---- all statements

  module _ (statements : List FinishStmt) (before : List Change) (first : Env) (turns : ℕ) where
    pub list_begins : ListSoFar items rows setting depth statements 0 before before first first turns turns
    list_begins = record { rest = refl; same = refl }

    module _ {i : ℕ} {changes : List Change} {env : Env} {now : ℕ} (so_far : ListSoFar items rows setting depth statements i before changes first env turns now) where
      module _ (s : FinishStmt) (lt : i < length statements) (is : s ≡ get_or statements i s) where
        list_next : behind before (stmts_listed items rows setting depth statements first turns)
            ≡ (behind changes (stmt_listed items rows setting depth s env now) >>= λ changes turns. behind changes (stmts_listed items rows setting depth (drop (i + 1) statements) env turns))
        list_next = sym so_far.rest ∙ ap (λ more. behind changes (stmts_listed items rows setting depth more env now)) (left_at statements i s lt is)
            ∙ behind_first changes (stmt_listed items rows setting depth s env now) (stmts_listed items rows setting depth (drop (i + 1) statements) env)

        pub list_stops : (why : Stop) → Stops why (behind changes (stmt_listed items rows setting depth s env now)) → Stops why (behind before (stmts_listed items rows setting depth statements first turns))
        list_stops why stops = stops_as why _ _ list_next (stops_then why (behind changes (stmt_listed items rows setting depth s env now)) _ stops)

        pub list_on : (more : List Change) (after : Env) (left : ℕ) → behind changes (stmt_listed items rows setting depth s env now) ≡ Done more left → after ≡ env
            → ListSoFar items rows setting depth statements (i + 1) before more first after turns left
        list_on more after left gives same = record {
          rest = ap (λ env. behind more (stmts_listed items rows setting depth (drop (i + 1) statements) env left)) same
              ∙ sym (list_next ∙ ap (λ out. out >>= λ changes turns. behind changes (stmts_listed items rows setting depth (drop (i + 1) statements) env turns)) gives);
          same = same ∙ so_far.same;
        }

      pub list_ends : length statements ≤ i → behind before (stmts_listed items rows setting depth statements first turns) ≡ Done changes now
      list_ends le = sym so_far.rest ∙ ap (λ more. behind changes (stmts_listed items rows setting depth more env now)) (past statements i le) ∙ ap (λ changes. Done changes now) (append-nil changes)

-- ---- calls of finish functions

module _ (items : List Item) (rows : List Row) where
  -- what a call lists, by the parts of its item
  abbrev by_parts : ℕ → List Value → Option (List Field × List FinishStmt) → ℕ → Out (List Change)
  by_parts below values (Some parts) turns = with_turn (stmts_listed items rows no_setting below parts.1 (bound_parameters (declared parts.0) values)) turns
  by_parts below values None turns = Ends Stuck

  call_is : (below : ℕ) (called : Name) (values : List Value) (turns : ℕ) → finish_call items rows (suc below) called values turns ≡ by_parts below values (finish_parts items called) turns
  unfolding finish_call
  call_is below called values turns = by (item_named items called)
    where
      by : (o : Option Item) → finish_entered (all_listed items (expression items rows no_setting) (finish_called items (expression items rows no_setting) below)) values o turns
          ≡ by_parts below values (option_and_then finish_parts_of o) turns
      by None = refl
      by (Some (item.FinishFunction name parameters body)) = ap (λ out. cond (turns == 0) (Ends (Fault fault.Turns)) out) (stmts_same items rows no_setting below body (bound_parameters (declared parameters) values) (turns - 1))
      by (Some other) = refl

  module _ (front : List Change) (depth : ℕ) (called : Name) (values : List Value) (turns : ℕ) where
    abbrev lists : Out (List Change)
    lists = behind front (finish_call items rows depth called values turns)

    pub call_too_deep : depth ≡ 0 → lists ≡ Ends Stuck
    unfolding finish_call
    call_too_deep deep = ap (λ depth. behind front (finish_called items (expression items rows no_setting) depth called values turns)) deep

    module _ (deep : depth ≡ suc (depth - 1)) where
      whole_is : lists ≡ behind front (by_parts (depth - 1) values (finish_parts items called) turns)
      whole_is = ap (λ depth. behind front (finish_call items rows depth called values turns)) deep ∙ ap (behind front) (call_is (depth - 1) called values turns)

      pub call_names_none : finish_parts items called ≡ None → lists ≡ Ends Stuck
      call_names_none none = whole_is ∙ ap (λ o. behind front (by_parts (depth - 1) values o turns)) none

      module _ (parts : List Field × List FinishStmt) (some : finish_parts items called ≡ Some parts) where
        pub call_turnless : turns ≡ 0 → lists ≡ Ends (Fault fault.Turns)
        call_turnless none = whole_is ∙ ap (λ o. behind front (by_parts (depth - 1) values o turns)) some
            ∙ ap (λ turns. behind front (with_turn (stmts_listed items rows no_setting (depth - 1) parts.1 (bound_parameters (declared parts.0) values)) turns)) none

        pub call_enters : (r : Result (Unit {0}) Stop) (now : List Change) (env : Env) (left last : ℕ) → turns ≡ left + 1 → env ≡ bound_parameters (declared parts.0) values
            → Leaves r now last (behind front (stmts_listed items rows no_setting (depth - 1) parts.1 env left)) → Leaves r now last lists
        call_enters r now env left last taken bound gives = leaves_as r now last _ _
            (whole_is ∙ ap (λ o. behind front (by_parts (depth - 1) values o turns)) some
            ∙ ap (λ turns. behind front (with_turn (stmts_listed items rows no_setting (depth - 1) parts.1 (bound_parameters (declared parts.0) values)) turns)) taken
            ∙ ap (behind front) (turn_taken (stmts_listed items rows no_setting (depth - 1) parts.1 (bound_parameters (declared parts.0) values)) left)
            ∙ ap (λ env. behind front (stmts_listed items rows no_setting (depth - 1) parts.1 env left)) (sym bound)) gives
