-- What each statement of `finish` lists: one equation a form, over names that stay shut.
use Rattle.std.proofs.Common.{◌≡◌, ◌==◌, ◌-◌, ℕ, suc, cond, List, [], ◌∷◌, ◌++◌, map, Option, Some, None, refl, sym, ap, ◌∙◌}
use mathlib.Core.List.{append_assoc}
use Rattle.base_bytes.specs.declared.value.Value.{Value}
use Rattle.fact_store.specs.declared.row.Row.{Row}
use Rattle.policy_ast.specs.declared.bind.Bind.{Bind}
use Rattle.policy_ast.specs.declared.expr.Expr.{Expr}
use Rattle.policy_ast.specs.declared.field.Field.{Field}
use Rattle.policy_ast.specs.declared.finish.FinishStmt.{FinishStmt}
use Rattle.policy_ast.specs.declared.finish.FinishStmt.TheVariants as finish
use Rattle.policy_ast.specs.declared.item.Item.{Item}
use Rattle.policy_ast.specs.declared.item.Item.TheVariants as item
use Rattle.policy_ast.specs.declared.pattern.Pattern.{Pattern}
use Rattle.policy_expressions.specs.Meant.{binds_meant, meant, values_meant, wanted_meant}
use Rattle.policy_meaning.specs.Environments.{Env, Setting, bound_parameters, no_setting}
use Rattle.policy_meaning.specs.Finish.{Change, all_listed, finish_called, finish_entered, listed}
use Rattle.policy_meaning.specs.Functions.{expression, finish}
use Rattle.policy_meaning.specs.Outcomes.{Out, Done, Ends, Fault, Stuck, ◌>>=◌, all_in_order, or_stuck, with_turn}
use Rattle.policy_meaning.specs.declared.ends.FaultKind.TheVariants as fault
use Rattle.policy_rules.specs.Calls.{longest_chain}
use Rattle.policy_rules.specs.Names.{Name, item_named}
use Rattle.policy_rules.specs.Types.{declared}
use Rattle.policy_eval.specs.working.Listing.{behind, change_listed, finish_call, one, stmt_listed, stmts_listed}

-- ---- lists that grow

pub behind_none : (out : Out (List Change)) → behind [] out ≡ out
behind_none (Done more turns) = refl
behind_none (Ends halt) = refl

pub behind_one : (front : List Change) (out : Out Change) → behind front (one out) ≡ (out >>= λ c turns. Done (front ++ c ∷ []) turns)
behind_one front (Done c turns) = refl
behind_one front (Ends halt) = refl

pub behind_first : (front : List Change) (out : Out (List Change)) (rest : ℕ → Out (List Change))
    → behind front (out >>= λ first turns. rest turns >>= λ more turns. Done (first ++ more) turns) ≡ (behind front out >>= λ now turns. behind now (rest turns))
behind_first front (Ends halt) rest = refl
behind_first front (Done first turns) rest = by (rest turns)
  where
    by : (out : Out (List Change)) → behind front (out >>= λ more turns. Done (first ++ more) turns) ≡ behind (front ++ first) out
    by (Done more turns) = ap (λ xs. Done xs turns) (sym (append_assoc front first more))
    by (Ends halt) = refl

pub behind_then : {A : Type 0} (front : List Change) (out : Out A) (next : A → ℕ → Out (List Change)) → behind front (out >>= next) ≡ (out >>= λ x turns. behind front (next x turns))
behind_then front (Done x turns) next = refl
behind_then front (Ends halt) next = refl

listed_one : (o : Option Change) (turns : ℕ) → listed o turns ≡ one (or_stuck o turns)
listed_one (Some c) turns = refl
listed_one None turns = refl

one_then : {A : Type 0} (out : Out A) (f : A → ℕ → Out Change) (g : A → ℕ → Out (List Change)) → ((x : A) (turns : ℕ) → g x turns ≡ one (f x turns)) → (out >>= g) ≡ one (out >>= f)
one_then (Done x turns) f g same = same x turns
one_then (Ends halt) f g same = refl

-- ---- forms

module _ (items : List Item) (rows : List Row) where
  module _ (setting : Setting) where
    binds_all : (binds : List (Bind Expr)) (env : Env) (turns : ℕ)
        → all_in_order (map (expression items rows setting) (map (λ b. b.value) binds)) env turns ≡ binds_meant items rows setting longest_chain binds env turns
    unfolding meant
    binds_all binds env turns = refl

    module _ (depth : ℕ) (env : Env) (turns : ℕ) where
      pub create_listed : (fact : Name) (keys values : List (Bind Expr)) → stmt_listed items rows setting depth (finish.Create fact keys values) env turns ≡ one (change_listed items rows setting (finish.Create fact keys values) env turns)
      unfolding stmt_listed
      create_listed fact keys values = rw (binds_all keys env turns)
          (one_then (binds_meant items rows setting longest_chain keys env turns) _ _ (λ ks turns. rw (binds_all values env turns)
          (one_then (binds_meant items rows setting longest_chain values env turns) _ _ (λ vs turns. listed_one _ turns))))

      pub update_listed : (p : Pattern Expr) (to : List (Bind Expr)) → stmt_listed items rows setting depth (finish.Update p to) env turns ≡ one (change_listed items rows setting (finish.Update p to) env turns)
      unfolding stmt_listed meant
      update_listed p to = (one_then (wanted_meant items rows setting longest_chain p env turns) _ _ (λ old turns. rw (binds_all to env turns)
          (one_then (binds_meant items rows setting longest_chain to env turns) _ _ (λ vs turns. listed_one _ turns))))

      pub delete_listed : (fact : Name) (keys : List (Bind Expr)) → stmt_listed items rows setting depth (finish.Delete fact keys) env turns ≡ one (change_listed items rows setting (finish.Delete fact keys) env turns)
      unfolding stmt_listed
      delete_listed fact keys = rw (binds_all keys env turns) (one_then (binds_meant items rows setting longest_chain keys env turns) _ _ (λ ks turns. listed_one _ turns))

      pub emit_listed : (e : Expr) → stmt_listed items rows setting depth (finish.Emit e) env turns ≡ one (change_listed items rows setting (finish.Emit e) env turns)
      unfolding stmt_listed meant
      emit_listed e = one_then (meant items rows setting longest_chain e env turns) _ _ (λ v turns. listed_one _ turns)

      pub call_listed : (called : Name) (arguments : List Expr) → stmt_listed items rows setting depth (finish.Call called arguments) env turns
          ≡ (values_meant items rows setting longest_chain arguments env turns >>= λ vs turns. finish_call items rows depth called vs turns)
      unfolding stmt_listed finish_call meant
      call_listed called arguments = refl

    -- whatever is no call
    pub other_listed : (depth : ℕ) (env : Env) (turns : ℕ) (s : FinishStmt) → ((called : Name) (arguments : List Expr) → s ≡ finish.Call called arguments → ⊥)
        → stmt_listed items rows setting depth s env turns ≡ one (change_listed items rows setting s env turns)
    other_listed depth env turns (finish.Create fact keys values) other = create_listed depth env turns fact keys values
    other_listed depth env turns (finish.Update p to) other = update_listed depth env turns p to
    other_listed depth env turns (finish.Delete fact keys) other = delete_listed depth env turns fact keys
    other_listed depth env turns (finish.Emit e) other = emit_listed depth env turns e
    other_listed depth env turns (finish.Call called arguments) other = absurd (other called arguments refl)

    pub stmts_same : (depth : ℕ) (statements : List FinishStmt) (env : Env) (turns : ℕ)
        → all_listed items (expression items rows setting) (finish_called items (expression items rows no_setting) depth) statements env turns ≡ stmts_listed items rows setting depth statements env turns
    unfolding stmt_listed
    stmts_same depth [] env turns = refl
    stmts_same depth (s ∷ more) env turns = by (stmt_listed items rows setting depth s env turns) (stmts_same depth more env)
      where
        by : (out : Out (List Change))
            → ((turns : ℕ) → all_listed items (expression items rows setting) (finish_called items (expression items rows no_setting) depth) more env turns ≡ stmts_listed items rows setting depth more env turns)
            → (out >>= λ first turns. all_listed items (expression items rows setting) (finish_called items (expression items rows no_setting) depth) more env turns >>= λ rest turns. Done (first ++ rest) turns)
            ≡ (out >>= λ first turns. stmts_listed items rows setting depth more env turns >>= λ rest turns. Done (first ++ rest) turns)
        by (Done first turns) later = ap (λ out. out >>= λ rest turns. Done (first ++ rest) turns) (later turns)
        by (Ends halt) later = refl

  -- ---- calls of finish functions

  pub call_at_end : (called : Name) (values : List Value) (turns : ℕ) → finish_call items rows 0 called values turns ≡ Ends Stuck
  unfolding finish_call
  call_at_end called values turns = refl

  pub call_enters : (depth : ℕ) (called name : Name) (parameters : List Field) (body : List FinishStmt) (values : List Value) (turns : ℕ) → item_named items called ≡ Some (item.FinishFunction name parameters body)
      → finish_call items rows (suc depth) called values turns ≡ with_turn (stmts_listed items rows no_setting depth body (bound_parameters (declared parameters) values)) turns
  unfolding finish_call
  call_enters depth called name parameters body values turns is =
      ap (λ o. finish_entered (all_listed items (expression items rows no_setting) (finish_called items (expression items rows no_setting) depth)) values o turns) is
      ∙ ap (λ out. cond (turns == 0) (Ends (Fault fault.Turns)) out) (stmts_same no_setting depth body (bound_parameters (declared parameters) values) (turns - 1))

  -- nothing else can be called so
  pub call_sticks : (depth : ℕ) (called : Name) (values : List Value) (turns : ℕ) → ((statements : List FinishStmt → Env → ℕ → Out (List Change)) → finish_entered statements values (item_named items called) turns ≡ Ends Stuck)
      → finish_call items rows (suc depth) called values turns ≡ Ends Stuck
  unfolding finish_call
  call_sticks depth called values turns none = none (all_listed items (expression items rows no_setting) (finish_called items (expression items rows no_setting) depth))

-- ---- the whole block

pub finish_same : (items : List Item) (rows : List Row) (setting : Setting) (statements : List FinishStmt) (env : Env) (turns : ℕ)
    → finish items rows setting statements env turns ≡ stmts_listed items rows setting longest_chain statements env turns
finish_same items rows setting statements env turns = stmts_same items rows setting longest_chain statements env turns
