-- The order of evaluation and the turns, shown at single forms.
use Rattle.std.proofs.Common.{◌≡◌, ℕ, true, false, List, [], ◌∷◌, refl, ap, Some, None}
use Rattle.base_bytes.specs.declared.value.Value.{Value}
use Rattle.base_bytes.specs.declared.value.Value.TheVariants as value
use Rattle.fact_store.specs.declared.row.Row.{Row}
use Rattle.policy_ast.specs.declared.expr.Expr.TheOpen.{Expr-F}
use Rattle.policy_ast.specs.declared.expr.Unary.TheVariants as unary
use Rattle.policy_ast.specs.declared.field.Field.{Field}
use Rattle.policy_ast.specs.declared.field.FieldType.{FieldType}
use Rattle.policy_ast.specs.declared.item.Item.{Item}
use Rattle.policy_ast.specs.declared.item.Item.TheVariants as item
use Rattle.policy_ast.specs.declared.statement.Stmt.{Stmt}
use Rattle.policy_meaning.specs.Applying.{Passes, applied, block_ended}
use Rattle.policy_meaning.specs.Environments.{Env, Setting}
use Rattle.policy_meaning.specs.Expressions.{Calls, Meaning, decided, meaning_layer}
use Rattle.policy_meaning.specs.Finish.{Emit}
use Rattle.policy_meaning.specs.Functions.{entered}
use Rattle.policy_meaning.specs.Outcomes.{Done, Ends, Check, Fault, branch}
use Rattle.policy_meaning.specs.Statements.{Run, block}
use Rattle.policy_meaning.specs.Values.{truth_layer, inner_layer, unary_value, unwrapped}
use Rattle.policy_meaning.specs.declared.effect.Effect.{Effect}
use Rattle.policy_meaning.specs.declared.ends.FaultKind.TheVariants as fault

module _ (items : List Item) (rows : List Row) (setting : Setting) (call : Calls) (env : Env) (turns : ℕ) where
  and_leaves_its_right_side : (right : Meaning) → meaning_layer items rows setting call (Expr-F.And (λ env turns. Done (value.Bool false) turns) right) env turns ≡ Done (value.Bool false) turns
  and_leaves_its_right_side right = ap (λ test. branch test (right env) (decided false) turns) (ap truth_layer (value.outs-Bool false))

  or_leaves_its_right_side : (right : Meaning) → meaning_layer items rows setting call (Expr-F.Or (λ env turns. Done (value.Bool true) turns) right) env turns ≡ Done (value.Bool true) turns
  or_leaves_its_right_side right = ap (λ test. branch test (decided true) (right env) turns) (ap truth_layer (value.outs-Bool true))

  and_asks_its_right_side : (right : Meaning) → meaning_layer items rows setting call (Expr-F.And (λ env turns. Done (value.Bool true) turns) right) env turns ≡ right env turns
  and_asks_its_right_side right = ap (λ test. branch test (right env) (decided false) turns) (ap truth_layer (value.outs-Bool true))

-- `unwrap` of None is a fault, `check_unwrap` of it a failed check that names no recall.
unwrap_of_none : (turns : ℕ) → unary_value unary.Unwrap value.Nothing turns ≡ Ends (Fault fault.Unwrap)
unwrap_of_none turns = ap (λ inner. unwrapped (Ends (Fault fault.Unwrap)) (inner_layer inner) turns) value.outs-Nothing

check_unwrap_of_none : (turns : ℕ) → unary_value unary.CheckUnwrap value.Nothing turns ≡ Ends (Check None)
check_unwrap_of_none turns = ap (λ inner. unwrapped (Ends (Check None)) (inner_layer inner) turns) value.outs-Nothing

-- A function that is called where no turn is left is a fault, whatever stands in it.
no_turn_is_left : (bodies : List Stmt → Run) (values : List Value) (name : List ℕ) (parameters : List Field) (result : FieldType) (body : List Stmt)
    → entered bodies values (Some (item.Function name parameters result body)) 0 ≡ Ends (Fault fault.Turns)
no_turn_is_left bodies values name parameters result body = refl

-- A failed check ends the block, and what follows it isn't run.
a_check_ends_the_block : (s : Run) (more : List Run) (env : Env) (turns : ℕ) → s env turns ≡ Ends (Check None) → block (s ∷ more) env turns ≡ Ends (Check None)
a_check_ends_the_block s more env turns is = rw is refl

-- A block that ends without `finish` passes with no writes.
a_block_without_finish_passes : (rows : List Row) (env : Env) (turns : ℕ) → block_ended rows (block [] env turns) ≡ Passes rows []
a_block_without_finish_passes rows env turns = refl

-- A finish of effects alone leaves the facts and gives the effects in order.
effects_alone : (rows : List Row) (e f : Effect) → applied (Emit e ∷ Emit f ∷ []) rows ≡ Passes rows (e ∷ f ∷ [])
effects_alone rows e f = refl
