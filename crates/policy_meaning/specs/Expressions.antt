-- The meaning of expressions over the rows of facts. It is open in what calls of functions mean.
use Rattle.std.specs.Prelude.{ℕ, Bool, true, false, List, [], ◌∷◌, map, Option, option_map, option_and_then}
use Rattle.std.specs.Option.{is_some}
use Rattle.base_bytes.specs.declared.value.Value.{Value}
use Rattle.base_bytes.specs.declared.value.Value.TheVariants as value
use Rattle.fact_store.specs.Matching.{first_row, row_count}
use Rattle.fact_store.specs.declared.row.Row.{Row}
use Rattle.policy_ast.specs.declared.expr.ElseExpr.{ElseExpr}
use Rattle.policy_ast.specs.declared.expr.ElseExpr.TheVariants as else_expr
use Rattle.policy_ast.specs.declared.expr.Expr.{Expr, fold-Expr}
use Rattle.policy_ast.specs.declared.expr.Expr.TheOpen.{Expr-F}
use Rattle.policy_ast.specs.declared.expr.ExprBlock.{ExprBlock}
use Rattle.policy_ast.specs.declared.expr.Let.{Let}
use Rattle.policy_ast.specs.declared.item.Item.{Item}
use Rattle.policy_meaning.specs.Environments.{Env, Setting, bound, foreign_value, literal_value, name_value, with_value}
use Rattle.policy_meaning.specs.Outcomes.{Out, Done, ◌>>=◌, all_in_order, branch, or_stuck}
use Rattle.policy_meaning.specs.Patterns.{row_value, wanted}
use Rattle.policy_meaning.specs.Values.{arithmetic_value, comparison_value, counted, field_value, in_order, limit_of, optional_of, presence_value, truth, unary_value}
use Rattle.policy_rules.specs.Heads.{struct_named}
use Rattle.policy_rules.specs.Names.{Name, number_named}
use Rattle.policy_rules.specs.Scopes.{names_in}

-- What an expression means: with these names and so many turns, a value and the turns left, or why there is none.
abbrev pub Meaning : Type 0
Meaning = Env → ℕ → Out Value

-- What a call of a function means, by its name and the values of its arguments.
abbrev pub Calls : Type 0
Calls = Name → List Value → ℕ → Out Value

-- A struct of the fields that are given by name, in any order.
abbrev pub struct_value : List Item → Name → Env → Option Value
struct_value items name given =
    option_and_then (λ number. option_and_then (λ declared. option_map (value.Struct number) (in_order (names_in declared) given)) (struct_named items name)) (number_named items name)

-- The names behind the `let`s of a block.
abbrev pub introduced : List (Let Meaning) → Env → ℕ → Out Env
introduced [] env turns = Done env turns
introduced (l ∷ lets) env turns = l.value env turns >>= λ v turns. introduced lets (with_value env l.name v) turns

abbrev pub block_meaning : ExprBlock Meaning → Meaning
block_meaning b env turns = introduced b.lets env turns >>= λ inner turns. b.value inner turns

abbrev pub else_meaning : ElseExpr Meaning → Meaning
else_meaning (else_expr.Block b) env turns = block_meaning b env turns
else_meaning (else_expr.If meaning) env turns = meaning env turns

-- A truth, as an evaluation.
abbrev pub decided : Bool → ℕ → Out Value
decided b turns = Done (value.Bool b) turns

module _ (items : List Item) (rows : List Row) (setting : Setting) (call : Calls) where
  -- One form, where the parts are given by their meanings: operands from left to right, and of `&&`, `||` and `if` only the side that decides.
  abbrev pub meaning_layer : Expr-F Meaning → Meaning
  meaning_layer (Expr-F.Or a b) env turns = a env turns >>= λ v turns. branch (truth v) (decided true) (b env) turns
  meaning_layer (Expr-F.And a b) env turns = a env turns >>= λ v turns. branch (truth v) (b env) (decided false) turns
  meaning_layer (Expr-F.Compare a op b) env turns = a env turns >>= λ v turns. b env turns >>= λ w turns. or_stuck (comparison_value op v w) turns
  meaning_layer (Expr-F.Is a op) env turns = a env turns >>= λ v turns. or_stuck (presence_value op v) turns
  meaning_layer (Expr-F.Unary op a) env turns = a env turns >>= λ v turns. unary_value op v turns
  meaning_layer (Expr-F.Field a name) env turns = a env turns >>= λ v turns. or_stuck (field_value items name v) turns
  meaning_layer (Expr-F.Literal l) env turns = or_stuck (literal_value items l) turns
  meaning_layer Expr-F.None env turns = Done value.Nothing turns
  meaning_layer (Expr-F.Some a) env turns = a env turns >>= λ v turns. Done (value.Some v) turns
  meaning_layer Expr-F.This env turns = or_stuck setting.this turns
  meaning_layer (Expr-F.Name name) env turns = or_stuck (name_value items env name) turns
  meaning_layer (Expr-F.ForeignCall of called arguments) env turns = or_stuck (foreign_value setting of called) turns
  meaning_layer (Expr-F.Call called arguments) env turns = all_in_order arguments env turns >>= λ vs turns. call called vs turns
  meaning_layer (Expr-F.Struct name binds) env turns =
      all_in_order (map (λ b. b.value) binds) env turns >>= λ vs turns. or_stuck (struct_value items name (bound (map (λ b. b.name) binds) vs)) turns
  meaning_layer (Expr-F.Arithmetic op a b) env turns = a env turns >>= λ v turns. b env turns >>= λ w turns. or_stuck (arithmetic_value op v w) turns
  meaning_layer (Expr-F.Query p) env turns = wanted items p env turns >>= λ w turns. Done (optional_of (option_map row_value (first_row w rows))) turns
  meaning_layer (Expr-F.Exists p) env turns = wanted items p env turns >>= λ w turns. decided (is_some (first_row w rows)) turns
  meaning_layer (Expr-F.Count op n p) env turns = wanted items p env turns >>= λ w turns. or_stuck (option_map (λ limit. counted op limit (row_count w rows)) (limit_of n)) turns
  meaning_layer (Expr-F.If x) env turns = x.head env turns >>= λ c turns. branch (truth c) (block_meaning x.then env) (else_meaning x.otherwise env) turns

  abbrev pub meaning : Expr → Meaning
  meaning = fold-Expr Meaning meaning_layer
