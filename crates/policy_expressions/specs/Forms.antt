-- What each form makes of the values of its parts, where the last of them may have ended early.
use Rattle.std.specs.Prelude.{ℕ, ℤ, Bool, if◌then◌else◌, List, [], ◌∷◌, ◌++◌, Option, Some, None, option_map}
use Rattle.std.specs.Option.{is_some}
use Rattle.base_bytes.specs.declared.value.Value.{Value}
use Rattle.base_bytes.specs.declared.value.Value.TheVariants as value
use Rattle.fact_store.specs.Matching.{first_row, row_count}
use Rattle.fact_store.specs.declared.row.Row.{Row}
use Rattle.fact_store.specs.declared.wanted.Wanted.{Wanted}
use Rattle.policy_ast.specs.declared.expr.Arithmetic.{Arithmetic}
use Rattle.policy_ast.specs.declared.expr.Comparison.{Comparison}
use Rattle.policy_ast.specs.declared.expr.Count.{Count}
use Rattle.policy_ast.specs.declared.expr.Presence.{Presence}
use Rattle.policy_ast.specs.declared.expr.Unary.{Unary}
use Rattle.policy_ast.specs.declared.item.Item.{Item}
use Rattle.policy_ast.specs.declared.pattern.Pattern.{Pattern}
use Rattle.policy_meaning.specs.Environments.{Env, bound, with_value}
use Rattle.policy_meaning.specs.Expressions.{decided, struct_value}
use Rattle.policy_meaning.specs.Finish.{Change, create_of, delete_of, emit_of, update_of}
use Rattle.policy_meaning.specs.Outcomes.{Check, Done, Ends, Out, ◌>>=◌, branch, or_stuck}
use Rattle.policy_meaning.specs.Patterns.{row_value, value_names, wanted_of}
use Rattle.policy_meaning.specs.Values.{arithmetic_value, comparison_value, counted, field_value, limit_of, optional_of, presence_value, truth, unary_value}
use Rattle.policy_rules.specs.Names.{Name}

-- ---- one operand

abbrev pub truth_of : Out Value → Out Bool
truth_of out = out >>= λ v turns. or_stuck (truth v) turns

-- What depends on a truth.
abbrev pub chosen : {A : Type 0} → Out Bool → (ℕ → Out A) → (ℕ → Out A) → Out A
chosen out first second = out >>= λ b turns. if b then first turns else second turns

-- A check that fails ends the evaluation.
abbrev pub passed : Option Bool → ℕ → Out (Unit {0})
passed test turns = branch test (Done tt) (λ turns. Ends (Check None)) turns

abbrev pub check_of : Out Value → Out (Unit {0})
check_of out = out >>= λ v turns. passed (truth v) turns

abbrev pub presence_of : Presence → Out Value → Out Value
presence_of op out = out >>= λ v turns. or_stuck (presence_value op v) turns

abbrev pub unary_of : Unary → Out Value → Out Value
unary_of op out = out >>= λ v turns. unary_value op v turns

abbrev pub some_of : Out Value → Out Value
some_of out = out >>= λ v turns. Done (value.Some v) turns

abbrev pub field_of : List Item → Name → Out Value → Out Value
field_of items name out = out >>= λ v turns. or_stuck (field_value items name v) turns

-- ---- two operands, the first of which has its value

abbrev pub compare_of : Comparison → Value → Out Value → Out Value
compare_of op first out = out >>= λ v turns. or_stuck (comparison_value op first v) turns

abbrev pub calculation_of : Arithmetic → Value → Out Value → Out Value
calculation_of op first out = out >>= λ v turns. or_stuck (arithmetic_value op first v) turns

-- ---- structs, patterns and rows

abbrev pub struct_of : List Item → Name → List Name → Out (List Value) → Out Value
struct_of items name names out = out >>= λ vs turns. or_stuck (struct_value items name (bound names vs)) turns

-- What a pattern asks for, by the values of its keys.
abbrev pub pattern_of : {E : Type 0} → List Item → Pattern E → List (Option Value) → Out (List (Option Value)) → Out Wanted
pattern_of items p keys out = out >>= λ vs turns. or_stuck (wanted_of items p.fact keys (value_names p) vs) turns

abbrev pub query_of : List Row → Out Wanted → Out Value
query_of rows out = out >>= λ w turns. Done (optional_of (option_map row_value (first_row w rows))) turns

abbrev pub exists_of : List Row → Out Wanted → Out Value
exists_of rows out = out >>= λ w turns. decided (is_some (first_row w rows)) turns

abbrev pub count_of : List Row → Count → ℤ → Out Wanted → Out Value
count_of rows op n out = out >>= λ w turns. or_stuck (option_map (λ limit. counted op limit (row_count w rows)) (limit_of n)) turns

-- ---- lists that grow

-- A list with one more element.
abbrev pub one_more : {A : Type 0} → List A → Out A → Out (List A)
one_more before out = out >>= λ x turns. Done (before ++ x ∷ []) turns

-- The values of a pattern with one more.
abbrev pub one_given : List (Option Value) → Out Value → Out (List (Option Value))
one_given before out = out >>= λ v turns. Done (before ++ Some v ∷ []) turns

-- Names with one more.
abbrev pub one_named : Env → Name → Out Value → Out Env
one_named before name out = out >>= λ v turns. Done (with_value before name v) turns

-- ---- changes

abbrev pub created_of : List Item → Name → List Value → List Name → Out (List Value) → Out Change
created_of items fact keys names out = out >>= λ vs turns. or_stuck (create_of items fact keys (bound names vs)) turns

abbrev pub updated_of : List Item → Name → Wanted → List Name → Out (List Value) → Out Change
updated_of items fact old names out = out >>= λ vs turns. or_stuck (update_of items fact old (bound names vs)) turns

abbrev pub deleted_of : List Item → Name → Out (List Value) → Out Change
deleted_of items fact out = out >>= λ keys turns. or_stuck (delete_of items fact keys) turns

abbrev pub emitted_of : Out Value → Out Change
emitted_of out = out >>= λ v turns. or_stuck (emit_of v) turns
