-- What each operation makes of the values of its operands.
use Rattle.std.specs.Prelude.{ℤ, pos, negsuc, ◌+ℤ◌, ◌-ℤ◌, int_lt, int_le, ℕ, Bool, not, ◌==◌, nat_le, min, if◌then◌else◌, List, [], ◌∷◌, slice_get, map, Option, Some, None, option_map, option_and_then, unwrap_or}
use Rattle.std.specs.Int.{w64, saturate_signed}
use Rattle.std.specs.Option.{is_some}
use Rattle.std.specs.Str.{bytes_eq}
use Rattle.base_bytes.specs.Values.{fits_int}
use Rattle.base_bytes.specs.declared.value.Value.{Value, out-Value}
use Rattle.base_bytes.specs.declared.value.Value.TheOpen.{Value-F}
use Rattle.base_bytes.specs.declared.value.Value.TheVariants as value
use Rattle.fact_store.specs.Sameness.{same_value}
use Rattle.policy_ast.specs.declared.expr.Arithmetic.{Arithmetic}
use Rattle.policy_ast.specs.declared.expr.Arithmetic.TheVariants as arithmetic
use Rattle.policy_ast.specs.declared.expr.Comparison.{Comparison}
use Rattle.policy_ast.specs.declared.expr.Comparison.TheVariants as comparison
use Rattle.policy_ast.specs.declared.expr.Count.{Count}
use Rattle.policy_ast.specs.declared.expr.Count.TheVariants as count
use Rattle.policy_ast.specs.declared.expr.Presence.{Presence}
use Rattle.policy_ast.specs.declared.expr.Presence.TheVariants as presence
use Rattle.policy_ast.specs.declared.expr.Unary.{Unary}
use Rattle.policy_ast.specs.declared.expr.Unary.TheVariants as unary
use Rattle.policy_ast.specs.declared.item.Item.{Item}
use Rattle.policy_meaning.specs.Environments.{Env, value_in}
use Rattle.policy_meaning.specs.Outcomes.{Out, Done, Ends, Check, Fault, Stuck, or_stuck}
use Rattle.policy_meaning.specs.declared.ends.FaultKind.TheVariants as fault
use Rattle.policy_rules.specs.Heads.{written_fields}
use Rattle.policy_rules.specs.Names.{Name}

-- ---- what a value is

abbrev pub truth_layer : Value-F Value → Option Bool
truth_layer (Value-F.Bool b) = Some b
truth_layer other = None

abbrev pub truth : Value → Option Bool
truth v = truth_layer (out-Value v)

abbrev pub number_layer : Value-F Value → Option ℤ
number_layer (Value-F.Int n) = Some n
number_layer other = None

abbrev pub number : Value → Option ℤ
number v = number_layer (out-Value v)

-- The item number and the fields of a struct.
abbrev pub struct_layer : Value-F Value → Option (ℕ × List Value)
struct_layer (Value-F.Struct item fields) = Some (item, fields)
struct_layer other = None

abbrev pub struct_parts : Value → Option (ℕ × List Value)
struct_parts v = struct_layer (out-Value v)

-- An optional, as what stands in it.
abbrev pub inner_layer : Value-F Value → Option (Option Value)
inner_layer Value-F.Nothing = Some None
inner_layer (Value-F.Some inner) = Some (Some inner)
inner_layer other = None

abbrev pub optional_parts : Value → Option (Option Value)
optional_parts v = inner_layer (out-Value v)

abbrev pub optional_of : Option Value → Value
optional_of None = value.Nothing
optional_of (Some v) = value.Some v

-- ---- operators

abbrev pub negated : Value → Option Value
negated v = option_map (λ b. value.Bool (not b)) (truth v)

-- The value inside, and why there is none.
abbrev pub unwrapped : Out Value → Option (Option Value) → ℕ → Out Value
unwrapped otherwise None turns = Ends Stuck
unwrapped otherwise (Some None) turns = otherwise
unwrapped otherwise (Some (Some v)) turns = Done v turns

-- `!`; `unwrap` of None is a fault, and `check_unwrap` of None a failed check.
abbrev pub unary_value : Unary → Value → ℕ → Out Value
unary_value unary.Not v turns = or_stuck (negated v) turns
unary_value unary.Unwrap v turns = unwrapped (Ends (Fault fault.Unwrap)) (optional_parts v) turns
unary_value unary.CheckUnwrap v turns = unwrapped (Ends (Check None)) (optional_parts v) turns

abbrev pub is_present : Presence → Option Value → Bool
is_present presence.Some inner = is_some inner
is_present presence.None inner = not (is_some inner)

-- `is Some` and `is None`.
abbrev pub presence_value : Presence → Value → Option Value
presence_value op v = option_map (λ inner. value.Bool (is_present op inner)) (optional_parts v)

-- Equality is equality of values; the orders are those of numbers.
abbrev pub ordered : (ℤ → ℤ → Bool) → Value → Value → Option Bool
ordered test a b = option_and_then (λ m. option_map (test m) (number b)) (number a)

abbrev pub compared : Comparison → Value → Value → Option Bool
compared comparison.Equal a b = Some (same_value a b)
compared comparison.NotEqual a b = Some (not (same_value a b))
compared comparison.Less a b = ordered int_lt a b
compared comparison.LessOrEqual a b = ordered int_le a b
compared comparison.Greater a b = ordered (λ m n. int_lt n m) a b
compared comparison.GreaterOrEqual a b = ordered (λ m n. int_le n m) a b

abbrev pub comparison_value : Comparison → Value → Value → Option Value
comparison_value op a b = option_map value.Bool (compared op a b)

-- A result that is None out of range.
abbrev pub in_range : ℤ → Value
in_range n = if fits_int n then value.Some (value.Int n) else value.Nothing

-- `add` and `sub` are None out of range; the saturating forms stop at the ends.
abbrev pub calculated : Arithmetic → ℤ → ℤ → Value
calculated arithmetic.Add m n = in_range (m +ℤ n)
calculated arithmetic.Sub m n = in_range (m -ℤ n)
calculated arithmetic.SaturatingAdd m n = value.Int (saturate_signed w64 (m +ℤ n))
calculated arithmetic.SaturatingSub m n = value.Int (saturate_signed w64 (m -ℤ n))

abbrev pub arithmetic_value : Arithmetic → Value → Value → Option Value
arithmetic_value op a b = option_and_then (λ m. option_map (calculated op m) (number b)) (number a)

-- ---- structs

-- The value at the place of a name.
abbrev pub value_named : List Name → List Value → Name → Option Value
value_named [] values name = None
value_named (n ∷ names) [] name = None
value_named (n ∷ names) (v ∷ values) name = if bytes_eq name n then Some v else value_named names values name

-- The names of the fields of an item that is a struct type.
abbrev pub field_names : Item → List Name
field_names i = map (λ f. f.name) (unwrap_or (written_fields i) [])

-- `.f` of a struct.
abbrev pub field_value : List Item → Name → Value → Option Value
field_value items name v =
    option_and_then (λ parts. option_and_then (λ i. value_named (field_names i) parts.1 name) (slice_get items parts.0)) (struct_parts v)

-- The values of these names in their order, from names and values in any order.
abbrev pub in_order : List Name → Env → Option (List Value)
in_order [] given = Some []
in_order (name ∷ names) given = option_and_then (λ v. option_map (λ values. v ∷ values) (in_order names given)) (value_in given name)

-- ---- counts of rows

abbrev pub counted : Count → ℕ → ℕ → Value
counted count.AtLeast limit rows = value.Bool (nat_le limit rows)
counted count.AtMost limit rows = value.Bool (nat_le rows limit)
counted count.Exactly limit rows = value.Bool (rows == limit)
counted count.CountUpTo limit rows = value.Int (pos (min limit rows))

-- The number against which rows are counted.
abbrev pub limit_of : ℤ → Option ℕ
limit_of (pos n) = Some n
limit_of (negsuc n) = None
