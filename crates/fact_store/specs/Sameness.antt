-- Whether values are equal, as a test.
use Rattle.std.specs.Prelude.{Bool, true, false, ◌&&◌, ◌==◌, List}
use Rattle.std.specs.Bool.{beq}
use Rattle.std.specs.Ordering.{int_eq}
use Rattle.std.specs.Str.{bytes_eq}
use Rattle.std.specs.Cmp.Lexicographic.{pointwise}
use Rattle.base_bytes.specs.declared.value.Value.{Value, fold-Value, out-Value}
use Rattle.base_bytes.specs.declared.value.Value.TheOpen.{Value-F}

-- A layer of a value is that of another, where each value inside is given by its test of a value.
abbrev pub same_layer : Value-F (Value → Bool) → Value-F Value → Bool
same_layer (Value-F.Int m) (Value-F.Int n) = int_eq m n
same_layer (Value-F.Bool a) (Value-F.Bool b) = beq a b
same_layer (Value-F.Str s) (Value-F.Str t) = bytes_eq s t
same_layer (Value-F.Raw s) (Value-F.Raw t) = bytes_eq s t
same_layer (Value-F.Ident s) (Value-F.Ident t) = bytes_eq s t
same_layer (Value-F.Enum item ordinal) (Value-F.Enum other ordinal') = (item == other) && (ordinal == ordinal')
same_layer (Value-F.Struct item tests) (Value-F.Struct other fields) = (item == other) && pointwise (λ test field. test field) tests fields
same_layer Value-F.Nothing Value-F.Nothing = true
same_layer (Value-F.Some test) (Value-F.Some inner) = test inner
same_layer _ _ = false

-- The two values are equal.
abbrev pub same_value : Value → Value → Bool
same_value = fold-Value (Value → Bool) (λ layer other. same_layer layer (out-Value other))

-- The two lists hold equal values in the same order.
abbrev pub same_values : List Value → List Value → Bool
same_values = pointwise same_value
