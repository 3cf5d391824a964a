-- The order of the keys of facts.
use Rattle.std.specs.Prelude.{ℕ, Bool, true, false, List, [], ◌∷◌}
use Rattle.std.specs.declared.cmp.Ordering.{Ordering}
use Rattle.std.specs.declared.cmp.Ordering.TheVariants.{Less, Equal, Greater}
use Rattle.std.specs.Ordering.{nat_cmp, int_cmp, bool_cmp, ordering_then}
use Rattle.std.specs.Cmp.Lexicographic.{slice_cmp}
use Rattle.base_bytes.specs.declared.value.Value.{Value, out-Value}
use Rattle.base_bytes.specs.declared.value.Value.TheOpen.{Value-F}

-- A layer of a value that may be a key: no struct, and neither form of an optional.
abbrev pub is_key_layer : Value-F Value → Bool
is_key_layer (Value-F.Struct item fields) = false
is_key_layer Value-F.Nothing = false
is_key_layer (Value-F.Some inner) = false
is_key_layer _ = true

-- The value may be a key.
abbrev pub is_key : Value → Bool
is_key value = is_key_layer (out-Value value)

-- The place of a variant among the variants, from 0.
abbrev pub variant_place : Value-F Value → ℕ
variant_place (Value-F.Int n) = 0
variant_place (Value-F.Bool b) = 1
variant_place (Value-F.Str text) = 2
variant_place (Value-F.Raw bytes) = 3
variant_place (Value-F.Ident id) = 4
variant_place (Value-F.Enum item ordinal) = 5
variant_place (Value-F.Struct item fields) = 6
variant_place Value-F.Nothing = 7
variant_place (Value-F.Some inner) = 8

-- By value, false before true, byte by byte with a prefix first, or by item and then ordinal; different variants go by their places.
abbrev pub layer_order : Value-F Value → Value-F Value → Ordering
layer_order (Value-F.Int m) (Value-F.Int n) = int_cmp m n
layer_order (Value-F.Bool a) (Value-F.Bool b) = bool_cmp a b
layer_order (Value-F.Str s) (Value-F.Str t) = slice_cmp nat_cmp s t
layer_order (Value-F.Raw s) (Value-F.Raw t) = slice_cmp nat_cmp s t
layer_order (Value-F.Ident s) (Value-F.Ident t) = slice_cmp nat_cmp s t
layer_order (Value-F.Enum item ordinal) (Value-F.Enum other place) = ordering_then (nat_cmp item other) (nat_cmp ordinal place)
layer_order a b = nat_cmp (variant_place a) (variant_place b)

-- The order of two keys.
abbrev pub key_order : Value → Value → Ordering
key_order a b = layer_order (out-Value a) (out-Value b)

-- The order of two lists of keys: from left to right, a prefix first.
abbrev pub keys_order : List Value → List Value → Ordering
keys_order [] [] = Equal
keys_order [] (b ∷ others) = Less
keys_order (a ∷ more) [] = Greater
keys_order (a ∷ more) (b ∷ others) = ordering_then (key_order a b) (keys_order more others)
