-- How values are printed, with a policy's names in them: as arguments are written.
use Rattle.std.specs.Prelude.{ℕ, ◌==◌, Bool, true, false, if◌then◌else◌, List, [], ◌∷◌, ◌++◌, map, codes}
use Rattle.std.specs.Fmt.{signed_decimal}
use Rattle.std.specs.List.{concat, flat_map}
use Rattle.std.specs.Str.{byte}
use Rattle.hex.specs.Hex.{encode_lower}
use Rattle.base_bytes.specs.declared.arg.Arg.{Arg, fold-Arg}
use Rattle.base_bytes.specs.declared.arg.Arg.TheOpen.{Arg-F}
use Rattle.script_texts.specs.Bytes.{Bytes}

-- a byte of a text between quotation marks: `\\`, `\"` and a line feed have escapes
abbrev pub quoted_byte : ℕ → Bytes
quoted_byte c = if c == byte "\\" then codes "\\\\" else if c == byte "\"" then codes "\\\"" else if c == byte "\n" then codes "\\n" else c ∷ []

abbrev pub truth_word : Bool → Bytes
truth_word true = codes "true"
truth_word false = codes "false"

-- `name: value`, behind a text
abbrev pub named_value : Bytes → Bytes × Bytes → Bytes
named_value before field = before ++ field.0 ++ codes ": " ++ field.1

-- fields, the first behind a text and each further one behind a comma
abbrev pub names_from : Bytes → List (Bytes × Bytes) → Bytes
names_from before [] = []
names_from before (field ∷ fields) = named_value before field ++ names_from (codes ", ") fields

-- `name: value, name: value`
abbrev pub names_and_values : List (Bytes × Bytes) → Bytes
names_and_values fields = names_from [] fields

-- what stands behind the name of a struct
abbrev pub struct_fields : List (Bytes × Bytes) → Bytes
struct_fields [] = codes " {}"
struct_fields (field ∷ fields) = codes " { " ++ names_and_values (field ∷ fields) ++ codes " }"

-- one layer, where each value inside is given by its text
abbrev pub value_layer : Arg-F Bytes → Bytes
value_layer (Arg-F.Int n) = signed_decimal n
value_layer (Arg-F.Bool truth) = truth_word truth
value_layer (Arg-F.Str text) = codes "\"" ++ flat_map quoted_byte text ++ codes "\""
value_layer (Arg-F.Raw bytes) = concat (codes "0x" ∷ encode_lower bytes ∷ [])
value_layer (Arg-F.Ident id) = concat (codes "id:" ∷ encode_lower id ∷ [])
value_layer (Arg-F.Variant name variant) = concat (name ∷ codes "::" ∷ variant ∷ [])
value_layer (Arg-F.Fields name fields) = name ++ struct_fields fields
value_layer Arg-F.Nothing = codes "None"
value_layer (Arg-F.Some inner) = codes "Some(" ++ inner ++ codes ")"

-- the text of a value
abbrev pub value_text : Arg → Bytes
value_text = fold-Arg Bytes value_layer

-- the texts of fields
abbrev pub field_texts : List (Bytes × Arg) → List (Bytes × Bytes)
field_texts fields = map (λ field. (field.0, value_text field.1)) fields
