-- How the fields of a command are found in its payload: by reading it. The definition of the one call that a command is goes by it (Commands).
use Rattle.std.specs.Prelude.{ℕ, List, length, Option, option_map, option_and_then}
use Rattle.base_bytes.specs.Reading.{ended}
use Rattle.base_bytes.specs.declared.shapes.Shapes.{Shapes}
use Rattle.base_bytes.specs.declared.ty.Ty.{Ty}
use Rattle.base_bytes.specs.declared.ty.Ty.TheVariants as ty
use Rattle.base_bytes.specs.declared.value.Value.{Value}
use Rattle.base_bytes.specs.Decoding.{value_at}
use Rattle.policy_ast.specs.declared.item.Item.{Item}
use Rattle.policy_meaning.specs.Values.{struct_parts}
use Rattle.policy_rules.specs.Shapes.{shapes_of}

-- The value of a type that is read of all of the bytes. It is the one whose spelling they are, where there is one.
abbrev pub read_value : Shapes → Ty → List ℕ → Option Value
read_value shapes t bytes = option_and_then ended (value_at shapes (length shapes.items) t bytes)

abbrev pub fields_of : Value → Option (List Value)
fields_of v = option_map (λ parts. parts.1) (struct_parts v)

-- The fields of the struct of this number that are read of the payload.
abbrev pub payload_fields : List Item → ℕ → List ℕ → Option (List Value)
payload_fields items number payload = option_and_then fields_of (read_value (shapes_of items) (ty.Struct number) payload)
