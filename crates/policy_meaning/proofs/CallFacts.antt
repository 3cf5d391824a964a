-- The call that a command is, once its number and its fields are known.
use Rattle.std.proofs.Common.{◌≡◌, ℕ, List, Option, Some, option_map, option_and_then, sym, ap, ◌∙◌}
use Rattle.base_bytes.specs.declared.shapes.Shapes.{Shapes}
use Rattle.base_bytes.specs.declared.ty.Ty.TheVariants as ty
use Rattle.base_bytes.specs.declared.value.Value.{Value}
use Rattle.policy_ast.specs.declared.item.Item.{Item}
use Rattle.policy_meaning.specs.Commands.{Content, call_by, command_number}
use Rattle.policy_meaning.specs.Payloads.{fields_of, payload_fields, read_value}
use Rattle.policy_meaning.specs.declared.call.Call.{Call}
use Rattle.policy_rules.specs.Shapes.{shapes_of}

module _ (items : List Item) (shapes : Shapes) (same : shapes ≡ shapes_of items) (id : List ℕ) (content : Content) where
  abbrev call_with : ℕ → List Value → Call
  call_with number fields = record { command = number; fields = fields; author = content.author; id = id }

  pub call_found : (number : ℕ) → command_number items content.name ≡ Some number → (found : Option (List Value))
      → found ≡ option_and_then fields_of (read_value shapes (ty.Struct number) content.payload) → option_map (call_with number) found ≡ call_by items id content
  call_found number is found told =
      ap (option_map (call_with number)) (told ∙ ap (λ s. option_and_then fields_of (read_value s (ty.Struct number) content.payload)) same)
      ∙ sym (ap (option_and_then (λ n. option_map (call_with n) (payload_fields items n content.payload))) is)
