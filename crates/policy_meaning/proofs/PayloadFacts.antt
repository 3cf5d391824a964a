-- What is read of a payload is the value whose spelling it is, and nothing is read where it is the spelling of none.
use Rattle.std.proofs.Common.{◌≡◌, ◌==◌, ℕ, Bool, true, false, List, [], length, Option, Some, None, refl, ap, sym, ◌∙◌, option_map}
use Rattle.std.specs.Prelude.{IfNone, IfOk, IfSome, Result, Ok, Err}
use Rattle.base_bytes.specs.declared.no_memory.NoMemory.{NoMemory}
use Rattle.std.specs.Option.{option_and_then}
use Rattle.std.proofs.lemmas.Bool.{eqb-true}
use Rattle.std.proofs.lemmas.List.{nil_from_length}
use Rattle.base_bytes.specs.Payload.{IsPayload}
use Rattle.base_bytes.specs.Reaching.{NoneReachesItself}
use Rattle.base_bytes.specs.Reading.{ended}
use Rattle.base_bytes.specs.declared.shapes.Shapes.{Shapes}
use Rattle.base_bytes.specs.declared.ty.Ty.{Ty}
use Rattle.base_bytes.specs.declared.ty.Ty.TheVariants as ty
use Rattle.base_bytes.specs.declared.value.Value.{Value}
use Rattle.base_bytes.specs.declared.value.Value.TheVariants as value
use Rattle.base_bytes.specs.Decoding.{value_at}
use Rattle.base_bytes.proofs.Formats.{AreBytes}
use Rattle.base_bytes.proofs.Payloads.{is_payload, read_whole}
use Rattle.policy_ast.specs.declared.item.Item.{Item}
use Rattle.policy_meaning.specs.Payloads.{fields_of, payload_fields, read_value}
use Rattle.policy_meaning.specs.Values.{struct_layer}
use Rattle.policy_rules.specs.Shapes.{shapes_of}

not_ended : {A : Type 0} (found : Option (A × List ℕ)) → ((x : A) → found ≡ Some (x, []) → ⊥) → option_and_then ended found ≡ None
not_ended None refused = refl
not_ended {A} (Some found) refused = by_test (length found.1 == 0) refl
  where
    by_test : (b : Bool) → (length found.1 == 0) ≡ b → ended found ≡ None
    by_test true is = absurd (refused found.0 (ap (λ z. let both : A × List ℕ = (found.0, z) in Some both) (nil_from_length found.1 (eqb-true _ _ is))))
    by_test false is = rw is refl

module _ (shapes : Shapes) (no_loop : NoneReachesItself shapes) (t : Ty) (bytes : List ℕ) where
  -- the value whose spelling the bytes are is read
  pub payload_read : (v : Value) → IsPayload shapes t v bytes → read_value shapes t bytes ≡ Some v
  payload_read v is = ap (option_and_then ended) (read_whole shapes t no_loop bytes v is)

  -- what a decoder answers, by its two clauses, is what is read
  pub decoded_is_read : AreBytes bytes → (o : Option Value) → IfSome o (λ v. IsPayload shapes t v bytes) → IfNone o ((v : Value) → IsPayload shapes t v bytes → ⊥)
      → o ≡ read_value shapes t bytes
  decoded_is_read are (Some v) found none = sym (payload_read v found)
  decoded_is_read are None found none =
      sym (not_ended (value_at shapes (length shapes.items) t bytes) (λ v is. none v (is_payload shapes t (length shapes.items) bytes are v is)))

  pub decoded_by : AreBytes bytes → (answer : Result (Option Value) NoMemory) → IfOk answer (λ o. IfSome o (λ v. IsPayload shapes t v bytes))
      → IfOk answer (λ o. IfNone o ((v : Value) → IsPayload shapes t v bytes → ⊥)) → IfOk answer (λ o. o ≡ read_value shapes t bytes)
  decoded_by are (Ok o) found none = decoded_is_read are o found none
  decoded_by are (Err e) found none = tt

-- The fields of a command whose payload is their spelling are read of it.
pub fields_read : (items : List Item) → NoneReachesItself (shapes_of items) → (number : ℕ) (fields : List Value) (payload : List ℕ)
    → IsPayload (shapes_of items) (ty.Struct number) (value.Struct number fields) payload → payload_fields items number payload ≡ Some fields
fields_read items no_loop number fields payload is =
    ap (option_and_then fields_of) (payload_read (shapes_of items) no_loop (ty.Struct number) payload (value.Struct number fields) is)
    ∙ ap (λ layer. option_map (λ parts. parts.1) (struct_layer layer)) (value.outs-Struct number fields)
