-- A command is one call, or none: what is read of a payload is what it spells.
use Rattle.std.proofs.Common.{◌≡◌, ◌==◌, ℕ, Bool, true, false, List, [], map, length, Option, Some, None, option_map, option_and_then, refl, ap, sym, subst, ◌∙◌}
use Rattle.std.proofs.lemmas.Bool.{eqb-true, false≢true}
use Rattle.std.proofs.lemmas.List.{nil_from_length}
use Rattle.base_bytes.proofs.Bools.{and_then}
use Rattle.base_bytes.proofs.Formats.{AreBytes}
use Rattle.base_bytes.proofs.Payloads.{is_payload}
use Rattle.base_bytes.specs.Payload.{IsPayload}
use Rattle.base_bytes.specs.Reaching.{NoneReachesItself}
use Rattle.base_bytes.specs.Reading.{ended}
use Rattle.base_bytes.specs.Values.{are_fields, has_layer, has_type, shape_at}
use Rattle.base_bytes.specs.declared.shapes.Shapes.{Shapes}
use Rattle.base_bytes.specs.declared.ty.Ty.{Ty, out-Ty}
use Rattle.base_bytes.specs.declared.ty.Ty.TheOpen.{Ty-F}
use Rattle.base_bytes.specs.declared.ty.Ty.TheVariants as ty
use Rattle.base_bytes.specs.declared.value.Value.{Value, fold_out-Value, map-Value, out-Value, roll-Value, roll-out-Value}
use Rattle.base_bytes.specs.declared.value.Value.TheOpen.{Value-F}
use Rattle.base_bytes.specs.declared.value.Value.TheVariants as value
use Rattle.base_bytes.specs.Decoding.{value_at}
use Rattle.command.specs.Wire.{command_id}
use Rattle.policy_ast.specs.declared.item.Item.{Item}
use Rattle.policy_ast.specs.declared.policy.PlacedItem.{PlacedItem}
use Rattle.policy_meaning.proofs.PayloadFacts.{fields_read, payload_read}
use Rattle.policy_meaning.specs.Commands.{AreSpelled, Content, IsCallBy, IsCallOfContent, call_by, call_of, called, command_number, content_of, not_declared, not_spelled}
use Rattle.policy_meaning.specs.Laws.{CommandsHaveOneCall, HasBytes}
use Rattle.policy_meaning.specs.Values.{struct_layer}
use Rattle.policy_meaning.specs.declared.call.Call.{Call}
use Rattle.policy_meaning.specs.Payloads.{fields_of, payload_fields, read_value}
use Rattle.policy_rules.proofs.Finding.{same_some}
use Rattle.policy_rules.specs.Shapes.{shapes_of}
use Rattle.policy_rules.specs.WellTyped.{items_of}

-- a value of a struct's type is one of that struct
struct_by_layer : (shapes : Shapes) (n : ℕ) (v : Value) (l : Value-F Value) → out-Value v ≡ l
    → has_layer shapes (map-Value Value (Ty → Bool) (has_type shapes) l) (Ty-F.Struct n) ≡ true → (fields : List Value) × (v ≡ value.Struct n fields)
struct_by_layer shapes n v (Value-F.Struct k fields) is typed =
    and_then (k == n) (are_fields (map (has_type shapes) fields) (shape_at shapes k)) typed
    (λ same rest. (fields, sym (roll-out-Value v) ∙ ap roll-Value is ∙ value.rolls-Struct k fields ∙ ap (λ m. value.Struct m fields) (eqb-true k n same)))
struct_by_layer shapes n v other is typed = absurd (false≢true typed)

struct_of_type : (shapes : Shapes) (n : ℕ) (v : Value) → has_type shapes v (ty.Struct n) ≡ true → (fields : List Value) × (v ≡ value.Struct n fields)
struct_of_type shapes n v is = struct_by_layer shapes n v (out-Value v) refl
    (sym (ap (λ test. test (ty.Struct n)) (fold_out-Value (Ty → Bool) (λ layer t. has_layer shapes layer (out-Ty t)) v)
    ∙ ap (has_layer shapes (map-Value Value (Ty → Bool) (has_type shapes) (out-Value v))) (ty.outs-Struct n))
    ∙ is)

-- what ended with nothing left was all
ended_with : {A : Type 0} (found : Option (A × List ℕ)) (x : A) → option_and_then ended found ≡ Some x → found ≡ Some (x, [])
ended_with None x is = absurd (cc)
ended_with {A} (Some found) x is = by (length found.1 == 0) refl
  where
    by : (b : Bool) → (length found.1 == 0) ≡ b → Some found ≡ Some (x, [])
    by true all =
        let same : found.0 ≡ x = same_some (sym (rw all refl) ∙ is) in
        ap (λ z. let both : A × List ℕ = (found.0, z) in Some both) (nil_from_length found.1 (eqb-true (length found.1) 0 all)) ∙ ap (λ y. let both : A × List ℕ = (y, []) in Some both) same
    by false some = absurd (let none : None ≡ Some x = sym (rw some refl) ∙ is in cc)

module _ (items : List Item) (no_loop : NoneReachesItself (shapes_of items)) (id : List ℕ) (content : Content) (are : AreBytes content.payload) where
  -- what is read of the payload are fields that it spells
  spelled_by : (n : ℕ) (v : Value) → read_value (shapes_of items) (ty.Struct n) content.payload ≡ Some v → (fields : List Value) × (v ≡ value.Struct n fields) × AreSpelled items n fields content.payload
  spelled_by n v read =
      let spells : IsPayload (shapes_of items) (ty.Struct n) v content.payload =
      is_payload (shapes_of items) (ty.Struct n) (length (shapes_of items).items) content.payload are v (ended_with (value_at (shapes_of items) (length (shapes_of items).items) (ty.Struct n) content.payload) v read) in
      let found = struct_of_type (shapes_of items) n v spells.typed in
      (found.0, found.1, subst (λ w. IsPayload (shapes_of items) (ty.Struct n) w content.payload) found.1 spells)

  fields_are : (n : ℕ) (fields : List Value) → fields_of (value.Struct n fields) ≡ Some fields
  fields_are n fields = ap (λ layer. option_map (λ parts. parts.1) (struct_layer layer)) (value.outs-Struct n fields)

  abbrev with_fields : ℕ → Option (List Value) → Option Call
  with_fields n found = option_map (λ fields. record { command = n; fields = fields; author = content.author; id = id }) found

  by_value : (n : ℕ) → command_number items content.name ≡ Some n → (o : Option Value) → read_value (shapes_of items) (ty.Struct n) content.payload ≡ o
      → IsCallBy items id content (with_fields n (option_and_then fields_of o))
  by_value n is None read =
      not_spelled is (λ fields spells. let none : None ≡ Some (value.Struct n fields) = sym read ∙ payload_read (shapes_of items) no_loop (ty.Struct n) content.payload (value.Struct n fields) spells in cc)
  by_value n is (Some v) read =
      let found = spelled_by n v read in
      subst (λ o. IsCallBy items id content (with_fields n o)) (sym (ap fields_of found.1 ∙ fields_are n found.0)) (called is found.2)

  abbrev by_found : Option ℕ → Option Call
  by_found o = option_and_then (λ n. with_fields n (payload_fields items n content.payload)) o

  by_number : (o : Option ℕ) → command_number items content.name ≡ o → IsCallBy items id content (by_found o)
  by_number None is = not_declared is
  by_number (Some n) is = by_value n is (read_value (shapes_of items) (ty.Struct n) content.payload) refl

  pub is_call_by : IsCallBy items id content (call_by items id content)
  is_call_by = by_number (command_number items content.name) refl

  no_fields : (n : ℕ) → ((fields : List Value) → AreSpelled items n fields content.payload → ⊥) → (o : Option Value) → read_value (shapes_of items) (ty.Struct n) content.payload ≡ o
      → with_fields n (option_and_then fields_of o) ≡ None
  no_fields n none None read = refl
  no_fields n none (Some v) read = absurd (let found = spelled_by n v read in none found.0 found.2)

  pub only_call_by : (o : Option Call) → IsCallBy items id content o → o ≡ call_by items id content
  only_call_by o (called {number} {fields} is spells) = sym (ap by_found is ∙ ap (with_fields number) (fields_read items no_loop number fields content.payload spells))
  only_call_by o (not_declared is) = sym (ap by_found is)
  only_call_by o (not_spelled {number} is none) = sym (ap by_found is ∙ no_fields number none (read_value (shapes_of items) (ty.Struct number) content.payload) refl)

module _ (items : List Item) (no_loop : NoneReachesItself (shapes_of items)) (id : List ℕ) where
  is_call_of : (found : Option Content) → HasBytes found → IsCallOfContent items id found (option_and_then (call_by items id) found)
  is_call_of None are = refl
  is_call_of (Some content) are = is_call_by items no_loop id content are

  only_call_of : (found : Option Content) → HasBytes found → (o : Option Call) → IsCallOfContent items id found o → o ≡ option_and_then (call_by items id) found
  only_call_of None are o is = is
  only_call_of (Some content) are o is = only_call_by items no_loop id content are o is

pub one_call : (policy : List PlacedItem) → CommandsHaveOneCall policy
unfolding call_of
one_call policy c no_loop are = record {
  is_call = is_call_of (items_of policy) no_loop (command_id c) (content_of c) are;
  only = λ o is. only_call_of (items_of policy) no_loop (command_id c) (content_of c) are o is;
}
