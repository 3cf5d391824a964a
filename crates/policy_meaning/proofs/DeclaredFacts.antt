-- The fields that are read of a payload are those that the command declares.
use Rattle.std.proofs.Common.{◌≡◌, ◌==◌, ◌&&◌, ℕ, zero, suc, Bool, true, false, cond, List, [], ◌∷◌, map, length, Option, Some, None, option_map, option_and_then, slice_get, refl, ap, sym, subst, ◌∙◌}
use Rattle.std.specs.Prelude.{IfOk, IfSome, Result, Ok, Err, unwrap_or, nat_lt}
use Rattle.std.specs.List.{position_or_len}
use Rattle.std.specs.Option.{is_some}
use Rattle.std.proofs.lemmas.Bool.{eqb-true, false≢true}
use Rattle.std.proofs.lemmas.List.Folds.{find_at}
use Rattle.base_bytes.specs.Payload.{IsPayload}
use Rattle.base_bytes.specs.Values.{are_fields, has_layer, has_type, shape_at}
use Rattle.base_bytes.specs.declared.no_memory.NoMemory.{NoMemory}
use Rattle.base_bytes.specs.declared.shapes.Shape.TheVariants as shape
use Rattle.base_bytes.specs.declared.shapes.Shapes.{Shapes}
use Rattle.base_bytes.specs.declared.ty.Ty.{Ty, out-Ty}
use Rattle.base_bytes.specs.declared.ty.Ty.TheOpen.{Ty-F}
use Rattle.base_bytes.specs.declared.ty.Ty.TheVariants as ty
use Rattle.base_bytes.specs.declared.value.Value.{Value, out-Value, map-Value, fold_out-Value}
use Rattle.base_bytes.specs.declared.value.Value.TheOpen.{Value-F}
use Rattle.policy_ast.specs.declared.item.Item.{Item}
use Rattle.policy_ast.specs.declared.item.Item.TheVariants as item
use Rattle.policy_meaning.specs.Commands.{command_number}
use Rattle.policy_meaning.specs.Payloads.{fields_of}
use Rattle.policy_meaning.specs.Typed.{holds_at, is_command_of}
use Rattle.policy_meaning.specs.Values.{struct_layer}
use Rattle.policy_rules.specs.Heads.{is_command, names_item}
use Rattle.policy_rules.specs.Names.{Name, is_named, item_named, number_named}
use Rattle.policy_rules.specs.Shapes.{shape_of, shapes_of}

module _ (shapes : Shapes) (n : ℕ) where
  abbrev pub AreFields : List Value → Type 0
  AreFields fields = are_fields (map (has_type shapes) fields) (shape_at shapes n) ≡ true

  by_layer : (l : Value-F Value) → has_layer shapes (map-Value Value (Ty → Bool) (has_type shapes) l) (Ty-F.Struct n) ≡ true → IfSome (option_map (λ parts. parts.1) (struct_layer l)) AreFields
  by_layer (Value-F.Struct k fields) is = by_number (k == n) refl is
    where
      by_number : (b : Bool) → (k == n) ≡ b → (b && are_fields (map (has_type shapes) fields) (shape_at shapes k)) ≡ true → AreFields fields
      by_number true same typed = subst (λ m. are_fields (map (has_type shapes) fields) (shape_at shapes m) ≡ true) (eqb-true k n same) typed
      by_number false same typed = absurd (false≢true typed)
  by_layer other is = tt

  -- a value of a struct's type has its fields
  pub typed_fields : (v : Value) → has_type shapes v (ty.Struct n) ≡ true → IfSome (fields_of v) AreFields
  typed_fields v is =
      by_layer (out-Value v)
      (sym (ap (λ test. test (ty.Struct n)) (fold_out-Value (Ty → Bool) (λ layer t. has_layer shapes layer (out-Ty t)) v)
      ∙ ap (has_layer shapes (map-Value Value (Ty → Bool) (has_type shapes) (out-Value v))) (ty.outs-Struct n))
      ∙ is)

-- what a decoder finds is of the type
pub decoded_typed : (shapes : Shapes) (t : Ty) (bytes : List ℕ) (answer : Result (Option Value) NoMemory) → IfOk answer (λ o. IfSome o (λ v. IsPayload shapes t v bytes))
    → IfOk answer (λ o. IfSome o (λ v. has_type shapes v t ≡ true))
decoded_typed shapes t bytes (Ok (Some v)) is = is.typed
decoded_typed shapes t bytes (Ok None) is = tt
decoded_typed shapes t bytes (Err e) is = tt

-- the item that a name means stands at the number that it means
pub number_is : (b : Bool) (k n : ℕ) → cond b (Some k) None ≡ Some n → k ≡ n
number_is true k n is = cc
number_is false k n is = absurd (cc)

pub named_at : (items : List Item) (name : Name) (n : ℕ) → number_named items name ≡ Some n → item_named items name ≡ slice_get items n
named_at items name n is =
    find_at (is_named name) items ∙ ap (slice_get items) (number_is (nat_lt (position_or_len (is_named name) items) (length items)) (position_or_len (is_named name) items) n is)

slice_map : {A B : Type 0} (f : A → B) (xs : List A) (i : ℕ) → slice_get (map f xs) i ≡ option_map f (slice_get xs i)
slice_map f [] i = refl
slice_map f (x ∷ xs) zero = refl
slice_map f (x ∷ xs) (suc i) = slice_map f xs i

module _ (items : List Item) (n : ℕ) (fields : List Value) where
  by_item : (o : Option Item) → is_some (option_and_then (λ i. cond (is_command i) (Some i) None) o) ≡ true
      → are_fields (map (has_type (shapes_of items)) fields) (unwrap_or (option_map (shape_of items) o) shape.Neither) ≡ true
      → unwrap_or (option_map (is_command_of items fields) o) false ≡ true
  by_item None is typed = absurd (false≢true is)
  by_item (Some (item.Command name sections)) is typed = typed
  by_item (Some other) is typed = absurd (false≢true is)

  by_test : (name : Name) (b : Bool) → names_item is_command items name ≡ b → cond b (number_named items name) None ≡ Some n → AreFields (shapes_of items) n fields
      → holds_at items n (is_command_of items fields) ≡ true
  by_test name true is number typed =
      by_item (slice_get items n) (sym (ap (λ o. is_some (option_and_then (λ i. cond (is_command i) (Some i) None) o)) (named_at items name n number)) ∙ is)
      (sym (ap (λ o. are_fields (map (has_type (shapes_of items)) fields) (unwrap_or o shape.Neither)) (slice_map (shape_of items) items n)) ∙ typed)
  by_test name false is number typed = absurd (cc)

  -- the command of a name has the fields of its type
  pub command_is_declared : (name : Name) → command_number items name ≡ Some n → AreFields (shapes_of items) n fields → holds_at items n (is_command_of items fields) ≡ true
  command_is_declared name number typed = by_test name (names_item is_command items name) refl number typed
