-- What a well-typed policy says of a command that is published.
use Rattle.std.proofs.Common.{◌≡◌, ℕ, true, false, IsTrue, List, map, Option, Some, None, option_map, option_and_then, slice_get, refl, sym, ap, ◌∙◌}
use Rattle.std.specs.Prelude.{unwrap_or}
use Rattle.std.specs.List.{list_all}
use Rattle.std.proofs.lemmas.Bool.{false≢true}
use Rattle.std.proofs.lemmas.Option.{slice_get-map}
use Rattle.base_bytes.proofs.Bools.{and_then}
use Rattle.base_bytes.proofs.ShortValues.{short_from_type}
use Rattle.base_bytes.specs.Payload.{is_short}
use Rattle.base_bytes.specs.Values.{are_fields, has_type}
use Rattle.base_bytes.specs.declared.shapes.Shape.TheVariants as shape
use Rattle.base_bytes.specs.declared.ty.Ty.TheVariants as ty
use Rattle.base_bytes.specs.declared.value.Value.{Value}
use Rattle.base_bytes.specs.declared.value.Value.TheVariants as value
use Rattle.policy_ast.specs.declared.item.Item.{Item}
use Rattle.policy_ast.specs.declared.item.Item.TheVariants as item
use Rattle.policy_ast.specs.declared.item.Section.{Section}
use Rattle.policy_ast.specs.declared.policy.PlacedItem.{PlacedItem}
use Rattle.policy_meaning.specs.Typed.{IsCommandOf, are_fields_of, is_command_of}
use Rattle.policy_rules.specs.Commands.{are_attributes, attributes_of, command_kind, is_attribute}
use Rattle.policy_rules.specs.Heads.{command_fields}
use Rattle.policy_rules.specs.Items.{IsOfKind}
use Rattle.policy_rules.specs.Names.{Name}
use Rattle.policy_rules.specs.Shapes.{shape_of, shapes_of}
use Rattle.policy_rules.specs.WellTyped.{IsWellTyped, items_of}
use Rattle.policy_types.proofs.Layers.{struct_made}
use Rattle.transaction.specs.Publishing.{declared_at, declared_of, not_declared}

-- a command that is declared, by its number
pub record Stands (policy : List PlacedItem) (n : ℕ) (fields : List Value) : Type 0 where
  pub name : Name
  pub sections : List Section
  pub at : slice_get (items_of policy) n ≡ Some (item.Command name sections)
  pub typed : are_fields_of (items_of policy) fields (command_fields sections) ≡ true

pub stands : (policy : List PlacedItem) (n : ℕ) (fields : List Value) → IsCommandOf policy n fields → Stands policy n fields
unfolding IsCommandOf
stands policy n fields is = by (slice_get (items_of policy) n) refl is
  where
    by : (o : Option Item) → slice_get (items_of policy) n ≡ o → IsTrue (unwrap_or (option_map (is_command_of (items_of policy) fields) o) false) → Stands policy n fields
    by (Some (item.Command name sections)) at typed = record { name = name; sections = sections; at = at; typed = typed }
    by (Some other) at typed = absurd (false≢true typed)
    by None at typed = absurd (false≢true typed)

pub declared_stands : (policy : List PlacedItem) (n : ℕ) (name : Name) (sections : List Section) → slice_get (items_of policy) n ≡ Some (item.Command name sections)
    → declared_at policy n ≡ record { name = name; kind = command_kind sections }
declared_stands policy n name sections at = ap (λ o. unwrap_or (option_and_then declared_of o) not_declared) at

kind_attributes : (items : List Item) (name : Name) (sections : List Section) → IsOfKind items (item.Command name sections) → are_attributes (attributes_of sections) ≡ true
kind_attributes items name sections (Rattle.policy_rules.specs.Items.command has are all) = are

pub attributes_are : (policy : List PlacedItem) → IsWellTyped policy → (n : ℕ) (name : Name) (sections : List Section) → slice_get (items_of policy) n ≡ Some (item.Command name sections)
    → list_all is_attribute (attributes_of sections) ≡ true
attributes_are policy typed n name sections at =
    and_then (list_all is_attribute (attributes_of sections)) _ (kind_attributes (items_of policy) name sections (typed n (item.Command name sections) at).of_kind) (λ all one. all)

module _ (policy : List PlacedItem) (n : ℕ) (fields : List Value) (is : IsCommandOf policy n fields) where
  abbrev items : List Item
  items = items_of policy

  -- its fields are a value of its struct type
  pub struct_typed : has_type (shapes_of items) (value.Struct n fields) (ty.Struct n) ≡ true
  struct_typed =
      let there = stands policy n fields is in
      struct_made (shapes_of items) n fields
      (ap (λ o. are_fields (map (has_type (shapes_of items)) fields) (unwrap_or o shape.Neither)) (slice_get-map (shape_of items) items n ∙ ap (option_map (shape_of items)) there.at) ∙ there.typed)

  pub struct_short : is_short (value.Struct n fields) ≡ true
  struct_short = short_from_type (shapes_of items) (value.Struct n fields) (ty.Struct n) struct_typed

-- ---- the same, of an item that was looked up

pub kind_given : (policy : List PlacedItem) (n : ℕ) (name : Name) (sections : List Section) → IsWellTyped policy → Some (item.Command name sections) ≡ slice_get (items_of policy) n
    → list_all is_attribute (attributes_of sections) ≡ true
kind_given policy n name sections typed is = attributes_are policy typed n name sections (sym is)

pub declared_given : (policy : List PlacedItem) (n : ℕ) (name : Name) (sections : List Section) → Some (item.Command name sections) ≡ slice_get (items_of policy) n
    → declared_at policy n ≡ record { name = name; kind = command_kind sections }
declared_given policy n name sections is = declared_stands policy n name sections (sym is)

pub none_given : (policy : List PlacedItem) (n : ℕ) (fields : List Value) → IsCommandOf policy n fields → None ≡ slice_get (items_of policy) n → ⊥
none_given policy n fields is none = let there = stands policy n fields is in let both : None ≡ Some (item.Command there.name there.sections) = none ∙ there.at in absurd cc

pub other_given : (policy : List PlacedItem) (n : ℕ) (fields : List Value) (i : Item) → IsCommandOf policy n fields → Some i ≡ slice_get (items_of policy) n
    → ((name : Name) (sections : List Section) → i ≡ item.Command name sections → ⊥) → ⊥
other_given policy n fields i is at other =
    let there = stands policy n fields is in
    let both : Some i ≡ Some (item.Command there.name there.sections) = at ∙ there.at in
    let same : i ≡ item.Command there.name there.sections = cc in
    other there.name there.sections same
