-- What arguments are at types, computed on small arguments of a policy of an enum and a struct.
use Rattle.std.proofs.Common.{◌≡◌, pos, true, List, [], ◌∷◌, Option, None, Some, refl, ap, sym, ◌∙◌}
use Rattle.std.specs.Prelude.{codes, option_map}
use Rattle.base_bytes.specs.declared.arg.Arg.{Arg, fold-roll-Arg, map-Arg, roll-Arg}
use Rattle.base_bytes.specs.declared.arg.Arg.TheOpen.{Arg-F}
use Rattle.base_bytes.specs.declared.arg.Arg.TheVariants as arg
use Rattle.base_bytes.specs.declared.ty.Ty.{Ty, out-Ty}
use Rattle.base_bytes.specs.declared.ty.Ty.TheOpen.{Ty-F}
use Rattle.base_bytes.specs.declared.ty.Ty.TheVariants as ty
use Rattle.base_bytes.specs.declared.value.Value.{Value}
use Rattle.base_bytes.specs.declared.value.Value.TheVariants as value
use Rattle.policy_ast.specs.declared.field.FieldType.TheOpen.{FieldType-F}
use Rattle.policy_ast.specs.declared.field.FieldType.TheVariants as field_type
use Rattle.policy_ast.specs.declared.item.Item.{Item}
use Rattle.policy_ast.specs.declared.item.Item.TheVariants as item
use Rattle.policy_meaning.proofs.FieldTypes.{typed_by_form}
use Rattle.policy_meaning.specs.Resolving.{Resolving, resolved, resolved_layer}
use Rattle.policy_rules.specs.Names.{Name}
use Rattle.policy_rules.specs.Shapes.{value_type_of}
use Rattle.policy_rules.specs.Types.{written_type}

-- enum Role { Owner, Member }   struct Point { x int, y bool }
abbrev items : List Item
items =
    item.Enum (codes "Role") (codes "Owner" ∷ codes "Member" ∷ [])
    ∷ item.Struct (codes "Point") (record { name = codes "x"; field_type = field_type.Int } ∷ record { name = codes "y"; field_type = field_type.Bool } ∷ [])
    ∷ []

by_layers : (a : Arg) (layer : Arg-F Arg) (t : Ty) (shape : Ty-F Ty) → a ≡ roll-Arg layer → out-Ty t ≡ shape
    → resolved items a t ≡ resolved_layer items (map-Arg Arg Resolving (resolved items) layer) shape
by_layers a layer t shape is of =
    ap (λ a. resolved items a t) is ∙ ap (λ f. f t) (fold-roll-Arg Resolving (λ layer t. resolved_layer items layer (out-Ty t)) layer)
    ∙ ap (resolved_layer items (map-Arg Arg Resolving (resolved items) layer)) of

a_number_is_an_int : resolved items (arg.Int (pos 7)) ty.Int ≡ Some (value.Int (pos 7))
a_number_is_an_int = by_layers (arg.Int (pos 7)) (Arg-F.Int (pos 7)) ty.Int Ty-F.Int (sym (arg.rolls-Int (pos 7))) ty.outs-Int

a_number_is_no_bool : resolved items (arg.Int (pos 1)) ty.Bool ≡ None
a_number_is_no_bool = by_layers (arg.Int (pos 1)) (Arg-F.Int (pos 1)) ty.Bool Ty-F.Bool (sym (arg.rolls-Int (pos 1))) ty.outs-Bool

a_number_is_no_optional : resolved items (arg.Int (pos 7)) (ty.Optional ty.Int) ≡ None
a_number_is_no_optional = by_layers (arg.Int (pos 7)) (Arg-F.Int (pos 7)) (ty.Optional ty.Int) (Ty-F.Optional ty.Int) (sym (arg.rolls-Int (pos 7))) (ty.outs-Optional ty.Int)

some_number_is_an_optional : resolved items (arg.Some (arg.Int (pos 7))) (ty.Optional ty.Int) ≡ Some (value.Some (value.Int (pos 7)))
some_number_is_an_optional =
    by_layers (arg.Some (arg.Int (pos 7))) (Arg-F.Some (arg.Int (pos 7))) (ty.Optional ty.Int) (Ty-F.Optional ty.Int) (sym (arg.rolls-Some (arg.Int (pos 7)))) (ty.outs-Optional ty.Int)
    ∙ ap (option_map value.Some) a_number_is_an_int

none_is_of_each_optional : (t : Ty) → resolved items arg.Nothing (ty.Optional t) ≡ Some value.Nothing
none_is_of_each_optional t = by_layers arg.Nothing Arg-F.Nothing (ty.Optional t) (Ty-F.Optional t) (sym arg.rolls-Nothing) (ty.outs-Optional t)

abbrev member : Arg
member = arg.Variant (codes "Role") (codes "Member")

a_variant_is_of_its_enum : resolved items member (ty.Enum 0) ≡ Some (value.Enum 0 1)
a_variant_is_of_its_enum =
    by_layers member (Arg-F.Variant (codes "Role") (codes "Member")) (ty.Enum 0) (Ty-F.Enum 0) (sym (arg.rolls-Variant (codes "Role") (codes "Member"))) (ty.outs-Enum 0)

a_variant_is_of_no_other_item : resolved items member (ty.Enum 1) ≡ None
a_variant_is_of_no_other_item =
    by_layers member (Arg-F.Variant (codes "Role") (codes "Member")) (ty.Enum 1) (Ty-F.Enum 1) (sym (arg.rolls-Variant (codes "Role") (codes "Member"))) (ty.outs-Enum 1)

an_unknown_variant_is_none : resolved items (arg.Variant (codes "Role") (codes "Guest")) (ty.Enum 0) ≡ None
an_unknown_variant_is_none =
    by_layers (arg.Variant (codes "Role") (codes "Guest")) (Arg-F.Variant (codes "Role") (codes "Guest")) (ty.Enum 0) (Ty-F.Enum 0)
    (sym (arg.rolls-Variant (codes "Role") (codes "Guest"))) (ty.outs-Enum 0)

-- ---- structs

-- a struct by this name of these fields, at the type of the struct
abbrev at_point : Name → List (Name × Arg) → Option Value
at_point name given = resolved items (arg.Fields name given) (ty.Struct 1)

by_fields : (name : Name) (given : List (Name × Arg)) → at_point name given ≡ resolved_layer items (map-Arg Arg Resolving (resolved items) (Arg-F.Fields name given)) (Ty-F.Struct 1)
by_fields name given = by_layers (arg.Fields name given) (Arg-F.Fields name given) (ty.Struct 1) (Ty-F.Struct 1) (sym (arg.rolls-Fields name given)) (ty.outs-Struct 1)

int_is : value_type_of items (written_type field_type.Int) ≡ ty.Int
int_is = typed_by_form items field_type.Int FieldType-F.Int field_type.outs-Int

bool_is : value_type_of items (written_type field_type.Bool) ≡ ty.Bool
bool_is = typed_by_form items field_type.Bool FieldType-F.Bool field_type.outs-Bool

true_is_a_bool : resolved items (arg.Bool true) ty.Bool ≡ Some (value.Bool true)
true_is_a_bool = by_layers (arg.Bool true) (Arg-F.Bool true) ty.Bool Ty-F.Bool (sym (arg.rolls-Bool true)) ty.outs-Bool

-- in any order, and the values stand in declared order
fields_in_another_order : at_point (codes "Point") ((codes "y", arg.Bool true) ∷ (codes "x", arg.Int (pos 7)) ∷ []) ≡ Some (value.Struct 1 (value.Int (pos 7) ∷ value.Bool true ∷ []))
fields_in_another_order = by_fields (codes "Point") ((codes "y", arg.Bool true) ∷ (codes "x", arg.Int (pos 7)) ∷ []) ∙ rw (int_is, bool_is, a_number_is_an_int, true_is_a_bool) refl

a_field_lacks : at_point (codes "Point") ((codes "x", arg.Int (pos 7)) ∷ []) ≡ None
a_field_lacks = by_fields (codes "Point") ((codes "x", arg.Int (pos 7)) ∷ [])

a_field_stands_twice : at_point (codes "Point") ((codes "y", arg.Bool true) ∷ (codes "x", arg.Int (pos 7)) ∷ (codes "x", arg.Int (pos 7)) ∷ []) ≡ None
a_field_stands_twice = by_fields (codes "Point") ((codes "y", arg.Bool true) ∷ (codes "x", arg.Int (pos 7)) ∷ (codes "x", arg.Int (pos 7)) ∷ [])

another_name : at_point (codes "Role") ((codes "y", arg.Bool true) ∷ (codes "x", arg.Int (pos 7)) ∷ []) ≡ None
another_name = by_fields (codes "Role") ((codes "y", arg.Bool true) ∷ (codes "x", arg.Int (pos 7)) ∷ [])
