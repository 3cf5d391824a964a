-- A value of a type is one of each type that it fits.
use Rattle.std.proofs.Common.{◌≡◌, Bool, true, false, cond, List, Some, None, refl, sym, ap, subst, ◌∙◌}
use Rattle.std.proofs.lemmas.Bool.{false≢true}
use Rattle.std.proofs.lemmas.Option.{same_Some}
use Rattle.std.proofs.lemmas.Slice.Eq.{bytes_eq-Decides}
use Rattle.base_bytes.specs.Values.{has_type}
use Rattle.base_bytes.specs.declared.shapes.Shapes.{Shapes}
use Rattle.base_bytes.specs.declared.ty.Ty.{Ty}
use Rattle.base_bytes.specs.declared.value.Value.{Value}
use Rattle.policy_ast.specs.declared.item.Item.{Item}
use Rattle.policy_rules.specs.Shapes.{shapes_of, value_type_layer, value_type_of}
use Rattle.policy_rules.specs.Types.{fits, fits_layer, joined}
use Rattle.policy_rules.specs.declared.types.NamedType.{NamedType, fold_out-NamedType, fold-roll-NamedType, ind-NamedType, map-NamedType, out-NamedType, roll-NamedType}
use Rattle.policy_rules.specs.declared.types.NamedType.TheOpen.{NamedType-F}
use Rattle.policy_types.proofs.Layers.{no_value, optional_widens}
use Rattle.policy_types.specs.Fitting.{IsOf}

module _ (items : List Item) where
  abbrev shapes : Shapes
  shapes = shapes_of items

  -- a layer of a type, as a type of values
  abbrev of_layer : NamedType-F NamedType → Ty
  of_layer layer = value_type_layer items (map-NamedType NamedType Ty (value_type_of items) layer)

  abbrev Widens : NamedType → Type 0
  Widens t = (u : NamedType) → fits t u ≡ true → (v : Value) → IsOf items t v → IsOf items u v

  abbrev Child : Type 0
  Child = (t : NamedType) × Widens t

  abbrev plain : NamedType-F Child → NamedType-F NamedType
  plain layer = map-NamedType Child NamedType (λ c. c.0) layer

  abbrev WidensLayer : NamedType-F Child → NamedType-F NamedType → Type 0
  WidensLayer layer other = fits_layer (map-NamedType NamedType (NamedType → Bool) fits (plain layer)) other ≡ true → (v : Value)
      → has_type shapes v (of_layer (plain layer)) ≡ true → has_type shapes v (of_layer other) ≡ true

  layers : (layer : NamedType-F Child) (other : NamedType-F NamedType) → WidensLayer layer other
  layers NamedType-F.Int NamedType-F.Int is v typed = typed
  layers NamedType-F.Bool NamedType-F.Bool is v typed = typed
  layers NamedType-F.Str NamedType-F.Str is v typed = typed
  layers NamedType-F.Raw NamedType-F.Raw is v typed = typed
  layers NamedType-F.Ident NamedType-F.Ident is v typed = typed
  layers (NamedType-F.Enum name) (NamedType-F.Enum other) is v typed =
      subst (λ n. has_type shapes v (of_layer (NamedType-F.Enum n)) ≡ true) ((bytes_eq-Decides name other).0 is) typed
  layers (NamedType-F.Struct name) (NamedType-F.Struct other) is v typed =
      subst (λ n. has_type shapes v (of_layer (NamedType-F.Struct n)) ≡ true) ((bytes_eq-Decides name other).0 is) typed
  layers (NamedType-F.Optional inner) (NamedType-F.Optional other) is v typed =
      optional_widens shapes (value_type_of items inner.0) (value_type_of items other) (inner.1 other is) v typed
  layers NamedType-F.Never other is v typed = no_value shapes v typed
  layers layer other is v typed = absurd (false≢true is)

  step : (layer : NamedType-F Child) → Widens (roll-NamedType (plain layer))
  step layer u is v typed =
      subst (λ t. has_type shapes v t ≡ true) (sym (fold_out-NamedType Ty (value_type_layer items) u))
      (layers layer (out-NamedType u) (sym (ap (λ test. test u) (fold-roll-NamedType (NamedType → Bool) (λ layer other. fits_layer layer (out-NamedType other)) (plain layer))) ∙ is) v
      (subst (λ t. has_type shapes v t ≡ true) (fold-roll-NamedType Ty (value_type_layer items) (plain layer)) typed))

  pub widens : (t : NamedType) → Widens t
  widens = ind-NamedType Widens (λ x y is. subst (λ l. Widens (roll-NamedType l)) is (step y))

  -- of two types one fits the other, and values of both are of that one
  first_step : (t u w : NamedType) (a b : Bool) → fits t u ≡ a → cond a (Some u) (cond b (Some t) None) ≡ Some w → (v : Value) → IsOf items t v → IsOf items w v
  first_step t u w true b fit is v typed = subst (λ w. IsOf items w v) (same_Some u w is) (widens t u fit v typed)
  first_step t u w false true fit is v typed = subst (λ w. IsOf items w v) (same_Some t w is) typed
  first_step t u w false false fit is v typed = absurd (cc)

  pub joined_first : (t u w : NamedType) → joined t u ≡ Some w → (v : Value) → IsOf items t v → IsOf items w v
  joined_first t u w is v typed = first_step t u w (fits t u) (fits u t) refl is v typed

  second_step : (t u w : NamedType) (a b : Bool) → fits u t ≡ b → cond a (Some u) (cond b (Some t) None) ≡ Some w → (v : Value) → IsOf items u v → IsOf items w v
  second_step t u w true b fit is v typed = subst (λ w. IsOf items w v) (same_Some u w is) typed
  second_step t u w false true fit is v typed = subst (λ w. IsOf items w v) (same_Some t w is) (widens u t fit v typed)
  second_step t u w false false fit is v typed = absurd (cc)

  pub joined_second : (t u w : NamedType) → joined t u ≡ Some w → (v : Value) → IsOf items u v → IsOf items w v
  joined_second t u w is v typed = second_step t u w (fits t u) (fits u t) refl is v typed

  -- ---- types by their form

  at_layer : (t : NamedType) (layer : NamedType-F NamedType) → out-NamedType t ≡ layer → value_type_of items t ≡ of_layer layer
  at_layer t layer is = fold_out-NamedType Ty (value_type_layer items) t ∙ ap of_layer is
