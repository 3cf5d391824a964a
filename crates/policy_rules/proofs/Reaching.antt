-- In a well-typed policy no struct reaches itself.
use Rattle.std.proofs.Common.{◌≡◌, ℕ, zero, suc, Bool, true, false, cond, List, [], ◌∷◌, ◌++◌, length, map, find, position, slice_get, Option, Some, None, option_map, unwrap_or, refl, sym, ap, subst, ◌∙◌, nat_lt}
use Rattle.std.proofs.lemmas.Bool.{eqb-true, false≢true}
use Rattle.std.proofs.lemmas.List.Folds.{find_at}
use Rattle.std.proofs.lemmas.Option.{same_Some, slice_get-map}
use Rattle.std.specs.List.{list_all, list_any, position_or_len}
use Rattle.base_bytes.proofs.Bools.{and_then, either}
use Rattle.base_bytes.proofs.Formats.{bind_then, map_then}
use Rattle.base_bytes.specs.Reaching.{Holds, NoneReachesItself, Reaches, directly, field_types, has_struct, has_struct_layer, through}
use Rattle.base_bytes.specs.declared.shapes.Shape.TheVariants as shape
use Rattle.base_bytes.specs.declared.shapes.Shapes.{Shapes}
use Rattle.base_bytes.specs.declared.ty.Ty.{Ty, fold-roll-Ty, map-Ty, roll-Ty}
use Rattle.base_bytes.specs.declared.ty.Ty.TheOpen.{Ty-F}
use Rattle.base_bytes.specs.declared.ty.Ty.TheVariants as value_type
use Rattle.policy_ast.specs.declared.field.Field.{Field}
use Rattle.policy_ast.specs.declared.item.Item.{Item}
use Rattle.policy_ast.specs.declared.item.Item.TheVariants as item
use Rattle.policy_ast.specs.declared.policy.PlacedItem.{PlacedItem}
use Rattle.policy_rules.specs.Heads.{command_fields, struct_named, written_fields}
use Rattle.policy_rules.specs.Names.{Name, is_named, item_named, number_named}
use Rattle.policy_rules.specs.Nesting.{deepest_nesting, fields_pass, may_nest, nests_within, struct_passes, struct_passes_layer, written_nests}
use Rattle.policy_rules.specs.Shapes.{field_value_types, numbered, shape_of, shapes_of, value_type_layer, value_type_of}
use Rattle.policy_rules.specs.Types.{declared, written_type}
use Rattle.policy_rules.specs.WellTyped.{IsWellTyped, items_of}
use Rattle.policy_rules.specs.declared.types.Named.{Named}
use Rattle.policy_rules.specs.declared.types.NamedType.{NamedType, fold-roll-NamedType, ind-NamedType, map-NamedType, roll-NamedType}
use Rattle.policy_rules.specs.declared.types.NamedType.TheOpen.{NamedType-F}

-- ---- the item of a number is the item of the name

cond_some : {A : Type 0} (b : Bool) (x y : A) → cond b (Some x) None ≡ Some y → x ≡ y
cond_some true x y is = same_Some x y is
cond_some false x y is = absurd (cc)

found_at : {X : Type 0} (p : X → Bool) (xs : List X) (m : ℕ) → position p xs ≡ Some m → find p xs ≡ slice_get xs m
found_at p xs m is = find_at p xs ∙ ap (slice_get xs) (cond_some (nat_lt (position_or_len p xs) (length xs)) (position_or_len p xs) m is)

-- ---- which types hold a struct

holds_at : (m : ℕ) (layer : Ty-F Ty) (t : Ty) → roll-Ty layer ≡ t → has_struct m t ≡ has_struct_layer m (map-Ty Ty Bool (has_struct m) layer)
holds_at m layer t rolls = ap (has_struct m) (sym rolls) ∙ fold-roll-Ty Bool (has_struct_layer m) layer

module _ {P : Type 0} (m : ℕ) where
  not_at : (layer : Ty-F Ty) (t : Ty) → roll-Ty layer ≡ t → has_struct_layer m (map-Ty Ty Bool (has_struct m) layer) ≡ false → has_struct m t ≡ true → P
  not_at layer t rolls none is = absurd (false≢true (sym none ∙ sym (holds_at m layer t rolls) ∙ is))

  not_never : has_struct m value_type.Never ≡ true → P
  not_never = not_at Ty-F.Never value_type.Never value_type.rolls-Never refl

  not_enum : {A : Type 0} (found : Option A) (number : Option ℕ) → has_struct m (numbered value_type.Enum found number) ≡ true → P
  not_enum None number is = not_never is
  not_enum (Some it) None is = not_never is
  not_enum (Some it) (Some k) is = not_at (Ty-F.Enum k) (value_type.Enum k) (value_type.rolls-Enum k) refl is

module _ (items : List Item) where
  -- a struct of this number is named here, and its name passes a test
  abbrev Found : ℕ → (Name → Bool) → Type 0
  Found m test = (name : Name) × (fields : List Named) × (struct_named items name ≡ Some fields) × (number_named items name ≡ Some m) × (test name ≡ true)

  struct_at : (m : ℕ) (test : Name → Bool) (name : Name) → test name ≡ true → (found : Option (List Named)) (number : Option ℕ) → struct_named items name ≡ found → number_named items name ≡ number
      → has_struct m (numbered value_type.Struct found number) ≡ true → Found m test
  struct_at m test name passes None number is at holds = not_never m holds
  struct_at m test name passes (Some fields) None is at holds = not_never m holds
  struct_at m test name passes (Some fields) (Some k) is at holds =
      let same : m ≡ k = eqb-true m k (sym (holds_at m (Ty-F.Struct k) (value_type.Struct k) (value_type.rolls-Struct k)) ∙ holds) in
      (name, fields, is, at ∙ ap Some (sym same), passes)

  abbrev HoldsStruct : NamedType → Type 0
  HoldsStruct t = (m : ℕ) → has_struct m (value_type_of items t) ≡ true → (test : Name → Bool) → struct_passes test t ≡ true → Found m test

  abbrev Child : Type 0
  Child = (t : NamedType) × HoldsStruct t

  abbrev plain : NamedType-F Child → NamedType-F NamedType
  plain layer = map-NamedType Child NamedType (λ c. c.0) layer

  layers : (layer : NamedType-F Child) (m : ℕ) → has_struct m (value_type_layer items (map-NamedType NamedType Ty (value_type_of items) (plain layer))) ≡ true → (test : Name → Bool)
      → struct_passes_layer test (map-NamedType NamedType Bool (struct_passes test) (plain layer)) ≡ true → Found m test
  layers NamedType-F.Int m holds test passes = not_at m Ty-F.Int value_type.Int value_type.rolls-Int refl holds
  layers NamedType-F.Bool m holds test passes = not_at m Ty-F.Bool value_type.Bool value_type.rolls-Bool refl holds
  layers NamedType-F.Str m holds test passes = not_at m Ty-F.Str value_type.Str value_type.rolls-Str refl holds
  layers NamedType-F.Raw m holds test passes = not_at m Ty-F.Raw value_type.Raw value_type.rolls-Raw refl holds
  layers NamedType-F.Ident m holds test passes = not_at m Ty-F.Ident value_type.Ident value_type.rolls-Ident refl holds
  layers (NamedType-F.Enum name) m holds test passes = not_enum m _ _ holds
  layers (NamedType-F.Struct name) m holds test passes = struct_at m test name passes (struct_named items name) (number_named items name) refl refl holds
  layers (NamedType-F.Optional inner) m holds test passes =
      inner.1 m (sym (holds_at m (Ty-F.Optional (value_type_of items inner.0)) (value_type.Optional (value_type_of items inner.0)) (value_type.rolls-Optional (value_type_of items inner.0))) ∙ holds) test passes
  layers NamedType-F.Never m holds test passes = not_never m holds

  step : (layer : NamedType-F Child) → HoldsStruct (roll-NamedType (plain layer))
  step layer m holds test passes =
      layers layer m (sym (ap (has_struct m) (fold-roll-NamedType Ty (value_type_layer items) (plain layer))) ∙ holds) test
      (sym (fold-roll-NamedType Bool (struct_passes_layer test) (plain layer)) ∙ passes)

  holds_struct : (t : NamedType) → HoldsStruct t
  holds_struct = ind-NamedType HoldsStruct (λ x y is. subst (λ l. HoldsStruct (roll-NamedType l)) is (step y))

  in_fields : (fields : List Field) (m : ℕ) (test : Name → Bool) → list_any (has_struct m) (field_value_types items fields) ≡ true
      → list_all (λ f. struct_passes test f.ty) (declared fields) ≡ true → Found m test
  in_fields [] m test holds passes = absurd (false≢true holds)
  in_fields (f ∷ fields) m test holds passes =
      and_then (struct_passes test (written_type f.field_type)) (list_all (λ f. struct_passes test f.ty) (declared fields)) passes (λ one others.
      either (has_struct m (value_type_of items (written_type f.field_type))) (list_any (has_struct m) (field_value_types items fields)) holds
      (λ here. holds_struct (written_type f.field_type) m here test one) (λ later. in_fields fields m test later others))

  -- ---- from an item to those that it holds

  abbrev shapes : Shapes
  shapes = shapes_of items

  -- in the item of this number, where it is a struct, at most k structs nest
  abbrev Nests : ℕ → ℕ → Type 0
  Nests k n = (i : Item) (fields : List Field) → slice_get items n ≡ Some i → written_fields i ≡ Some fields → nests_within items k (declared fields) ≡ true

  -- the fields of an item whose shape holds a struct
  abbrev HasFields : ℕ → Item → Type 0
  HasFields m i = (fields : List Field) × (written_fields i ≡ Some fields) × (list_any (has_struct m) (field_value_types items fields) ≡ true)

  shape_fields : (m : ℕ) (i : Item) → list_any (has_struct m) (field_types (shape_of items i)) ≡ true → HasFields m i
  shape_fields m (item.Struct name fields) is = (fields, refl, is)
  shape_fields m (item.Effect name fields) is = (map (λ f. f.field) fields, refl, is)
  shape_fields m (item.Fact is_immutable name keys values) is = (keys ++ values, refl, is)
  shape_fields m (item.Command name sections) is = (command_fields sections, refl, is)
  shape_fields m i is = absurd (false≢true is)

  -- the item of a number that holds a struct
  holder : (n m : ℕ) (o : Option Item) → slice_get items n ≡ o → Holds shapes n m → (i : Item) × (slice_get items n ≡ Some i) × HasFields m i
  holder n m None at holds =
      absurd (false≢true (subst (λ o. list_any (has_struct m) (field_types (unwrap_or o shape.Neither)) ≡ true) (slice_get-map (shape_of items) items n ∙ ap (option_map (shape_of items)) at) holds))
  holder n m (Some i) at holds =
      (i, at, shape_fields m i (subst (λ o. list_any (has_struct m) (field_types (unwrap_or o shape.Neither)) ≡ true) (slice_get-map (shape_of items) items n ∙ ap (option_map (shape_of items)) at) holds))

  held : (k n m : ℕ) → Nests (suc k) n → Holds shapes n m → Nests k m
  held k n m nests holds i fields at written =
      let there = holder n m (slice_get items n) refl holds in
      let found = in_fields there.2.0 m (λ name. fields_pass (nests_within items k) (struct_named items name)) there.2.2 (nests there.0 there.2.0 there.1 there.2.1) in
      bind_then (item_named items found.0) _ found.1 found.2 (λ j named rest. map_then (written_fields j) declared found.1 rest (λ w has same.
      let one : Some i ≡ Some j = sym at ∙ sym (found_at (is_named found.0) items m found.3) ∙ named in
      let both : Some fields ≡ Some w = sym written ∙ ap written_fields (same_Some i j one) ∙ has in
      subst (λ fields. nests_within items k fields ≡ true) (sym same ∙ ap declared (sym (same_Some fields w both)))
      (subst (λ o. fields_pass (nests_within items k) o ≡ true) found.2 found.4)))

  ends : (n m : ℕ) → Nests zero n → Holds shapes n m → ⊥
  ends n m nests holds = let there = holder n m (slice_get items n) refl holds in absurd (false≢true (nests there.0 there.2.0 there.1 there.2.1))

  -- what reaches an item that holds another reaches that
  onward : {last item other : ℕ} → Reaches shapes last item → Holds shapes last other → Reaches shapes other item
  onward {last} (directly item holds) more = through item last holds (directly last more)
  onward (through item next holds reaches) more = through item next holds (onward reaches more)

  none_reaches : (k n : ℕ) → Nests k n → Reaches shapes n n → ⊥
  none_reaches zero n nests (directly item holds) = ends n n nests holds
  none_reaches zero n nests (through item other holds reaches) = ends n other nests holds
  none_reaches (suc k) n nests (directly item holds) = none_reaches k n (held k n n nests holds) (directly n holds)
  none_reaches (suc k) n nests (through item other holds reaches) = none_reaches k other (held k n other nests holds) (onward reaches holds)

  pub nothing_reaches_itself : ((n : ℕ) (i : Item) → slice_get items n ≡ Some i → may_nest items i ≡ true) → NoneReachesItself shapes
  nothing_reaches_itself nest n reaches = none_reaches deepest_nesting n (λ i fields at written. subst (λ o. written_nests items o ≡ true) written (nest n i at)) reaches

pub structs_are_finite : (policy : List PlacedItem) → IsWellTyped policy → NoneReachesItself (shapes_of (items_of policy))
structs_are_finite policy well = nothing_reaches_itself (items_of policy) (λ n i at. (well n i at).nests)
