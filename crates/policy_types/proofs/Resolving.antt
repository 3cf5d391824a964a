-- The values that arguments resolve to.
use Rattle.std.proofs.Common.{◌≡◌, ◌==◌, ℕ, ◌<◌, Bool, true, false, cond, List, [], ◌∷◌, length, map, nat_lt, slice_get, Option, Some, None, option_map, option_and_then, unwrap_or, refl, sym, ap, subst, ◌∙◌}
use Rattle.std.specs.Prelude.{position}
use Rattle.std.proofs.lemmas.Bool.{eq-eqb, eqb-true, false≢true, ltb-true}
use Rattle.std.proofs.lemmas.Option.{same_Some}
use Rattle.std.specs.List.{position_or_len}
use Rattle.std.specs.Str.{bytes_eq}
use Rattle.base_bytes.proofs.Bools.{and_both}
use Rattle.base_bytes.proofs.Formats.{bind_then, if_then, map_then}
use Rattle.base_bytes.specs.Values.{fits_bytes, fits_id, fits_int, fits_text, has_type, hold_in_order, is_variant}
use Rattle.base_bytes.specs.declared.arg.Arg.{Arg, fold-roll-Arg, ind-Arg, map-Arg, roll-Arg}
use Rattle.base_bytes.specs.declared.arg.Arg.TheOpen.{Arg-F}
use Rattle.base_bytes.specs.declared.shapes.Shapes.{Shapes}
use Rattle.base_bytes.specs.declared.ty.Ty.{Ty, out-Ty}
use Rattle.base_bytes.specs.declared.ty.Ty.TheOpen.{Ty-F}
use Rattle.base_bytes.specs.declared.value.Value.{Value, out-Value}
use Rattle.base_bytes.specs.declared.value.Value.TheOpen.{Value-F}
use Rattle.base_bytes.specs.declared.value.Value.TheVariants as value
use Rattle.policy_ast.specs.declared.field.Field.{Field}
use Rattle.policy_ast.specs.declared.item.Item.{Item}
use Rattle.policy_ast.specs.declared.item.Item.TheVariants as item
use Rattle.policy_ast.specs.declared.policy.PlacedItem.{PlacedItem}
use Rattle.policy_ast.specs.declared.statement.Stmt.{Stmt}
use Rattle.policy_meaning.specs.Environments.{variant_value}
use Rattle.policy_meaning.specs.Resolving.{Resolving, given_for, means, name_each_once, only, resolved, resolved_fields, resolved_layer, resolved_struct}
use Rattle.policy_meaning.specs.Typed.{IsActionOf, is_action_of}
use Rattle.policy_rules.specs.Heads.{enum_named, struct_named, variants}
use Rattle.policy_rules.specs.Names.{Name, item_named, number_named}
use Rattle.policy_rules.specs.Scopes.{names_in}
use Rattle.policy_rules.specs.Shapes.{field_value_types, shapes_of, value_type_of}
use Rattle.policy_rules.specs.WellTyped.{IsWellTyped, IsWellTypedAt, items_of}
use Rattle.policy_rules.specs.declared.types.Named.{Named}
use Rattle.policy_types.proofs.Layers.{closes, has_parts}
use Rattle.policy_types.proofs.Standing.{StructStands, are_struct_fields, enum_variants_of, shape_stands, standing, struct_standing}
use Rattle.policy_types.proofs.Values.{variant_is}
use Rattle.policy_types.specs.Fitting.{AreOf, types_of}
use Rattle.policy_types.specs.Resolved.{ResolveTo, ResolvesTyped}

module _ (items : List Item) (well : (n : ℕ) → IsWellTypedAt items n) where
  abbrev shapes : Shapes
  shapes = shapes_of items

  abbrev IsTyped : Arg → Type 0
  IsTyped a = (t : Ty) (v : Value) → resolved items a t ≡ Some v → has_type shapes v t ≡ true

  abbrev Child : Type 0
  Child = (a : Arg) × IsTyped a

  abbrev plain : Arg-F Child → Arg-F Arg
  plain layer = map-Arg Child Arg (λ c. c.0) layer

  abbrev resolves : Arg-F Child → Arg-F Resolving
  resolves layer = map-Arg Arg Resolving (resolved items) (plain layer)

  -- a value with a known layer
  made : (v : Value) (l : Value-F Value) (t : Ty) (layer : Ty-F Ty) (w : Value) → out-Value w ≡ l → w ≡ v → out-Ty t ≡ layer → has_parts shapes l layer ≡ true → has_type shapes v t ≡ true
  made v l t layer w out same of parts = subst (λ v. has_type shapes v t ≡ true) same (closes shapes w l t layer out of parts)

  only_then : {P : Type 0} (test : Bool) (w v : Value) → only test w ≡ Some v → (test ≡ true → w ≡ v → P) → P
  only_then test w v is go = if_then test (Some w) v is (λ passes same. go passes (same_Some w v same))

  -- ---- variants

  means_then : (name : Name) (number : ℕ) → means items name number ≡ true → number_named items name ≡ Some number
  means_then name number is = by (number_named items name) is
    where
      by : (o : Option ℕ) → unwrap_or (option_map (λ n. n == number) o) false ≡ true → o ≡ Some number
      by None is = absurd (false≢true is)
      by (Some n) is = ap Some (eqb-true n number is)

  placed_within : (b : Bool) (k n ordinal : ℕ) → nat_lt k n ≡ b → cond b (Some k) None ≡ Some ordinal → ordinal < n
  placed_within true k n ordinal lt is = subst (λ k. k < n) (same_Some k ordinal is) (ltb-true k n lt)
  placed_within false k n ordinal lt is = absurd (cc)

  variant_typed : (name variant : Name) (number : ℕ) (v : Value) → number_named items name ≡ Some number → variant_value items name variant ≡ Some v → (t : Ty) → out-Ty t ≡ Ty-F.Enum number
      → has_type shapes v t ≡ true
  variant_typed name variant number v numbered is t of = bind_then (number_named items name) _ v is (λ n at rest. bind_then (enum_named items name) _ v rest (λ all named more.
      map_then (position (bytes_eq variant) all) (value.Enum n) v more (λ ordinal placed same. bind_then (item_named items name) variants all named (λ i stands has.
      let s = standing items name i stands in
      let lt : ordinal < length all = placed_within (nat_lt (position_or_len (bytes_eq variant) all) (length all)) (position_or_len (bytes_eq variant) all) (length all) ordinal refl placed in
      let same_number : n ≡ number = same_Some n number (sym at ∙ numbered) in
      let at_number : s.number ≡ number = same_Some s.number number (sym s.numbered ∙ numbered) in
      made v (Value-F.Enum number ordinal) t (Ty-F.Enum number) (value.Enum number ordinal) (value.outs-Enum number ordinal) (ap (λ n. value.Enum n ordinal) (sym same_number) ∙ same) of
      (and_both (number == number) _ (eq-eqb number number refl)
      (subst (λ s. is_variant ordinal s ≡ true) (sym (shape_stands items number i (ap (slice_get items) (sym at_number) ∙ s.stands)))
      (variant_is items number ordinal i all has (enum_variants_of items well name all named) lt)))))))

  -- ---- structs

  abbrev given_of : List (Name × Child) → List (Name × Resolving)
  given_of given = map (λ g. (g.0, resolved items g.1.0)) given

  -- the generated map of the fields of an argument is this one
  abbrev fields_in : {A : Type 0} → Arg-F A → List (Name × A)
  fields_in (Arg-F.Fields name given) = given
  fields_in other = []

  abbrev mapped : List (Name × Child) → List (Name × Resolving)
  mapped given = fields_in (resolves (Arg-F.Fields [] given))

  given_same : (given : List (Name × Child)) → mapped given ≡ given_of given
  given_same [] = refl
  given_same (g ∷ given) = ap (λ (rest : List (Name × Resolving)). (g.0, resolved items g.1.0) ∷ rest) (given_same given)

  given_step : (given : List (Name × Child)) (c : Child) (r : Resolving) → (given_for_rest : Option Resolving) → (given_for_rest ≡ Some r → (d : Child) × (resolved items d.0 ≡ r)) → (b : Bool)
      → cond b (Some (resolved items c.0)) given_for_rest ≡ Some r → (d : Child) × (resolved items d.0 ≡ r)
  given_step given c r rest later true is = (c, same_Some (resolved items c.0) r is)
  given_step given c r rest later false is = later is

  given_child : (given : List (Name × Child)) (name : Name) (r : Resolving) → given_for name (given_of given) ≡ Some r → (d : Child) × (resolved items d.0 ≡ r)
  given_child [] name r is = absurd (cc)
  given_child (g ∷ given) name r is = given_step given g.1 r (given_for name (given_of given)) (given_child given name r) (bytes_eq name g.0) is

  fields_typed : (given : List (Name × Child)) (fields : List Named) (values : List Value) → resolved_fields items fields (given_of given) ≡ Some values → AreOf items (types_of fields) values
  fields_typed given [] values is = subst (AreOf items []) (same_Some [] values is) tt
  fields_typed given (f ∷ fields) values is =
      bind_then (option_and_then (λ (resolve : Resolving). resolve (value_type_of items f.ty)) (given_for f.name (given_of given))) _ values is (λ v one rest.
      map_then (resolved_fields items fields (given_of given)) (λ vs. v ∷ vs) values rest (λ vs all same.
      bind_then (given_for f.name (given_of given)) (λ (resolve : Resolving). resolve (value_type_of items f.ty)) v one (λ r found has.
      let child = given_child given f.name r found in
      subst (AreOf items (types_of (f ∷ fields))) same
      (child.0.1 (value_type_of items f.ty) v (ap (λ (r : Resolving). r (value_type_of items f.ty)) child.1 ∙ has), fields_typed given fields vs all))))

  struct_typed : (name : Name) (number : ℕ) (given : List (Name × Child)) (v : Value) → number_named items name ≡ Some number → resolved_struct items number name (given_of given) ≡ Some v → (t : Ty)
      → out-Ty t ≡ Ty-F.Struct number → has_type shapes v t ≡ true
  struct_typed name number given v numbered is t of = bind_then (struct_named items name) _ v is (λ fields named rest.
      if_then (name_each_once (names_in fields) (map (λ (g : Name × Resolving). g.0) (given_of given))) _ v rest (λ once more.
      map_then (resolved_fields items fields (given_of given)) (value.Struct number) v more (λ values all same.
      let s : StructStands items name fields = struct_standing items name fields named in
      let at_number : s.number ≡ number = same_Some s.number number (sym s.numbered ∙ numbered) in
      made v (Value-F.Struct number values) t (Ty-F.Struct number) (value.Struct number values) (value.outs-Struct number values) same of
      (and_both (number == number) _ (eq-eqb number number refl)
      (are_struct_fields items number s.item s.written (ap (slice_get items) (sym at_number) ∙ s.stands) s.writes values
      (subst (λ fields. AreOf items (types_of fields) values) (sym s.declares) (fields_typed given fields values all)))))))

  -- ---- all forms

  layers : (layer : Arg-F Child) (type_layer : Ty-F Ty) (t : Ty) → out-Ty t ≡ type_layer → (v : Value) → resolved_layer items (resolves layer) type_layer ≡ Some v → has_type shapes v t ≡ true
  layers (Arg-F.Int n) Ty-F.Int t of v is = only_then (fits_int n) (value.Int n) v is (λ fit same. made v (Value-F.Int n) t Ty-F.Int (value.Int n) (value.outs-Int n) same of fit)
  layers (Arg-F.Bool b) Ty-F.Bool t of v is = made v (Value-F.Bool b) t Ty-F.Bool (value.Bool b) (value.outs-Bool b) (same_Some (value.Bool b) v is) of refl
  layers (Arg-F.Str text) Ty-F.Str t of v is = only_then (fits_text text) (value.Str text) v is (λ fit same. made v (Value-F.Str text) t Ty-F.Str (value.Str text) (value.outs-Str text) same of fit)
  layers (Arg-F.Raw bytes) Ty-F.Raw t of v is = only_then (fits_bytes bytes) (value.Raw bytes) v is (λ fit same. made v (Value-F.Raw bytes) t Ty-F.Raw (value.Raw bytes) (value.outs-Raw bytes) same of fit)
  layers (Arg-F.Ident id) Ty-F.Ident t of v is = only_then (fits_id id) (value.Ident id) v is (λ fit same. made v (Value-F.Ident id) t Ty-F.Ident (value.Ident id) (value.outs-Ident id) same of fit)
  layers (Arg-F.Variant name variant) (Ty-F.Enum number) t of v is =
      if_then (means items name number) (variant_value items name variant) v is (λ right has. variant_typed name variant number v (means_then name number right) has t of)
  layers (Arg-F.Fields name given) (Ty-F.Struct number) t of v is = if_then (means items name number) _ v is (λ right has.
      struct_typed name number given v (means_then name number right) (sym (ap (resolved_struct items number name) (given_same given)) ∙ has) t of)
  layers Arg-F.Nothing (Ty-F.Optional inner) t of v is = made v Value-F.Nothing t (Ty-F.Optional inner) value.Nothing value.outs-Nothing (same_Some value.Nothing v is) of refl
  layers (Arg-F.Some c) (Ty-F.Optional inner) t of v is = map_then (resolved items c.0 inner) value.Some v is (λ w has same.
      made v (Value-F.Some w) t (Ty-F.Optional inner) (value.Some w) (value.outs-Some w) same of (c.1 inner w has))
  layers layer type_layer t of v is = absurd (cc)

  step : (layer : Arg-F Child) → IsTyped (roll-Arg (plain layer))
  step layer t v is = layers layer (out-Ty t) t refl v (sym (ap (λ (r : Resolving). r t) (fold-roll-Arg Resolving (λ layer t. resolved_layer items layer (out-Ty t)) (plain layer))) ∙ is)

  pub resolved_typed : (a : Arg) → IsTyped a
  resolved_typed = ind-Arg IsTyped (λ x y is. subst (λ l. IsTyped (roll-Arg l)) is (step y))

  pub all_resolved : (types : List Ty) (arguments : List Arg) (values : List Value) → ResolveTo items types arguments values → hold_in_order (map (has_type shapes) values) types ≡ true
  all_resolved [] [] [] are = refl
  all_resolved [] [] (v ∷ values) are = absurd are
  all_resolved [] (a ∷ arguments) values are = absurd are
  all_resolved (t ∷ types) [] values are = absurd are
  all_resolved (t ∷ types) (a ∷ arguments) [] are = absurd are
  all_resolved (t ∷ types) (a ∷ arguments) (v ∷ values) are = and_both (has_type shapes v t) (hold_in_order (map (has_type shapes) values) types) (resolved_typed a t v are.0) (all_resolved types arguments values are.1)

module _ (policy : List PlacedItem) (well : IsWellTyped policy) where
  actions_resolved : (action : ℕ) (name : Name) (parameters : List Field) (body : List Stmt) → slice_get (items_of policy) action ≡ Some (item.Action name parameters body) → (arguments : List Arg)
      (values : List Value) → ResolveTo (items_of policy) (field_value_types (items_of policy) parameters) arguments values → IsActionOf policy action values
  unfolding IsActionOf
  actions_resolved action name parameters body at arguments values are =
      ap (λ o. unwrap_or (option_map (is_action_of (items_of policy) values) o) false) at ∙ all_resolved (items_of policy) well (field_value_types (items_of policy) parameters) arguments values are

  pub resolves_typed : ResolvesTyped policy
  resolves_typed = record {
    one = λ argument t v is. resolved_typed (items_of policy) well argument t v is;
    of_actions = λ action name parameters body at arguments values are. actions_resolved action name parameters body at arguments values are;
  }
