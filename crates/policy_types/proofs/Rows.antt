-- Rows of typed facts, and the rows that patterns ask for.
use Rattle.std.proofs.Common.{◌≡◌, ℕ, Bool, true, false, cond, ◌&&◌, ◌==◌, List, [], ◌∷◌, ◌++◌, map, slice_get, Option, Some, None, option_map, unwrap_or, refl, sym, ap, subst, ◌∙◌}
use Rattle.std.proofs.lemmas.Bool.{eqb-true, false≢true}
use Rattle.std.proofs.lemmas.Option.{same_Some}
use Rattle.std.specs.List.{list_all}
use Rattle.std.specs.Str.{bytes_eq}
use Rattle.base_bytes.proofs.Bools.{and_both, and_then}
use Rattle.base_bytes.specs.KeyOrder.{is_key, is_key_layer}
use Rattle.base_bytes.specs.Values.{has_type, hold_in_order}
use Rattle.base_bytes.specs.declared.shapes.Shapes.{Shapes}
use Rattle.base_bytes.specs.declared.ty.Ty.TheOpen.{Ty-F}
use Rattle.base_bytes.specs.declared.ty.Ty.TheVariants as value_type
use Rattle.base_bytes.specs.declared.value.Value.{Value, out-Value}
use Rattle.base_bytes.specs.declared.value.Value.TheOpen.{Value-F}
use Rattle.base_bytes.specs.declared.value.Value.TheVariants as value
use Rattle.fact_store.specs.Matching.{begins_with, first_row, has_named, is_within, matches, selected}
use Rattle.fact_store.specs.Rows.{are_keys}
use Rattle.fact_store.specs.declared.row.Row.{Row}
use Rattle.fact_store.specs.declared.wanted.Wanted.{Wanted}
use Rattle.policy_ast.specs.declared.field.Field.{Field}
use Rattle.policy_ast.specs.declared.field.FieldType.{FieldType, out-FieldType}
use Rattle.policy_ast.specs.declared.field.FieldType.TheOpen.{FieldType-F}
use Rattle.policy_ast.specs.declared.item.Item.{Item}
use Rattle.policy_ast.specs.declared.item.Item.TheVariants as item
use Rattle.policy_meaning.proofs.FieldTypes.{of_form, typed_by_form}
use Rattle.policy_meaning.specs.Patterns.{before_gap, by_keys, named_values, row_value, wanted_of}
use Rattle.policy_meaning.specs.Typed.{are_fields_of, is_row_of, is_typed_row}
use Rattle.policy_meaning.specs.Environments.{value_in}
use Rattle.policy_meaning.specs.Values.{optional_of}
use Rattle.policy_rules.specs.FieldLists.{are_leading_keys}
use Rattle.policy_rules.specs.Heads.{FactHead, enum_named, fact_named}
use Rattle.policy_rules.specs.Items.{is_key_type, is_key_type_layer}
use Rattle.policy_rules.specs.Names.{Name, number_named}
use Rattle.policy_rules.specs.Scopes.{names_in}
use Rattle.policy_rules.specs.Shapes.{numbered, shapes_of}
use Rattle.policy_rules.specs.Types.{declared, fits, written_type}
use Rattle.policy_rules.specs.WellTyped.{IsWellTypedAt}
use Rattle.policy_rules.specs.declared.types.Named.{Named}
use Rattle.policy_rules.specs.declared.types.NamedType.{NamedType}
use Rattle.policy_rules.specs.declared.types.NamedType.TheVariants as ty
use Rattle.policy_types.proofs.Fields.{are_both, are_from_hold, field_types_are, hold_from_are}
use Rattle.policy_types.proofs.Fitting.{widens}
use Rattle.policy_types.proofs.Layers.{has_parts, no_value, opens}
use Rattle.policy_types.proofs.Standing.{FactStands, StructStands, fact_fields_of, fact_standing, struct_standing, struct_value_made}
use Rattle.policy_types.proofs.Values.{is_nothing, is_something}
use Rattle.policy_types.specs.Asked.{AsksFor}
use Rattle.policy_types.specs.Fitting.{AreOf, IsOf, types_of}

-- values that are key values
pub keyed : {A : Type 0} (keys : List Value) (x : A) → are_keys keys ≡ true → by_keys keys x ≡ Some x
keyed keys x are = ap (λ b. cond b (Some x) None) are

types_both : (fields more : List Named) → types_of (fields ++ more) ≡ types_of fields ++ types_of more
types_both [] more = refl
types_both (f ∷ fields) more = ap (λ types. f.ty ∷ types) (types_both fields more)

module _ (items : List Item) where
  abbrev shapes : Shapes
  shapes = shapes_of items

  -- ---- values of fields that are written

  pub fields_are_of : (fields : List Field) (values : List Value) → are_fields_of items values fields ≡ true → AreOf items (types_of (declared fields)) values
  fields_are_of fields values is = are_from_hold items (types_of (declared fields)) values
      (subst (λ types. hold_in_order (map (has_type shapes) values) types ≡ true) (field_types_are items fields) is)

  pub are_fields_from : (fields : List Field) (values : List Value) → AreOf items (types_of (declared fields)) values → are_fields_of items values fields ≡ true
  are_fields_from fields values are =
      subst (λ types. hold_in_order (map (has_type shapes) values) types ≡ true) (sym (field_types_are items fields)) (hold_from_are items (types_of (declared fields)) values are)

  -- ---- rows

  -- a typed row of the fact that a name means
  pub record IsRowOf (fact : FactHead) (number : ℕ) (row : Row) : Type 0 where
    pub of : row.fact ≡ number
    pub keys : AreOf items (types_of fact.keys) row.keys
    pub values : AreOf items (types_of fact.values) row.values

  pub row_is_of : (name : Name) (fact : FactHead) (s : FactStands items name fact) (row : Row) → is_typed_row items row ≡ true → row.fact ≡ s.number → IsRowOf fact s.number row
  row_is_of name fact s row typed of =
      let at : slice_get items row.fact ≡ Some (item.Fact fact.is_immutable s.own_name s.keys s.values) = ap (slice_get items) of ∙ s.stands in
      let is : is_row_of items row (item.Fact fact.is_immutable s.own_name s.keys s.values) ≡ true = sym (ap (λ o. unwrap_or (option_map (is_row_of items row) o) false) at) ∙ typed in
      and_then (are_fields_of items row.keys s.keys) (are_fields_of items row.values s.values) is (λ ks vs. record {
        of = of;
        keys = subst (λ fields. AreOf items (types_of fields) row.keys) s.declares_keys (fields_are_of s.keys row.keys ks);
        values = subst (λ fields. AreOf items (types_of fields) row.values) s.declares_values (fields_are_of s.values row.values vs);
      })

  pub row_typed : (name : Name) (fact : FactHead) (s : FactStands items name fact) (row : Row) → IsRowOf fact s.number row → is_typed_row items row ≡ true
  row_typed name fact s row is =
      ap (λ n. unwrap_or (option_map (is_row_of items row) (slice_get items n)) false) is.of ∙ ap (λ o. unwrap_or (option_map (is_row_of items row) o) false) s.stands
      ∙ and_both (are_fields_of items row.keys s.keys) (are_fields_of items row.values s.values)
      (are_fields_from s.keys row.keys (subst (λ fields. AreOf items (types_of fields) row.keys) (sym s.declares_keys) is.keys))
      (are_fields_from s.values row.values (subst (λ fields. AreOf items (types_of fields) row.values) (sym s.declares_values) is.values))

  -- a row is a value of the struct of its fact
  pub row_is_struct : (name : Name) (fact : FactHead) (s : FactStands items name fact) (row : Row) → IsRowOf fact s.number row → IsOf items (ty.Struct name) (row_value row)
  row_is_struct name fact s row is =
      let t : StructStands items name (fact.keys ++ fact.values) = struct_standing items name (fact.keys ++ fact.values) s.is_struct in
      let same : t.number ≡ row.fact = same_Some t.number row.fact (sym t.numbered ∙ s.numbered ∙ ap Some (sym is.of)) in
      subst (λ n. IsOf items (ty.Struct name) (value.Struct n (row.keys ++ row.values))) same
      (struct_value_made items name (fact.keys ++ fact.values) t (row.keys ++ row.values)
      (subst (λ types. AreOf items types (row.keys ++ row.values)) (sym (types_both fact.keys fact.values))
      (are_both items (types_of fact.keys) (types_of fact.values) row.keys row.values is.keys is.values)))

  abbrev pub AreRows : List Row → Type 0
  AreRows rows = list_all (is_typed_row items) rows ≡ true

  -- each of these is a typed row of the fact
  abbrev pub AreRowsOf : FactHead → ℕ → List Row → Type 0
  AreRowsOf fact number [] = Unit {0}
  AreRowsOf fact number (row ∷ rows) = IsRowOf fact number row × AreRowsOf fact number rows

  module _ (name : Name) (fact : FactHead) (s : FactStands items name fact) (wanted : Wanted) (of : wanted.fact ≡ s.number) where
    matched : (row : Row) → matches wanted row ≡ true → row.fact ≡ s.number
    matched row is = and_then (is_within wanted row) (has_named wanted.values row.values) is (λ within named.
        and_then (wanted.fact == row.fact) (begins_with wanted.keys row.keys) within (λ same begins. sym (eqb-true wanted.fact row.fact same) ∙ of))

    selected_step : (row : Row) (rows : List Row) → is_typed_row items row ≡ true → (b : Bool) → matches wanted row ≡ b → AreRowsOf fact s.number (selected wanted rows)
        → AreRowsOf fact s.number (cond b (row ∷ selected wanted rows) (selected wanted rows))
    selected_step row rows typed true is later = (row_is_of name fact s row typed (matched row is), later)
    selected_step row rows typed false is later = later

    -- what is asked for of typed facts
    pub selected_are : (rows : List Row) → AreRows rows → AreRowsOf fact s.number (selected wanted rows)
    selected_are [] are = tt
    selected_are (row ∷ rows) are = and_then (is_typed_row items row) (list_all (is_typed_row items) rows) are (λ one more.
        selected_step row rows one (matches wanted row) refl (selected_are rows more))

    first_is_by : (found : List Row) → AreRowsOf fact s.number found → IsOf items (ty.Optional (ty.Struct name)) (optional_of (option_map row_value (slice_get found 0)))
    first_is_by [] are = is_nothing items (ty.Struct name)
    first_is_by (row ∷ found) are = is_something items (ty.Struct name) (row_value row) (row_is_struct name fact s row are.0)

    -- the first of them, if any
    pub first_is : (rows : List Row) → AreRows rows → IsOf items (ty.Optional (ty.Struct name)) (optional_of (option_map row_value (first_row wanted rows)))
    first_is rows are = first_is_by (selected wanted rows) (selected_are rows are)

  -- ---- keys

  int_key : (l : Value-F Value) → has_parts shapes l Ty-F.Int ≡ true → is_key_layer l ≡ true
  int_key (Value-F.Int n) is = refl
  int_key l is = absurd (false≢true is)

  bool_key : (l : Value-F Value) → has_parts shapes l Ty-F.Bool ≡ true → is_key_layer l ≡ true
  bool_key (Value-F.Bool b) is = refl
  bool_key l is = absurd (false≢true is)

  text_key : (l : Value-F Value) → has_parts shapes l Ty-F.Str ≡ true → is_key_layer l ≡ true
  text_key (Value-F.Str text) is = refl
  text_key l is = absurd (false≢true is)

  raw_key : (l : Value-F Value) → has_parts shapes l Ty-F.Raw ≡ true → is_key_layer l ≡ true
  raw_key (Value-F.Raw bytes) is = refl
  raw_key l is = absurd (false≢true is)

  id_key : (l : Value-F Value) → has_parts shapes l Ty-F.Ident ≡ true → is_key_layer l ≡ true
  id_key (Value-F.Ident id) is = refl
  id_key l is = absurd (false≢true is)

  variant_key : (n : ℕ) (l : Value-F Value) → has_parts shapes l (Ty-F.Enum n) ≡ true → is_key_layer l ≡ true
  variant_key n (Value-F.Enum item ordinal) is = refl
  variant_key n l is = absurd (false≢true is)

  enum_key : {A : Type 0} (found : Option A) (number : Option ℕ) (v : Value) → has_type shapes v (numbered value_type.Enum found number) ≡ true → is_key v ≡ true
  enum_key None number v is = no_value shapes v is
  enum_key (Some it) None v is = no_value shapes v is
  enum_key (Some it) (Some n) v is = variant_key n (out-Value v) (opens shapes v (value_type.Enum n) (Ty-F.Enum n) (value_type.outs-Enum n) is)

  key_by : (form : FieldType-F FieldType) → is_key_type_layer form ≡ true → (v : Value) → has_type shapes v (of_form items form) ≡ true → is_key v ≡ true
  key_by FieldType-F.Int key v is = int_key (out-Value v) (opens shapes v value_type.Int Ty-F.Int value_type.outs-Int is)
  key_by FieldType-F.Bool key v is = bool_key (out-Value v) (opens shapes v value_type.Bool Ty-F.Bool value_type.outs-Bool is)
  key_by FieldType-F.Str key v is = text_key (out-Value v) (opens shapes v value_type.Str Ty-F.Str value_type.outs-Str is)
  key_by FieldType-F.Raw key v is = raw_key (out-Value v) (opens shapes v value_type.Raw Ty-F.Raw value_type.outs-Raw is)
  key_by FieldType-F.Ident key v is = id_key (out-Value v) (opens shapes v value_type.Ident Ty-F.Ident value_type.outs-Ident is)
  key_by (FieldType-F.Enum name) key v is = enum_key (enum_named items name) (number_named items name) v is
  key_by (FieldType-F.Struct name) key v is = absurd (false≢true key)
  key_by (FieldType-F.Optional inner) key v is = absurd (false≢true key)

  -- a value of the type of a key is a key value
  pub key_value : (t : FieldType) → is_key_type t ≡ true → (v : Value) → IsOf items (written_type t) v → is_key v ≡ true
  key_value t key v is = key_by (out-FieldType t) key v (subst (λ t. has_type shapes v t ≡ true) (typed_by_form items t (out-FieldType t) refl) is)

  pub are_key_values : (fields : List Field) → list_all (λ f. is_key_type f.field_type) fields ≡ true → (values : List Value) → AreOf items (types_of (declared fields)) values → are_keys values ≡ true
  are_key_values [] simple [] are = refl
  are_key_values [] simple (v ∷ values) are = absurd are
  are_key_values (f ∷ fields) simple [] are = absurd are
  are_key_values (f ∷ fields) simple (v ∷ values) are = and_then (is_key_type f.field_type) (list_all (λ f. is_key_type f.field_type) fields) simple (λ one more.
      and_both (is_key v) (are_keys values) (key_value f.field_type one v are.0) (are_key_values fields more values are.1))

  -- ---- patterns

  -- values of types, one by one, where a `?` has neither
  abbrev pub GapsAre : List (Option NamedType) → List (Option Value) → Type 0
  GapsAre [] [] = Unit {0}
  GapsAre (None ∷ types) (None ∷ values) = GapsAre types values
  GapsAre (Some t ∷ types) (Some v ∷ values) = IsOf items t v × GapsAre types values
  GapsAre types values = ⊥

  leading_keys : (fields : List Field) → list_all (λ f. is_key_type f.field_type) fields ≡ true → (names : List Name) (types : List (Option NamedType)) → are_leading_keys (declared fields) names types ≡ true
      → (values : List (Option Value)) → GapsAre types values → are_keys (before_gap values) ≡ true
  leading_keys fields simple names types leads [] are = refl
  leading_keys fields simple names types leads (None ∷ values) are = refl
  leading_keys fields simple names [] leads (Some v ∷ values) are = absurd are
  leading_keys fields simple names (None ∷ types) leads (Some v ∷ values) are = absurd are
  leading_keys [] simple [] (Some t ∷ types) leads (Some v ∷ values) are = absurd (false≢true leads)
  leading_keys [] simple (name ∷ names) (Some t ∷ types) leads (Some v ∷ values) are = absurd (false≢true leads)
  leading_keys (f ∷ fields) simple [] (Some t ∷ types) leads (Some v ∷ values) are = absurd (false≢true leads)
  leading_keys (f ∷ fields) simple (name ∷ names) (Some t ∷ types) leads (Some v ∷ values) are =
      and_then (is_key_type f.field_type) (list_all (λ f. is_key_type f.field_type) fields) simple (λ one more.
      and_then (bytes_eq name f.name && fits t (written_type f.field_type)) (are_leading_keys (declared fields) names types) leads (λ both rest.
      and_then (bytes_eq name f.name) (fits t (written_type f.field_type)) both (λ same fit.
      and_both (is_key v) (are_keys (before_gap values)) (key_value f.field_type one v (widens items t (written_type f.field_type) fit v are.0)) (leading_keys fields more names types rest values are.1))))

  -- what is asked for, once the expressions of a pattern have values
  pub record Asked (name : Name) (found : Option Wanted) : Type 0 where
    pub wanted : Wanted
    pub is : found ≡ Some wanted
    pub asks : AsksFor items name wanted

  module _ (well : (n : ℕ) → IsWellTypedAt items n) where
    pub pattern_asks : (name : Name) (fact : FactHead) → fact_named items name ≡ Some fact → (key_names : List Name) (keys : List (Option NamedType)) → are_leading_keys fact.keys key_names keys ≡ true
        → (key_values : List (Option Value)) → GapsAre keys key_values → (value_names : List Name) (values : List (Option Value))
        → Asked name (wanted_of items name key_values value_names values)
    pattern_asks name fact is key_names keys leads key_values are value_names values =
        let s : FactStands items name fact = fact_standing items name fact is in
        let simple : are_keys (before_gap key_values) ≡ true =
        leading_keys s.keys (fact_fields_of items well name fact s).are_keys key_names keys (subst (λ fields. are_leading_keys fields key_names keys ≡ true) (sym s.declares_keys) leads) key_values are in
        let wanted : Wanted = record { fact = s.number; keys = before_gap key_values; values = map (value_in (named_values value_names values)) (names_in fact.values) } in
        record { wanted = wanted; is = rw (s.numbered, is) (keyed (before_gap key_values) wanted simple); asks = record { numbered = s.numbered; keys = simple } }
