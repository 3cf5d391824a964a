-- The items that names mean in a well-typed policy: their numbers, their shapes, and that the names of their fields are distinct.
use Rattle.std.proofs.Common.{◌≡◌, ℕ, Bool, true, false, cond, not, ◌&&◌, ◌||◌, List, [], ◌∷◌, ◌++◌, length, map, nat_le, slice_get, Some, None, option_map, option_and_then, unwrap_or, refl, sym, ap, subst, ◌∙◌}
use Rattle.std.proofs.lemmas.Bool.{false≢true, lt-ltb}
use Rattle.std.proofs.lemmas.List.Folds.{find_at}
use Rattle.std.proofs.lemmas.Option.{same_Some, slice_get-map, slice_get_within}
use Rattle.std.specs.List.{list_all, position_or_len}
use Rattle.std.specs.Str.{bytes_eq}
use Rattle.base_bytes.proofs.Bools.{and_both, and_then}
use Rattle.base_bytes.proofs.Formats.{bind_then, map_then}
use Rattle.base_bytes.specs.Values.{are_fields, has_type, hold_in_order, shape_at}
use Rattle.base_bytes.specs.declared.shapes.Shape.TheVariants as shape
use Rattle.base_bytes.specs.declared.shapes.Shapes.{Shapes}
use Rattle.base_bytes.specs.declared.ty.Ty.TheVariants as value_type
use Rattle.base_bytes.specs.declared.value.Value.{Value}
use Rattle.base_bytes.specs.declared.value.Value.TheVariants as value
use Rattle.policy_ast.specs.declared.field.Field.{Field}
use Rattle.policy_ast.specs.declared.item.Item.{Item}
use Rattle.policy_ast.specs.declared.item.Item.TheVariants as item
use Rattle.policy_ast.specs.declared.item.Section.{Section}
use Rattle.policy_meaning.specs.Values.{field_names, field_value, struct_parts}
use Rattle.policy_rules.specs.FieldLists.{are_distinct}
use Rattle.policy_rules.specs.Heads.{FactHead, command_fields, enum_named, fact_head, fact_named, struct_named, variants, written_fields}
use Rattle.policy_rules.specs.Items as item_rules
use Rattle.policy_rules.specs.Items.{AreSections, IsItem, IsOfKind, are_fact_fields, are_fields as are_fields_there, are_variants, effect_fields, field_names as names_of_fields, is_key_type}
use Rattle.policy_rules.specs.Names.{Name, is_among, is_named, item_named, number_named}
use Rattle.policy_rules.specs.Scopes.{names_in, type_in}
use Rattle.policy_rules.specs.Shapes.{field_value_types, numbered, shape_of, shapes_of, value_type_layer, value_type_of}
use Rattle.policy_rules.specs.Types.{declared, written_type}
use Rattle.policy_rules.specs.WellTyped.{IsWellTypedAt}
use Rattle.policy_rules.specs.declared.types.Named.{Named}
use Rattle.policy_rules.specs.declared.types.NamedType.{NamedType}
use Rattle.policy_rules.specs.declared.types.NamedType.TheVariants as ty
use Rattle.policy_rules.proofs.Folds.{fold-named_type-Bool, fold-named_type-Enum, fold-named_type-Ident, fold-named_type-Int, fold-named_type-Never, fold-named_type-Optional, fold-named_type-Str, fold-named_type-Struct}
use Rattle.policy_types.proofs.Fields.{are_from_hold, field_there, field_types_are, hold_from_are, name_same, same_name}
use Rattle.policy_types.proofs.Layers.{IsStruct, struct_made, struct_of_type}
use Rattle.policy_types.specs.Fitting.{AreOf, IsOf, types_of}

-- the names of fields are those of the fields with their types
pub names_declared : (fields : List Field) → names_in (declared fields) ≡ map (λ f. f.name) fields
names_declared [] = refl
names_declared (f ∷ fields) = ap (λ names. f.name ∷ names) (names_declared fields)

pub declared_both : (fields more : List Field) → declared (fields ++ more) ≡ declared fields ++ declared more
declared_both [] more = refl
declared_both (f ∷ fields) more = ap (λ rest. record { name = f.name; ty = written_type f.field_type } ∷ rest) (declared_both fields more)

-- ---- distinct names of two lists

apart_both : (name : Name) (names more : List Name) → is_among name (names ++ more) ≡ (is_among name names || is_among name more)
apart_both name [] more = refl
apart_both name (n ∷ names) more = ap (λ rest. bytes_eq name n || rest) (apart_both name names more) ∙ assoc (bytes_eq name n) (is_among name names) (is_among name more)
  where
    assoc : (a b c : Bool) → (a || (b || c)) ≡ ((a || b) || c)
    assoc true b c = refl
    assoc false b c = refl

neither : (a b : Bool) → not a ≡ true → b ≡ false → not (a || b) ≡ true
neither true b is other = absurd (false≢true is)
neither false true is other = absurd (false≢true (sym other))
neither false false is other = refl

-- a name that none of these is, as each of them isn't among a list that it stands in
apart_from : (name : Name) (keys : List Name) → is_among name keys ≡ true → (names : List Name) → list_all (λ n. not (is_among n keys)) names ≡ true → is_among name names ≡ false
apart_from name keys at [] all = refl
apart_from name keys at (n ∷ names) all = and_then (not (is_among n keys)) (list_all (λ n. not (is_among n keys)) names) all (λ one more.
    by (bytes_eq name n) refl one (apart_from name keys at names more))
  where
    by : (b : Bool) → bytes_eq name n ≡ b → not (is_among n keys) ≡ true → is_among name names ≡ false → (b || is_among name names) ≡ false
    by true same one rest = absurd (false≢true (sym (ap not (ap (λ m. is_among m keys) (sym (same_name name n same)) ∙ at)) ∙ one))
    by false same one rest = rest

distinct_by : (keys all names : List Name) → ((name : Name) → is_among name keys ≡ true → is_among name all ≡ true) → are_distinct keys ≡ true → are_distinct names ≡ true
    → list_all (λ n. not (is_among n all)) names ≡ true → are_distinct (keys ++ names) ≡ true
distinct_by [] all names within keys_apart names_apart apart = names_apart
distinct_by (k ∷ keys) all names within keys_apart names_apart apart = and_then (not (is_among k keys)) (are_distinct keys) keys_apart (λ one more.
    and_both (not (is_among k (keys ++ names))) (are_distinct (keys ++ names))
    (ap not (apart_both k keys names) ∙ neither (is_among k keys) (is_among k names) one (apart_from k all (within k (first (bytes_eq k k) (name_same k k refl))) names apart))
    (distinct_by keys all names (λ name at. within name (later name (bytes_eq name k) at)) more names_apart apart))
  where
    first : (b : Bool) → b ≡ true → (b || is_among k keys) ≡ true
    first true is = refl
    first false is = absurd (false≢true is)

    later : (name : Name) (b : Bool) → is_among name keys ≡ true → (b || is_among name keys) ≡ true
    later name true at = refl
    later name false at = at

pub distinct_both : (keys names : List Name) → are_distinct keys ≡ true → are_distinct names ≡ true → list_all (λ n. not (is_among n keys)) names ≡ true → are_distinct (keys ++ names) ≡ true
distinct_both keys names ks ns apart = distinct_by keys keys names (λ name at. at) ks ns apart

module _ (items : List Item) where
  abbrev shapes : Shapes
  shapes = shapes_of items

  -- ---- types by their form

  pub int_type : value_type_of items ty.Int ≡ value_type.Int
  int_type = fold-named_type-Int (value_type_layer items)

  pub bool_type : value_type_of items ty.Bool ≡ value_type.Bool
  bool_type = fold-named_type-Bool (value_type_layer items)

  pub text_type : value_type_of items ty.Str ≡ value_type.Str
  text_type = fold-named_type-Str (value_type_layer items)

  pub id_type : value_type_of items ty.Ident ≡ value_type.Ident
  id_type = fold-named_type-Ident (value_type_layer items)

  pub never_type : value_type_of items ty.Never ≡ value_type.Never
  never_type = fold-named_type-Never (value_type_layer items)

  pub optional_type : (t : NamedType) → value_type_of items (ty.Optional t) ≡ value_type.Optional (value_type_of items t)
  optional_type t = fold-named_type-Optional (value_type_layer items) t

  pub enum_type : (name : Name) → value_type_of items (ty.Enum name) ≡ numbered value_type.Enum (enum_named items name) (number_named items name)
  enum_type name = fold-named_type-Enum (value_type_layer items) name

  pub struct_type : (name : Name) → value_type_of items (ty.Struct name) ≡ numbered value_type.Struct (struct_named items name) (number_named items name)
  struct_type name = fold-named_type-Struct (value_type_layer items) name

  -- ---- the item of a name

  -- the item that a name means, with its number
  pub record Stands (name : Name) (i : Item) : Type 0 where
    pub number : ℕ
    pub numbered : number_named items name ≡ Some number
    pub stands : slice_get items number ≡ Some i

  pub standing : (name : Name) (i : Item) → item_named items name ≡ Some i → Stands name i
  standing name i named =
      let at : slice_get items (position_or_len (is_named name) items) ≡ Some i = sym (find_at (is_named name) items) ∙ named in
      record {
        number = position_or_len (is_named name) items;
        numbered = ap (λ b. cond b (Some (position_or_len (is_named name) items)) None) (lt-ltb (position_or_len (is_named name) items) (length items) (slice_get_within items (position_or_len (is_named name) items) i at));
        stands = at;
      }

  pub shape_stands : (n : ℕ) (i : Item) → slice_get items n ≡ Some i → shape_at shapes n ≡ shape_of items i
  shape_stands n i at = ap (λ o. unwrap_or o shape.Neither) (slice_get-map (shape_of items) items n ∙ ap (option_map (shape_of items)) at)

  fields_shape : (i : Item) (written : List Field) → written_fields i ≡ Some written → shape_of items i ≡ shape.Fields (field_value_types items written)
  fields_shape (item.Struct name fields) written is = ap (λ w. shape.Fields (field_value_types items w)) (same_Some fields written is)
  fields_shape (item.Effect name fields) written is = ap (λ w. shape.Fields (field_value_types items w)) (same_Some (map (λ f. f.field) fields) written is)
  fields_shape (item.Fact is_immutable name keys values) written is = ap (λ w. shape.Fields (field_value_types items w)) (same_Some (keys ++ values) written is)
  fields_shape (item.Command name sections) written is = ap (λ w. shape.Fields (field_value_types items w)) (same_Some (command_fields sections) written is)
  fields_shape i written is = absurd (cc)

  -- the values of a struct of an item with these fields are of their types, and so are those that make one
  pub fields_are : (n : ℕ) (i : Item) (written : List Field) → slice_get items n ≡ Some i → written_fields i ≡ Some written → (values : List Value)
      → are_fields (map (has_type shapes) values) (shape_at shapes n) ≡ true → AreOf items (types_of (declared written)) values
  fields_are n i written at writes values typed = are_from_hold items (types_of (declared written)) values
      (subst (λ types. hold_in_order (map (has_type shapes) values) types ≡ true) (field_types_are items written)
      (subst (λ s. are_fields (map (has_type shapes) values) s ≡ true) (shape_stands n i at ∙ fields_shape i written writes) typed))

  pub are_struct_fields : (n : ℕ) (i : Item) (written : List Field) → slice_get items n ≡ Some i → written_fields i ≡ Some written → (values : List Value)
      → AreOf items (types_of (declared written)) values → are_fields (map (has_type shapes) values) (shape_at shapes n) ≡ true
  are_struct_fields n i written at writes values are =
      subst (λ s. are_fields (map (has_type shapes) values) s ≡ true) (sym (shape_stands n i at ∙ fields_shape i written writes))
      (subst (λ types. hold_in_order (map (has_type shapes) values) types ≡ true) (sym (field_types_are items written)) (hold_from_are items (types_of (declared written)) values are))

  -- ---- structs

  -- the item of a struct that a name means
  pub record StructStands (name : Name) (fields : List Named) : Type 0 where
    pub number : ℕ
    pub item : Item
    pub written : List Field
    pub named : item_named items name ≡ Some item
    pub numbered : number_named items name ≡ Some number
    pub stands : slice_get items number ≡ Some item
    pub writes : written_fields item ≡ Some written
    pub declares : declared written ≡ fields
    pub typed : value_type_of items (ty.Struct name) ≡ value_type.Struct number

  pub struct_standing : (name : Name) (fields : List Named) → struct_named items name ≡ Some fields → StructStands name fields
  struct_standing name fields is = bind_then (item_named items name) _ fields is (λ i named rest. map_then (written_fields i) declared fields rest (λ w has same.
      let s = standing name i named in
      record {
        number = s.number;
        item = i;
        written = w;
        named = named;
        numbered = s.numbered;
        stands = s.stands;
        writes = has;
        declares = same;
        typed = struct_type name ∙ ap (λ o. numbered value_type.Struct o (number_named items name)) is ∙ ap (numbered value_type.Struct (Some fields)) s.numbered;
      }))

  -- the parts of a value of a struct
  pub record HasFields (name : Name) (fields : List Named) (number : ℕ) (v : Value) : Type 0 where
    pub values : List Value
    pub parts : struct_parts v ≡ Some (number, values)
    pub are : AreOf items (types_of fields) values

  pub struct_value_is : (name : Name) (fields : List Named) (s : StructStands name fields) (v : Value) → IsOf items (ty.Struct name) v → HasFields name fields s.number v
  struct_value_is name fields s v is =
      let v_is : IsStruct shapes s.number v = struct_of_type shapes v s.number (subst (λ t. has_type shapes v t ≡ true) s.typed is) in
      record {
        values = v_is.fields;
        parts = v_is.parts;
        are = subst (λ fields. AreOf items (types_of fields) v_is.fields) s.declares (fields_are s.number s.item s.written s.stands s.writes v_is.fields v_is.typed);
      }

  pub struct_value_made : (name : Name) (fields : List Named) (s : StructStands name fields) (values : List Value) → AreOf items (types_of fields) values
      → IsOf items (ty.Struct name) (value.Struct s.number values)
  struct_value_made name fields s values are =
      subst (λ t. has_type shapes (value.Struct s.number values) t ≡ true) (sym s.typed)
      (struct_made shapes s.number values
      (are_struct_fields s.number s.item s.written s.stands s.writes values (subst (λ fields. AreOf items (types_of fields) values) (sym s.declares) are)))

  item_fields : (i : Item) (written : List Field) (fields : List Named) → written_fields i ≡ Some written → declared written ≡ fields → field_names i ≡ names_in fields
  item_fields i written fields writes declares = ap (λ o. map (λ f. f.name) (unwrap_or o [])) writes ∙ sym (names_declared written) ∙ ap names_in declares

  -- `.f` of a struct that has a field f
  pub field_of_struct : (name : Name) (fields : List Named) → struct_named items name ≡ Some fields → (v : Value) → IsOf items (ty.Struct name) v → (f : Name) (t : NamedType)
      → type_in fields f ≡ Some t → (w : Value) × (field_value items f v ≡ Some w) × IsOf items t w
  field_of_struct name fields is v typed f t has =
      let s = struct_standing name fields is in
      let parts = struct_value_is name fields s v typed in
      let found = field_there items fields parts.values parts.are f t has in
      (found.0, rw (parts.parts, s.stands, item_fields s.item s.written fields s.writes s.declares) found.1, found.2)

  -- ---- facts

  -- the item of a fact that a name means
  pub record FactStands (name : Name) (fact : FactHead) : Type 0 where
    pub number : ℕ
    pub own_name : Name
    pub keys : List Field
    pub values : List Field
    pub numbered : number_named items name ≡ Some number
    pub stands : slice_get items number ≡ Some (item.Fact fact.is_immutable own_name keys values)
    pub named : item_named items name ≡ Some (item.Fact fact.is_immutable own_name keys values)
    pub declares_keys : declared keys ≡ fact.keys
    pub declares_values : declared values ≡ fact.values
    pub is_struct : struct_named items name ≡ Some (fact.keys ++ fact.values)

  fact_by : (name : Name) (fact : FactHead) (i : Item) → item_named items name ≡ Some i → fact_head i ≡ Some fact → FactStands name fact
  fact_by name fact (item.Fact is_immutable own_name keys values) named is =
      let head : FactHead = record { is_immutable = is_immutable; keys = declared keys; values = declared values } in
      let s = standing name (item.Fact is_immutable own_name keys values) named in
      subst (FactStands name) (same_Some head fact is) (record {
        number = s.number;
        own_name = own_name;
        keys = keys;
        values = values;
        numbered = s.numbered;
        stands = s.stands;
        named = named;
        declares_keys = refl;
        declares_values = refl;
        is_struct = ap (option_and_then (λ i. option_map declared (written_fields i))) named ∙ ap Some (declared_both keys values);
      })
  fact_by name fact i named is = absurd (cc)

  pub fact_standing : (name : Name) (fact : FactHead) → fact_named items name ≡ Some fact → FactStands name fact
  fact_standing name fact is = bind_then (item_named items name) fact_head fact is (λ i named rest. fact_by name fact i named rest)

  -- ---- what well-typed items say of their fields

  abbrev Distinct : List Field → Type 0
  Distinct fields = are_distinct (names_in (declared fields)) ≡ true

  distinct_fields : (fields : List Field) → are_fields_there items fields ≡ true → Distinct fields
  distinct_fields fields are = and_then (nat_le (length fields) 64 && are_distinct (names_of_fields fields)) _ are (λ both exist.
      and_then (nat_le (length fields) 64) (are_distinct (names_of_fields fields)) both (λ few apart. ap are_distinct (names_declared fields) ∙ apart))

  sections_distinct : {name : Name} {sections : List Section} → AreSections items name sections → Distinct (command_fields sections)
  sections_distinct item_rules.no_sections = refl
  sections_distinct (item_rules.more_sections item_rules.attributes_section more) = sections_distinct more
  sections_distinct (item_rules.more_sections (item_rules.fields_section {fields = fields} are) more) = distinct_fields fields are
  sections_distinct (item_rules.more_sections item_rules.seal_section more) = sections_distinct more
  sections_distinct (item_rules.more_sections item_rules.open_section more) = sections_distinct more
  sections_distinct (item_rules.more_sections (item_rules.policy_section body) more) = sections_distinct more
  sections_distinct (item_rules.more_sections (item_rules.recall_section body) more) = sections_distinct more

  -- what is asked of the fields of a fact
  pub record FactFields (keys values : List Field) : Type 0 where
    pub keys_apart : Distinct keys
    pub values_apart : Distinct values
    pub apart : Distinct (keys ++ values)
    pub are_keys : list_all (λ f. is_key_type f.field_type) keys ≡ true

  fact_fields : (keys values : List Field) → are_fact_fields items keys values ≡ true → FactFields keys values
  fact_fields keys values are =
      let names : List Name = names_of_fields values in
      let others : Bool = list_all (λ name. not (is_among name (names_of_fields keys))) names in
      and_then ((are_fields_there items keys && are_fields_there items values) && list_all (λ f. is_key_type f.field_type) keys) others are (λ rest apart.
      and_then (are_fields_there items keys && are_fields_there items values) (list_all (λ f. is_key_type f.field_type) keys) rest (λ both simple.
      and_then (are_fields_there items keys) (are_fields_there items values) both (λ ks vs. record {
        keys_apart = distinct_fields keys ks;
        values_apart = distinct_fields values vs;
        apart = ap are_distinct (names_declared (keys ++ values) ∙ names_both keys values)
            ∙ distinct_both (names_of_fields keys) names (sym (ap are_distinct (names_declared keys)) ∙ distinct_fields keys ks) (sym (ap are_distinct (names_declared values)) ∙ distinct_fields values vs) apart;
        are_keys = simple;
      })))
    where
      names_both : (fields more : List Field) → map (λ f. f.name) (fields ++ more) ≡ map (λ f. f.name) fields ++ map (λ f. f.name) more
      names_both [] more = refl
      names_both (f ∷ fields) more = ap (λ names. f.name ∷ names) (names_both fields more)

  same_distinct : (fields others : List Field) → Some fields ≡ Some others → Distinct fields → Distinct others
  same_distinct fields others same apart = subst Distinct (same_Some fields others same) apart

  written_distinct : {i : Item} → IsOfKind items i → (w : List Field) → written_fields i ≡ Some w → Distinct w
  written_distinct (item_rules.struct {fields = fields} are) w is = same_distinct fields w is (distinct_fields fields are)
  written_distinct (item_rules.effect {fields = fields} are) w is = same_distinct (effect_fields fields) w is (distinct_fields (effect_fields fields) are)
  written_distinct (item_rules.fact {keys = keys} {values = values} are) w is = same_distinct (keys ++ values) w is (fact_fields keys values are).apart
  written_distinct (item_rules.command {sections = sections} has are all) w is = same_distinct (command_fields sections) w is (sections_distinct all)
  written_distinct k w is = absurd (cc)

  facts_fields : {is_immutable : Bool} {name : Name} {keys values : List Field} → IsOfKind items (item.Fact is_immutable name keys values) → FactFields keys values
  facts_fields (item_rules.fact {keys = keys} {values = values} are) = fact_fields keys values are

  enum_variants : {i : Item} → IsOfKind items i → (all : List Name) → variants i ≡ Some all → are_variants all ≡ true
  enum_variants (item_rules.enum {variants = own} are) all is = subst (λ all. are_variants all ≡ true) (same_Some own all is) are
  enum_variants k all is = absurd (cc)

  module _ (well : (n : ℕ) → IsWellTypedAt items n) where
    pub kind_at : (n : ℕ) (i : Item) → slice_get items n ≡ Some i → IsOfKind items i
    kind_at n i at = (well n i at).of_kind

    pub struct_distinct : (name : Name) (fields : List Named) → struct_named items name ≡ Some fields → are_distinct (names_in fields) ≡ true
    struct_distinct name fields is =
        let s = struct_standing name fields is in
        subst (λ fields. are_distinct (names_in fields) ≡ true) s.declares (written_distinct (kind_at s.number s.item s.stands) s.written s.writes)

    pub fact_fields_of : (name : Name) (fact : FactHead) (s : FactStands name fact) → FactFields s.keys s.values
    fact_fields_of name fact s = facts_fields (kind_at s.number _ s.stands)

    pub fact_values_distinct : (name : Name) (fact : FactHead) → fact_named items name ≡ Some fact → are_distinct (names_in fact.values) ≡ true
    fact_values_distinct name fact is =
        let s = fact_standing name fact is in
        subst (λ fields. are_distinct (names_in fields) ≡ true) s.declares_values (fact_fields_of name fact s).values_apart

    pub enum_variants_of : (name : Name) (all : List Name) → enum_named items name ≡ Some all → are_variants all ≡ true
    enum_variants_of name all is = bind_then (item_named items name) variants all is (λ i named rest.
        let s = standing name i named in enum_variants (kind_at s.number i s.stands) all rest)
