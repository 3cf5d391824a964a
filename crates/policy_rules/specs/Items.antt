-- Well-typed items, kind by kind.
use Rattle.std.specs.Prelude.{◌≡◌, Bool, true, false, not, ◌&&◌, nat_le, List, [], ◌∷◌, codes, length, map, Option, Some, None}
use Rattle.std.specs.List.{list_all}
use Rattle.std.specs.Str.{bytes_eq}
use Rattle.policy_ast.specs.declared.field.EffectField.{EffectField}
use Rattle.policy_ast.specs.declared.field.Field.{Field}
use Rattle.policy_ast.specs.declared.field.FieldType.{FieldType, out-FieldType}
use Rattle.policy_ast.specs.declared.field.FieldType.TheOpen.{FieldType-F}
use Rattle.policy_ast.specs.declared.finish.FinishStmt.{FinishStmt}
use Rattle.policy_ast.specs.declared.item.Attribute.{Attribute}
use Rattle.policy_ast.specs.declared.item.Item.{Item}
use Rattle.policy_ast.specs.declared.item.Item.TheVariants as item
use Rattle.policy_ast.specs.declared.item.Section.{Section}
use Rattle.policy_ast.specs.declared.item.Section.TheVariants as section
use Rattle.policy_ast.specs.declared.literal.Literal.{Literal}
use Rattle.policy_ast.specs.declared.statement.Stmt.{Stmt}
use Rattle.policy_rules.specs.Calls.{may_chain}
use Rattle.policy_rules.specs.Commands.{are_attributes, attributes_of, has_its_sections}
use Rattle.policy_rules.specs.FieldLists.{are_distinct}
use Rattle.policy_rules.specs.Finish.{AreFinishStmts}
use Rattle.policy_rules.specs.Heads.{literal_type, type_exists}
use Rattle.policy_rules.specs.Names.{Name, is_among, name_of}
use Rattle.policy_rules.specs.Nesting.{may_nest}
use Rattle.policy_rules.specs.Scopes.{let_names}
use Rattle.policy_rules.specs.Statements.{IsBlock, ends_in_return}
use Rattle.policy_rules.specs.Types.{declared, written_type}
use Rattle.policy_rules.specs.declared.context.Block.TheVariants as block
use Rattle.policy_rules.specs.declared.context.Context.{Context}
use Rattle.policy_rules.specs.declared.types.NamedType.{NamedType}

-- ---- the tests on the parts of items

-- Its name isn't that of an earlier item, and isn't `Envelope`.
abbrev pub is_free_name : List Name → Option Name → Bool
is_free_name earlier None = true
is_free_name earlier (Some name) = not (is_among name earlier) && not (bytes_eq name (codes "Envelope"))

-- The names of fields.
abbrev pub field_names : List Field → List Name
field_names fields = map (λ f. f.name) fields

-- At most 64 fields, with distinct names and types that exist.
abbrev pub are_fields : List Item → List Field → Bool
are_fields items fields = nat_le (length fields) 64 && are_distinct (field_names fields) && list_all (λ f. type_exists items f.field_type) fields

-- Parameters are fields, whose names also differ from those of the policy's `let`s.
abbrev pub are_parameters : List Item → List Field → Bool
are_parameters items parameters = are_fields items parameters && list_all (λ name. not (is_among name (let_names items))) (field_names parameters)

-- 1 to 1,024 distinct variants.
abbrev pub are_variants : List Name → Bool
are_variants variants = nat_le 1 (length variants) && nat_le (length variants) 1024 && are_distinct variants

-- Keys are of the types int, bool, string, bytes, id, or of an enum.
abbrev pub is_key_type_layer : FieldType-F FieldType → Bool
is_key_type_layer (FieldType-F.Struct name) = false
is_key_type_layer (FieldType-F.Optional inner) = false
is_key_type_layer other = true

-- The type may be that of a key.
abbrev pub is_key_type : FieldType → Bool
is_key_type t = is_key_type_layer (out-FieldType t)

-- A fact's keys and values are two lists of fields; no value has the name of a key.
abbrev pub are_fact_fields : List Item → List Field → List Field → Bool
are_fact_fields items keys values =
    are_fields items keys && are_fields items values && list_all (λ f. is_key_type f.field_type) keys
    && list_all (λ name. not (is_among name (field_names keys))) (field_names values)

-- The fields of an effect; the word `dynamic` has no effect.
abbrev pub effect_fields : List EffectField → List Field
effect_fields fields = map (λ f. f.field) fields

-- ---- contexts

-- In a policy or recall block of a command.
abbrev pub in_command : Name → Context
in_command name = record { block = block.Command; this = Some name; result = None }

-- In the body of a function with this type of its result.
abbrev pub in_function : NamedType → Context
in_function result = record { block = block.Function; this = None; result = Some result }

-- In the body of a finish function.
abbrev pub in_finish_function : Context
in_finish_function = record { block = block.Finish; this = None; result = None }

-- In the body of an action.
abbrev pub in_action : Context
in_action = record { block = block.Action; this = None; result = None }

module _ (items : List Item) where
  -- ---- sections

  -- A section of the command of this name.
  pub data IsSection (name : Name) : Section → Type 0 where
    attributes_section : {attributes : List Attribute} → IsSection name (section.Attributes attributes)
    fields_section : {fields : List Field} → are_fields items fields ≡ true → IsSection name (section.Fields fields)
    seal_section : IsSection name section.Seal
    open_section : IsSection name section.Open
    policy_section : {body : List Stmt} → IsBlock items (in_command name) [] body → IsSection name (section.Policy body)
    recall_section : {body : List Stmt} → IsBlock items (in_command name) [] body → IsSection name (section.Recall body)

  -- All sections of a command.
  pub data AreSections (name : Name) : List Section → Type 0 where
    no_sections : AreSections name []
    more_sections : {s : Section} {more : List Section} → IsSection name s → AreSections name more → AreSections name (s ∷ more)

  -- ---- items

  -- What each kind of item asks for.
  pub data IsOfKind : Item → Type 0 where
    uses : {name : Name} → IsOfKind (item.Use name)
    defines : {name : Name} {value : Literal} (t : NamedType) → literal_type items value ≡ Some t → IsOfKind (item.Let name value)
    enum : {name : Name} {variants : List Name} → are_variants variants ≡ true → IsOfKind (item.Enum name variants)
    struct : {name : Name} {fields : List Field} → are_fields items fields ≡ true → IsOfKind (item.Struct name fields)
    effect : {name : Name} {fields : List EffectField} → are_fields items (effect_fields fields) ≡ true → IsOfKind (item.Effect name fields)
    fact : {is_immutable : Bool} {name : Name} {keys values : List Field} → are_fact_fields items keys values ≡ true → IsOfKind (item.Fact is_immutable name keys values)
    command : {name : Name} {sections : List Section} → has_its_sections sections ≡ true → are_attributes (attributes_of sections) ≡ true
        → AreSections name sections → IsOfKind (item.Command name sections)
    function : {name : Name} {parameters : List Field} {result : FieldType} {body : List Stmt} → are_parameters items parameters ≡ true → type_exists items result ≡ true
        → IsBlock items (in_function (written_type result)) (declared parameters) body → ends_in_return body ≡ true → IsOfKind (item.Function name parameters result body)
    finish_function : {name : Name} {parameters : List Field} {body : List FinishStmt} → are_parameters items parameters ≡ true
        → AreFinishStmts items in_finish_function (declared parameters) body → IsOfKind (item.FinishFunction name parameters body)
    action : {name : Name} {parameters : List Field} {body : List Stmt} → are_parameters items parameters ≡ true
        → IsBlock items in_action (declared parameters) body → IsOfKind (item.Action name parameters body)

  -- An item of a policy, behind items of these names: its name is free, it is as its kind asks, and nothing that begins in it nests too deep or
  -- calls too long a chain.
  pub record IsItem (earlier : List Name) (i : Item) : Type 0 where
    pub free : is_free_name earlier (name_of i) ≡ true
    pub of_kind : IsOfKind i
    pub nests : may_nest items i ≡ true
    pub chains : may_chain items i ≡ true
