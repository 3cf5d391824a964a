-- In a well-typed policy the types of expressions are there.
use Rattle.std.proofs.Common.{◌≡◌, ℕ, Bool, true, false, cond, length, nat_le, not, ◌&&◌, List, [], ◌∷◌, ◌++◌, slice_get, Option, Some, None, option_map, refl, sym, ap, subst, ◌∙◌}
use Rattle.std.proofs.lemmas.List.Folds.{find_at, list_all-append}
use Rattle.std.proofs.lemmas.Option.{same_Some}
use Rattle.std.specs.List.{list_all, position_or_len}
use Rattle.std.specs.Option.{is_some, option_or}
use Rattle.std.specs.Str.{bytes_eq}
use Rattle.base_bytes.proofs.Bools.{and_both, and_then}
use Rattle.base_bytes.proofs.Formats.{bind_then, if_then, map_then}
use Rattle.base_bytes.specs.Values.{fits_int, fits_text}
use Rattle.policy_ast.specs.declared.expr.Expr.{Expr}
use Rattle.policy_ast.specs.declared.expr.Expr.TheOpen.{Expr-F}
use Rattle.policy_ast.specs.declared.expr.Arithmetic.{Arithmetic}
use Rattle.policy_ast.specs.declared.expr.Arithmetic.TheVariants as arithmetic
use Rattle.policy_ast.specs.declared.expr.Count.{Count}
use Rattle.policy_ast.specs.declared.expr.Count.TheVariants as count
use Rattle.policy_ast.specs.declared.expr.ElseExpr.{ElseExpr}
use Rattle.policy_ast.specs.declared.expr.ExprBlock.{ExprBlock}
use Rattle.policy_ast.specs.declared.expr.Let.{Let}
use Rattle.policy_ast.specs.declared.field.Field.{Field}
use Rattle.policy_ast.specs.declared.field.FieldType.{FieldType, fold-roll-FieldType, ind-FieldType, map-FieldType, roll-FieldType}
use Rattle.policy_ast.specs.declared.field.FieldType.TheOpen.{FieldType-F}
use Rattle.policy_ast.specs.declared.item.Item.{Item}
use Rattle.policy_ast.specs.declared.item.Item.TheVariants as item
use Rattle.policy_ast.specs.declared.item.Section.{Section}
use Rattle.policy_ast.specs.declared.literal.Literal.{Literal}
use Rattle.policy_ast.specs.declared.literal.Literal.TheVariants as literal
use Rattle.policy_rules.proofs.Folds.{fold-named_type-Bool, fold-named_type-Enum, fold-named_type-Ident, fold-named_type-Int, fold-named_type-Never, fold-named_type-Optional, fold-named_type-Raw, fold-named_type-Str, fold-named_type-Struct}
use Rattle.policy_ast.specs.declared.pattern.Pattern.{Pattern}
use Rattle.policy_ast.specs.declared.policy.PlacedItem.{PlacedItem}
use Rattle.policy_rules.specs.WellTyped.{IsWellTyped, items_of}
use Rattle.policy_rules.specs.ExistingTypes.{HasCommand, are_there, is_there, is_there_layer}
use Rattle.policy_rules.specs.Expressions as rules
use Rattle.policy_rules.specs.Expressions.{HasBlockType, HasElseType, HasType, HasTypeByForm, Introduce, IsPattern, arithmetic_type, count_type}
use Rattle.policy_rules.specs.Heads.{FunctionHead, FactHead, command_fields, enum_named, exists_layer, fact_head, fact_named, function_head, function_named, let_named, let_type, literal_type, struct_named, type_exists, written_fields}
use Rattle.policy_rules.specs.FieldLists.{are_distinct}
use Rattle.policy_rules.specs.Items as item_rules
use Rattle.policy_rules.specs.Items.{AreSections, IsOfKind, are_fact_fields, are_fields, effect_fields, field_names, is_key_type}
use Rattle.policy_rules.specs.Names.{Name, is_among, is_named, item_named}
use Rattle.policy_rules.specs.Scopes.{Scope, is_kept_envelope, type_in, with_name}
use Rattle.policy_rules.specs.Types.{declared, fits, joined, written_layer, written_type}
use Rattle.policy_rules.specs.declared.context.Context.{Context}
use Rattle.policy_rules.specs.declared.types.Named.{Named}
use Rattle.policy_rules.specs.declared.types.NamedType.{NamedType}
use Rattle.policy_rules.specs.declared.types.NamedType.TheVariants as ty

module _ (items : List Item) where
  abbrev there : NamedType → Bool
  there = is_there items

  -- ---- form by form

  int_there : there ty.Int ≡ true
  int_there = fold-named_type-Int (is_there_layer items)

  bool_there : there ty.Bool ≡ true
  bool_there = fold-named_type-Bool (is_there_layer items)

  text_there : there ty.Str ≡ true
  text_there = fold-named_type-Str (is_there_layer items)

  raw_there : there ty.Raw ≡ true
  raw_there = fold-named_type-Raw (is_there_layer items)

  id_there : there ty.Ident ≡ true
  id_there = fold-named_type-Ident (is_there_layer items)

  never_there : there ty.Never ≡ true
  never_there = fold-named_type-Never (is_there_layer items)

  optional_there : (t : NamedType) → there (ty.Optional t) ≡ there t
  optional_there t = fold-named_type-Optional (is_there_layer items) t

  struct_there : (name : Name) → there (ty.Struct name) ≡ is_some (struct_named items name)
  struct_there name = fold-named_type-Struct (is_there_layer items) name

  enum_there : (name : Name) → there (ty.Enum name) ≡ is_some (enum_named items name)
  enum_there name = fold-named_type-Enum (is_there_layer items) name

  -- ---- written types

  abbrev IsWritten : FieldType → Type 0
  IsWritten t = there (written_type t) ≡ type_exists items t

  abbrev Child : Type 0
  Child = (t : FieldType) × IsWritten t

  abbrev plain : FieldType-F Child → FieldType-F FieldType
  plain layer = map-FieldType Child FieldType (λ c. c.0) layer

  layers : (layer : FieldType-F Child) → there (written_layer (map-FieldType FieldType NamedType written_type (plain layer))) ≡ exists_layer items (map-FieldType FieldType Bool (type_exists items) (plain layer))
  layers FieldType-F.Int = int_there
  layers FieldType-F.Bool = bool_there
  layers FieldType-F.Str = text_there
  layers FieldType-F.Raw = raw_there
  layers FieldType-F.Ident = id_there
  layers (FieldType-F.Enum name) = enum_there name
  layers (FieldType-F.Struct name) = struct_there name
  layers (FieldType-F.Optional inner) = optional_there (written_type inner.0) ∙ inner.1

  step : (layer : FieldType-F Child) → IsWritten (roll-FieldType (plain layer))
  step layer = ap there (fold-roll-FieldType NamedType written_layer (plain layer)) ∙ layers layer ∙ sym (fold-roll-FieldType Bool (exists_layer items) (plain layer))

  written_there : (t : FieldType) → IsWritten t
  written_there = ind-FieldType IsWritten (λ x y is. subst (λ l. IsWritten (roll-FieldType l)) is (step y))

  fields_there : (fields : List Field) → list_all (λ f. type_exists items f.field_type) fields ≡ true → are_there items (declared fields) ≡ true
  fields_there [] is = refl
  fields_there (f ∷ fields) is = and_then (type_exists items f.field_type) (list_all (λ f. type_exists items f.field_type) fields) is (λ one more.
      and_both (there (written_type f.field_type)) (are_there items (declared fields)) (written_there f.field_type ∙ one) (fields_there fields more))

  -- ---- names

  named_step : (n : Named) (scope : Scope) (name : Name) (t : NamedType) → (are_there items scope ≡ true → type_in scope name ≡ Some t → there t ≡ true) → there n.ty ≡ true → are_there items scope ≡ true
      → (b : Bool) → cond b (Some n.ty) (type_in scope name) ≡ Some t → there t ≡ true
  named_step n scope name t later one more true is = subst (λ t. there t ≡ true) (same_Some n.ty t is) one
  named_step n scope name t later one more false is = later more is

  named_there : (scope : Scope) (name : Name) (t : NamedType) → are_there items scope ≡ true → type_in scope name ≡ Some t → there t ≡ true
  named_there [] name t all is = absurd (cc)
  named_there (n ∷ scope) name t all is = and_then (there n.ty) (are_there items scope) all (λ one more.
      named_step n scope name t (named_there scope name t) one more (bytes_eq name n.name) is)

  same_there : (t u : NamedType) → Some t ≡ Some u → there t ≡ true → there u ≡ true
  same_there t u same is = subst (λ t. there t ≡ true) (same_Some t u same) is

  literal_there : (l : Literal) (t : NamedType) → literal_type items l ≡ Some t → there t ≡ true
  literal_there (literal.Number n) t is = if_then (fits_int n) (Some ty.Int) t is (λ fit same. same_there ty.Int t same int_there)
  literal_there (literal.Text text) t is = if_then (fits_text text) (Some ty.Str) t is (λ fit same. same_there ty.Str t same text_there)
  literal_there literal.True t is = same_there ty.Bool t is bool_there
  literal_there literal.False t is = same_there ty.Bool t is bool_there
  literal_there (literal.Variant name variant) t is = bind_then (enum_named items name) _ t is (λ variants named rest.
      if_then (is_among variant variants) (Some (ty.Enum name)) t rest (λ among same. same_there (ty.Enum name) t same (enum_there name ∙ ap is_some named)))

  with_there : (scope : Scope) (name : Name) (t : NamedType) → are_there items scope ≡ true → there t ≡ true → are_there items (with_name scope name t) ≡ true
  with_there scope name t all is = list_all-append (λ n. there n.ty) scope (record { name = name; ty = t } ∷ []) ∙ rw (all, is) refl

  joined_step : (t u w : NamedType) (a b : Bool) → there t ≡ true → there u ≡ true → cond a (Some u) (cond b (Some t) None) ≡ Some w → there w ≡ true
  joined_step t u w true b one other is = same_there u w is other
  joined_step t u w false true one other is = same_there t w is one
  joined_step t u w false false one other is = absurd (cc)

  joined_there : (t u w : NamedType) → there t ≡ true → there u ≡ true → joined t u ≡ Some w → there w ≡ true
  joined_there t u w one other is = joined_step t u w (fits t u) (fits u t) one other is

  arithmetic_there : (op : Arithmetic) → there (arithmetic_type op) ≡ true
  arithmetic_there arithmetic.Add = optional_there ty.Int ∙ int_there
  arithmetic_there arithmetic.Sub = optional_there ty.Int ∙ int_there
  arithmetic_there arithmetic.SaturatingAdd = int_there
  arithmetic_there arithmetic.SaturatingSub = int_there

  count_there : (op : Count) → there (count_type op) ≡ true
  count_there count.CountUpTo = int_there
  count_there op = bool_there

  -- ---- what well-typed items say of their heads

  abbrev Exist : List Field → Type 0
  Exist fields = list_all (λ f. type_exists items f.field_type) fields ≡ true

  fields_exist : (fields : List Field) → are_fields items fields ≡ true → Exist fields
  fields_exist fields are = and_then (nat_le (length fields) 64 && are_distinct (field_names fields)) (list_all (λ f. type_exists items f.field_type) fields) are (λ few exist. exist)

  sections_exist : {name : Name} {sections : List Section} → AreSections items name sections → Exist (command_fields sections)
  sections_exist item_rules.no_sections = refl
  sections_exist (item_rules.more_sections item_rules.attributes_section more) = sections_exist more
  sections_exist (item_rules.more_sections (item_rules.fields_section {fields = fields} are) more) = fields_exist fields are
  sections_exist (item_rules.more_sections item_rules.seal_section more) = sections_exist more
  sections_exist (item_rules.more_sections item_rules.open_section more) = sections_exist more
  sections_exist (item_rules.more_sections (item_rules.policy_section body) more) = sections_exist more
  sections_exist (item_rules.more_sections (item_rules.recall_section body) more) = sections_exist more

  fact_exist : (keys values : List Field) → are_fact_fields items keys values ≡ true → Exist (keys ++ values)
  fact_exist keys values are =
      and_then ((are_fields items keys && are_fields items values) && list_all (λ f. is_key_type f.field_type) keys) (list_all (λ name. not (is_among name (field_names keys))) (field_names values)) are (λ rest apart.
      and_then (are_fields items keys && are_fields items values) (list_all (λ f. is_key_type f.field_type) keys) rest (λ both simple. and_then (are_fields items keys) (are_fields items values) both (λ ks vs.
      list_all-append (λ f. type_exists items f.field_type) keys values ∙ rw (fields_exist keys ks, fields_exist values vs) refl)))

  same_exist : (fields others : List Field) → Some fields ≡ Some others → Exist fields → Exist others
  same_exist fields others same exist = subst Exist (same_Some fields others same) exist

  written_exist : {i : Item} → IsOfKind items i → (w : List Field) → written_fields i ≡ Some w → Exist w
  written_exist (item_rules.struct {fields = fields} are) w is = same_exist fields w is (fields_exist fields are)
  written_exist (item_rules.effect {fields = fields} are) w is = same_exist (effect_fields fields) w is (fields_exist (effect_fields fields) are)
  written_exist (item_rules.fact {keys = keys} {values = values} are) w is = same_exist (keys ++ values) w is (fact_exist keys values are)
  written_exist (item_rules.command {sections = sections} has are all) w is = same_exist (command_fields sections) w is (sections_exist all)
  written_exist k w is = absurd (cc)

  result_there : {i : Item} → IsOfKind items i → (function : FunctionHead) → function_head i ≡ Some function → there function.result ≡ true
  result_there (item_rules.function {parameters = parameters} {result = result} are exists body returns) function is =
      subst (λ f. there f.result ≡ true) (same_Some (record { parameters = declared parameters; result = written_type result }) function is) (written_there result ∙ exists)
  result_there k function is = absurd (cc)

  fact_fields : (i : Item) (fact : FactHead) → fact_head i ≡ Some fact → is_some (option_map declared (written_fields i)) ≡ true
  fact_fields (item.Fact is_immutable name keys values) fact is = refl
  fact_fields i fact is = absurd (cc)

  let_there : (i : Item) (t : NamedType) → let_type items i ≡ Some t → there t ≡ true
  let_there (item.Let name value) t is = literal_there value t is
  let_there i t is = absurd (cc)

  module _ (kinds : (n : ℕ) (i : Item) → slice_get items n ≡ Some i → IsOfKind items i) where
    kind_named : (name : Name) (i : Item) → item_named items name ≡ Some i → IsOfKind items i
    kind_named name i named = kinds (position_or_len (is_named name) items) i (sym (find_at (is_named name) items) ∙ named)

    struct_fields_there : (name : Name) (fields : List Named) → struct_named items name ≡ Some fields → are_there items fields ≡ true
    struct_fields_there name fields is = bind_then (item_named items name) _ fields is (λ i named rest. map_then (written_fields i) declared fields rest (λ w has same.
        subst (λ fields. are_there items fields ≡ true) same (fields_there w (written_exist (kind_named name i named) w has))))

    function_there : (name : Name) (function : FunctionHead) → function_named items name ≡ Some function → there function.result ≡ true
    function_there name function is = bind_then (item_named items name) function_head function is (λ i named rest. result_there (kind_named name i named) function rest)

    fact_there : (name : Name) (fact : FactHead) → fact_named items name ≡ Some fact → is_some (struct_named items name) ≡ true
    fact_there name fact is = bind_then (item_named items name) fact_head fact is (λ i named rest. rw named (fact_fields i fact rest))

    pattern_there : {context : Context} {scope : Scope} {p : Pattern Expr} → IsPattern items context scope p → is_some (struct_named items p.fact) ≡ true
    pattern_there (rules.pattern_of {p = p} fact keys values named ks vs fit) = fact_there p.fact fact named

    name_step : (scope : Scope) (name : Name) (t : NamedType) → are_there items scope ≡ true → (o : Option NamedType) → type_in scope name ≡ o → (b : Bool) → cond b None (option_or o (let_named items name)) ≡ Some t
        → there t ≡ true
    name_step scope name t all o at true is = absurd (cc)
    name_step scope name t all (Some u) at false is = same_there u t is (named_there scope name u all at)
    name_step scope name t all None at false is = bind_then (item_named items name) (let_type items) t is (λ i named rest. let_there i t rest)

    module _ (context : Context) (command : HasCommand items context) where
      mutual
        pub type_is_there : {scope : Scope} {e : Expr} {t : NamedType} → HasType items context scope e t → are_there items scope ≡ true → there t ≡ true
        type_is_there (rules.rule r) all = form_there r all

        form_there : {scope : Scope} {layer : Expr-F Expr} {t : NamedType} → HasTypeByForm items context scope layer t → are_there items scope ≡ true → there t ≡ true
        form_there (rules.or p q) all = bool_there
        form_there (rules.and p q) all = bool_there
        form_there (rules.equality t u w is p q join) all = bool_there
        form_there (rules.order is p q) all = bool_there
        form_there (rules.presence t p) all = bool_there
        form_there (rules.not p) all = bool_there
        form_there (rules.unwrap {t = t} p) all = sym (optional_there t) ∙ type_is_there p all
        form_there (rules.check_unwrap {t = t} p) all = sym (optional_there t) ∙ type_is_there p all
        form_there (rules.field {name = name} {t = t} struct_name fields p is has) all = named_there fields name t (struct_fields_there struct_name fields is) has
        form_there (rules.literal {l = l} {t = t} is) all = literal_there l t is
        form_there rules.none all = optional_there ty.Never ∙ never_there
        form_there (rules.some {t = t} p) all = optional_there t ∙ type_is_there p all
        form_there (rules.this {command = name} is) all = struct_there name ∙ command name is
        form_there (rules.name {scope = scope} {x = x} {t = t} is) all = name_step scope x t all (type_in scope x) refl (is_kept_envelope context x) is
        form_there (rules.envelope_call is at one) all = id_there
        form_there (rules.device_call is at) all = id_there
        form_there (rules.call {called = called} types function is ps fit) all = function_there called function is
        form_there (rules.fields {struct_name = struct_name} types fields is ps fit) all = struct_there struct_name ∙ ap is_some is
        form_there (rules.calculation {op = op} p q) all = arithmetic_there op
        form_there (rules.query {p = p} is) all = optional_there (ty.Struct p.fact) ∙ struct_there p.fact ∙ pattern_there is
        form_there (rules.exists is) all = bool_there
        form_there (rules.counted {op = op} more is) all = count_there op
        form_there (rules.choice {w = w} t u head then otherwise join) all = joined_there t u w (block_there then all) (else_there otherwise all) join

        block_there : {scope : Scope} {b : ExprBlock Expr} {t : NamedType} → HasBlockType items context scope b t → are_there items scope ≡ true → there t ≡ true
        block_there (rules.block_of inner lets p) all = type_is_there p (lets_there lets all)

        else_there : {scope : Scope} {e : ElseExpr Expr} {t : NamedType} → HasElseType items context scope e t → are_there items scope ≡ true → there t ≡ true
        else_there (rules.else_block b) all = block_there b all
        else_there (rules.else_if p) all = type_is_there p all

        lets_there : {scope after : Scope} {lets : List (Let Expr)} → Introduce items context scope lets after → are_there items scope ≡ true → are_there items after ≡ true
        lets_there rules.no_lets all = all
        lets_there (rules.more_lets {scope = scope} {l = l} t p may more) all = lets_there more (with_there scope l.name t all (type_is_there p all))

pub types_exist : (policy : List PlacedItem) (context : Context) (scope : Scope) (e : Expr) (t : NamedType) → IsWellTyped policy → HasCommand (items_of policy) context
    → are_there (items_of policy) scope ≡ true → HasType (items_of policy) context scope e t → is_there (items_of policy) t ≡ true
types_exist policy context scope e t well command all p = type_is_there (items_of policy) (λ n i at. (well n i at).of_kind) context command p all
