-- The fields of a well-typed item have distinct names.
use Rattle.std.proofs.Common.{◌≡◌, Bool, true, false, not, ◌&&◌, ◌||◌, List, [], ◌∷◌, ◌++◌, length, nat_le, Option, Some, None, Bor, IfSome, IsTrue, option_map, option_and_then, slice_get, refl, sym, ap, subst, ◌∙◌}
use Rattle.std.specs.List.{list_all, position_or_len}
use Rattle.std.specs.Option.{option_copied}
use Rattle.std.specs.Str.{bytes_eq}
use Rattle.std.proofs.lemmas.Bool.{false≢true}
use Rattle.std.proofs.lemmas.Slice.Eq.{bytes_eq-Decides}
use Rattle.std.proofs.lemmas.List.Folds.{find_at}
use Rattle.base_bytes.proofs.Bools.{and_both, and_then}
use Rattle.policy_ast.specs.declared.field.EffectField.{EffectField}
use Rattle.policy_ast.specs.declared.field.Field.{Field}
use Rattle.policy_ast.specs.declared.item.Item.{Item}
use Rattle.policy_ast.specs.declared.item.Item.TheVariants as item
use Rattle.policy_ast.specs.declared.item.Section.{Section}
use Rattle.policy_ast.specs.declared.item.Section.TheVariants as section
use Rattle.policy_expressions.proofs.FieldFacts.{declared_names}
use Rattle.policy_expressions.specs.Policies.{AreItems}
use Rattle.policy_heads.specs.Views.{fact_view}
use Rattle.policy_heads.specs.declared.head.FactHead.{FactHead as KnownFact}
use Rattle.policy_rules.specs.FieldLists.{are_distinct}
use Rattle.policy_rules.specs.Heads.{FactHead, command_fields, fact_head, fact_named, struct_named, written_fields}
use Rattle.policy_rules.specs.Items.{AreSections, IsOfKind, IsSection, are_fact_fields, are_fields, effect_fields, field_names, is_key_type}
use Rattle.policy_rules.specs.Heads.{type_exists}
use Rattle.policy_rules.specs.Names.{Name, is_among, is_named, item_named}
use Rattle.policy_rules.specs.Scopes.{names_in}
use Rattle.policy_rules.specs.Types.{declared}
use Rattle.policy_rules.specs.declared.types.Named.{Named}

same : {A : Type 0} {x y : A} → Some x ≡ Some y → x ≡ y
same is = cc

-- ---- two lists of fields, one behind the other

or_assoc : (a b c : Bool) → (a || (b || c)) ≡ ((a || b) || c)
or_assoc true b c = refl
or_assoc false b c = refl

neither : (a b : Bool) → not (a || b) ≡ true → (a ≡ false) × (not b ≡ true)
neither true b is = absurd (false≢true is)
neither false b is = (refl, is)

none_of : (a b : Bool) → not a ≡ true → b ≡ false → not (a || b) ≡ true
none_of true b is none = absurd (false≢true is)
none_of false b is none = ap not none

-- equality of names is the same from either side
pub other_way : (n m : Name) → bytes_eq n m ≡ false → bytes_eq m n ≡ false
other_way n m differs = by (bytes_eq m n) refl
  where
    by : (b : Bool) → bytes_eq m n ≡ b → b ≡ false
    by false is = refl
    by true is = absurd (false≢true (sym differs ∙ (bytes_eq-Decides n m).1 (sym ((bytes_eq-Decides m n).0 is))))

among_both : (n : Name) (keys values : List Field) → is_among n (field_names (keys ++ values)) ≡ (is_among n (field_names keys) || is_among n (field_names values))
among_both n [] values = refl
among_both n (k ∷ keys) values = ap (λ b. bytes_eq n k.name || b) (among_both n keys values) ∙ or_assoc (bytes_eq n k.name) (is_among n (field_names keys)) (is_among n (field_names values))

-- none of the values has the name of a key
abbrev apart : List Field → List Field → Bool
apart keys values = list_all (λ name. not (is_among name (field_names keys))) (field_names values)

apart_first : (k : Field) (keys values : List Field) → apart (k ∷ keys) values ≡ true → (is_among k.name (field_names values) ≡ false) × (apart keys values ≡ true)
apart_first k keys [] are = (refl, refl)
apart_first k keys (v ∷ values) are =
    and_then (not (is_among v.name (field_names (k ∷ keys)))) (apart (k ∷ keys) values) are
    (λ here more.
    let both = neither (bytes_eq v.name k.name) (is_among v.name (field_names keys)) here in
    let rest = apart_first k keys values more in
    (rw (other_way v.name k.name both.0) rest.0, and_both (not (is_among v.name (field_names keys))) (apart keys values) both.1 rest.1))

distinct_both : (keys values : List Field) → are_distinct (field_names keys) ≡ true → are_distinct (field_names values) ≡ true → apart keys values ≡ true
    → are_distinct (field_names (keys ++ values)) ≡ true
distinct_both [] values one two are = two
distinct_both (k ∷ keys) values one two are =
    let first = apart_first k keys values are in
    and_then (not (is_among k.name (field_names keys))) (are_distinct (field_names keys)) one
    (λ new more. and_both (not (is_among k.name (field_names (keys ++ values)))) (are_distinct (field_names (keys ++ values)))
    (ap not (among_both k.name keys values) ∙ none_of (is_among k.name (field_names keys)) (is_among k.name (field_names values)) new first.0)
    (distinct_both keys values more two first.1))

module _ (items : List Item) where
  fields_distinct : (fields : List Field) → are_fields items fields ≡ true → are_distinct (field_names fields) ≡ true
  fields_distinct fields are =
      and_then (nat_le (length fields) 64 && are_distinct (field_names fields)) (list_all (λ f. type_exists items f.field_type) fields) are
      (λ both there. and_then (nat_le (length fields) 64) (are_distinct (field_names fields)) both (λ few distinct. distinct))

  fact_values_distinct : (keys values : List Field) → are_fact_fields items keys values ≡ true → are_distinct (field_names values) ≡ true
  fact_values_distinct keys values are =
      and_then (are_fields items keys && are_fields items values && list_all (λ f. is_key_type f.field_type) keys) (list_all (λ name. not (is_among name (field_names keys))) (field_names values)) are
      (λ most apart. and_then (are_fields items keys && are_fields items values) (list_all (λ f. is_key_type f.field_type) keys) most
      (λ both key. and_then (are_fields items keys) (are_fields items values) both (λ one two. fields_distinct values two)))

  -- a fact
  of_fact : (is_immutable : Bool) (name : Name) (keys values : List Field) → IsOfKind items (item.Fact is_immutable name keys values) → are_fact_fields items keys values ≡ true
  of_fact is_immutable name keys values (Rattle.policy_rules.specs.Items.fact is) = is

  head_distinct : (i : Item) → IsOfKind items i → (head : FactHead) → fact_head i ≡ Some head → are_distinct (names_in head.values) ≡ true
  head_distinct (item.Fact is_immutable name keys values) typed head is =
      let same : declared values ≡ head.values = ap (λ o. values_of o) is in
      subst (λ vs. are_distinct (names_in vs) ≡ true) same (ap are_distinct (declared_names values) ∙ fact_values_distinct keys values (of_fact is_immutable name keys values typed))
    where
      values_of : Option FactHead → List Named
      values_of None = []
      values_of (Some h) = h.values
  head_distinct (item.Use used) typed head is = absurd (cc)
  head_distinct (item.Let name value) typed head is = absurd (cc)
  head_distinct (item.Enum name variants) typed head is = absurd (cc)
  head_distinct (item.Struct name fields) typed head is = absurd (cc)
  head_distinct (item.Effect name fields) typed head is = absurd (cc)
  head_distinct (item.Command name sections) typed head is = absurd (cc)
  head_distinct (item.Function name parameters result body) typed head is = absurd (cc)
  head_distinct (item.FinishFunction name parameters body) typed head is = absurd (cc)
  head_distinct (item.Action name parameters body) typed head is = absurd (cc)

  pub fact_distinct : AreItems items → (name : Name) (o : Option KnownFact) → option_map fact_view o ≡ fact_named items name → IfSome o (λ head. IsTrue (are_distinct (names_in head.values.now)))
  fact_distinct are name None is = tt
  fact_distinct are name (Some head) is = by (item_named items name) (find_at (is_named name) items) (sym is)
    where
      by : (o : Option Item) → o ≡ slice_get items (position_or_len (is_named name) items) → option_and_then fact_head o ≡ Some (fact_view head) → are_distinct (names_in head.values.now) ≡ true
      by None stands there = absurd (cc)
      by (Some i) stands there = head_distinct i (are.well_typed (position_or_len (is_named name) items) i (sym stands)).of_kind (fact_view head) there

  -- ---- struct types

  fact_distinct_fields : (keys values : List Field) → are_fact_fields items keys values ≡ true → are_distinct (field_names (keys ++ values)) ≡ true
  fact_distinct_fields keys values are =
      and_then (are_fields items keys && are_fields items values && list_all (λ f. is_key_type f.field_type) keys) (apart keys values) are
      (λ most free. and_then (are_fields items keys && are_fields items values) (list_all (λ f. is_key_type f.field_type) keys) most
      (λ both key. and_then (are_fields items keys) (are_fields items values) both
      (λ one two. distinct_both keys values (fields_distinct keys one) (fields_distinct values two) free)))

  sections_distinct : (name : Name) (sections : List Section) → AreSections items name sections → are_distinct (field_names (command_fields sections)) ≡ true
  sections_distinct name [] are = refl
  sections_distinct name (section.Fields fields ∷ more) (Rattle.policy_rules.specs.Items.more_sections (Rattle.policy_rules.specs.Items.fields_section is) rest) = fields_distinct fields is
  sections_distinct name (section.Attributes attributes ∷ more) (Rattle.policy_rules.specs.Items.more_sections one rest) = sections_distinct name more rest
  sections_distinct name (section.Seal ∷ more) (Rattle.policy_rules.specs.Items.more_sections one rest) = sections_distinct name more rest
  sections_distinct name (section.Open ∷ more) (Rattle.policy_rules.specs.Items.more_sections one rest) = sections_distinct name more rest
  sections_distinct name (section.Policy body ∷ more) (Rattle.policy_rules.specs.Items.more_sections one rest) = sections_distinct name more rest
  sections_distinct name (section.Recall body ∷ more) (Rattle.policy_rules.specs.Items.more_sections one rest) = sections_distinct name more rest

  of_struct : (name : Name) (fields : List Field) → IsOfKind items (item.Struct name fields) → are_fields items fields ≡ true
  of_struct name fields (Rattle.policy_rules.specs.Items.struct is) = is

  of_effect : (name : Name) (fields : List EffectField) → IsOfKind items (item.Effect name fields) → are_fields items (effect_fields fields) ≡ true
  of_effect name fields (Rattle.policy_rules.specs.Items.effect is) = is

  of_command : (name : Name) (sections : List Section) → IsOfKind items (item.Command name sections) → AreSections items name sections
  of_command name sections (Rattle.policy_rules.specs.Items.command has attributes are) = are

  written_distinct : (i : Item) → IsOfKind items i → (fields : List Field) → written_fields i ≡ Some fields → are_distinct (field_names fields) ≡ true
  written_distinct (item.Struct name own) typed fields is = subst (λ fs. are_distinct (field_names fs) ≡ true) (same is) (fields_distinct own (of_struct name own typed))
  written_distinct (item.Effect name own) typed fields is = subst (λ fs. are_distinct (field_names fs) ≡ true) (same is) (fields_distinct (effect_fields own) (of_effect name own typed))
  written_distinct (item.Fact is_immutable name keys values) typed fields is =
      subst (λ fs. are_distinct (field_names fs) ≡ true) (same is) (fact_distinct_fields keys values (of_fact is_immutable name keys values typed))
  written_distinct (item.Command name sections) typed fields is =
      subst (λ fs. are_distinct (field_names fs) ≡ true) (same is) (sections_distinct name sections (of_command name sections typed))
  written_distinct (item.Use used) typed fields is = absurd (cc)
  written_distinct (item.Let name value) typed fields is = absurd (cc)
  written_distinct (item.Enum name variants) typed fields is = absurd (cc)
  written_distinct (item.Function name parameters result body) typed fields is = absurd (cc)
  written_distinct (item.FinishFunction name parameters body) typed fields is = absurd (cc)
  written_distinct (item.Action name parameters body) typed fields is = absurd (cc)

  pub struct_distinct : AreItems items → (name : Name) (o : Option (Bor (List Named))) → option_copied o ≡ struct_named items name → IfSome o (λ fields. IsTrue (are_distinct (names_in fields.now)))
  struct_distinct are name None is = tt
  struct_distinct are name (Some fields) is = by (item_named items name) (find_at (is_named name) items) (sym is)
    where
      in_item : (i : Item) → IsOfKind items i → (o : Option (List Field)) → written_fields i ≡ o → option_map declared o ≡ Some fields.now → are_distinct (names_in fields.now) ≡ true
      in_item i typed None own there = absurd (cc)
      in_item i typed (Some fs) own there =
          subst (λ ns. are_distinct (names_in ns) ≡ true) (same there) (ap are_distinct (declared_names fs) ∙ written_distinct i typed fs own)

      by : (o : Option Item) → o ≡ slice_get items (position_or_len (is_named name) items) → option_and_then (λ i. option_map declared (written_fields i)) o ≡ Some fields.now
          → are_distinct (names_in fields.now) ≡ true
      by None stands there = absurd (cc)
      by (Some i) stands there = in_item i (are.well_typed (position_or_len (is_named name) items) i (sym stands)).of_kind (written_fields i) refl there
