-- What literals and operations give is of the type that the rules give it.
use Rattle.std.proofs.Common.{◌≡◌, ℤ, pos, negsuc, ◌+ℤ◌, ◌-ℤ◌, ℕ, suc, ◌+◌, ◌-◌, ◌<◌, ◌≤◌, ◌^◌, Bool, true, false, cond, not, ◌&&◌, ◌||◌, List, [], ◌∷◌, length, min, nat_le, nat_lt, Option, Some, None, option_map, option_and_then, refl, sym, ap, subst, ◌∙◌, arith}
use Rattle.std.specs.Prelude.{position, int_lt, int_le}
use Rattle.std.specs.Int.{w64, saturate_signed}
use Rattle.std.proofs.lemmas.Bool.{false≢true, leb-true, lt-ltb}
use Rattle.std.proofs.lemmas.Option.{same_Some}
use Rattle.std.specs.List.{list_any, position_or_len}
use Rattle.std.specs.Option.{option_or}
use Rattle.std.specs.Str.{bytes_eq}
use Rattle.base_bytes.proofs.Bools.{and_both, and_then}
use Rattle.base_bytes.proofs.Formats.{bind_then, if_then}
use Rattle.base_bytes.specs.Values.{fits_int, fits_text, has_type, is_variant}
use Rattle.base_bytes.specs.declared.shapes.Shapes.{Shapes}
use Rattle.base_bytes.specs.declared.ty.Ty.{Ty}
use Rattle.base_bytes.specs.declared.ty.Ty.TheVariants as value_type
use Rattle.base_bytes.specs.declared.value.Value.{Value}
use Rattle.base_bytes.specs.declared.value.Value.TheVariants as value
use Rattle.policy_ast.specs.declared.expr.Arithmetic.{Arithmetic}
use Rattle.policy_ast.specs.declared.expr.Arithmetic.TheVariants as arithmetic
use Rattle.policy_ast.specs.declared.expr.Comparison.{Comparison}
use Rattle.policy_ast.specs.declared.expr.Comparison.TheVariants as comparison
use Rattle.policy_ast.specs.declared.expr.Count.{Count}
use Rattle.policy_ast.specs.declared.expr.Count.TheVariants as count
use Rattle.policy_ast.specs.declared.expr.Presence.{Presence}
use Rattle.policy_ast.specs.declared.item.Item.{Item}
use Rattle.policy_ast.specs.declared.item.Item.TheVariants as item
use Rattle.policy_ast.specs.declared.literal.Literal.{Literal}
use Rattle.policy_ast.specs.declared.literal.Literal.TheVariants as literal
use Rattle.policy_meaning.specs.Environments.{Env, let_value, literal_value, name_value, variant_value}
use Rattle.policy_meaning.specs.Outcomes.{Halt, Ends, or_stuck}
use Rattle.policy_meaning.specs.Values.{arithmetic_value, calculated, comparison_value, counted, is_present, negated, optional_parts, ordered, presence_value, unwrapped}
use Rattle.policy_rules.specs.Expressions.{arithmetic_type, count_type, is_equality}
use Rattle.policy_rules.specs.FieldLists.{are_distinct}
use Rattle.policy_rules.specs.Heads.{enum_named, let_named, let_type, literal_type, variants}
use Rattle.policy_rules.specs.Items.{are_variants}
use Rattle.policy_rules.specs.Names.{Name, is_among, item_named, number_named}
use Rattle.policy_rules.specs.Scopes.{Scope, is_kept_envelope, name_type, type_in}
use Rattle.policy_rules.specs.Shapes.{numbered, shape_of, shapes_of, value_type_of}
use Rattle.policy_rules.specs.WellTyped.{IsWellTypedAt}
use Rattle.policy_rules.specs.declared.context.Context.{Context}
use Rattle.policy_rules.specs.declared.types.NamedType.{NamedType}
use Rattle.policy_rules.specs.declared.types.NamedType.TheVariants as ty
use Rattle.policy_types.proofs.Fields.{value_not_there, value_there}
use Rattle.policy_types.proofs.Layers.{IsOptional, bool_made, int_made, nothing, nothing_made, number_of, optional_of_type, some_made, something, text_made, truth_of, variant_made}
use Rattle.policy_types.proofs.Standing.{bool_type, enum_type, enum_variants_of, int_type, optional_type, shape_stands, standing, text_type}
use Rattle.policy_types.specs.Endings.{Gives}
use Rattle.policy_types.specs.Fitting.{Fits, IsOf}

-- the place of an element that is there
place_step : {A : Type 0} (p : A → Bool) (x : A) (xs : List A) → (b : Bool) → p x ≡ b → (b || list_any p xs) ≡ true
    → (list_any p xs ≡ true → position_or_len p xs < length xs) → cond (not b) (1 + position_or_len p xs) 0 < suc (length xs)
place_step p x xs true is any later = omega arith
place_step p x xs false is any later = let lt = later any in omega (arith, lt)

pub place_within : {A : Type 0} (p : A → Bool) (xs : List A) → list_any p xs ≡ true → position_or_len p xs < length xs
place_within p [] any = absurd (false≢true any)
place_within p (x ∷ xs) any = place_step p x xs (p x) refl any (place_within p xs)

module _ (items : List Item) where
  abbrev shapes : Shapes
  shapes = shapes_of items

  abbrev of_type : Value → Ty → Type 0
  of_type v t = has_type shapes v t ≡ true

  -- ---- between a type of the rules and a type of values

  pub as_bool : (v : Value) → IsOf items ty.Bool v → of_type v value_type.Bool
  as_bool v is = subst (of_type v) (bool_type items) is

  pub as_int : (v : Value) → IsOf items ty.Int v → of_type v value_type.Int
  as_int v is = subst (of_type v) (int_type items) is

  pub as_optional : (t : NamedType) (v : Value) → IsOf items (ty.Optional t) v → of_type v (value_type.Optional (value_type_of items t))
  as_optional t v is = subst (of_type v) (optional_type items t) is

  pub is_bool : (b : Bool) → IsOf items ty.Bool (value.Bool b)
  is_bool b = subst (of_type (value.Bool b)) (sym (bool_type items)) (bool_made shapes b)

  pub is_int : (n : ℤ) → fits_int n ≡ true → IsOf items ty.Int (value.Int n)
  is_int n fit = subst (of_type (value.Int n)) (sym (int_type items)) (int_made shapes n fit)

  pub is_text : (text : List ℕ) → fits_text text ≡ true → IsOf items ty.Str (value.Str text)
  is_text text fit = subst (of_type (value.Str text)) (sym (text_type items)) (text_made shapes text fit)

  pub is_nothing : (t : NamedType) → IsOf items (ty.Optional t) value.Nothing
  is_nothing t = subst (of_type value.Nothing) (sym (optional_type items t)) (nothing_made shapes (value_type_of items t))

  pub is_something : (t : NamedType) (v : Value) → IsOf items t v → IsOf items (ty.Optional t) (value.Some v)
  is_something t v is = subst (of_type (value.Some v)) (sym (optional_type items t)) (some_made shapes v (value_type_of items t) is)

  -- ---- operations

  -- a value that is there, of a type
  abbrev pub Has : NamedType → Option Value → Type 0
  Has t found = (v : Value) × (found ≡ Some v) × IsOf items t v

  pub has_gives : (t : NamedType) (found : Option Value) → Has t found → (turns : ℕ) → Gives (IsOf items t) (or_stuck found turns)
  has_gives t found has turns = subst (λ o. Gives (IsOf items t) (or_stuck o turns)) (sym has.1) has.2

  pub negation : (v : Value) → IsOf items ty.Bool v → Has ty.Bool (negated v)
  negation v is = let b = truth_of shapes v (as_bool v is) in (value.Bool (not b.0), ap (option_map (λ b. value.Bool (not b))) b.1, is_bool (not b.0))

  presence_by : (op : Presence) (t : Ty) (o : Option (Option Value)) → IsOptional shapes t o → Has ty.Bool (option_map (λ inner. value.Bool (is_present op inner)) o)
  presence_by op t o nothing = (value.Bool (is_present op None), refl, is_bool (is_present op None))
  presence_by op t o (something v is) = (value.Bool (is_present op (Some v)), refl, is_bool (is_present op (Some v)))

  pub presence : (op : Presence) (t : NamedType) (v : Value) → IsOf items (ty.Optional t) v → Has ty.Bool (presence_value op v)
  presence op t v is = presence_by op (value_type_of items t) (optional_parts v) (optional_of_type shapes v (value_type_of items t) (as_optional t v is))

  unwrapped_by : (t : NamedType) (halt : Halt) (o : Option (Option Value)) → IsOptional shapes (value_type_of items t) o → (turns : ℕ) → Gives (IsOf items t) (Ends halt)
      → Gives (IsOf items t) (unwrapped (Ends halt) o turns)
  unwrapped_by t halt o nothing turns may = may
  unwrapped_by t halt o (something v is) turns may = is

  pub unwrapping : (t : NamedType) (v : Value) → IsOf items (ty.Optional t) v → (halt : Halt) → Gives (IsOf items t) (Ends halt) → (turns : ℕ)
      → Gives (IsOf items t) (unwrapped (Ends halt) (optional_parts v) turns)
  unwrapping t v is halt may turns = unwrapped_by t halt (optional_parts v) (optional_of_type shapes v (value_type_of items t) (as_optional t v is)) turns may

  compared_both : (a b : Value) (same : Bool) → Has ty.Bool (option_map value.Bool (Some same))
  compared_both a b same = (value.Bool same, refl, is_bool same)

  pub equality : (op : Comparison) (a b : Value) → is_equality op ≡ true → Has ty.Bool (comparison_value op a b)
  equality comparison.Equal a b is = compared_both a b _
  equality comparison.NotEqual a b is = compared_both a b _
  equality op a b is = absurd (false≢true is)

  ordered_has : (test : ℤ → ℤ → Bool) (a b : Value) → IsOf items ty.Int a → IsOf items ty.Int b → Has ty.Bool (option_map value.Bool (ordered test a b))
  ordered_has test a b is is_too =
      let m = number_of shapes a (as_int a is) in
      let n = number_of shapes b (as_int b is_too) in
      (value.Bool (test m.0 n.0), rw (m.1, n.1) refl, is_bool (test m.0 n.0))

  pub order : (op : Comparison) (a b : Value) → is_equality op ≡ false → IsOf items ty.Int a → IsOf items ty.Int b → Has ty.Bool (comparison_value op a b)
  order comparison.Equal a b is is_a is_b = absurd (false≢true (sym is))
  order comparison.NotEqual a b is is_a is_b = absurd (false≢true (sym is))
  order comparison.Less a b is is_a is_b = ordered_has int_lt a b is_a is_b
  order comparison.LessOrEqual a b is is_a is_b = ordered_has int_le a b is_a is_b
  order comparison.Greater a b is is_a is_b = ordered_has (λ m n. int_lt n m) a b is_a is_b
  order comparison.GreaterOrEqual a b is is_a is_b = ordered_has (λ m n. int_le n m) a b is_a is_b

  -- ---- numbers

  in_range_is : (n : ℤ) (b : Bool) → fits_int n ≡ b → IsOf items (ty.Optional ty.Int) (cond b (value.Some (value.Int n)) value.Nothing)
  in_range_is n true fit = is_something ty.Int (value.Int n) (is_int n fit)
  in_range_is n false fit = is_nothing ty.Int

  saturated_fits : (n : ℤ) → fits_int (saturate_signed w64 n) ≡ true
  saturated_fits (pos n) = lt-ltb (min n (2 ^ 63 - 1)) (2 ^ 63) (omega arith)
  saturated_fits (negsuc n) = lt-ltb (min n (2 ^ 63 - 1)) (2 ^ 63) (omega arith)

  calculated_is : (op : Arithmetic) (m n : ℤ) → IsOf items (arithmetic_type op) (calculated op m n)
  calculated_is arithmetic.Add m n = in_range_is (m +ℤ n) (fits_int (m +ℤ n)) refl
  calculated_is arithmetic.Sub m n = in_range_is (m -ℤ n) (fits_int (m -ℤ n)) refl
  calculated_is arithmetic.SaturatingAdd m n = is_int _ (saturated_fits (m +ℤ n))
  calculated_is arithmetic.SaturatingSub m n = is_int _ (saturated_fits (m -ℤ n))

  pub calculation : (op : Arithmetic) (a b : Value) → IsOf items ty.Int a → IsOf items ty.Int b → Has (arithmetic_type op) (arithmetic_value op a b)
  calculation op a b is is_too =
      let m = number_of shapes a (as_int a is) in
      let n = number_of shapes b (as_int b is_too) in
      (calculated op m.0 n.0, rw (m.1, n.1) refl, calculated_is op m.0 n.0)

  pub counted_is : (op : Count) (limit rows : ℕ) → limit < 2 ^ 63 → IsOf items (count_type op) (counted op limit rows)
  counted_is count.AtLeast limit rows small = is_bool _
  counted_is count.AtMost limit rows small = is_bool _
  counted_is count.Exactly limit rows small = is_bool _
  counted_is count.CountUpTo limit rows small = is_int (pos (min limit rows)) (lt-ltb (min limit rows) (2 ^ 63) (omega (arith, small)))

  -- ---- literals and names

  pub variant_is : (n ordinal : ℕ) (i : Item) (all : List Name) → variants i ≡ Some all → are_variants all ≡ true → ordinal < length all → is_variant ordinal (shape_of items i) ≡ true
  variant_is n ordinal (item.Enum name own) all has are lt =
      let few : nat_le (length all) 1024 ≡ true = and_then (nat_le 1 (length all) && nat_le (length all) 1024) (are_distinct all) are (λ both apart. and_then (nat_le 1 (length all)) (nat_le (length all) 1024) both (λ one few. few)) in
      let bound : length all ≤ 1024 = leb-true (length all) 1024 few in
      let same : own ≡ all = same_Some own all has in
      and_both (nat_lt ordinal (length own)) (nat_lt ordinal (2 ^ 16)) (lt-ltb ordinal (length own) (subst (λ own. ordinal < length own) (sym same) lt)) (lt-ltb ordinal (2 ^ 16) (omega (arith, bound, lt)))
  variant_is n ordinal i all has are lt = absurd (cc)

  module _ (well : (n : ℕ) → IsWellTypedAt items n) where
    variant_has : (name variant : Name) (all : List Name) → enum_named items name ≡ Some all → is_among variant all ≡ true → Has (ty.Enum name) (variant_value items name variant)
    variant_has name variant all named among = bind_then (item_named items name) variants all named (λ i at has.
        let s = standing items name i at in
        let lt = place_within (bytes_eq variant) all among in
        let ordinal : ℕ = position_or_len (bytes_eq variant) all in
        let placed : position (bytes_eq variant) all ≡ Some ordinal = ap (λ b. cond b (Some ordinal) None) (lt-ltb ordinal (length all) lt) in (
          value.Enum s.number ordinal,
          rw (s.numbered, named, placed) refl,
          subst (of_type (value.Enum s.number ordinal)) (sym (enum_type items name ∙ ap (λ o. numbered value_type.Enum o (number_named items name)) named ∙ ap (numbered value_type.Enum (Some all)) s.numbered))
              (variant_made shapes s.number ordinal (subst (λ s. is_variant ordinal s ≡ true) (sym (shape_stands items s.number i s.stands))
              (variant_is s.number ordinal i all has (enum_variants_of items well name all named) lt))),
        ))

    same_type : {t u : NamedType} {o : Option Value} → Some t ≡ Some u → Has t o → Has u o
    same_type {t} {u} {o} same has = subst (λ t. Has t o) (same_Some t u same) has

    pub literal_has : (l : Literal) (t : NamedType) → literal_type items l ≡ Some t → Has t (literal_value items l)
    literal_has (literal.Number n) t is = if_then (fits_int n) (Some ty.Int) t is (λ fit same. same_type same (value.Int n, refl, is_int n fit))
    literal_has (literal.Text text) t is = if_then (fits_text text) (Some ty.Str) t is (λ fit same. same_type same (value.Str text, refl, is_text text fit))
    literal_has literal.True t is = same_type is (value.Bool true, refl, is_bool true)
    literal_has literal.False t is = same_type is (value.Bool false, refl, is_bool false)
    literal_has (literal.Variant name variant) t is = bind_then (enum_named items name) _ t is (λ all named rest.
        if_then (is_among variant all) (Some (ty.Enum name)) t rest (λ among same. same_type same (variant_has name variant all named among)))

    let_has : (i : Item) (t : NamedType) → let_type items i ≡ Some t → Has t (let_value items i)
    let_has (item.Let name value) t is = literal_has value t is
    let_has i t is = absurd (cc)

    let_named_has : (name : Name) (t : NamedType) → let_named items name ≡ Some t → Has t (option_and_then (let_value items) (item_named items name))
    let_named_has name t is = bind_then (item_named items name) (let_type items) t is (λ i named rest.
        subst (λ o. Has t (option_and_then (let_value items) o)) (sym named) (let_has i t rest))

    name_step : (scope : Scope) (env : Env) → Fits items scope env → (name : Name) (t : NamedType) (o : Option NamedType) → type_in scope name ≡ o → option_or o (let_named items name) ≡ Some t
        → Has t (name_value items env name)
    name_step scope env fit name t None at is =
        let found = let_named_has name t is in
        (found.0, rw (value_not_there items scope env fit name at) found.1, found.2)
    name_step scope env fit name t (Some u) at is =
        let found = value_there items scope env fit name t (at ∙ is) in
        (found.0, rw found.1 refl, found.2)

    kept_step : (scope : Scope) (env : Env) → Fits items scope env → (name : Name) (t : NamedType) → (b : Bool) → cond b None (option_or (type_in scope name) (let_named items name)) ≡ Some t
        → Has t (name_value items env name)
    kept_step scope env fit name t true is = absurd (cc)
    kept_step scope env fit name t false is = name_step scope env fit name t (type_in scope name) refl is

    pub name_has : (context : Context) (scope : Scope) (env : Env) → Fits items scope env → (name : Name) (t : NamedType) → name_type items context scope name ≡ Some t
        → Has t (name_value items env name)
    name_has context scope env fit name t is = kept_step scope env fit name t (is_kept_envelope context name) is
