-- In a `match` that covers all values, one of the arms takes each value.
use Rattle.std.proofs.Common.{◌≡◌, ℕ, zero, suc, ◌+◌, ◌<◌, Bool, true, false, cond, not, ◌&&◌, ◌==◌, List, [], ◌∷◌, length, nat_lt, slice_get, Option, Some, None, unwrap_or, refl, sym, ap, subst, ◌∙◌, arith}
use Rattle.std.specs.Prelude.{position}
use Rattle.std.proofs.lemmas.Bool.{eqb-true, false≢true, lt-ltb, ltb-true}
use Rattle.std.proofs.lemmas.List.Folds.{list_any-append}
use Rattle.std.proofs.lemmas.Option.{same_Some}
use Rattle.std.specs.List.{list_all, list_any, position_or_len}
use Rattle.std.specs.Option.{is_some}
use Rattle.std.specs.Str.{bytes_eq}
use Rattle.base_bytes.proofs.Bools.{and_then, either, or_left, or_right}
use Rattle.base_bytes.proofs.Formats.{bind_then}
use Rattle.base_bytes.specs.Values.{has_type, is_variant, shape_at}
use Rattle.base_bytes.specs.declared.shapes.Shapes.{Shapes}
use Rattle.base_bytes.specs.declared.ty.Ty.TheOpen.{Ty-F}
use Rattle.base_bytes.specs.declared.ty.Ty.TheVariants as value_type
use Rattle.base_bytes.specs.declared.value.Value.{Value, out-Value, roll-Value, roll-out-Value}
use Rattle.base_bytes.specs.declared.value.Value.TheOpen.{Value-F}
use Rattle.base_bytes.specs.declared.value.Value.TheVariants as value
use Rattle.fact_store.proofs.Sameness.{same_value_decides}
use Rattle.policy_ast.specs.declared.item.Item.{Item}
use Rattle.policy_ast.specs.declared.item.Item.TheVariants as item
use Rattle.policy_ast.specs.declared.literal.Literal.TheVariants as literal
use Rattle.policy_ast.specs.declared.pattern.ArmPattern.{ArmPattern}
use Rattle.policy_ast.specs.declared.pattern.ArmPattern.TheVariants as arm_pattern
use Rattle.policy_ast.specs.declared.pattern.PatternLiteral.{PatternLiteral}
use Rattle.policy_ast.specs.declared.pattern.PatternLiteral.TheVariants as pattern
use Rattle.policy_meaning.specs.Arms.{is_value, listed_value, takes}
use Rattle.policy_meaning.specs.Environments.{variant_value}
use Rattle.policy_rules.specs.Coverage.{all_listed, all_values_layer, any_is_last, are_arm_patterns, are_distinct_patterns, arms_cover, is_any, lists_all_values, may_match, may_match_layer, pattern_type, same_pattern, some_fits}
use Rattle.policy_rules.specs.FieldLists.{are_distinct}
use Rattle.policy_rules.specs.Heads.{enum_named, variants}
use Rattle.policy_rules.specs.Names.{Name, is_among, number_named}
use Rattle.policy_rules.specs.Shapes.{numbered, shape_of, shapes_of, value_type_of}
use Rattle.policy_rules.specs.WellTyped.{IsWellTypedAt}
use Rattle.policy_rules.specs.declared.types.NamedType.{NamedType, out-NamedType, roll-NamedType, roll-out-NamedType}
use Rattle.policy_rules.specs.declared.types.NamedType.TheOpen.{NamedType-F}
use Rattle.policy_rules.specs.declared.types.NamedType.TheVariants as ty
use Rattle.policy_types.proofs.Fields.{name_same, same_name}
use Rattle.policy_types.proofs.Layers.{has_parts, opens}
use Rattle.policy_types.proofs.Standing.{bool_type, enum_type, enum_variants_of, shape_stands, standing}
use Rattle.policy_types.specs.Fitting.{IsOf}

any_by : {A : Type 0} (p q : A → Bool) → ((x : A) → p x ≡ true → q x ≡ true) → (xs : List A) → list_any p xs ≡ true → list_any q xs ≡ true
any_by p q more [] any = absurd (false≢true any)
any_by p q more (x ∷ xs) any = either (p x) (list_any p xs) any (λ here. or_left (q x) (list_any q xs) (more x here)) (λ there. or_right (q x) (list_any q xs) (any_by p q more xs there))

-- an element of a list all of whose elements pass
all_at : {A : Type 0} (p : A → Bool) (xs : List A) (k : ℕ) (x : A) → list_all p xs ≡ true → slice_get xs k ≡ Some x → p x ≡ true
all_at p [] k x all at = absurd (cc)
all_at p (y ∷ xs) zero x all at = and_then (p y) (list_all p xs) all (λ one more. subst (λ z. p z ≡ true) (same_Some y x at) one)
all_at p (y ∷ xs) (suc k) x all at = and_then (p y) (list_all p xs) all (λ one more. all_at p xs k x more at)

element_at : {A : Type 0} (xs : List A) (k : ℕ) → k < length xs → (x : A) × (slice_get xs k ≡ Some x)
element_at [] k lt = absurd (omega (arith, lt))
element_at (x ∷ xs) zero lt = (x, refl)
element_at (x ∷ xs) (suc k) lt = element_at xs k (omega (arith, lt))

-- ---- the place of a variant

among_at : (names : List Name) (k : ℕ) (name : Name) → slice_get names k ≡ Some name → is_among name names ≡ true
among_at [] k name at = absurd (cc)
among_at (n ∷ names) zero name at = or_left (bytes_eq name n) (is_among name names) (name_same name n (sym (same_Some n name at)))
among_at (n ∷ names) (suc k) name at = or_right (bytes_eq name n) (is_among name names) (among_at names k name at)

place_is : (names : List Name) → are_distinct names ≡ true → (k : ℕ) (name : Name) → slice_get names k ≡ Some name → position_or_len (bytes_eq name) names ≡ k
place_is [] apart k name at = absurd (cc)
place_is (n ∷ names) apart zero name at = by (bytes_eq name n) (name_same name n (sym (same_Some n name at)))
  where
    by : (b : Bool) → b ≡ true → cond (not b) (1 + position_or_len (bytes_eq name) names) 0 ≡ 0
    by true is = refl
    by false is = absurd (false≢true is)
place_is (n ∷ names) apart (suc k) name at = and_then (not (is_among n names)) (are_distinct names) apart (λ one more.
    by (bytes_eq name n) refl one (place_is names more k name at))
  where
    by : (b : Bool) → bytes_eq name n ≡ b → not (is_among n names) ≡ true → position_or_len (bytes_eq name) names ≡ k → cond (not b) (1 + position_or_len (bytes_eq name) names) 0 ≡ suc k
    by true same one rest = absurd (false≢true (sym (ap not (ap (λ m. is_among m names) (sym (same_name name n same)) ∙ among_at names k name at)) ∙ one))
    by false same one rest = omega (arith, rest)

module _ (items : List Item) where
  abbrev shapes : Shapes
  shapes = shapes_of items

  abbrev lists : Value → PatternLiteral → Bool
  lists v p = is_value v (listed_value items p)

  -- a value that an arm lists is taken
  listed_then : (v : Value) (patterns : List ArmPattern) → list_any (lists v) (all_listed patterns) ≡ true → list_any (takes items v) patterns ≡ true
  listed_then v [] any = absurd (false≢true any)
  listed_then v (arm_pattern.Any ∷ patterns) any = refl
  listed_then v (arm_pattern.Literals literals ∷ patterns) any =
      either (list_any (lists v) literals) (list_any (lists v) (all_listed patterns)) (sym (list_any-append (lists v) literals (all_listed patterns)) ∙ any)
      (λ here. or_left (list_any (lists v) literals) (list_any (takes items v) patterns) here) (λ there. or_right (list_any (lists v) literals) (list_any (takes items v) patterns) (listed_then v patterns there))

  any_takes : (v : Value) (p : ArmPattern) → is_any p ≡ true → takes items v p ≡ true
  any_takes v arm_pattern.Any is = refl
  any_takes v p is = absurd (false≢true is)

  is_listed : (v w : Value) (p : PatternLiteral) → listed_value items p ≡ Some w → w ≡ v → lists v p ≡ true
  is_listed v w p has same = ap (is_value v) has ∙ (same_value_decides w v).1 same

  -- ---- bools

  true_listed : (v : Value) → value.Bool true ≡ v → (p : PatternLiteral) → same_pattern (pattern.Literal literal.True) p ≡ true → lists v p ≡ true
  true_listed v same (pattern.Literal literal.True) is = is_listed v (value.Bool true) (pattern.Literal literal.True) refl same
  true_listed v same (pattern.Literal l) is = absurd (false≢true is)
  true_listed v same p is = absurd (false≢true is)

  false_listed : (v : Value) → value.Bool false ≡ v → (p : PatternLiteral) → same_pattern (pattern.Literal literal.False) p ≡ true → lists v p ≡ true
  false_listed v same (pattern.Literal literal.False) is = is_listed v (value.Bool false) (pattern.Literal literal.False) refl same
  false_listed v same (pattern.Literal l) is = absurd (false≢true is)
  false_listed v same p is = absurd (false≢true is)

  bool_by : (v : Value) (l : Value-F Value) → out-Value v ≡ l → has_parts shapes l Ty-F.Bool ≡ true → (b : Bool) × (value.Bool b ≡ v)
  bool_by v (Value-F.Bool b) of is = (b, sym (value.rolls-Bool b) ∙ ap roll-Value (sym of) ∙ roll-out-Value v)
  bool_by v l of is = absurd (false≢true is)

  bool_listed : (v : Value) (b : Bool) → value.Bool b ≡ v → (all : List PatternLiteral) → all_values_layer items NamedType-F.Bool all ≡ true → list_any (lists v) all ≡ true
  bool_listed v b same all is = and_then (list_any (same_pattern (pattern.Literal literal.True)) all) (list_any (same_pattern (pattern.Literal literal.False)) all) is (λ one other.
      by b same one other)
    where
      by : (b : Bool) → value.Bool b ≡ v → list_any (same_pattern (pattern.Literal literal.True)) all ≡ true → list_any (same_pattern (pattern.Literal literal.False)) all ≡ true → list_any (lists v) all ≡ true
      by true same one other = any_by (same_pattern (pattern.Literal literal.True)) (lists v) (true_listed v same) all one
      by false same one other = any_by (same_pattern (pattern.Literal literal.False)) (lists v) (false_listed v same) all other

  -- ---- enums

  variant_listed : (v w : Value) (name variant : Name) → variant_value items name variant ≡ Some w → w ≡ v → (p : PatternLiteral)
      → same_pattern (pattern.Literal (literal.Variant name variant)) p ≡ true → lists v p ≡ true
  variant_listed v w name variant has same (pattern.Literal (literal.Variant other place)) is = and_then (bytes_eq name other) (bytes_eq variant place) is (λ one two.
      is_listed v w (pattern.Literal (literal.Variant other place)) (sym (ap (λ n. variant_value items n variant) (same_name name other one) ∙ ap (variant_value items other) (same_name variant place two)) ∙ has) same)
  variant_listed v w name variant has same (pattern.Literal l) is = absurd (false≢true is)
  variant_listed v w name variant has same p is = absurd (false≢true is)

  -- a value of an enum
  record IsVariant (number : ℕ) (v : Value) : Type 0 where
    pub ordinal : ℕ
    pub same : value.Enum number ordinal ≡ v
    pub within : is_variant ordinal (shape_at shapes number) ≡ true

  variant_by : (n : ℕ) (v : Value) (l : Value-F Value) → out-Value v ≡ l → has_parts shapes l (Ty-F.Enum n) ≡ true → IsVariant n v
  variant_by n v (Value-F.Enum k ordinal) of is = and_then (k == n) (is_variant ordinal (shape_at shapes k)) is (λ one within. record {
    ordinal = ordinal;
    same = ap (λ m. value.Enum m ordinal) (sym (eqb-true k n one)) ∙ sym (value.rolls-Enum k ordinal) ∙ ap roll-Value (sym of) ∙ roll-out-Value v;
    within = subst (λ m. is_variant ordinal (shape_at shapes m) ≡ true) (eqb-true k n one) within;
  })
  variant_by n v l of is = absurd (false≢true is)

  ordinal_within : (ordinal : ℕ) (i : Item) (all : List Name) → variants i ≡ Some all → is_variant ordinal (shape_of items i) ≡ true → ordinal < length all
  ordinal_within ordinal (item.Enum name own) all has is = and_then (nat_lt ordinal (length own)) _ is (λ lt small.
      subst (λ own. ordinal < length own) (same_Some own all has) (ltb-true ordinal (length own) lt))
  ordinal_within ordinal i all has is = absurd (cc)

  variant_value_is : (name variant : Name) (number ordinal : ℕ) (all : List Name) → number_named items name ≡ Some number → enum_named items name ≡ Some all
      → position (bytes_eq variant) all ≡ Some ordinal → variant_value items name variant ≡ Some (value.Enum number ordinal)
  variant_value_is name variant number ordinal all numbered named placed = rw (numbered, named, placed) refl

  module _ (well : (n : ℕ) → IsWellTypedAt items n) where
    enum_listed : (name : Name) (all : List Name) → enum_named items name ≡ Some all → (v : Value) → IsOf items (ty.Enum name) v → (patterns : List PatternLiteral)
        → list_all (λ variant. list_any (same_pattern (pattern.Literal (literal.Variant name variant))) patterns) all ≡ true → list_any (lists v) patterns ≡ true
    enum_listed name all named v typed patterns is = bind_then _ variants all named (λ i at has.
        let s = standing items name i at in
        let of_enum : has_type shapes v (value_type.Enum s.number) ≡ true =
        subst (λ t. has_type shapes v t ≡ true) (enum_type items name ∙ ap (λ o. numbered value_type.Enum o (number_named items name)) named ∙ ap (numbered value_type.Enum (Some all)) s.numbered) typed in
        let is_v : IsVariant s.number v = variant_by s.number v (out-Value v) refl (opens shapes v (value_type.Enum s.number) (Ty-F.Enum s.number) (value_type.outs-Enum s.number) of_enum) in
        let lt : is_v.ordinal < length all = ordinal_within is_v.ordinal i all has (subst (λ s. is_variant is_v.ordinal s ≡ true) (shape_stands items s.number i s.stands) is_v.within) in
        let variant = element_at all is_v.ordinal lt in
        let apart : are_distinct all ≡ true = and_then _ (are_distinct all) (enum_variants_of items well name all named) (λ sized apart. apart) in
        let placed : position (bytes_eq variant.0) all ≡ Some is_v.ordinal =
        ap (λ k. cond (nat_lt k (length all)) (Some k) None) (place_is all apart is_v.ordinal variant.0 variant.1) ∙ ap (λ b. cond b (Some is_v.ordinal) None) (lt-ltb is_v.ordinal (length all) lt) in
        any_by (same_pattern (pattern.Literal (literal.Variant name variant.0))) (lists v)
        (variant_listed v (value.Enum s.number is_v.ordinal) name variant.0 (variant_value_is name variant.0 s.number is_v.ordinal all s.numbered named placed) is_v.same) patterns
        (all_at (λ variant. list_any (same_pattern (pattern.Literal (literal.Variant name variant))) patterns) all is_v.ordinal variant.0 is variant.1))

    values_by : (t : NamedType) (layer : NamedType-F NamedType) → out-NamedType t ≡ layer → (v : Value) → IsOf items t v → (patterns : List PatternLiteral) → all_values_layer items layer patterns ≡ true
        → (may : may_match_layer items layer ≡ true) → list_any (lists v) patterns ≡ true
    values_by t NamedType-F.Bool of v typed patterns is may =
        let same : ty.Bool ≡ t = sym ty.rolls-Bool ∙ ap roll-NamedType (sym of) ∙ roll-out-NamedType t in
        let b = bool_by v (out-Value v) refl (opens shapes v value_type.Bool Ty-F.Bool value_type.outs-Bool (subst (λ t. has_type shapes v t ≡ true) (ap (value_type_of items) (sym same) ∙ bool_type items) typed)) in
        bool_listed v b.0 b.1 patterns is
    values_by t (NamedType-F.Enum name) of v typed patterns is may =
        let same : ty.Enum name ≡ t = sym (ty.rolls-Enum name) ∙ ap roll-NamedType (sym of) ∙ roll-out-NamedType t in
        by_enum name (enum_named items name) refl v (subst (λ t. IsOf items t v) (sym same) typed) patterns may is
      where
        by_enum : (name : Name) (o : Option (List Name)) → enum_named items name ≡ o → (v : Value) → IsOf items (ty.Enum name) v → (patterns : List PatternLiteral) → is_some o ≡ true
            → list_all (λ variant. list_any (same_pattern (pattern.Literal (literal.Variant name variant))) patterns) (unwrap_or o []) ≡ true → list_any (lists v) patterns ≡ true
        by_enum name (Some all) named v typed patterns may is = enum_listed name all named v typed patterns is
        by_enum name None named v typed patterns may is = absurd (false≢true may)
    values_by t layer of v typed patterns is may = absurd (false≢true is)

    covered : (t : NamedType) (patterns : List ArmPattern) → arms_cover items t patterns ≡ true → may_match items t ≡ true → (v : Value) → IsOf items t v → list_any (takes items v) patterns ≡ true
    covered t [] is may v typed = absurd (false≢true is)
    covered t (p ∷ patterns) is may v typed = and_then (any_is_last (p ∷ patterns)) _ is (λ last how.
        either (list_any is_any (p ∷ patterns)) (lists_all_values items t (all_listed (p ∷ patterns))) how
        (λ any. any_by is_any (takes items v) (any_takes v) (p ∷ patterns) any)
        (λ all. listed_then v (p ∷ patterns) (values_by t (out-NamedType t) refl v typed (all_listed (p ∷ patterns)) all may)))

    -- one of the arms takes the value
    pub one_takes : (t : NamedType) (patterns : List ArmPattern) → are_arm_patterns items t patterns ≡ true → (v : Value) → IsOf items t v → list_any (takes items v) patterns ≡ true
    one_takes t patterns is v typed =
        let fit : Bool = list_all (λ p. some_fits (pattern_type items p) t) (all_listed patterns) in
        and_then ((may_match items t && fit) && are_distinct_patterns (all_listed patterns)) (arms_cover items t patterns) is (λ front cover.
        and_then (may_match items t && fit) (are_distinct_patterns (all_listed patterns)) front (λ before apart. and_then (may_match items t) fit before (λ may fits.
        covered t patterns cover may v typed)))
