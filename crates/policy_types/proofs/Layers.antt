-- Values of a type, layer by layer: what a value of each form of type is, and what makes one.
use Rattle.std.proofs.Common.{◌≡◌, ◌==◌, ℕ, ℤ, Bool, true, List, map, Option, Some, None, refl, sym, ap, subst, ◌∙◌}
use Rattle.std.proofs.lemmas.Bool.{eq-eqb, eqb-true, false≢true}
use Rattle.base_bytes.proofs.Bools.{and_then, and_both}
use Rattle.base_bytes.specs.Values.{are_fields, fits_id, fits_int, fits_text, has_layer, has_type, is_variant, shape_at}
use Rattle.base_bytes.specs.declared.shapes.Shapes.{Shapes}
use Rattle.base_bytes.specs.declared.ty.Ty.{Ty, out-Ty}
use Rattle.base_bytes.specs.declared.ty.Ty.TheOpen.{Ty-F}
use Rattle.base_bytes.specs.declared.ty.Ty.TheVariants as value_type
use Rattle.base_bytes.specs.declared.value.Value.{Value, out-Value, map-Value, fold_out-Value}
use Rattle.base_bytes.specs.declared.value.Value.TheOpen.{Value-F}
use Rattle.base_bytes.specs.declared.value.Value.TheVariants as value
use Rattle.policy_meaning.specs.Values.{inner_layer, number, number_layer, optional_parts, struct_layer, struct_parts, truth, truth_layer}

module _ (shapes : Shapes) where
  -- one layer of a value is of one layer of a type
  abbrev pub has_parts : Value-F Value → Ty-F Ty → Bool
  has_parts layer t = has_layer shapes (map-Value Value (Ty → Bool) (has_type shapes) layer) t

  pub opened : (v : Value) (t : Ty) → has_type shapes v t ≡ has_parts (out-Value v) (out-Ty t)
  opened v t = ap (λ test. test t) (fold_out-Value (Ty → Bool) (λ layer t. has_layer shapes layer (out-Ty t)) v)

  -- what is known of a value of a type whose layer is known
  pub opens : (v : Value) (t : Ty) (layer : Ty-F Ty) → out-Ty t ≡ layer → has_type shapes v t ≡ true → has_parts (out-Value v) layer ≡ true
  opens v t layer is typed = sym (ap (has_parts (out-Value v)) is) ∙ sym (opened v t) ∙ typed

  -- a value whose layer is known is of a type whose layer is known
  pub closes : (v : Value) (l : Value-F Value) (t : Ty) (layer : Ty-F Ty) → out-Value v ≡ l → out-Ty t ≡ layer → has_parts l layer ≡ true → has_type shapes v t ≡ true
  closes v l t layer of is typed = opened v t ∙ ap (λ l. has_parts l (out-Ty t)) of ∙ ap (has_parts l) is ∙ typed

  -- ---- what a value of a type is

  truth_by : (l : Value-F Value) → has_parts l Ty-F.Bool ≡ true → (b : Bool) × (truth_layer l ≡ Some b)
  truth_by (Value-F.Bool b) is = (b, refl)
  truth_by l is = absurd (false≢true is)

  pub truth_of : (v : Value) → has_type shapes v value_type.Bool ≡ true → (b : Bool) × (truth v ≡ Some b)
  truth_of v is = truth_by (out-Value v) (opens v value_type.Bool Ty-F.Bool value_type.outs-Bool is)

  number_by : (l : Value-F Value) → has_parts l Ty-F.Int ≡ true → (n : ℤ) × (number_layer l ≡ Some n)
  number_by (Value-F.Int n) is = (n, refl)
  number_by l is = absurd (false≢true is)

  pub number_of : (v : Value) → has_type shapes v value_type.Int ≡ true → (n : ℤ) × (number v ≡ Some n)
  number_of v is = number_by (out-Value v) (opens v value_type.Int Ty-F.Int value_type.outs-Int is)

  -- an optional is None, or Some of a value of the inner type
  pub data IsOptional (t : Ty) : Option (Option Value) → Type 0 where
    nothing : IsOptional t (Some None)
    something : (v : Value) → has_type shapes v t ≡ true → IsOptional t (Some (Some v))

  optional_by : (t : Ty) (l : Value-F Value) → has_parts l (Ty-F.Optional t) ≡ true → IsOptional t (inner_layer l)
  optional_by t Value-F.Nothing is = nothing
  optional_by t (Value-F.Some v) is = something v is
  optional_by t l is = absurd (false≢true is)

  pub optional_of_type : (v : Value) (t : Ty) → has_type shapes v (value_type.Optional t) ≡ true → IsOptional t (optional_parts v)
  optional_of_type v t is = optional_by t (out-Value v) (opens v (value_type.Optional t) (Ty-F.Optional t) (value_type.outs-Optional t) is)

  -- a struct has the number and the fields of its item
  pub record IsStruct (number : ℕ) (v : Value) : Type 0 where
    pub fields : List Value
    pub parts : struct_parts v ≡ Some (number, fields)
    pub typed : are_fields (map (has_type shapes) fields) (shape_at shapes number) ≡ true

  struct_by : (n : ℕ) (v : Value) (l : Value-F Value) → out-Value v ≡ l → has_parts l (Ty-F.Struct n) ≡ true → IsStruct n v
  struct_by n v (Value-F.Struct k fields) of is = and_then (k == n) (are_fields (map (has_type shapes) fields) (shape_at shapes k)) is (λ same typed. record {
    fields = fields;
    parts = ap struct_layer of ∙ ap (λ (m : ℕ). Some (m, fields)) (eqb-true k n same);
    typed = subst (λ m. are_fields (map (has_type shapes) fields) (shape_at shapes m) ≡ true) (eqb-true k n same) typed;
  })
  struct_by n v l of is = absurd (false≢true is)

  pub struct_of_type : (v : Value) (n : ℕ) → has_type shapes v (value_type.Struct n) ≡ true → IsStruct n v
  struct_of_type v n is = struct_by n v (out-Value v) refl (opens v (value_type.Struct n) (Ty-F.Struct n) (value_type.outs-Struct n) is)

  never_by : {P : Type 0} (l : Value-F Value) → has_parts l Ty-F.Never ≡ true → P
  never_by (Value-F.Int n) is = absurd (false≢true is)
  never_by l is = absurd (false≢true is)

  -- no value is of the type Never
  pub no_value : {P : Type 0} (v : Value) → has_type shapes v value_type.Never ≡ true → P
  no_value v is = never_by (out-Value v) (opens v value_type.Never Ty-F.Never value_type.outs-Never is)

  -- ---- what makes a value of a type

  pub int_made : (n : ℤ) → fits_int n ≡ true → has_type shapes (value.Int n) value_type.Int ≡ true
  int_made n is = closes (value.Int n) (Value-F.Int n) value_type.Int Ty-F.Int (value.outs-Int n) value_type.outs-Int is

  pub bool_made : (b : Bool) → has_type shapes (value.Bool b) value_type.Bool ≡ true
  bool_made b = closes (value.Bool b) (Value-F.Bool b) value_type.Bool Ty-F.Bool (value.outs-Bool b) value_type.outs-Bool refl

  pub text_made : (text : List ℕ) → fits_text text ≡ true → has_type shapes (value.Str text) value_type.Str ≡ true
  text_made text is = closes (value.Str text) (Value-F.Str text) value_type.Str Ty-F.Str (value.outs-Str text) value_type.outs-Str is

  pub id_made : (id : List ℕ) → fits_id id ≡ true → has_type shapes (value.Ident id) value_type.Ident ≡ true
  id_made id is = closes (value.Ident id) (Value-F.Ident id) value_type.Ident Ty-F.Ident (value.outs-Ident id) value_type.outs-Ident is

  pub nothing_made : (t : Ty) → has_type shapes value.Nothing (value_type.Optional t) ≡ true
  nothing_made t = closes value.Nothing Value-F.Nothing (value_type.Optional t) (Ty-F.Optional t) value.outs-Nothing (value_type.outs-Optional t) refl

  pub some_made : (v : Value) (t : Ty) → has_type shapes v t ≡ true → has_type shapes (value.Some v) (value_type.Optional t) ≡ true
  some_made v t is = closes (value.Some v) (Value-F.Some v) (value_type.Optional t) (Ty-F.Optional t) (value.outs-Some v) (value_type.outs-Optional t) is

  pub variant_made : (n ordinal : ℕ) → is_variant ordinal (shape_at shapes n) ≡ true → has_type shapes (value.Enum n ordinal) (value_type.Enum n) ≡ true
  variant_made n ordinal is =
      closes (value.Enum n ordinal) (Value-F.Enum n ordinal) (value_type.Enum n) (Ty-F.Enum n) (value.outs-Enum n ordinal) (value_type.outs-Enum n) (and_both (n == n) _ (eq-eqb n n refl) is)

  pub struct_made : (n : ℕ) (fields : List Value) → are_fields (map (has_type shapes) fields) (shape_at shapes n) ≡ true → has_type shapes (value.Struct n fields) (value_type.Struct n) ≡ true
  struct_made n fields is =
      closes (value.Struct n fields) (Value-F.Struct n fields) (value_type.Struct n) (Ty-F.Struct n) (value.outs-Struct n fields) (value_type.outs-Struct n) (and_both (n == n) _ (eq-eqb n n refl) is)

  -- an optional of one type is one of another, where each value of the first inner type is one of the second
  widens_by : (t u : Ty) → ((v : Value) → has_type shapes v t ≡ true → has_type shapes v u ≡ true) → (l : Value-F Value) → has_parts l (Ty-F.Optional t) ≡ true → has_parts l (Ty-F.Optional u) ≡ true
  widens_by t u inner Value-F.Nothing is = refl
  widens_by t u inner (Value-F.Some v) is = inner v is
  widens_by t u inner l is = absurd (false≢true is)

  pub optional_widens : (t u : Ty) → ((v : Value) → has_type shapes v t ≡ true → has_type shapes v u ≡ true) → (v : Value)
      → has_type shapes v (value_type.Optional t) ≡ true → has_type shapes v (value_type.Optional u) ≡ true
  optional_widens t u inner v is = closes v (out-Value v) (value_type.Optional u) (Ty-F.Optional u) refl (value_type.outs-Optional u)
      (widens_by t u inner (out-Value v) (opens v (value_type.Optional t) (Ty-F.Optional t) (value_type.outs-Optional t) is))
