-- The spelling of values and the decoder's reading agree, type by type.
use Rattle.std.proofs.Common.{◌≡◌, ℕ, zero, suc, ◌^◌, ◌<◌, ◌≤◌, ℤ, pos, negsuc, Bool, true, ◌==◌, List, [], ◌∷◌, ◌++◌, length, map, Some, None, refl, sym, ap, subst, ◌∙◌, arith, nat_lt}
use Rattle.std.specs.Int.{w8, w32, w64, cast_signed, cast_unsigned, to_be_bytes}
use Rattle.std.specs.Str.{is_utf8}
use Rattle.std.proofs.lemmas.Bool.{false≢true, eqb-true, eq-eqb, ltb-true, lt-ltb}
use Rattle.std.proofs.lemmas.Int.{ints, to_z-of_z, of_z-to_z}
use Rattle.std.proofs.lemmas.Option.{same_Some}
use Rattle.std.proofs.Math.Facts.{Fits-bits, Fits-of_z, sfits_to_z}
use Rattle.std.specs.Int.RustNames.{FitsSigned}
use Rattle.std.specs.List.{list_all}
use Rattle.base_bytes.proofs.Bools.{and_then, and_both}
use Rattle.base_bytes.specs.Decoding.{bool_at, id_at, raw_at, text_at, variant_at, fields_by, inner_at, layer_at, optional_at, struct_at, value_at}
use Rattle.base_bytes.specs.Payload.{spelling, spelling_all, spelling_layer}
use Rattle.base_bytes.specs.Reading.{Reading, in_order, made, number_at}
use Rattle.base_bytes.specs.Values.{are_fields, fits_int, has_layer, has_type, hold_in_order, is_variant, shape_at}
use Rattle.base_bytes.specs.declared.shapes.Shape.{Shape}
use Rattle.base_bytes.specs.declared.shapes.Shape.TheVariants as shape
use Rattle.base_bytes.specs.declared.shapes.Shapes.{Shapes}
use Rattle.base_bytes.specs.declared.ty.Ty.{Ty, out-Ty, roll-Ty, out-roll-Ty, fold-roll-Ty, map-Ty, ind-Ty}
use Rattle.base_bytes.specs.declared.ty.Ty.TheOpen.{Ty-F}
use Rattle.base_bytes.specs.declared.value.Value.{Value, out-Value, roll-Value, out-roll-Value, roll-out-Value, fold-roll-Value, fold_out-Value, map-Value}
use Rattle.base_bytes.specs.declared.value.Value.TheOpen.{Value-F}
use Rattle.base_bytes.specs.declared.value.Value.TheVariants as value
use Rattle.base_bytes.proofs.Depths.{depth, depth_layer}
use Rattle.base_bytes.proofs.Formats.{AreBytes, AreBytes-behind, AreBytes-rest, IsFormat, bind_then, bytes_format, counted_format, flag_format, made_format, map_then, number_format, pair_format, passing_format, some_of, told_format, wide_8, wide_16, wide_32, wide_64}
use Rattle.base_bytes.proofs.Rooms.{greatest}

-- ---- ints

signed : (z : ℤ) → fits_int z ≡ true → FitsSigned w64 z
signed (pos n) is = let lt : n < 2 ^ 63 = ltb-true _ _ is in omega (arith, ints)
signed (negsuc n) is = let lt : n < 2 ^ 63 = ltb-true _ _ is in omega (arith, ints)

fits_signed : (z : ℤ) → FitsSigned w64 z → fits_int z ≡ true
fits_signed (pos n) fits = let lt : n < 2 ^ 63 = omega (arith, ints) in lt-ltb _ _ lt
fits_signed (negsuc n) fits = let lt : n < 2 ^ 63 = omega (arith, ints) in lt-ltb _ _ lt

int_format : IsFormat (λ z. fits_int z ≡ true) (λ z. to_be_bytes w64 (cast_unsigned w64 z)) (made (cast_signed w64) (number_at w64))
int_format = made_format (number_format wide_64) (λ z. fits_int z ≡ true) (λ z. to_be_bytes w64 (cast_unsigned w64 z)) (cast_signed w64)
    (λ z is. let fits = signed z is in (cast_unsigned w64 z, to_z-of_z w64 z fits, omega (arith, Fits-of_z fits)))
    (λ n lt are. fits_signed (cast_signed w64 n) (sfits_to_z (Fits-bits 64 tt lt)))
    (λ n lt. ap (to_be_bytes w64) (of_z-to_z w64 n lt))

-- ---- one layer

module _ (shapes : Shapes) where
  abbrev has : Value → Ty → Bool
  has = has_type shapes

  -- the value is of the type, and at most so many structs nest in it
  abbrev pub IsOf : ℕ → Ty → Value → Type 0
  IsOf n ty v = (has_type shapes v ty ≡ true) × (depth v ≤ n)

  abbrev has_parts : Value-F Value → Ty-F Ty → Bool
  has_parts y x = has_layer shapes (map-Value Value (Ty → Bool) (has_type shapes) y) x

  abbrev depth_of : Value-F Value → ℕ
  depth_of y = depth_layer (map-Value Value ℕ depth y)

  abbrev IsOfLayer : ℕ → Ty-F Ty → Value → Type 0
  IsOfLayer n x v = (has_parts (out-Value v) x ≡ true) × (depth_of (out-Value v) ≤ n)

  abbrev LayerFormat : ℕ → Ty-F Ty → Reading Value → Type 0
  LayerFormat n x read = IsFormat (IsOfLayer n x) spelling read

  module _ (n : ℕ) (x : Ty-F Ty) {A : Type 0} {IsForm : A → Type 0} {spelled : A → List ℕ} {read : Reading A} (format : IsFormat IsForm spelled read)
      (make : A → Value) (layer : A → Value-F Value) (rolls : (a : A) → roll-Value (layer a) ≡ make a)
      (back : (y : Value-F Value) → has_parts y x ≡ true → depth_of y ≤ n → (a : A) × (layer a ≡ y) × IsForm a)
      (forth : (a : A) → IsForm a → AreBytes (spelled a) → (has_parts (layer a) x ≡ true) × (depth_of (layer a) ≤ n))
      (same : (a : A) → IsForm a → spelling_layer (map-Value Value (List ℕ) spelling (layer a)) ≡ spelled a) where
    layer_format : LayerFormat n x (made make read)
    layer_format = made_format format (IsOfLayer n x) spelling make
        (λ v is. let from = back (out-Value v) is.0 is.1 in (from.0, sym (rolls from.0) ∙ ap roll-Value from.1 ∙ roll-out-Value v, from.2))
        (λ a is are. let out : out-Value (make a) ≡ layer a = ap out-Value (sym (rolls a)) ∙ out-roll-Value (layer a) in rw out (forth a is are))
        (λ a is. ap spelling (sym (rolls a)) ∙ fold-roll-Value (List ℕ) spelling_layer (layer a) ∙ same a is)

  int_back : (y : Value-F Value) → has_parts y Ty-F.Int ≡ true → (a : ℤ) × (Value-F.Int a ≡ y) × (fits_int a ≡ true)
  int_back (Value-F.Int a) is = (a, refl, is)
  int_back _ is = absurd (false≢true is)

  int_layer : (n : ℕ) → LayerFormat n Ty-F.Int (made value.Int (made (cast_signed w64) (number_at w64)))
  int_layer n = layer_format n Ty-F.Int int_format value.Int Value-F.Int value.rolls-Int (λ y is le. int_back y is) (λ a is are. (is, omega arith)) (λ a is. refl)

  bool_back : (y : Value-F Value) → has_parts y Ty-F.Bool ≡ true → (a : Bool) × (Value-F.Bool a ≡ y) × Unit {0}
  bool_back (Value-F.Bool a) is = (a, refl, tt)
  bool_back _ is = absurd (false≢true is)

  bool_layer : (n : ℕ) → LayerFormat n Ty-F.Bool bool_at
  bool_layer n = layer_format n Ty-F.Bool flag_format value.Bool Value-F.Bool value.rolls-Bool (λ y is le. bool_back y is) (λ a is are. (refl, omega arith)) (λ a is. refl)

  text_back : (y : Value-F Value) → has_parts y Ty-F.Str ≡ true → (a : List ℕ) × (Value-F.Str a ≡ y) × ((length a < 2 ^ 32) × (is_utf8 a ≡ true))
  text_back (Value-F.Str a) is = and_then (is_utf8 a) (nat_lt (length a) (2 ^ 32)) is (λ utf8 short. (a, refl, (ltb-true _ _ short, utf8)))
  text_back _ is = absurd (false≢true is)

  text_layer : (n : ℕ) → LayerFormat n Ty-F.Str text_at
  text_layer n = layer_format n Ty-F.Str (passing_format (counted_format wide_32) is_utf8) value.Str Value-F.Str value.rolls-Str
      (λ y is le. text_back y is) (λ a is are. (and_both (is_utf8 a) (nat_lt (length a) (2 ^ 32)) is.1 (lt-ltb _ _ is.0), omega arith)) (λ a is. refl)

  raw_back : (y : Value-F Value) → has_parts y Ty-F.Raw ≡ true → (a : List ℕ) × (Value-F.Raw a ≡ y) × (length a < 2 ^ 32)
  raw_back (Value-F.Raw a) is = and_then (list_all (λ b. nat_lt b 256) a) (nat_lt (length a) (2 ^ 32)) is (λ all short. (a, refl, ltb-true _ _ short))
  raw_back _ is = absurd (false≢true is)

  all_bytes : (a : List ℕ) → AreBytes a → list_all (λ b. nat_lt b 256) a ≡ true
  all_bytes [] are = refl
  all_bytes (b ∷ a) are = and_both (nat_lt b 256) (list_all (λ b. nat_lt b 256) a) (lt-ltb _ _ (are 0)) (all_bytes a (AreBytes-rest b a are))

  raw_layer : (n : ℕ) → LayerFormat n Ty-F.Raw raw_at
  raw_layer n = layer_format n Ty-F.Raw (counted_format wide_32) value.Raw Value-F.Raw value.rolls-Raw
      (λ y is le. raw_back y is) (λ a is are. (and_both (list_all (λ b. nat_lt b 256) a) (nat_lt (length a) (2 ^ 32)) (all_bytes a (AreBytes-behind (to_be_bytes w32 (length a)) a are)) (lt-ltb _ _ is), omega arith)) (λ a is. refl)

  id_back : (y : Value-F Value) → has_parts y Ty-F.Ident ≡ true → (a : List ℕ) × (Value-F.Ident a ≡ y) × (length a ≡ 32)
  id_back (Value-F.Ident a) is = and_then (list_all (λ b. nat_lt b 256) a) (length a == 32) is (λ all long. (a, refl, eqb-true _ _ long))
  id_back _ is = absurd (false≢true is)

  id_layer : (n : ℕ) → LayerFormat n Ty-F.Ident id_at
  id_layer n = layer_format n Ty-F.Ident (bytes_format 32) value.Ident Value-F.Ident value.rolls-Ident
      (λ y is le. id_back y is) (λ a is are. (and_both (list_all (λ b. nat_lt b 256) a) (length a == 32) (all_bytes a are) (eq-eqb _ _ is), omega arith)) (λ a is. refl)

  variant_small : (ordinal : ℕ) (it : Shape) → is_variant ordinal it ≡ true → ordinal < 2 ^ 16
  variant_small ordinal (shape.Variants count) is = and_then (nat_lt ordinal count) (nat_lt ordinal (2 ^ 16)) is (λ within small. ltb-true _ _ small)
  variant_small ordinal _ is = absurd (false≢true is)

  variant_back : (item : ℕ) (y : Value-F Value) → has_parts y (Ty-F.Enum item) ≡ true → (a : ℕ) × (Value-F.Enum item a ≡ y) × ((a < 2 ^ 16) × (is_variant a (shape_at shapes item) ≡ true))
  variant_back item (Value-F.Enum other a) is = and_then (other == item) (is_variant a (shape_at shapes other)) is (λ one_item within.
      let same : other ≡ item = eqb-true _ _ one_item in
      let here : is_variant a (shape_at shapes item) ≡ true = ap (λ k. is_variant a (shape_at shapes k)) (sym same) ∙ within in
      (a, ap (λ k. Value-F.Enum k a) (sym same), (variant_small a (shape_at shapes item) here, here)))
  variant_back item _ is = absurd (false≢true is)

  variant_layer : (n item : ℕ) → LayerFormat n (Ty-F.Enum item) (variant_at shapes item)
  variant_layer n item = layer_format n (Ty-F.Enum item) (passing_format (number_format wide_16) (λ ordinal. is_variant ordinal (shape_at shapes item))) (value.Enum item) (Value-F.Enum item) (value.rolls-Enum item)
      (λ y is le. variant_back item y is) (λ a is are. (and_both (item == item) (is_variant a (shape_at shapes item)) (eq-eqb item item refl) is.1, omega arith)) (λ a is. refl)

  never_back : (y : Value-F Value) → has_parts y Ty-F.Never ≡ true → ⊥
  never_back (Value-F.Int a) is = false≢true is
  never_back _ is = false≢true is

  never_layer : (n : ℕ) → LayerFormat n Ty-F.Never (λ bytes. None)
  never_layer n = record {
    again = λ v rest is. absurd (never_back (out-Value v) is.0);
    takes = λ bytes p are is. absurd (cc);
  }

  -- ---- optionals

  spelled_as : (y : Value-F Value) (v : Value) → roll-Value y ≡ v → spelling v ≡ spelling_layer (map-Value Value (List ℕ) spelling y)
  spelled_as y v rolls = ap spelling (sym rolls) ∙ fold-roll-Value (List ℕ) spelling_layer y

  out_as : (y : Value-F Value) (v : Value) → roll-Value y ≡ v → out-Value v ≡ y
  out_as y v rolls = ap out-Value (sym rolls) ∙ out-roll-Value y

  module _ (n : ℕ) (inner : Ty) (read : Reading Value) (format : IsFormat (IsOf n inner) spelling read) where
    optional_again : (y : Value-F Value) (rest : List ℕ) → has_parts y (Ty-F.Optional inner) ≡ true → depth_of y ≤ n → optional_at read (spelling_layer (map-Value Value (List ℕ) spelling y) ++ rest) ≡ Some (roll-Value y, rest)
    optional_again Value-F.Nothing rest is le =
        rw ((number_format wide_8).again 0 rest (omega arith)) (ap (λ v. some_of Value v rest) (sym value.rolls-Nothing))
    optional_again (Value-F.Some u) rest is le =
        rw ((number_format wide_8).again 1 (spelling u ++ rest) (omega arith), format.again u rest (is, le)) (ap (λ v. some_of Value v rest) (sym (value.rolls-Some u)))
    optional_again _ rest is le = absurd (false≢true is)

    inner_takes : (flag : ℕ) (rest : List ℕ) (p : Value × List ℕ) → AreBytes rest → inner_at read flag rest ≡ Some p → (to_be_bytes w8 flag ++ rest ≡ spelling p.0 ++ p.1) × IsOfLayer n (Ty-F.Optional inner) p.0
    inner_takes zero rest p are is =
        subst (λ (q : Value × List ℕ). (to_be_bytes w8 0 ++ rest ≡ spelling q.0 ++ q.1) × IsOfLayer n (Ty-F.Optional inner) q.0) (same_Some (value.Nothing, rest) p is)
        (ap (λ told. told ++ rest) (sym (spelled_as Value-F.Nothing value.Nothing value.rolls-Nothing)), rw (out_as Value-F.Nothing value.Nothing value.rolls-Nothing) (refl, omega arith))
    inner_takes (suc zero) rest p are is = map_then (read rest) _ p is (λ u reads same.
        let t = format.takes rest u are reads in
        subst (λ (q : Value × List ℕ). (to_be_bytes w8 1 ++ rest ≡ spelling q.0 ++ q.1) × IsOfLayer n (Ty-F.Optional inner) q.0) same
        (ap (λ told. 1 ∷ told) t.0 ∙ ap (λ told. told ++ u.1) (sym (spelled_as (Value-F.Some u.0) (value.Some u.0) (value.rolls-Some u.0))), rw (out_as (Value-F.Some u.0) (value.Some u.0) (value.rolls-Some u.0)) t.1))
    inner_takes (suc (suc flag)) rest p are is = absurd (cc)

    optional_layer : LayerFormat n (Ty-F.Optional inner) (optional_at read)
    optional_layer = record {
      again = λ v rest is.
          ap (λ told. optional_at read (told ++ rest)) (fold_out-Value (List ℕ) spelling_layer v) ∙ optional_again (out-Value v) rest is.0 is.1 ∙ ap (λ z. some_of Value z rest) (roll-out-Value v);
      takes = λ bytes p are is. bind_then (number_at w8 bytes) _ p is (λ flag reads more.
          let t = (number_format wide_8).takes bytes flag are reads in
          let u = inner_takes flag.0 flag.1 p (AreBytes-behind (to_be_bytes w8 flag.0) flag.1 (subst AreBytes t.0 are)) more in
          (t.0 ∙ u.0, u.1));
    }

  -- ---- structs

  -- values of these types, in order, in which at most so many structs nest
  abbrev AreOf : ℕ → List Ty → List Value → Type 0
  AreOf n types vs = (hold_in_order (map (has_type shapes) vs) types ≡ true) × (greatest (λ d. d) (map depth vs) ≤ n)

  module _ (n : ℕ) (formats : (ty : Ty) → IsFormat (IsOf n ty) spelling (value_at shapes n ty)) where
    values_back : (ty : Ty) (types : List Ty) (vs : List Value) → AreOf n (ty ∷ types) vs → (a : Value × List Value) × ((a.0 ∷ a.1) ≡ vs) × (IsOf n ty a.0 × AreOf n types a.1)
    values_back ty types [] is = absurd (false≢true is.0)
    values_back ty types (v ∷ vs) is = and_then (has_type shapes v ty) (hold_in_order (map (has_type shapes) vs) types) is.0 (λ one more. ((v, vs), refl, ((one, omega (arith, is.1)), (more, omega (arith, is.1)))))

    values_format : (types : List Ty) → IsFormat (AreOf n types) spelling_all (in_order (map (value_at shapes n) types))
    values_format [] = record {
      again = λ vs rest is. no_types vs rest is;
      takes = λ bytes p are is. subst (λ (q : List Value × List ℕ). (bytes ≡ spelling_all q.0 ++ q.1) × AreOf n [] q.0) (same_Some ([], bytes) p is) (refl, (refl, omega arith));
    } where
      no_types : (vs : List Value) (rest : List ℕ) → AreOf n [] vs → in_order {A = Value} [] (spelling_all vs ++ rest) ≡ Some (vs, rest)
      no_types [] rest is = refl
      no_types (v ∷ vs) rest is = absurd (false≢true is.0)
    values_format (ty ∷ types) = made_format (pair_format (formats ty) (values_format types)) (AreOf n (ty ∷ types)) spelling_all (λ both. both.0 ∷ both.1)
        (values_back ty types) (λ a is are. (and_both (has_type shapes a.0 ty) (hold_in_order (map (has_type shapes) a.1) types) is.0.0 is.1.0, omega (arith, is.0.1, is.1.1))) (λ a is. refl)

    fields_format : (it : Shape) → IsFormat (λ vs. (are_fields (map (has_type shapes) vs) it ≡ true) × (greatest (λ d. d) (map depth vs) ≤ n)) spelling_all (fields_by (value_at shapes n) it)
    fields_format (shape.Fields types) = values_format types
    fields_format _ = record { again = λ vs rest is. absurd (false≢true is.0); takes = λ bytes p are is. absurd (cc) }

    struct_back : (item : ℕ) (y : Value-F Value) → has_parts y (Ty-F.Struct item) ≡ true → depth_of y ≤ suc n
        → (a : List Value) × (Value-F.Struct item a ≡ y) × ((are_fields (map (has_type shapes) a) (shape_at shapes item) ≡ true) × (greatest (λ d. d) (map depth a) ≤ n))
    struct_back item (Value-F.Struct other a) is le = and_then (other == item) (are_fields (map (has_type shapes) a) (shape_at shapes other)) is (λ one_item fields.
        let same : other ≡ item = eqb-true _ _ one_item in
        (a, ap (λ k. Value-F.Struct k a) (sym same), (ap (λ k. are_fields (map (has_type shapes) a) (shape_at shapes k)) (sym same) ∙ fields, omega (arith, le))))
    struct_back item _ is le = absurd (false≢true is)

    deeper_layer : (item : ℕ) → LayerFormat (suc n) (Ty-F.Struct item) (struct_at shapes (suc n) item)
    deeper_layer item = layer_format (suc n) (Ty-F.Struct item) (fields_format (shape_at shapes item)) (value.Struct item) (Value-F.Struct item) (value.rolls-Struct item)
        (struct_back item) (λ a is are. (and_both (item == item) (are_fields (map (has_type shapes) a) (shape_at shapes item)) (eq-eqb item item refl) is.0, omega (arith, is.1))) (λ a is. refl)

  no_struct : (item : ℕ) (y : Value-F Value) → has_parts y (Ty-F.Struct item) ≡ true → depth_of y ≤ 0 → ⊥
  no_struct item (Value-F.Struct other a) is le = omega (arith, le)
  no_struct item _ is le = false≢true is

  -- ---- all types

  from_layer : (n : ℕ) (x : Ty-F Ty) → LayerFormat n x (layer_at shapes (struct_at shapes n) (map-Ty Ty (Reading Value) (value_at shapes n) x)) → IsFormat (IsOf n (roll-Ty x)) spelling (value_at shapes n (roll-Ty x))
  from_layer n x format =
      let read_is = fold-roll-Ty (Reading Value) (layer_at shapes (struct_at shapes n)) x in
      subst (λ read. IsFormat (IsOf n (roll-Ty x)) spelling read) (sym read_is)
      (told_format format (IsOf n (roll-Ty x)) spelling
      (λ v is. (sym (has_is v) ∙ is.0, subst (λ d. d ≤ n) (fold_out-Value ℕ depth_layer v) is.1))
      (λ v is are. (has_is v ∙ is.0, subst (λ d. d ≤ n) (sym (fold_out-Value ℕ depth_layer v)) is.1))
      (λ v. refl))
    where
      has_is : (v : Value) → has_type shapes v (roll-Ty x) ≡ has_parts (out-Value v) x
      has_is v = ap (λ test. test (roll-Ty x)) (fold_out-Value (Ty → Bool) (λ it ty. has_layer shapes it (out-Ty ty)) v) ∙ ap (has_layer shapes (map-Value Value (Ty → Bool) (has_type shapes) (out-Value v))) (out-roll-Ty x)

  abbrev IsRead : ℕ → Ty → Type 0
  IsRead n ty = IsFormat (IsOf n ty) spelling (value_at shapes n ty)

  values_format_by : (n : ℕ) → ((item : ℕ) → LayerFormat n (Ty-F.Struct item) (struct_at shapes n item)) → (ty : Ty) → IsFormat (IsOf n ty) spelling (value_at shapes n ty)
  values_format_by n structs = ind-Ty (IsRead n) (λ x y is. subst (λ z. IsRead n (roll-Ty z)) is (step y))
    where
      step : (y : Ty-F ((z : Ty) × IsRead n z)) → IsRead n (roll-Ty (map-Ty ((z : Ty) × IsRead n z) Ty (λ e. e.0) y))
      step Ty-F.Int = from_layer n Ty-F.Int (int_layer n)
      step Ty-F.Bool = from_layer n Ty-F.Bool (bool_layer n)
      step Ty-F.Str = from_layer n Ty-F.Str (text_layer n)
      step Ty-F.Raw = from_layer n Ty-F.Raw (raw_layer n)
      step Ty-F.Ident = from_layer n Ty-F.Ident (id_layer n)
      step (Ty-F.Enum item) = from_layer n (Ty-F.Enum item) (variant_layer n item)
      step (Ty-F.Struct item) = from_layer n (Ty-F.Struct item) (structs item)
      step (Ty-F.Optional e) = from_layer n (Ty-F.Optional e.0) (optional_layer n e.0 (value_at shapes n e.0) e.1)
      step Ty-F.Never = from_layer n Ty-F.Never (never_layer n)

  structs_format : (n item : ℕ) → LayerFormat n (Ty-F.Struct item) (struct_at shapes n item)
  structs_format zero item = record { again = λ v rest is. absurd (no_struct item (out-Value v) is.0 is.1); takes = λ bytes p are is. absurd (cc) }
  structs_format (suc n) item = deeper_layer n (values_format_by n (structs_format n)) item

  -- each type, whatever structs stand in it
  pub value_format : (n : ℕ) (ty : Ty) → IsFormat (IsOf n ty) spelling (value_at shapes n ty)
  value_format n = values_format_by n (structs_format n)
