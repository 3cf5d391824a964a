-- What an argument is at a type: one equation a form, and the struct of a number by the names and types of its fields.
use Rattle.std.proofs.Common.{◌≡◌, ◌==◌, ◌&&◌, ◌||◌, not, ◌++◌, ◌<◌, ◌≤◌, ◌+◌, ℕ, suc, zero, Bool, true, false, cond, List, [], ◌∷◌, map, length, drop, get_or, Option, Some, None, option_map, option_and_then, slice_get, refl, ap, sym, ◌∙◌, arith}
use Rattle.std.specs.Prelude.{IfOk, IfSome, Result, Ok, Err, unwrap_or, nat_lt, position}
use Rattle.std.specs.List.{find, list_all, position_or_len}
use Rattle.std.specs.Bool.{one_answer}
use Rattle.std.specs.Cmp.{IsEquivalence}
use Rattle.std.specs.Set.{distinct_count}
use Rattle.std.specs.Str.{IsUtf8, bytes_eq}
use Rattle.std.proofs.lemmas.Bool.{eqb-true, false≢true, lt-ltb, ltb-false}
use Rattle.std.proofs.lemmas.List.{append_assoc, drop_more}
use Rattle.std.proofs.lemmas.List.Folds.{find_at}
use Rattle.std.proofs.lemmas.Option.{slice_get-map, slice_get_past, slice_get_read}
use Rattle.std.proofs.lemmas.Str.{is_utf8-from_IsUtf8}
use Rattle.std.proofs.lemmas.Map.Made.{IsDistinct-from_count, length-le_from_is_member}
use Rattle.std.proofs.lemmas.Slice.Eq.{bytes_eq-Decides}
use Rattle.base_bytes.proofs.Bools.{and_then}
use Rattle.base_bytes.proofs.Formats.{AreBytes, AreBytes-rest}
use Rattle.base_bytes.specs.Values.{fits_bytes, fits_text}
use Rattle.base_bytes.specs.declared.arg.Arg.{Arg, fold-roll-Arg, map-Arg, roll-Arg}
use Rattle.base_bytes.specs.declared.arg.Arg.TheOpen.{Arg-F}
use Rattle.base_bytes.specs.declared.arg.Arg.TheVariants as arg
use Rattle.base_bytes.specs.declared.ty.Ty.{Ty, out-Ty}
use Rattle.base_bytes.specs.declared.ty.Ty.TheOpen.{Ty-F}
use Rattle.base_bytes.specs.declared.value.Value.{Value}
use Rattle.base_bytes.specs.declared.value.Value.TheVariants as value
use Rattle.policy_ast.specs.declared.field.Field.{Field}
use Rattle.policy_ast.specs.declared.item.Item.{Item}
use Rattle.policy_ast.specs.declared.item.Item.TheVariants as item
use Rattle.policy_meaning.proofs.DeclaredFacts.{named_at, number_is}
use Rattle.policy_meaning.specs.Environments.{variant_value}
use Rattle.policy_meaning.specs.Resolving.{Resolving, given_for, means, name_each_once, resolved_fields, resolved_layer, resolved_struct}
use Rattle.policy_meaning.specs.Values.{field_names}
use Rattle.policy_meaning.specs.working.Resolutions.{enum_number, field_types, given_names, given_of, inner_type, item_at, names_at, resolving, struct_number, types_at, types_for, types_of, values_for}
use Rattle.policy_rules.specs.FieldLists.{are_distinct}
use Rattle.policy_rules.specs.Heads.{variants, written_fields}
use Rattle.policy_rules.specs.Names.{Name, is_among, number_named}
use Rattle.policy_rules.specs.Scopes.{names_in}
use Rattle.policy_rules.specs.Shapes.{field_value_types, shape_of, shapes_of}
use Rattle.policy_rules.specs.Types.{declared}

pub told : {A E : Type 0} {P Q : A → Type 0} → ((x : A) → P x → Q x) → (r : Result A E) → IfOk r P → IfOk r Q
told f (Ok x) is = f x is
told f (Err e) is = tt

-- ---- lengths and bytes

all_bytes : (a : List ℕ) → AreBytes a → list_all (λ b. nat_lt b 256) a ≡ true
all_bytes [] are = refl
all_bytes (b ∷ a) are = rw (lt-ltb b 256 (are 0)) (all_bytes a (AreBytes-rest b a are))

pub fits_bytes_is : (a : List ℕ) → AreBytes a → nat_lt (length a) 4294967296 ≡ fits_bytes a
fits_bytes_is a are = rw (all_bytes a are) refl

pub fits_id_is : (a : List ℕ) → AreBytes a → (length a == 32) ≡ (list_all (λ b. nat_lt b 256) a && (length a == 32))
fits_id_is a are = rw (all_bytes a are) refl

pub fits_text_is : (a : List ℕ) → IsUtf8 a → nat_lt (length a) 4294967296 ≡ fits_text a
fits_text_is a is = rw (is_utf8-from_IsUtf8 a is) refl

-- ---- more names than fields are not each once

bytes_equivalence : IsEquivalence bytes_eq
bytes_equivalence = record {
  refl = λ x. (bytes_eq-Decides x x).1 refl;
  symm = λ x y. let d = bytes_eq-Decides y x in one_answer (bytes_eq x y) (bytes_eq y x) (bytes_eq-Decides x y) ((λ h. sym (d.0 h)), (λ h. d.1 (sym h)));
  congr = λ x y z is. ap (λ a. bytes_eq a z) ((bytes_eq-Decides x y).0 is);
}

all_counted : (names : List Name) → are_distinct names ≡ true → distinct_count bytes_eq names ≡ length names
all_counted [] is = refl
all_counted (name ∷ names) is = and_then (not (is_among name names)) (are_distinct names) is (λ new rest. by (is_among name names) refl new (all_counted names rest))
  where
    by : (b : Bool) → is_among name names ≡ b → not b ≡ true → distinct_count bytes_eq names ≡ length names → distinct_count bytes_eq (name ∷ names) ≡ length (name ∷ names)
    by true is new counted = absurd (false≢true new)
    by false is new counted = rw is (ap suc counted)

all_among : (fields names : List Name) → list_all (λ name. is_among name fields) names ≡ true → (q : Name) → is_among q names ≡ true → is_among q fields ≡ true
all_among fields [] are q is = absurd (false≢true is)
all_among fields (name ∷ names) are q is =
    and_then (is_among name fields) (list_all (λ name. is_among name fields) names) are (λ first rest. by (bytes_eq q name) refl first (λ later. all_among fields names rest q later) is)
  where
    by : (b : Bool) → bytes_eq q name ≡ b → is_among name fields ≡ true → (is_among q names ≡ true → is_among q fields ≡ true) → (b || is_among q names) ≡ true → is_among q fields ≡ true
    by true same first later is = ap (λ n. is_among n fields) ((bytes_eq-Decides q name).0 same) ∙ first
    by false same first later is = later is

no_more : (fields names : List Name) → name_each_once fields names ≡ true → length names ≤ length fields
no_more fields names is =
    and_then (are_distinct names && list_all (λ name. is_among name fields) names) (list_all (λ field. is_among field names) fields) is
    (λ both given. and_then (are_distinct names) (list_all (λ name. is_among name fields) names) both
    (λ distinct are. length-le_from_is_member bytes_equivalence names fields (IsDistinct-from_count bytes_equivalence names (all_counted names distinct)) (all_among fields names are)))

pub too_many : (fields names : List Name) → length fields < length names → false ≡ name_each_once fields names
too_many fields names more = by (name_each_once fields names) refl
  where
    by : (b : Bool) → name_each_once fields names ≡ b → false ≡ name_each_once fields names
    by true is = absurd (let le : length names ≤ length fields = no_more fields names is in omega arith)
    by false is = sym is

pub given_as_many : (given : List (Name × Arg)) → length (given_names given) ≡ length given
given_as_many [] = refl
given_as_many (g ∷ given) = ap suc (given_as_many given)

-- ---- fields in two lists

module _ {A B : Type 0} (f : A → B) where
  pub front_get : (xs ys : List A) (i : ℕ) → i < length xs → slice_get (map f (xs ++ ys)) i ≡ slice_get (map f xs) i
  front_get [] ys i lt = absurd (omega arith)
  front_get (x ∷ xs) ys zero lt = refl
  front_get (x ∷ xs) ys (suc i) lt = front_get xs ys i (omega arith)

  pub back_get : (xs ys : List A) (i j : ℕ) → i ≡ length xs + j → slice_get (map f (xs ++ ys)) i ≡ slice_get (map f ys) j
  back_get [] ys i j is = let e : i ≡ j = omega arith in ap (slice_get (map f ys)) e
  back_get (x ∷ xs) ys zero j is = absurd (omega arith)
  back_get (x ∷ xs) ys (suc i) j is = back_get xs ys i j (omega arith)

-- ---- one equation a form

module _ (items : List Item) where
  pub resolving_by : (a : Arg) (layer : Arg-F Arg) (t : Ty) → a ≡ roll-Arg layer → resolving items a t ≡ resolved_layer items (map-Arg Arg Resolving (resolving items) layer) (out-Ty t)
  unfolding resolving
  resolving_by a layer t is =
      ap (λ a. resolving items a t) is ∙ ap (λ f. f t) (fold-roll-Arg Resolving (λ layer t. resolved_layer items layer (out-Ty t)) layer)

  -- ---- by the number of an enum

  none_here : {A : Type 0} (b : Bool) (o : Option A) → b ≡ false → cond b o None ≡ None
  none_here b o is = rw is refl

  means_number : (name : Name) (n : ℕ) (o : Option ℕ) → unwrap_or (option_map (λ k. k == n) o) false ≡ true → o ≡ Some n
  means_number name n None is = absurd (false≢true is)
  means_number name n (Some k) is = ap (λ m. Some m) (eqb-true k n is)

  module _ (n : ℕ) (name : Name) where
    enum_here : (variant : Name) → number_named items name ≡ Some n → (o : Option Item) → slice_get items n ≡ o
        → variant_value items name variant ≡ option_and_then (λ all. option_map (value.Enum n) (position (bytes_eq variant) all)) (option_and_then variants o)
    enum_here variant number o stands = rw (number, named_at items name n number, stands) refl

    enum_by : (variant : Name) (b : Bool) → means items name n ≡ b
        → cond b (variant_value items name variant) None
        ≡ option_and_then (λ all. option_map (value.Enum n) (position (bytes_eq variant) all)) (option_and_then variants (cond b (slice_get items n) None))
    enum_by variant true is = enum_here variant (means_number name n (number_named items name) is) (slice_get items n) refl
    enum_by variant false is = refl

    pub enum_resolved : (variant : Name)
        → cond (means items name n) (variant_value items name variant) None
        ≡ option_and_then (λ all. option_map (value.Enum n) (position (bytes_eq variant) all)) (option_and_then variants (item_at items n name))
    enum_resolved variant = enum_by variant (means items name n) refl

  pub enum_layer : (name variant : Name) (t : Ty-F Ty)
      → resolved_layer items (Arg-F.Variant name variant) t ≡ option_and_then (λ n. cond (means items name n) (variant_value items name variant) None) (enum_number t)
  enum_layer name variant (Ty-F.Enum n) = refl
  enum_layer name variant Ty-F.Int = refl
  enum_layer name variant Ty-F.Bool = refl
  enum_layer name variant Ty-F.Str = refl
  enum_layer name variant Ty-F.Raw = refl
  enum_layer name variant Ty-F.Ident = refl
  enum_layer name variant (Ty-F.Struct n) = refl
  enum_layer name variant (Ty-F.Optional inner) = refl
  enum_layer name variant Ty-F.Never = refl

  -- ---- by the number of a struct

  pub fields_layer : (name : Name) (given : List (Name × Resolving)) (t : Ty-F Ty)
      → resolved_layer items (Arg-F.Fields name given) t ≡ option_and_then (λ n. cond (means items name n) (resolved_struct items n name given) None) (struct_number t)
  fields_layer name given (Ty-F.Struct n) = refl
  fields_layer name given (Ty-F.Enum n) = refl
  fields_layer name given Ty-F.Int = refl
  fields_layer name given Ty-F.Bool = refl
  fields_layer name given Ty-F.Str = refl
  fields_layer name given Ty-F.Raw = refl
  fields_layer name given Ty-F.Ident = refl
  fields_layer name given (Ty-F.Optional inner) = refl
  fields_layer name given Ty-F.Never = refl

  pub some_layer : (resolve : Resolving) (t : Ty-F Ty) → resolved_layer items (Arg-F.Some resolve) t ≡ option_and_then (λ inner. option_map value.Some (resolve inner)) (inner_type t)
  some_layer resolve (Ty-F.Optional inner) = refl
  some_layer resolve (Ty-F.Struct n) = refl
  some_layer resolve (Ty-F.Enum n) = refl
  some_layer resolve Ty-F.Int = refl
  some_layer resolve Ty-F.Bool = refl
  some_layer resolve Ty-F.Str = refl
  some_layer resolve Ty-F.Raw = refl
  some_layer resolve Ty-F.Ident = refl
  some_layer resolve Ty-F.Never = refl

  names_given : (given : List (Name × Arg)) → map (λ g. g.0) (given_of items given) ≡ given_names given
  names_given [] = refl
  names_given (g ∷ given) = ap (λ names. g.0 ∷ names) (names_given given)

  names_declared : (fields : List Field) → names_in (declared fields) ≡ map (λ f. f.name) fields
  names_declared [] = refl
  names_declared (f ∷ fields) = ap (λ names. f.name ∷ names) (names_declared fields)

  -- the fields in declared order, by their names and their types
  fields_by_names : (fields : List Field) (given : List (Name × Resolving)) → resolved_fields items (declared fields) given ≡ values_for (map (λ f. f.name) fields) (field_value_types items fields) given
  fields_by_names [] given = refl
  fields_by_names (f ∷ fields) given = rw (fields_by_names fields given) refl

  module _ (n : ℕ) (name : Name) (given : List (Name × Arg)) where
    abbrev pub made : Option (List Ty) → Option Value
    made found = option_and_then (λ types. option_map (value.Struct n) (values_for (names_at items n) types (given_of items given))) found

    of_fields : (fields : List Field) → names_at items n ≡ map (λ f. f.name) fields
        → cond (name_each_once (names_in (declared fields)) (map (λ g. g.0) (given_of items given))) (option_map (value.Struct n) (resolved_fields items (declared fields) (given_of items given))) None
        ≡ made (cond (name_each_once (map (λ f. f.name) fields) (given_names given)) (Some (field_value_types items fields)) None)
    of_fields fields names = rw (names_declared fields, names_given given, fields_by_names fields (given_of items given), names) (by (name_each_once (map (λ f. f.name) fields) (given_names given)))
      where
        by : (b : Bool) → cond b (option_map (value.Struct n) (values_for (map (λ f. f.name) fields) (field_value_types items fields) (given_of items given))) None
            ≡ option_and_then (λ types. option_map (value.Struct n) (values_for (map (λ f. f.name) fields) types (given_of items given))) (cond b (Some (field_value_types items fields)) None)
        by true = refl
        by false = refl

    no_fields : (b : Bool) → made (cond b None None) ≡ None
    no_fields true = refl
    no_fields false = refl

    of_written : (i : Item) → slice_get items n ≡ Some i → (o : Option (List Field)) → written_fields i ≡ o
        → option_and_then (λ declared. cond (name_each_once (names_in declared) (map (λ g. g.0) (given_of items given))) (option_map (value.Struct n) (resolved_fields items declared (given_of items given))) None) (option_map declared o)
        ≡ made (cond (name_each_once (map (λ f. f.name) (unwrap_or o [])) (given_names given)) (option_map (field_value_types items) o) None)
    of_written i stands None is = sym (no_fields (name_each_once [] (given_names given)))
    of_written i stands (Some fields) is = of_fields fields (ap (λ o. unwrap_or (option_map field_names o) []) stands ∙ ap (λ o. map (λ f. f.name) (unwrap_or o [])) is)

    of_item : (o : Option Item) → slice_get items n ≡ o
        → option_and_then (λ declared. cond (name_each_once (names_in declared) (map (λ g. g.0) (given_of items given))) (option_map (value.Struct n) (resolved_fields items declared (given_of items given))) None) (option_and_then (λ i. option_map declared (written_fields i)) o)
        ≡ made (option_and_then (λ i. cond (name_each_once (field_names i) (given_names given)) (types_of items i) None) o)
    of_item None stands = refl
    of_item (Some i) stands = of_written i stands (written_fields i) refl

    struct_by : (b : Bool) → means items name n ≡ b
        → cond b (resolved_struct items n name (given_of items given)) None
        ≡ made (option_and_then (λ i. cond (name_each_once (field_names i) (given_names given)) (types_of items i) None) (cond b (slice_get items n) None))
    struct_by false is = refl
    struct_by true is =
        ap (λ o. option_and_then (λ declared. cond (name_each_once (names_in declared) (map (λ g. g.0) (given_of items given))) (option_map (value.Struct n) (resolved_fields items declared (given_of items given))) None) (option_and_then (λ i. option_map declared (written_fields i)) o))
        (named_at items name n (means_number name n (number_named items name) is))
        ∙ of_item (slice_get items n) refl

    pub struct_resolved : cond (means items name n) (resolved_struct items n name (given_of items given)) None ≡ made (types_for items n name given)
    struct_resolved = struct_by (means items name n) refl

  types_of_item : (i : Item) → option_and_then field_types (Some (shape_of items i)) ≡ types_of items i
  types_of_item (item.Use name) = refl
  types_of_item (item.Let name l) = refl
  types_of_item (item.Enum name all) = refl
  types_of_item (item.Struct name fields) = refl
  types_of_item (item.Effect name fields) = refl
  types_of_item (item.Fact is_immutable name keys values) = refl
  types_of_item (item.Command name sections) = refl
  types_of_item (item.Function name parameters result body) = refl
  types_of_item (item.FinishFunction name parameters body) = refl
  types_of_item (item.Action name parameters body) = refl

  types_by : (o : Option Item) → option_and_then field_types (option_map (shape_of items) o) ≡ option_and_then (types_of items) o
  types_by None = refl
  types_by (Some i) = types_of_item i

  pub shape_types : (n : ℕ) → types_at (shapes_of items) n ≡ option_and_then (types_of items) (slice_get items n)
  shape_types n = ap (option_and_then field_types) (slice_get-map (shape_of items) items n) ∙ types_by (slice_get items n)

  pub variant_found : (name variant : Name) (t : Ty-F Ty) (n : ℕ) → enum_number t ≡ Some n → (o : Option (List Name)) → o ≡ option_and_then variants (item_at items n name)
      → resolved_layer items (Arg-F.Variant name variant) t ≡ option_and_then (λ all. option_map (value.Enum n) (position (bytes_eq variant) all)) o
  variant_found name variant t n number o found =
      enum_layer name variant t ∙ ap (option_and_then (λ n. cond (means items name n) (variant_value items name variant) None)) number ∙ enum_resolved n name variant
      ∙ ap (option_and_then (λ all. option_map (value.Enum n) (position (bytes_eq variant) all))) (sym found)

  pub variant_not : (name variant : Name) (t : Ty-F Ty) → enum_number t ≡ None → resolved_layer items (Arg-F.Variant name variant) t ≡ None
  variant_not name variant t number = enum_layer name variant t ∙ ap (option_and_then (λ n. cond (means items name n) (variant_value items name variant) None)) number

  pub fields_found : (a : Arg) (name : Name) (given : List (Name × Arg)) (t : Ty) (n : ℕ) → a ≡ arg.Fields name given → struct_number (out-Ty t) ≡ Some n
      → (o : Option (List Ty)) → o ≡ types_for items n name given → resolving items a t ≡ made n name given o
  fields_found a name given t n is number o found =
      resolving_by a (Arg-F.Fields name given) t (is ∙ sym (arg.rolls-Fields name given)) ∙ fields_layer name (given_of items given) (out-Ty t)
      ∙ ap (option_and_then (λ n. cond (means items name n) (resolved_struct items n name (given_of items given)) None)) number ∙ struct_resolved n name given
      ∙ ap (made n name given) (sym found)

  pub fields_not : (a : Arg) (name : Name) (given : List (Name × Arg)) (t : Ty) → a ≡ arg.Fields name given → struct_number (out-Ty t) ≡ None → resolving items a t ≡ None
  fields_not a name given t is number =
      resolving_by a (Arg-F.Fields name given) t (is ∙ sym (arg.rolls-Fields name given)) ∙ fields_layer name (given_of items given) (out-Ty t)
      ∙ ap (option_and_then (λ n. cond (means items name n) (resolved_struct items n name (given_of items given)) None)) number

  pub some_found : (a inner : Arg) (t : Ty) (o : Option Ty) → a ≡ arg.Some inner → o ≡ inner_type (out-Ty t)
      → resolving items a t ≡ option_and_then (λ u. option_map value.Some (resolving items inner u)) o
  some_found a inner t o is found =
      resolving_by a (Arg-F.Some inner) t (is ∙ sym (arg.rolls-Some inner)) ∙ some_layer (resolving items inner) (out-Ty t)
      ∙ ap (option_and_then (λ u. option_map value.Some (resolving items inner u))) (sym found)

  -- ---- the loop over the fields

  given_found : (name : Name) (given : List (Name × Arg)) → given_for name (given_of items given) ≡ option_map (λ g. resolving items g.1) (find (λ g. bytes_eq name g.0) given)
  given_found name [] = refl
  given_found name (g ∷ given) = rw (given_found name given) (by (bytes_eq name g.0))
    where
      by : (b : Bool) → cond b (Some (resolving items g.1)) (option_map (λ g. resolving items g.1) (find (λ g. bytes_eq name g.0) given))
          ≡ option_map (λ g. resolving items g.1) (cond b (Some g) (find (λ g. bytes_eq name g.0) given))
      by true = refl
      by false = refl

  found_at_place : {A : Type 0} (p : A → Bool) (xs : List A) (o : Option ℕ) → o ≡ position p xs → find p xs ≡ option_and_then (slice_get xs) o
  found_at_place p xs (Some k) is = find_at p xs ∙ ap (slice_get xs) (number_is (nat_lt (position_or_len p xs) (length xs)) (position_or_len p xs) k (sym is))
  found_at_place p xs None is = find_at p xs ∙ slice_get_past xs (position_or_len p xs) (ltb-false (position_or_len p xs) (length xs) (no_number (nat_lt (position_or_len p xs) (length xs)) (position_or_len p xs) (sym is)))
    where
      no_number : (b : Bool) (k : ℕ) → cond b (Some k) None ≡ None → b ≡ false
      no_number true k none = absurd (cc)
      no_number false k none = refl

  abbrev pub taken : List (Name × Arg) → Ty → Option ℕ → Option Value
  taken given t place = option_and_then (λ at. option_and_then (λ g. resolving items g.1 t) (slice_get given at)) place

  pub taken_is : (given : List (Name × Arg)) (t : Ty) (place : Option ℕ) (at : ℕ) (g : Name × Arg) (v : Option Value) → place ≡ Some at → IfSome place (λ k. k < length given)
      → g ≡ get_or given at g → v ≡ resolving items g.1 t → taken given t place ≡ v
  taken_is given t place at g v found within stands is =
      ap (taken given t) found ∙ ap (option_and_then (λ g. resolving items g.1 t)) (slice_get_read given (length given) at g refl (rw found at within) stands) ∙ sym is

  taken_by : (given : List (Name × Arg)) (t : Ty) (o : Option Name) (place : Option ℕ) → place ≡ option_and_then (λ name. position (λ g. bytes_eq name g.0) given) o
      → option_and_then (λ name. option_and_then (λ resolve. resolve t) (given_for name (given_of items given))) o ≡ taken given t place
  taken_by given t None place is = ap (taken given t) (sym is)
  taken_by given t (Some name) place is =
      ap (option_and_then (λ resolve. resolve t)) (given_found name given ∙ ap (option_map (λ g. resolving items g.1)) (found_at_place (λ g. bytes_eq name g.0) given place is)) ∙ by place
    where
      inner : (o : Option (Name × Arg)) → option_and_then (λ resolve. resolve t) (option_map (λ g. resolving items g.1) o) ≡ option_and_then (λ g. resolving items g.1 t) o
      inner None = refl
      inner (Some g) = refl

      by : (place : Option ℕ) → option_and_then (λ resolve. resolve t) (option_map (λ g. resolving items g.1) (option_and_then (slice_get given) place)) ≡ taken given t place
      by None = refl
      by (Some at) = inner (slice_get given at)

  abbrev front_of : {A : Type 0} → Option A → List A → List A
  front_of None rest = []
  front_of (Some x) rest = x ∷ rest

  drop_front : {A : Type 0} (xs : List A) (i : ℕ) → drop i xs ≡ front_of (slice_get xs i) (drop (suc i) xs)
  drop_front [] zero = refl
  drop_front [] (suc i) = refl
  drop_front (x ∷ xs) zero = refl
  drop_front (x ∷ xs) (suc i) = drop_front xs i

  value_at_front : (o : Option Name) (names : List Name) (t : Ty) (types : List Ty) (given : List (Name × Resolving))
      → values_for (front_of o names) (t ∷ types) given
      ≡ option_and_then (λ v. option_map (λ values. v ∷ values) (values_for names types given)) (option_and_then (λ name. option_and_then (λ resolve. resolve t) (given_for name given)) o)
  value_at_front None names t types given = refl
  value_at_front (Some name) names t types given = refl

  module _ (names : List Name) (types : List Ty) (given : List (Name × Arg)) (i : ℕ) (t : Ty) (place : Option ℕ) (lt : i < length types) (is : t ≡ get_or types i t)
      (stands : place ≡ option_and_then (λ name. position (λ g. bytes_eq name g.0) given) (slice_get names i)) where
    abbrev rest : Option (List Value)
    rest = values_for (drop (i + 1) names) (drop (i + 1) types) (given_of items given)

    one_more : values_for (drop i names) (drop i types) (given_of items given) ≡ option_and_then (λ v. option_map (λ values. v ∷ values) rest) (taken given t place)
    one_more =
        let e : suc i ≡ i + 1 = omega arith in
        ap (λ ns. values_for ns (drop i types) (given_of items given)) (drop_front names i ∙ ap (λ k. front_of (slice_get names i) (drop k names)) e)
        ∙ ap (λ ts. values_for (front_of (slice_get names i) (drop (i + 1) names)) ts (given_of items given)) (drop_more types i t lt ∙ ap (λ u. u ∷ drop (i + 1) types) (sym is))
        ∙ value_at_front (slice_get names i) (drop (i + 1) names) t (drop (i + 1) types) (given_of items given)
        ∙ ap (option_and_then (λ v. option_map (λ values. v ∷ values) rest)) (taken_by given t (slice_get names i) place stands)

    add_front : (front : List Value) (v : Value) (o : Option (List Value)) → option_map (λ values. (front ++ v ∷ []) ++ values) o ≡ option_map (λ values. front ++ values) (option_map (λ values. v ∷ values) o)
    add_front front v None = refl
    add_front front v (Some values) = ap (λ all. Some all) (append_assoc front (v ∷ []) values)

    pub loop_more : (front : List Value) (v : Value) (total : Option (List Value)) → taken given t place ≡ Some v
        → option_map (λ values. front ++ values) (values_for (drop i names) (drop i types) (given_of items given)) ≡ total → option_map (λ values. (front ++ v ∷ []) ++ values) rest ≡ total
    loop_more front v total found so_far =
        add_front front v rest ∙ ap (option_map (λ values. front ++ values)) (sym (one_more ∙ ap (option_and_then (λ v. option_map (λ values. v ∷ values) rest)) found)) ∙ so_far

    pub loop_none : (front : List Value) (total : Option (List Value)) → taken given t place ≡ None
        → option_map (λ values. front ++ values) (values_for (drop i names) (drop i types) (given_of items given)) ≡ total → None ≡ total
    loop_none front total none so_far =
        sym (ap (option_map (λ values. front ++ values)) (one_more ∙ ap (option_and_then (λ v. option_map (λ values. v ∷ values) rest)) none)) ∙ so_far
