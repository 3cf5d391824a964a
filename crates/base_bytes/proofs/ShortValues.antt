-- The lengths in a value of a type can be spelled.
use Rattle.std.proofs.Common.{◌≡◌, ◌^◌, Bool, true, ◌==◌, nat_lt, List, [], ◌∷◌, length, map, refl, sym, ap, subst, ◌∙◌}
use Rattle.std.specs.List.{list_all}
use Rattle.std.specs.Str.{is_utf8}
use Rattle.std.proofs.lemmas.Bool.{false≢true}
use Rattle.base_bytes.proofs.Bools.{and_then}
use Rattle.base_bytes.specs.Payload.{is_short, is_short_layer}
use Rattle.base_bytes.specs.Values.{are_fields, has_layer, has_type, hold_in_order, shape_at}
use Rattle.base_bytes.specs.declared.shapes.Shape.{Shape}
use Rattle.base_bytes.specs.declared.shapes.Shape.TheVariants as shape
use Rattle.base_bytes.specs.declared.shapes.Shapes.{Shapes}
use Rattle.base_bytes.specs.declared.ty.Ty.{Ty, out-Ty}
use Rattle.base_bytes.specs.declared.ty.Ty.TheOpen.{Ty-F}
use Rattle.base_bytes.specs.declared.value.Value.{Value, roll-Value, fold-roll-Value, map-Value, ind-Value}
use Rattle.base_bytes.specs.declared.value.Value.TheOpen.{Value-F}

module _ (shapes : Shapes) where
  abbrev IsShort : Value → Type 0
  IsShort v = (ty : Ty) → has_type shapes v ty ≡ true → is_short v ≡ true

  are_short : (fields : List ((v : Value) × IsShort v)) (types : List Ty) → hold_in_order (map (has_type shapes) (map (λ e. e.0) fields)) types ≡ true → list_all (λ short. short) (map is_short (map (λ e. e.0) fields)) ≡ true
  are_short [] types is = refl
  are_short (e ∷ fields) [] is = absurd (false≢true is)
  are_short (e ∷ fields) (ty ∷ types) is = and_then (has_type shapes e.0 ty) (hold_in_order (map (has_type shapes) (map (λ e. e.0) fields)) types) is (λ one more. rw (e.1 ty one, are_short fields types more) refl)

  of_shape : (fields : List ((v : Value) × IsShort v)) (it : Shape) → are_fields (map (has_type shapes) (map (λ e. e.0) fields)) it ≡ true → list_all (λ short. short) (map is_short (map (λ e. e.0) fields)) ≡ true
  of_shape fields (shape.Fields types) is = are_short fields types is
  of_shape fields _ is = absurd (false≢true is)

  abbrev plain : Value-F ((v : Value) × IsShort v) → Value-F Value
  plain y = map-Value ((v : Value) × IsShort v) Value (λ e. e.0) y

  layer_short : (y : Value-F ((v : Value) × IsShort v)) (x : Ty-F Ty) → has_layer shapes (map-Value Value (Ty → Bool) (has_type shapes) (plain y)) x ≡ true → is_short_layer (map-Value Value Bool is_short (plain y)) ≡ true
  layer_short (Value-F.Str text) Ty-F.Str is = and_then (is_utf8 text) (nat_lt (length text) (2 ^ 32)) is (λ utf8 short. short)
  layer_short (Value-F.Raw bytes) Ty-F.Raw is = and_then (list_all (λ b. nat_lt b 256) bytes) (nat_lt (length bytes) (2 ^ 32)) is (λ all short. short)
  layer_short (Value-F.Struct item fields) (Ty-F.Struct other) is = and_then (item == other) _ is (λ same more. of_shape fields (shape_at shapes item) more)
  layer_short (Value-F.Some e) (Ty-F.Optional inner) is = e.1 inner is
  layer_short (Value-F.Str text) _ is = absurd (false≢true is)
  layer_short (Value-F.Raw bytes) _ is = absurd (false≢true is)
  layer_short (Value-F.Struct item fields) _ is = absurd (false≢true is)
  layer_short (Value-F.Some e) _ is = absurd (false≢true is)
  layer_short _ _ is = refl

  pub short_from_type : (v : Value) (ty : Ty) → has_type shapes v ty ≡ true → is_short v ≡ true
  short_from_type = ind-Value IsShort (λ x y is. subst (λ z. IsShort (roll-Value z)) is (step y))
    where
      step : (y : Value-F ((v : Value) × IsShort v)) → IsShort (roll-Value (plain y))
      step y ty is =
          let has : has_type shapes (roll-Value (plain y)) ty ≡ has_layer shapes (map-Value Value (Ty → Bool) (has_type shapes) (plain y)) (out-Ty ty) = ap (λ test. test ty) (fold-roll-Value (Ty → Bool) (λ it ty. has_layer shapes it (out-Ty ty)) (plain y)) in
          fold-roll-Value Bool is_short_layer (plain y) ∙ layer_short y (out-Ty ty) (sym has ∙ is)
