-- Where no struct reaches itself, no more structs nest in a value than there are items.
use Rattle.std.proofs.Common.{◌≡◌, ℕ, zero, suc, ◌<◌, ◌≤◌, Bool, true, false, ◌==◌, eqb, List, [], ◌∷◌, length, map, refl, sym, ap, subst, ◌∙◌, arith, inl, inr}
use Rattle.std.specs.List.{AllByRecursion, IsDistinct, list_any}
use Rattle.std.proofs.lemmas.Bool.{cases_lt, eqb-true, false≢true}
use Rattle.std.proofs.lemmas.Map.Steps.{length-le_from_distinct_below}
use Rattle.std.proofs.lemmas.Option.{slice_get_past}
use Rattle.base_bytes.proofs.Bools.{and_then, either, or_left, or_right}
use Rattle.base_bytes.specs.Reaching.{Holds, NoneReachesItself, Reaches, directly, through, field_types, has_struct, has_struct_layer}
use Rattle.base_bytes.specs.Values.{are_fields, has_layer, has_type, hold_in_order, shape_at}
use Rattle.base_bytes.specs.declared.shapes.Shape.{Shape}
use Rattle.base_bytes.specs.declared.shapes.Shape.TheVariants as shape
use Rattle.base_bytes.specs.declared.shapes.Shapes.{Shapes}
use Rattle.base_bytes.specs.declared.ty.Ty.{Ty, out-Ty, fold_out-Ty, map-Ty}
use Rattle.base_bytes.specs.declared.ty.Ty.TheOpen.{Ty-F}
use Rattle.base_bytes.specs.declared.value.Value.{Value, roll-Value, fold-roll-Value, map-Value, ind-Value}
use Rattle.base_bytes.specs.declared.value.Value.TheOpen.{Value-F}
use Rattle.base_bytes.proofs.Depths.{depth, depth_layer}
use Rattle.base_bytes.proofs.Rooms.{greatest}

module _ (shapes : Shapes) where
  abbrev HoldsFirst : ℕ → List ℕ → Type 0
  HoldsFirst item [] = Unit {0}
  HoldsFirst item (other ∷ more) = Holds shapes item other

  -- each struct of the chain is an item, and holds the next
  abbrev IsChain : List ℕ → Type 0
  IsChain [] = Unit {0}
  IsChain (item ∷ more) = (item < length shapes.items) × HoldsFirst item more × IsChain more

  -- ---- a chain has no struct twice

  reaches_later : (item : ℕ) (more : List ℕ) (last : ℕ) → HoldsFirst item more → IsChain more → list_any (eqb last) more ≡ true → Reaches shapes last item
  reaches_later item [] last first chain is = absurd (false≢true is)
  reaches_later item (other ∷ more) last first chain is = either (eqb last other) (list_any (eqb last) more) is
      (λ here. directly item (subst (λ k. Holds shapes item k) (sym (eqb-true last other here)) first))
      (λ later. through item other first (reaches_later other more last chain.1 chain.2 later))

  not_later : (last : ℕ) (more : List ℕ) → (list_any (eqb last) more ≡ true → ⊥) → AllByRecursion (λ k. eqb last k ≡ false) more
  not_later last [] absent = tt
  not_later last (other ∷ more) absent = (by_test (eqb last other) (λ is. absent (or_left (eqb last other) (list_any (eqb last) more) is)), not_later last more (λ is. absent (or_right (eqb last other) (list_any (eqb last) more) is)))
    where
      by_test : (b : Bool) → (b ≡ true → ⊥) → b ≡ false
      by_test true denied = absurd (denied refl)
      by_test false denied = refl

  module _ (no_loop : NoneReachesItself shapes) where
    distinct : (items : List ℕ) → IsChain items → IsDistinct eqb items
    unfolding IsDistinct
    distinct [] chain = tt
    distinct (item ∷ more) chain = (not_later item more (λ is. no_loop item (reaches_later item more item chain.1 chain.2 is)), distinct more chain.2)

    are_items : (items : List ℕ) → IsChain items → (q : ℕ) → list_any (eqb q) items ≡ true → q < length shapes.items
    are_items [] chain q is = absurd (false≢true is)
    are_items (item ∷ more) chain q is = either (eqb q item) (list_any (eqb q) more) is
        (λ here. subst (λ k. k < length shapes.items) (sym (eqb-true q item here)) chain.0) (are_items more chain.2 q)

    short_chain : (items : List ℕ) → IsChain items → length items ≤ length shapes.items
    short_chain items chain = length-le_from_distinct_below items (length shapes.items) (distinct items chain) (are_items items chain)

  -- ---- a value has a chain as long as its structs nest

  -- a chain of so many structs, of which the first is that of the type
  abbrev HasChain : Ty → ℕ → Type 0
  HasChain ty d = (item : ℕ) × (more : List ℕ) × (has_struct item ty ≡ true) × (length more ≡ d) × IsChain (item ∷ more)

  abbrev IsChained : Value → Type 0
  IsChained v = (ty : Ty) (d : ℕ) → has_type shapes v ty ≡ true → depth v ≡ suc d → HasChain ty d

  -- a field in which as many nest as in all of them
  deepest : (fields : List ((v : Value) × IsChained v)) (types : List Ty) (d : ℕ) → hold_in_order (map (has_type shapes) (map (λ e. e.0) fields)) types ≡ true → greatest (λ n. n) (map depth (map (λ e. e.0) fields)) ≡ suc d
      → (other : ℕ) × (more : List ℕ) × (list_any (has_struct other) types ≡ true) × (length more ≡ d) × IsChain (other ∷ more)
  deepest [] types d is deep = absurd (omega (arith, deep))
  deepest (e ∷ fields) [] d is deep = absurd (false≢true is)
  deepest (e ∷ fields) (ty ∷ types) d is deep = and_then (has_type shapes e.0 ty) (hold_in_order (map (has_type shapes) (map (λ e. e.0) fields)) types) is (λ one more.
      let rest = greatest (λ n. n) (map depth (map (λ e. e.0) fields)) in
      elim (cases_lt (depth e.0) rest) [
        | inl lt ↦
            let same : rest ≡ suc d = omega (arith, deep) in
            let found = deepest fields types d more same in
            (found.0, found.1, or_right (has_struct found.0 ty) (list_any (has_struct found.0) types) found.2, found.3, found.4)
        | inr le ↦
            let same : depth e.0 ≡ suc d = omega (arith, deep) in
            let found = e.1 ty d one same in
            (found.0, found.1, or_left (has_struct found.0 ty) (list_any (has_struct found.0) types) found.2, found.3, found.4)
      ])

  is_item : (item : ℕ) (types : List Ty) → shape_at shapes item ≡ shape.Fields types → item < length shapes.items
  is_item item types is =
      elim (cases_lt item (length shapes.items)) [
        | inl lt ↦ lt
        | inr le ↦ let past : shape_at shapes item ≡ shape.Neither = rw (slice_get_past shapes.items item le) refl in absurd (cc)
      ]

  -- the fields of a struct's shape, at the types of the fields
  module _ (item : ℕ) (fields : List ((v : Value) × IsChained v)) where
    of_shape : (it : Shape) → shape_at shapes item ≡ it → are_fields (map (has_type shapes) (map (λ e. e.0) fields)) it ≡ true
        → (types : List Ty) × (shape_at shapes item ≡ shape.Fields types) × (hold_in_order (map (has_type shapes) (map (λ e. e.0) fields)) types ≡ true)
    of_shape (shape.Fields types) same is = (types, same, is)
    of_shape _ same is = absurd (false≢true is)

    struct_chained : (d : ℕ) → are_fields (map (has_type shapes) (map (λ e. e.0) fields)) (shape_at shapes item) ≡ true → greatest (λ n. n) (map depth (map (λ e. e.0) fields)) ≡ d
        → (more : List ℕ) × (length more ≡ d) × IsChain (item ∷ more)
    struct_chained d is deep =
        let it = of_shape (shape_at shapes item) refl is in
        ended d deep it.0 it.1 it.2
      where
        ended : (d : ℕ) → greatest (λ n. n) (map depth (map (λ e. e.0) fields)) ≡ d → (types : List Ty) → shape_at shapes item ≡ shape.Fields types → hold_in_order (map (has_type shapes) (map (λ e. e.0) fields)) types ≡ true
            → (more : List ℕ) × (length more ≡ d) × IsChain (item ∷ more)
        ended zero deep types same is = ([], refl, (is_item item types same, tt, tt))
        ended (suc d) deep types same is =
            let found = deepest fields types d is deep in
            let holds : Holds shapes item found.0 = subst (λ it. list_any (has_struct found.0) (field_types it) ≡ true) (sym same) found.2 in
            (found.0 ∷ found.1, ap suc found.3, (is_item item types same, holds, found.4))

  abbrev has_parts : Value-F Value → Ty-F Ty → Bool
  has_parts y x = has_layer shapes (map-Value Value (Ty → Bool) (has_type shapes) y) x

  has_struct_as : (k : ℕ) (ty : Ty) (x : Ty-F Ty) → out-Ty ty ≡ x → has_struct_layer k (map-Ty Ty Bool (has_struct k) x) ≡ true → has_struct k ty ≡ true
  has_struct_as k ty x out is = fold_out-Ty Bool (has_struct_layer k) ty ∙ ap (λ z. has_struct_layer k (map-Ty Ty Bool (has_struct k) z)) out ∙ is

  layer_chained : (y : Value-F ((v : Value) × IsChained v)) (ty : Ty) (x : Ty-F Ty) (d : ℕ) → out-Ty ty ≡ x → has_parts (map-Value ((v : Value) × IsChained v) Value (λ e. e.0) y) x ≡ true
      → depth_layer (map-Value Value ℕ depth (map-Value ((v : Value) × IsChained v) Value (λ e. e.0) y)) ≡ suc d → HasChain ty d
  layer_chained (Value-F.Struct other fields) ty (Ty-F.Struct item) d out is deep = and_then (other == item) _ is (λ one_item more.
      let found = struct_chained other fields d more (omega (arith, deep)) in
      let here : has_struct_layer other (map-Ty Ty Bool (has_struct other) (Ty-F.Struct item)) ≡ true = one_item in
      (other, found.0, has_struct_as other ty (Ty-F.Struct item) out here, found.1, found.2))
  layer_chained (Value-F.Some e) ty (Ty-F.Optional inner) d out is deep =
      let found = e.1 inner d is deep in
      (found.0, found.1, has_struct_as found.0 ty (Ty-F.Optional inner) out found.2, found.3, found.4)
  layer_chained (Value-F.Struct other fields) ty _ d out is deep = absurd (false≢true is)
  layer_chained (Value-F.Some e) ty _ d out is deep = absurd (false≢true is)
  layer_chained _ ty _ d out is deep = absurd (omega (arith, deep))

  chained : (v : Value) → IsChained v
  chained = ind-Value IsChained (λ x y is. subst (λ z. IsChained (roll-Value z)) is (step y))
    where
      step : (y : Value-F ((v : Value) × IsChained v)) → IsChained (roll-Value (map-Value ((v : Value) × IsChained v) Value (λ e. e.0) y))
      step y ty d is deep =
          let z = map-Value ((v : Value) × IsChained v) Value (λ e. e.0) y in
          let has : has_type shapes (roll-Value z) ty ≡ has_parts z (out-Ty ty) = ap (λ test. test ty) (fold-roll-Value (Ty → Bool) (λ it ty. has_layer shapes it (out-Ty ty)) z) in
          layer_chained y ty (out-Ty ty) d refl (sym has ∙ is) (sym (fold-roll-Value ℕ depth_layer z) ∙ deep)

  -- no more structs nest than there are items
  pub depth_within : NoneReachesItself shapes → (v : Value) (ty : Ty) → has_type shapes v ty ≡ true → depth v ≤ length shapes.items
  depth_within no_loop v ty is = by_depth (depth v) refl
    where
      by_depth : (d : ℕ) → depth v ≡ d → d ≤ length shapes.items
      by_depth zero same = omega arith
      by_depth (suc d) same =
          let found = chained v ty d is same in
          let short = short_chain no_loop (found.0 ∷ found.1) found.4 in
          omega (arith, short, found.3)
