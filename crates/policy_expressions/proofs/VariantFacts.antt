-- The variants of a well-typed enum are few and distinct.
use Rattle.std.proofs.Common.{◌≡◌, ℕ, zero, suc, ◌<◌, ◌≤◌, ◌^◌, ◌==◌, ◌⊎◌, inl, inr, Bool, true, false, not, ◌&&◌, List, [], ◌∷◌, length, get_or, slice_get, Option, Some, None, option_map, option_and_then, unwrap_or, Bor, IfSome, IsTrue, nat_le, refl, sym, ap, subst, ◌∙◌, arith}
use Rattle.std.specs.List.{position_or_len}
use Rattle.std.specs.Option.{option_copied}
use Rattle.std.specs.Prelude.{position}
use Rattle.std.specs.Str.{bytes_eq}
use Rattle.std.proofs.lemmas.Bool.{eq-eqb, eqb-true, false≢true, leb-true, lt-ltb}
use Rattle.std.proofs.lemmas.List.Folds.{find_at, list_any_at}
use Rattle.std.proofs.lemmas.List.Quantifiers.{position-Some}
use Rattle.std.proofs.lemmas.List.Sums.{position_or_len_is}
use Rattle.std.proofs.lemmas.Option.{get_or_from_slice_get, slice_get_cases}
use Rattle.std.proofs.lemmas.Slice.Eq.{bytes_eq-Decides}
use Rattle.base_bytes.proofs.Bools.{and_then}
use Rattle.policy_ast.specs.declared.item.Item.{Item}
use Rattle.policy_ast.specs.declared.item.Item.TheVariants as item
use Rattle.policy_ast.specs.declared.policy.PlacedItem.{PlacedItem}
use Rattle.policy_expressions.specs.Policies.{AreItems}
use Rattle.policy_rules.specs.FieldLists.{are_distinct}
use Rattle.policy_rules.specs.Heads.{enum_named, variants}
use Rattle.policy_rules.specs.Items.{IsOfKind, are_variants}
use Rattle.policy_rules.specs.Names.{Name, is_among, is_named, item_named}
use Rattle.policy_rules.specs.WellTyped.{IsWellTyped, items_of}

variants_of_enum : (items : List Item) (own : Name) (all : List Name) → IsOfKind items (item.Enum own all) → are_variants all ≡ true
variants_of_enum items own all (Rattle.policy_rules.specs.Items.enum is) = is

few_by_test : (all : List Name) → are_variants all ≡ true → length all < 2 ^ 16
few_by_test all is = and_then (nat_le 1 (length all) && nat_le (length all) 1024) (are_distinct all) is
    (λ both distinct. and_then (nat_le 1 (length all)) (nat_le (length all) 1024) both (λ some most. omega (arith, leb-true (length all) 1024 most)))

distinct_by_test : (all : List Name) → are_variants all ≡ true → are_distinct all ≡ true
distinct_by_test all is = and_then (nat_le 1 (length all) && nat_le (length all) 1024) (are_distinct all) is (λ both distinct. distinct)

of_item : (items : List Item) (i : Item) → IsOfKind items i → (all : List Name) → variants i ≡ Some all → are_variants all ≡ true
of_item items (item.Enum own mine) typed all is = (variants_of_enum items own all (subst (λ names. IsOfKind items (item.Enum own names)) (same is) typed))
  where
    same : {x y : List Name} → Some x ≡ Some y → x ≡ y
    same e = cc
of_item items (item.Use used) typed all is = absurd (cc)
of_item items (item.Let name value) typed all is = absurd (cc)
of_item items (item.Struct name fields) typed all is = absurd (cc)
of_item items (item.Effect name fields) typed all is = absurd (cc)
of_item items (item.Fact is_immutable name keys values) typed all is = absurd (cc)
of_item items (item.Command name sections) typed all is = absurd (cc)
of_item items (item.Function name parameters result body) typed all is = absurd (cc)
of_item items (item.FinishFunction name parameters body) typed all is = absurd (cc)
of_item items (item.Action name parameters body) typed all is = absurd (cc)

variants_there : (items : List Item) → AreItems items → (name : Name) (all : List Name) → enum_named items name ≡ Some all → are_variants all ≡ true
variants_there items are name all is = by (item_named items name) (find_at (is_named name) items) is
  where
    by : (o : Option Item) → o ≡ slice_get items (position_or_len (is_named name) items) → option_and_then variants o ≡ Some all → are_variants all ≡ true
    by None stands there = absurd (cc)
    by (Some i) stands there = of_item items i (are.well_typed (position_or_len (is_named name) items) i (sym stands)).of_kind all there

pub few_named : (items : List Item) → AreItems items → (name : Name) (o : Option (Bor (List Name))) → option_copied o ≡ enum_named items name → IfSome o (λ all. length all.now < 2 ^ 16)
few_named items are name None is = tt
few_named items are name (Some all) is = few_by_test all.now (variants_there items are name all.now (sym is))

pub distinct_named : (items : List Item) → AreItems items → (name : Name) (o : Option (Bor (List Name))) → option_copied o ≡ enum_named items name
    → IfSome o (λ all. IsTrue (are_distinct all.now))
distinct_named items are name None is = tt
distinct_named items are name (Some all) is = distinct_by_test all.now (variants_there items are name all.now (sym is))

lengths_same : (policy : List PlacedItem) → length (items_of policy) ≡ length policy
lengths_same [] = refl
lengths_same (p ∷ policy) = ap suc (lengths_same policy)

-- the items of a well-typed policy
pub are_items : (policy : List PlacedItem) → IsWellTyped policy → length policy < 2 ^ 32 → AreItems (items_of policy)
are_items policy typed few = record { few = rw (lengths_same policy) few; well_typed = typed }

-- ---- the place of a variant

among_at : (name : Name) (names : List Name) (k : ℕ) → k < length names → bytes_eq name (get_or names k []) ≡ true → is_among name names ≡ true
among_at name names k lt is = list_any_at (bytes_eq name) names k [] lt is

-- an earlier name is another one
apart : (first : Name) (names : List Name) (k : ℕ) (name : Name) → k < length names → not (is_among first names) ≡ true → bytes_eq name (get_or names k []) ≡ true
    → (b : Bool) → bytes_eq name first ≡ b → b ≡ false
apart first names k name lt none is false same = refl
apart first names k name lt none is true same =
    absurd (false≢true (sym (ap not (among_at first names k lt (ap (λ n. bytes_eq n (get_or names k [])) (sym ((bytes_eq-Decides name first).0 same)) ∙ is))) ∙ none))

distinct_before : (names : List Name) (k : ℕ) (name : Name) → are_distinct names ≡ true → k < length names → bytes_eq name (get_or names k []) ≡ true
    → (j : ℕ) → j < k → bytes_eq name (get_or names j []) ≡ false
distinct_before [] k name distinct lt is j below = absurd (omega (arith, lt))
distinct_before (first ∷ names) zero name distinct lt is j below = absurd (omega (arith, below))
distinct_before (first ∷ names) (suc k) name distinct lt is zero below =
    and_then (not (is_among first names)) (are_distinct names) distinct (λ none more. apart first names k name (omega (arith, lt)) none is (bytes_eq name first) refl)
distinct_before (first ∷ names) (suc k) name distinct lt is (suc j) below =
    and_then (not (is_among first names)) (are_distinct names) distinct (λ none more. distinct_before names k name more (omega (arith, lt)) is j (omega (arith, below)))

placed : (names : List Name) (k : ℕ) (name : Name) → are_distinct names ≡ true → k < length names → bytes_eq name (get_or names k []) ≡ true → position (bytes_eq name) names ≡ Some k
placed names k name distinct lt is =
    let at : position_or_len (bytes_eq name) names ≡ k = position_or_len_is (bytes_eq name) names k [] (omega (arith, lt)) (distinct_before names k name distinct lt is) (λ within. is) in
    rw at (rw (lt-ltb k (length names) lt) refl)

-- in distinct names, the name at a place is the one that has this place
pub named_at : (names : List Name) (k : ℕ) (name : Name) → are_distinct names ≡ true
    → unwrap_or (option_map (bytes_eq name) (slice_get names k)) false ≡ unwrap_or (option_map (λ p. p == k) (position (bytes_eq name) names)) false
named_at names k name distinct = by ((slice_get_cases names k).1)
  where
    other : (o : Option ℕ) → position (bytes_eq name) names ≡ o → (k < length names → bytes_eq name (get_or names k []) ≡ false) → false ≡ unwrap_or (option_map (λ p. p == k) o) false
    other None is differs = refl
    other (Some p) is differs = differ (p == k) refl
      where
        differ : (b : Bool) → (p == k) ≡ b → false ≡ b
        differ false same = refl
        differ true same =
            let at = position-Some (bytes_eq name) names p [] is in
            let pk : p ≡ k = eqb-true p k same in
            absurd (false≢true (sym (differs (subst (λ n. n < length names) pk at.0)) ∙ subst (λ n. bytes_eq name (get_or names n []) ≡ true) pk at.1))

    inside : (x : Name) → k < length names → slice_get names k ≡ Some x → get_or names k x ≡ x → (b : Bool) → bytes_eq name x ≡ b
        → bytes_eq name x ≡ unwrap_or (option_map (λ p. p == k) (position (bytes_eq name) names)) false
    inside x lt there read true is =
        is ∙ sym (rw (placed names k name distinct lt (ap (bytes_eq name) (get_or_from_slice_get names k x [] there) ∙ is)) (eq-eqb k k refl))
    inside x lt there read false is =
        is ∙ other (position (bytes_eq name) names) refl (λ within. ap (bytes_eq name) (get_or_from_slice_get names k x [] there) ∙ is)

    by : ((x : Name) × (k < length names) × (slice_get names k ≡ Some x) × (get_or names k x ≡ x)) ⊎ ((length names ≤ k) × (slice_get names k ≡ None))
        → unwrap_or (option_map (bytes_eq name) (slice_get names k)) false ≡ unwrap_or (option_map (λ p. p == k) (position (bytes_eq name) names)) false
    by (inl there) = ap (λ o. unwrap_or (option_map (bytes_eq name) o) false) there.2 ∙ inside there.0 there.1 there.2 there.3 (bytes_eq name there.0) refl
    by (inr past) = ap (λ o. unwrap_or (option_map (bytes_eq name) o) false) past.1 ∙ other (position (bytes_eq name) names) refl (λ within. absurd (omega (arith, within, past.0)))
