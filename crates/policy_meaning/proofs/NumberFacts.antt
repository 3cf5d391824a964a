-- In a well-typed policy no two items have one name. So an item whose name is given is the item that the name means.
use Rattle.std.proofs.Common.{◌≡◌, ◌==◌, ◌&&◌, ◌<◌, ◌≤◌, ◌^◌, ℕ, Bool, true, false, not, cond, List, [], ◌∷◌, take, length, get_or, Option, Some, None, option_map, slice_get, refl, ap, sym, ◌∙◌, arith}
use Rattle.std.specs.Prelude.{codes, unwrap_or, nat_le, position}
use Rattle.std.specs.List.{list_any, position_or_len}
use Rattle.std.specs.Str.{bytes_eq}
use Rattle.std.proofs.lemmas.Bool.{eq-eqb, eqb-true, false≢true, leb-true, lt-ltb}
use Rattle.std.proofs.lemmas.List.{get_or-take, length-take}
use Rattle.std.proofs.lemmas.List.Folds.{list_any_at}
use Rattle.std.proofs.lemmas.List.Quantifiers.{position-Some}
use Rattle.std.proofs.lemmas.List.Sums.{position_or_len_is}
use Rattle.std.proofs.lemmas.Option.{get_or_from_slice_get, slice_get-map, slice_get_within}
use Rattle.std.proofs.lemmas.Slice.Eq.{bytes_eq-Decides}
use Rattle.base_bytes.proofs.Bools.{and_then}
use Rattle.policy_ast.specs.declared.item.Item.{Item}
use Rattle.policy_ast.specs.declared.item.Item.TheVariants as item
use Rattle.policy_ast.specs.declared.policy.PlacedItem.{PlacedItem}
use Rattle.policy_meaning.specs.Resolving.{means}
use Rattle.policy_meaning.specs.working.Resolutions.{item_at}
use Rattle.policy_rules.specs.FieldLists.{are_distinct}
use Rattle.policy_rules.specs.Items.{IsOfKind, are_variants, is_free_name}
use Rattle.policy_rules.specs.Names.{Name, is_among, is_named, name_of, names_of, number_named}
use Rattle.policy_rules.specs.WellTyped.{IsWellTyped, items_of}

-- a name is among those of a list of items where one of them is of that name
among_more : (name : Name) (x : Item) (xs : List Item) → is_among name (names_of xs) ≡ list_any (is_named name) xs → (o : Option Name) → name_of x ≡ o
    → is_among name (names_of (x ∷ xs)) ≡ list_any (is_named name) (x ∷ xs)
among_more name x xs rest None is = rw (is, rest) refl
among_more name x xs rest (Some own) is = rw (is, rest) refl

among_items : (name : Name) (xs : List Item) → is_among name (names_of xs) ≡ list_any (is_named name) xs
among_items name [] = refl
among_items name (x ∷ xs) = among_more name x xs (among_items name xs) (name_of x) refl

free_is_new : (earlier : List Name) (name own : Name) → (not (is_among own earlier) && not (bytes_eq own (codes "Envelope"))) ≡ true → own ≡ name → (b : Bool)
    → is_among name earlier ≡ b → b ≡ false
free_is_new earlier name own free same true is = absurd (false≢true (sym (rw (ap (λ n. is_among n earlier) same ∙ is) refl) ∙ free))
free_is_new earlier name own free same false is = refl

free_name_is_new : (earlier : List Name) (name : Name) (o : Option Name) → is_free_name earlier o ≡ true → unwrap_or (option_map (bytes_eq name) o) false ≡ true → is_among name earlier ≡ false
free_name_is_new earlier name None free is = absurd (false≢true is)
free_name_is_new earlier name (Some own) free is = free_is_new earlier name own free (sym ((bytes_eq-Decides name own).0 is)) (is_among name earlier) refl

-- no element of a front passes
none_before : {A : Type 0} (p : A → Bool) (xs : List A) (n : ℕ) (d : A) → n ≤ length xs → list_any p (take n xs) ≡ false → (k : ℕ) → k < n → (b : Bool) → p (get_or xs k d) ≡ b → b ≡ false
none_before p xs n d in_list none k lt true is =
    absurd (false≢true (sym none ∙ list_any_at p (take n xs) k d (omega (arith, length-take n xs)) (ap p (get_or-take n xs k d lt) ∙ is)))
none_before p xs n d in_list none k lt false is = refl

placed_first : {A : Type 0} (p : A → Bool) (xs : List A) (n : ℕ) → n < length xs → position_or_len p xs ≡ n → position p xs ≡ Some n
placed_first p xs n lt is = rw is (rw (lt-ltb n (length xs) lt) refl)

-- the item of a number, with its line and without
pub stands_placed : (policy : List PlacedItem) (n : ℕ) (o : Option PlacedItem) → o ≡ slice_get policy n → slice_get (items_of policy) n ≡ option_map (λ p. p.item) o
stands_placed policy n o is = slice_get-map (λ p. p.item) policy n ∙ ap (option_map (λ p. p.item)) (sym is)

-- the variants of a well-typed enum are at most 1,024
variants_of_enum : (items : List Item) (own : Name) (all : List Name) → IsOfKind items (item.Enum own all) → are_variants all ≡ true
variants_of_enum items own all (Rattle.policy_rules.specs.Items.enum is) = is

few_by_test : (all : List Name) → are_variants all ≡ true → length all < 2 ^ 16
few_by_test all is = and_then (nat_le 1 (length all) && nat_le (length all) 1024) (are_distinct all) is
    (λ both distinct. and_then (nat_le 1 (length all)) (nat_le (length all) 1024) both (λ some most. omega (arith, leb-true (length all) 1024 most)))

found_there : {A : Type 0} (b : Bool) (o : Option A) (x : A) → cond b o None ≡ Some x → o ≡ Some x
found_there true o x is = is
found_there false o x is = absurd (cc)

module _ (policy : List PlacedItem) (typed : IsWellTyped policy) where
  abbrev items : List Item
  items = items_of policy

  -- the name of an item means this item
  pub own_number : (n : ℕ) (i : Item) (name : Name) → slice_get items n ≡ Some i → is_named name i ≡ true → number_named items name ≡ Some n
  own_number n i name stands is =
      let lt : n < length items = slice_get_within items n i stands in
      let none : list_any (is_named name) (take n items) ≡ false =
      sym (among_items name (take n items)) ∙ free_name_is_new (names_of (take n items)) name (name_of i) (typed n i stands).free is in
      placed_first (is_named name) items n lt
      (position_or_len_is (is_named name) items n i (omega arith) (λ k below. none_before (is_named name) items n i (omega arith) none k below (is_named name (get_or items k i)) refl)
      (λ within. ap (is_named name) (get_or_from_slice_get items n i i stands) ∙ is))

  pub means_own : (n : ℕ) (i : Item) (name : Name) → slice_get items n ≡ Some i → is_named name i ≡ true → item_at items n name ≡ Some i
  means_own n i name stands is = rw (own_number n i name stands is) (rw (eq-eqb n n refl, stands) refl)

  other_number : (n : ℕ) (i : Item) (name : Name) → slice_get items n ≡ Some i → is_named name i ≡ false → (o : Option ℕ) → number_named items name ≡ o
      → unwrap_or (option_map (λ k. k == n) o) false ≡ false
  other_number n i name stands not_named None is = refl
  other_number n i name stands not_named (Some k) is = by (k == n) refl
    where
      by : (b : Bool) → (k == n) ≡ b → b ≡ false
      by true same = absurd (false≢true (sym not_named ∙ ap (is_named name) (sym (get_or_from_slice_get items n i i stands)
          ∙ ap (λ m. get_or items m i) (sym (eqb-true k n same))) ∙ (position-Some (is_named name) items k i is).1))
      by false same = refl

  -- another name doesn't
  pub means_other : (n : ℕ) (i : Item) (name : Name) → slice_get items n ≡ Some i → is_named name i ≡ false → item_at items n name ≡ None
  means_other n i name stands not_named = rw (other_number n i name stands not_named (number_named items name) refl) refl

  pub means_none : (n : ℕ) (name : Name) → slice_get items n ≡ None → item_at items n name ≡ None
  means_none n name stands = by (means items name n)
    where
      by : (b : Bool) → cond b (slice_get items n) None ≡ None
      by true = stands
      by false = refl

  pub few_variants : (n : ℕ) (name own : Name) (all : List Name) → item_at items n name ≡ Some (item.Enum own all) → length all < 2 ^ 16
  few_variants n name own all is =
      few_by_test all (variants_of_enum items own all (typed n (item.Enum own all) (found_there (means items name n) (slice_get items n) (item.Enum own all) is)).of_kind)
