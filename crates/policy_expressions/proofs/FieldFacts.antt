-- Fields by name: places, and names that are declared.
use Rattle.std.proofs.Common.{◌≡◌, ℕ, suc, ◌+◌, ◌<◌, ◌≤◌, true, false, List, [], ◌∷◌, drop, length, get_or, ◌⊎◌, inl, inr, arith, Bor, map, Option, Some, None, option_map, unwrap_or, slice_get, refl, sym, ap, ◌∙◌, add-one}
use Rattle.std.specs.Option.{option_copied}
use Rattle.std.specs.Str.{bytes_eq}
use Rattle.std.proofs.Math.Seq.{drop-cons}
use Rattle.std.proofs.lemmas.List.{drop_all}
use Rattle.std.proofs.lemmas.Option.{slice_get_cases, slice_get_past}
use Rattle.base_bytes.specs.declared.value.Value.{Value}
use Rattle.policy_ast.specs.declared.field.Field.{Field}
use Rattle.policy_ast.specs.declared.item.Item.{Item}
use Rattle.policy_meaning.specs.Values.{field_names, value_named}
use Rattle.policy_expressions.specs.Policies.{names_at}
use Rattle.policy_rules.specs.Heads.{written_fields}
use Rattle.policy_rules.specs.Names.{Name}
use Rattle.policy_rules.specs.Scopes.{names_in}
use Rattle.policy_rules.specs.Types.{declared}
use Rattle.policy_rules.specs.declared.types.Named.{Named}

pub declared_names : (fields : List Field) → names_in (declared fields) ≡ map (λ f. f.name) fields
declared_names [] = refl
declared_names (f ∷ fields) = ap (λ names. f.name ∷ names) (declared_names fields)

-- the names of the fields of an item
pub names_of_item : (i : Item) (o : Option (List Named)) → o ≡ option_map declared (written_fields i) → names_in (unwrap_or o []) ≡ field_names i
names_of_item i o is = ap (λ o. names_in (unwrap_or o [])) is ∙ by (written_fields i)
  where
    by : (w : Option (List Field)) → names_in (unwrap_or (option_map declared w) []) ≡ map (λ f. f.name) (unwrap_or w [])
    by None = refl
    by (Some fields) = declared_names fields

-- the same by the number of the item
pub names_there : (items : List Item) (n : ℕ) → n < length items → (o : Option (Bor (List Named)))
    → ((i : Item) → slice_get items n ≡ Some i → option_copied o ≡ option_map declared (written_fields i)) → names_in (unwrap_or (option_copied o) []) ≡ names_at items n
names_there items n lt o is = by ((slice_get_cases items n).1)
  where
    by : ((i : Item) × (n < length items) × (slice_get items n ≡ Some i) × (get_or items n i ≡ i)) ⊎ ((length items ≤ n) × (slice_get items n ≡ None))
        → names_in (unwrap_or (option_copied o) []) ≡ names_at items n
    by (inl there) = names_of_item there.0 (option_copied o) (is there.0 there.2) ∙ sym (ap (λ o. unwrap_or (option_map field_names o) []) there.2)
    by (inr past) = absurd (omega (arith, lt, past.0))

pub names_beyond : (items : List Item) (n : ℕ) → length items ≤ n → [] ≡ names_at items n
names_beyond items n le = sym (ap (λ o. unwrap_or (option_map field_names o) []) (slice_get_past items n le))

no_values : (names : List Name) (name : Name) → value_named names [] name ≡ None
no_values [] name = refl
no_values (n ∷ names) name = refl

-- what is left at a place: the element there, and what is left behind it
left_at : {A : Type 0} (xs : List A) (i : ℕ) (x : A) → i < length xs → x ≡ get_or xs i x → drop i xs ≡ x ∷ drop (i + 1) xs
left_at xs i x lt is = drop-cons xs i x lt ∙ ap (λ y. y ∷ drop (suc i) xs) (sym is) ∙ ap (λ n. x ∷ drop n xs) (sym (add-one i))

left_behind : {A : Type 0} (xs : List A) (i : ℕ) → length xs ≤ i → drop i xs ≡ []
left_behind xs i le = drop_all i xs le

module _ (fields : List Named) (values : List Value) (name : Name) (i : ℕ) (f : Named) (lt : i < length fields) (is : f ≡ get_or fields i f) where
  -- the field at a place has the name
  pub found_here : bytes_eq name (get_or fields i f).name ≡ true → value_named (names_in (drop i fields)) (drop i values) name ≡ slice_get values i
  found_here same = ap (λ fs. value_named (names_in fs) (drop i values) name) (left_at fields i f lt is) ∙ by ((slice_get_cases values i).1)
    where
      by : ((x : Value) × (i < length values) × (slice_get values i ≡ Some x) × (get_or values i x ≡ x)) ⊎ ((length values ≤ i) × (slice_get values i ≡ None))
          → value_named (f.name ∷ names_in (drop (i + 1) fields)) (drop i values) name ≡ slice_get values i
      by (inl there) =
          ap (λ vs. value_named (f.name ∷ names_in (drop (i + 1) fields)) vs name) (left_at values i there.0 there.1 (sym there.3))
          ∙ rw (ap (λ g. bytes_eq name g.name) is ∙ same) (sym there.2)
      by (inr past) = ap (λ vs. value_named (f.name ∷ names_in (drop (i + 1) fields)) vs name) (left_behind values i past.0) ∙ sym past.1

  -- it has another
  pub not_here : bytes_eq name (get_or fields i f).name ≡ false → value_named (names_in (drop i fields)) (drop i values) name ≡ value_named (names_in (drop (i + 1) fields)) (drop (i + 1) values) name
  not_here differs = ap (λ fs. value_named (names_in fs) (drop i values) name) (left_at fields i f lt is) ∙ by ((slice_get_cases values i).1)
    where
      by : ((x : Value) × (i < length values) × (slice_get values i ≡ Some x) × (get_or values i x ≡ x)) ⊎ ((length values ≤ i) × (slice_get values i ≡ None))
          → value_named (f.name ∷ names_in (drop (i + 1) fields)) (drop i values) name ≡ value_named (names_in (drop (i + 1) fields)) (drop (i + 1) values) name
      by (inl there) =
          ap (λ vs. value_named (f.name ∷ names_in (drop (i + 1) fields)) vs name) (left_at values i there.0 there.1 (sym there.3))
          ∙ rw (ap (λ g. bytes_eq name g.name) is ∙ differs) refl
      by (inr past) =
          ap (λ vs. value_named (f.name ∷ names_in (drop (i + 1) fields)) vs name) (left_behind values i past.0)
          ∙ sym (ap (λ vs. value_named (names_in (drop (i + 1) fields)) vs name) (left_behind values (i + 1) (omega (arith, past.0))) ∙ no_values (names_in (drop (i + 1) fields)) name)
