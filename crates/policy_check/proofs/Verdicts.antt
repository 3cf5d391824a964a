-- From the judgement of each item to the first that isn't well typed.
use Rattle.std.proofs.Common.{◌≡◌, ◌∙◌, ℕ, zero, suc, ◌+◌, ◌<◌, ◌≤◌, Bool, true, false, ◌&&◌, List, [], ◌∷◌, Some, get_or, length, map, take, slice_get, option_map, nat_lt, refl, ap, sym, subst, arith, true≢false}
use Rattle.std.proofs.lemmas.Bool.{lt-ltb, ltb-true}
use Rattle.std.proofs.lemmas.Option.{slice_get-get_or, slice_get-map, slice_get_within}
use Rattle.std.proofs.lemmas.List.{length-map}
use Rattle.policy_ast.specs.declared.item.Item.{Item}
use Rattle.policy_ast.specs.declared.policy.PlacedItem.{PlacedItem}
use Rattle.policy_check.specs.working.Firsts.{IsFirstIll}
use Rattle.policy_rules.specs.Calls.{may_chain}
use Rattle.policy_rules.specs.Items.{is_free_name}
use Rattle.policy_rules.specs.Laws.{AreJudged}
use Rattle.policy_rules.specs.Names.{name_of, names_of}
use Rattle.policy_rules.specs.Nesting.{may_nest}
use Rattle.policy_rules.specs.WellTyped.{HasTypeFault, IsWellTyped, IsWellTypedAt, items_of}
use Rattle.policy_rules.specs.ItemJudging.{is_of_kind, item_is}

by_test : {P : Type 0} (b : Bool) → (b ≡ true → P) → (b ≡ false → P) → P
by_test true holds fails = holds refl
by_test false holds fails = fails refl

same_some : {A : Type 0} {x y : A} → Some x ≡ Some y → x ≡ y
same_some is = cc

-- what a table says of an item
told : (f : Item → Bool) (items : List Item) (table : List Bool) (number : ℕ) (i : Item) (b : Bool) → table ≡ map f items → slice_get items number ≡ Some i → slice_get table number ≡ Some b → b ≡ f i
told f items table number i b is at says =
    same_some (sym says ∙ ap (λ t. slice_get t number) is ∙ slice_get-map f items number ∙ ap (λ o. option_map f o) at)

-- the four tests of an item are its judgement
pub judged : (items : List Item) (nestings chains : List Bool) (number : ℕ) (item i : Item) (free kind nests chain : Bool) → nestings ≡ map (may_nest items) items → chains ≡ map (may_chain items) items
    → slice_get items number ≡ Some item → slice_get items number ≡ Some i → free ≡ is_free_name (names_of (take number items)) (name_of item) → kind ≡ is_of_kind items item
    → slice_get nestings number ≡ Some nests → slice_get chains number ≡ Some chain → (free && (kind && (nests && chain))) ≡ item_is items (names_of (take number items)) i
judged items nestings chains number item i free kind nests chain nestings_are chains_are at also is_free is_kind nests_at chains_at =
    let same : item ≡ i = same_some (sym at ∙ also) in
    rw (is_free, is_kind, told (may_nest items) items nestings number item nests nestings_are at nests_at, told (may_chain items) items chains number item chain chains_are at chains_at, same) refl

-- there is an item at each place
item_there : (items : List Item) (k : ℕ) → k < length items → (i : Item) × (slice_get items k ≡ Some i)
item_there [] k lt = absurd (omega (arith, lt))
item_there (x ∷ items) zero lt = (x, refl)
item_there (x ∷ items) (suc k) lt = item_there items k (omega (arith, lt))

module _ (items : List Item) (laws : AreJudged items) where
  -- an item that is judged so is well typed, and another isn't
  well_at : (number : ℕ) (is : Bool) → ((i : Item) → slice_get items number ≡ Some i → is ≡ item_is items (names_of (take number items)) i) → is ≡ true → IsWellTypedAt items number
  well_at number is judged holds = λ i at. (laws.of_items (names_of (take number items)) i).1 (sym (judged i at) ∙ holds)

  pub ill_at : (number : ℕ) (is : Bool) → number < length items → ((i : Item) → slice_get items number ≡ Some i → is ≡ item_is items (names_of (take number items)) i) → is ≡ false
      → ((n : ℕ) → n < number → IsWellTypedAt items n) → IsFirstIll items number
  ill_at number is lt judged fails before = record {
    within = lt;
    before = before;
    ill = λ well.
        let there = item_there items number lt in
        let holds : is ≡ true = judged (there.0) (there.1) ∙ (laws.of_items (names_of (take number items)) (there.0)).0 (well (there.0) (there.1)) in
        absurd (true≢false (sym holds ∙ fails));
  }

  pub well_more : (number : ℕ) (is : Bool) → ((i : Item) → slice_get items number ≡ Some i → is ≡ item_is items (names_of (take number items)) i) → is ≡ true
      → ((n : ℕ) → n < number → IsWellTypedAt items n) → (n : ℕ) → n < number + 1 → IsWellTypedAt items n
  well_more number is says holds before n lt =
      by_test (nat_lt n number)
      (λ below. before n (ltb-true n number below))
      (λ other. let here : number ≡ n = by_test (nat_lt n number) (λ below. absurd (true≢false (sym below ∙ other))) (λ fails. grind (arith, lt-ltb n number)) in
      subst (λ n. IsWellTypedAt items n) here (well_at number is says holds))

-- all items are well typed once those that are there are
pub well_all : (items : List Item) (number : ℕ) → length items ≤ number → ((n : ℕ) → n < number → IsWellTypedAt items n) → (n : ℕ) → IsWellTypedAt items n
well_all items number all before n = λ i at. before n (let lt : n < length items = slice_get_within items n i at in omega (arith, lt, all)) i at

-- the fault of a policy is its first item that isn't well typed
pub fault_at : (policy : List PlacedItem) (items : List Item) (number : ℕ) (d : PlacedItem) → items ≡ items_of policy → IsFirstIll items number → HasTypeFault policy (get_or policy number d).line
fault_at policy items number d is first =
    let own : IsFirstIll (items_of policy) number = subst (λ items. IsFirstIll items number) is first in
    let lt : number < length policy = subst (λ n. number < n) (length-map policy (λ p. p.item)) own.within in
    record { number = number; item = get_or policy number d; stands = slice_get-get_or policy number d lt; before = own.before; ill = own.ill; begins = refl }

pub well_policy : (policy : List PlacedItem) (items : List Item) → items ≡ items_of policy → ((n : ℕ) → IsWellTypedAt items n) → IsWellTyped policy
well_policy policy items is well = subst (λ items. (n : ℕ) → IsWellTypedAt items n) is well
