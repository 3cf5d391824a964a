-- Rounds over what each item leads to are how many steps may follow one another.
use Rattle.std.proofs.Common.{◌≡◌, ◌∙◌, ℕ, zero, suc, ◌+◌, ◌<◌, Bool, true, false, if◌then◌else◌, cond, List, [], ◌∷◌, ◌++◌, take, length, map, Option, Some, None, find, position, IfOk, Result, Ok, Err, option_map, nat_lt, refl, ap, sym, unwrap_or, slice_get, subst, arith, true≢false}
use mathlib.Core.Path.{fun_ext}
use Rattle.std.specs.List.{list_all, position_or_len}
use Rattle.std.specs.Option.{is_some, option_and_then}
use Rattle.std.proofs.lemmas.Bool.{lt-ltb}
use Rattle.std.proofs.lemmas.List.{take_more}
use Rattle.std.proofs.lemmas.List.Folds.{find_at}
use Rattle.std.proofs.lemmas.Option.{get_or_from_slice_get, slice_get-map, slice_get_past, slice_get_within}
use Rattle.policy_ast.specs.declared.field.Field.{Field}
use Rattle.policy_ast.specs.declared.item.Item.{Item}
use Rattle.policy_ast.specs.declared.item.Item.TheVariants as item
use Rattle.policy_rules.specs.Calls.{Callee, a_finish_function, a_function, called_calls, chain_within, is_no_call, item_calls, may_chain}
use Rattle.policy_rules.specs.Heads.{struct_named, written_fields}
use Rattle.policy_rules.specs.Names.{Name, is_named, item_named, number_named}
use Rattle.policy_rules.specs.Nesting.{fields_pass, may_nest, nests_within, struct_passes, written_nests}
use Rattle.policy_rules.specs.Types.{declared}
use Rattle.policy_rules.specs.declared.types.Named.{Named}
use Rattle.policy_depths.specs.working.Gathering.{AreGathered, call_passes, fields_pass_by, item_passes, struct_passes_by, structs_pass}
use Rattle.policy_depths.specs.working.Rounds.{passes_in, round}
use Rattle.policy_depths.proofs.Forms.{item_open}

by_test : {P : Type 0} (b : Bool) → (b ≡ true → P) → (b ≡ false → P) → P
by_test true holds fails = holds refl
by_test false holds fails = fails refl

-- ---- the item of a name stands at its number

place_beyond : {A : Type 0} (xs : List A) (k : ℕ) (b : Bool) → nat_lt k (length xs) ≡ b → slice_get xs k ≡ option_and_then (slice_get xs) (cond b (Some k) None)
place_beyond xs k true is = refl
place_beyond xs k false is = slice_get_past xs k (by_test (nat_lt k (length xs)) (λ below. absurd (true≢false (sym below ∙ is))) (λ other. grind (arith, lt-ltb k (length xs))))

pub found_by_place : {A : Type 0} (test : A → Bool) (xs : List A) → find test xs ≡ option_and_then (slice_get xs) (position test xs)
found_by_place test xs = find_at test xs ∙ place_beyond xs (position_or_len test xs) (nat_lt (position_or_len test xs) (length xs)) refl

same_some : {A : Type 0} {x y : A} → Some x ≡ Some y → x ≡ y
same_some is = cc

-- there is an item at each place
pub item_there : (items : List Item) (k : ℕ) → k < length items → (i : Item) × (slice_get items k ≡ Some i)
item_there [] k lt = absurd (omega (arith, lt))
item_there (x ∷ items) zero lt = (x, refl)
item_there (x ∷ items) (suc k) lt = item_there items k (omega (arith, lt))

-- a table that is another
pub ok_same : {E : Type 0} (r : Result (List Bool) E) (table other : List Bool) → table ≡ other → IfOk r (λ t. t ≡ table) → IfOk r (λ t. t ≡ other)
ok_same (Ok t) table other is so = so ∙ is
ok_same (Err e) table other is so = tt

module _ (passes : (ℕ → Bool) → Item → Bool) where
  gathered_more : (items : List Item) (all : List (List ℕ)) (i : Item) (numbers : List ℕ) → AreGathered passes items all → ((test : ℕ → Bool) → list_all test numbers ≡ passes test i)
      → AreGathered passes (items ++ i ∷ []) (all ++ numbers ∷ [])
  gathered_more [] [] i numbers so_far one = (one, tt)
  gathered_more [] (n ∷ all) i numbers so_far one = absurd so_far
  gathered_more (x ∷ items) [] i numbers so_far one = absurd so_far
  gathered_more (x ∷ items) (n ∷ all) i numbers so_far one = (so_far.0, gathered_more items all i numbers (so_far.1) one)

  -- one item more of a list
  pub gathered_next : (items : List Item) (all : List (List ℕ)) (k : ℕ) (i : Item) (numbers : List ℕ) → slice_get items k ≡ Some i → AreGathered passes (take k items) all
      → ((test : ℕ → Bool) → list_all test numbers ≡ passes test i) → AreGathered passes (take (k + 1) items) (all ++ numbers ∷ [])
  gathered_next items all k i numbers at so_far one =
      let one_more : take (k + 1) items ≡ take k items ++ i ∷ [] = take_more items k i (slice_get_within items k i at) ∙ ap (λ x. take k items ++ x ∷ []) (get_or_from_slice_get items k i i at) in
      subst (λ front. AreGathered passes front (all ++ numbers ∷ [])) (sym one_more) (gathered_more (take k items) all i numbers so_far one)

  gathered_at : (items : List Item) (all : List (List ℕ)) (k : ℕ) (i : Item) → AreGathered passes items all → slice_get items k ≡ Some i
      → (numbers : List ℕ) × (slice_get all k ≡ Some numbers) × ((test : ℕ → Bool) → list_all test numbers ≡ passes test i)
  gathered_at [] all k i gathered is = absurd (cc)
  gathered_at (x ∷ items) [] k i gathered is = absurd gathered
  gathered_at (x ∷ items) (numbers ∷ all) zero i gathered is = (numbers, refl, λ test. gathered.0 test ∙ ap (passes test) (same_some is))
  gathered_at (x ∷ items) (numbers ∷ all) (suc k) i gathered is = gathered_at items all k i (gathered.1) is

  gathered_map : (items : List Item) (all : List (List ℕ)) (test : ℕ → Bool) → AreGathered passes items all → map (λ numbers. list_all test numbers) all ≡ map (λ i. passes test i) items
  gathered_map [] [] test gathered = refl
  gathered_map [] (n ∷ all) test gathered = absurd gathered
  gathered_map (x ∷ items) [] test gathered = absurd gathered
  gathered_map (x ∷ items) (n ∷ all) test gathered = rw (gathered.0 test, gathered_map items all test (gathered.1)) refl

  -- no step at all from an item that is there
  first_at : (items : List Item) (all : List (List ℕ)) (k : ℕ) (i : Item) → AreGathered passes items all → slice_get items k ≡ Some i → passes_in (round all zero) k ≡ false
  first_at items all k i gathered is =
      let found = gathered_at items all k i gathered is in
      ap (λ o. unwrap_or o true) (slice_get-map (λ places. false) all k ∙ ap (λ o. option_map (λ places. false) o) (found.1))

  -- a step further
  next_at : (items : List Item) (all : List (List ℕ)) (n k : ℕ) (i : Item) → AreGathered passes items all → slice_get items k ≡ Some i → passes_in (round all (suc n)) k ≡ passes (passes_in (round all n)) i
  next_at items all n k i gathered is =
      let found = gathered_at items all k i gathered is in
      ap (λ o. unwrap_or o true) (slice_get-map (λ places. list_all (passes_in (round all n)) places) all k ∙ ap (λ o. option_map (λ places. list_all (passes_in (round all n)) places) o) (found.1)) ∙ found.2 (passes_in (round all n))

-- ---- calls

no_call_passes : (may : Callee → Name → Bool) (callee : Callee) (o : Option Item) → is_no_call callee o ≡ true → called_calls may callee o ≡ true
no_call_passes may a_function None is = refl
no_call_passes may a_finish_function None is = refl
no_call_passes may a_function (Some (item.Use name)) is = refl
no_call_passes may a_function (Some (item.Let name value)) is = refl
no_call_passes may a_function (Some (item.Enum name variants)) is = refl
no_call_passes may a_function (Some (item.Struct name fields)) is = refl
no_call_passes may a_function (Some (item.Effect name fields)) is = refl
no_call_passes may a_function (Some (item.Fact is_immutable name keys values)) is = refl
no_call_passes may a_function (Some (item.Command name sections)) is = refl
no_call_passes may a_function (Some (item.Function name parameters result body)) is = absurd (true≢false (sym is))
no_call_passes may a_function (Some (item.FinishFunction name parameters body)) is = refl
no_call_passes may a_function (Some (item.Action name parameters body)) is = refl
no_call_passes may a_finish_function (Some (item.Use name)) is = refl
no_call_passes may a_finish_function (Some (item.Let name value)) is = refl
no_call_passes may a_finish_function (Some (item.Enum name variants)) is = refl
no_call_passes may a_finish_function (Some (item.Struct name fields)) is = refl
no_call_passes may a_finish_function (Some (item.Effect name fields)) is = refl
no_call_passes may a_finish_function (Some (item.Fact is_immutable name keys values)) is = refl
no_call_passes may a_finish_function (Some (item.Command name sections)) is = refl
no_call_passes may a_finish_function (Some (item.Function name parameters result body)) is = refl
no_call_passes may a_finish_function (Some (item.FinishFunction name parameters body)) is = absurd (true≢false (sym is))
no_call_passes may a_finish_function (Some (item.Action name parameters body)) is = refl

call_is_item : (may : Callee → Name → Bool) (callee : Callee) (i : Item) → is_no_call callee (Some i) ≡ false → called_calls may callee (Some i) ≡ item_calls may i
call_is_item may a_function (item.Use name) is = absurd (true≢false is)
call_is_item may a_function (item.Let name value) is = absurd (true≢false is)
call_is_item may a_function (item.Enum name variants) is = absurd (true≢false is)
call_is_item may a_function (item.Struct name fields) is = absurd (true≢false is)
call_is_item may a_function (item.Effect name fields) is = absurd (true≢false is)
call_is_item may a_function (item.Fact is_immutable name keys values) is = absurd (true≢false is)
call_is_item may a_function (item.Command name sections) is = absurd (true≢false is)
call_is_item may a_function (item.Function name parameters result body) is = refl
call_is_item may a_function (item.FinishFunction name parameters body) is = absurd (true≢false is)
call_is_item may a_function (item.Action name parameters body) is = absurd (true≢false is)
call_is_item may a_finish_function (item.Use name) is = absurd (true≢false is)
call_is_item may a_finish_function (item.Let name value) is = absurd (true≢false is)
call_is_item may a_finish_function (item.Enum name variants) is = absurd (true≢false is)
call_is_item may a_finish_function (item.Struct name fields) is = absurd (true≢false is)
call_is_item may a_finish_function (item.Effect name fields) is = absurd (true≢false is)
call_is_item may a_finish_function (item.Fact is_immutable name keys values) is = absurd (true≢false is)
call_is_item may a_finish_function (item.Command name sections) is = absurd (true≢false is)
call_is_item may a_finish_function (item.Function name parameters result body) is = absurd (true≢false is)
call_is_item may a_finish_function (item.FinishFunction name parameters body) is = refl
call_is_item may a_finish_function (item.Action name parameters body) is = absurd (true≢false is)

none_is_no_call : (callee : Callee) → is_no_call callee None ≡ true
none_is_no_call a_function = refl
none_is_no_call a_finish_function = refl

module _ (items : List Item) (all : List (List ℕ)) (gathered : AreGathered (item_passes items) items all) where
  -- what is called at the number of a name passes as the item there does
  called_at : (within : Option Item → Bool) (test : ℕ → Bool) (callee : Callee) (o : Option Item) (q : Option ℕ) → o ≡ option_and_then (slice_get items) q
      → (is_no_call callee o ≡ true → within o ≡ true) → ((k : ℕ) (i : Item) → slice_get items k ≡ Some i → is_no_call callee (Some i) ≡ false → within (Some i) ≡ test k)
      → within o ≡ unwrap_or (option_map test (if is_no_call callee o then None else q)) true
  called_at within test callee o q is none some = by_test (is_no_call callee o) (λ no_call. rw no_call (none no_call)) (λ call. rw call (at o q is call))
    where
      at : (o : Option Item) (q : Option ℕ) → o ≡ option_and_then (slice_get items) q → is_no_call callee o ≡ false → within o ≡ unwrap_or (option_map test q) true
      at None q is call = absurd (true≢false (sym (none_is_no_call callee) ∙ call))
      at (Some i) None is call = absurd (cc)
      at (Some i) (Some k) is call = some k i (sym is) call

  -- a chain of so many calls is that many rounds
  chain_is : (n : ℕ) (callee : Callee) (name : Name) → chain_within items n callee name ≡ call_passes items (passes_in (round all n)) callee name
  chain_is zero callee name =
      called_at (λ o. is_no_call callee o) (passes_in (round all zero)) callee (item_named items name) (number_named items name) (found_by_place (is_named name) items) (λ no_call. no_call)
      (λ k i at call. call ∙ sym (first_at (item_passes items) items all k i gathered at))
  chain_is (suc n) callee name =
      let same : chain_within items n ≡ call_passes items (passes_in (round all n)) = fun_ext (λ callee. fun_ext (λ name. chain_is n callee name)) in
      called_at (λ o. called_calls (chain_within items n) callee o) (passes_in (round all (suc n))) callee (item_named items name) (number_named items name) (found_by_place (is_named name) items)
      (λ no_call. no_call_passes (chain_within items n) callee (item_named items name) no_call)
      (λ k i at call.
      call_is_item (chain_within items n) callee i call
      ∙ ap (λ may. item_calls may i) same
      ∙ sym (item_open items (passes_in (round all n)) i)
      ∙ sym (next_at (item_passes items) items all n k i gathered at))

  item_chain : (n : ℕ) (i : Item) → item_passes items (passes_in (round all n)) i ≡ item_calls (chain_within items n) i
  item_chain n i = item_open items (passes_in (round all n)) i ∙ ap (λ may. item_calls may i) (sym (fun_ext (λ callee. fun_ext (λ name. chain_is n callee name))))

  pub chains_are : round all 17 ≡ map (may_chain items) items
  chains_are = gathered_map (item_passes items) items all (passes_in (round all 16)) gathered ∙ ap (λ test. map test items) (fun_ext (λ i. item_chain 16 i))

-- ---- structs

module _ (items : List Item) (all : List (List ℕ)) (gathered : AreGathered (structs_pass items) items all) where
  abbrev fields_of : Item → Option (List Named)
  fields_of i = option_map declared (written_fields i)

  -- the struct at the number of a name passes as its fields do
  struct_at : (within : List Named → Bool) (test : ℕ → Bool) (o : Option Item) (q : Option ℕ) → o ≡ option_and_then (slice_get items) q
      → ((k : ℕ) (i : Item) (fields : List Named) → slice_get items k ≡ Some i → fields_of i ≡ Some fields → within fields ≡ test k)
      → fields_pass within (option_and_then fields_of o) ≡ unwrap_or (option_map test (if is_some (option_and_then fields_of o) then q else None)) true
  struct_at within test None q is some = refl
  struct_at within test (Some i) None is some = absurd (cc)
  struct_at within test (Some i) (Some k) is some = by (fields_of i) refl
    where
      by : (fields : Option (List Named)) → fields_of i ≡ fields
          → fields_pass within fields ≡ unwrap_or (option_map test (if is_some fields then Some k else None)) true
      by None own = refl
      by (Some fields) own = some k i fields (sym is) own

  own_fields : (test : ℕ → Bool) (i : Item) (fields : List Named) → fields_of i ≡ Some fields → structs_pass items test i ≡ fields_pass_by items test fields
  own_fields test i fields is = rw is refl

  -- so many structs nest in what a name means exactly where that many rounds pass
  nesting_is : (n : ℕ) (name : Name) → fields_pass (nests_within items n) (struct_named items name) ≡ struct_passes_by items (passes_in (round all n)) name
  nesting_is zero name =
      struct_at (nests_within items zero) (passes_in (round all zero)) (item_named items name) (number_named items name) (found_by_place (is_named name) items)
      (λ k i fields at own. sym (first_at (structs_pass items) items all k i gathered at))
  nesting_is (suc n) name =
      struct_at (nests_within items (suc n)) (passes_in (round all (suc n))) (item_named items name) (number_named items name) (found_by_place (is_named name) items)
      (λ k i fields at own.
      ap (λ test. list_all (λ f. struct_passes test f.ty) fields) (fun_ext (λ name. nesting_is n name))
      ∙ sym (own_fields (passes_in (round all n)) i fields own)
      ∙ sym (next_at (structs_pass items) items all n k i gathered at))

  item_nesting : (i : Item) → structs_pass items (passes_in (round all 7)) i ≡ may_nest items i
  item_nesting i = by (written_fields i)
    where
      by : (fields : Option (List Field)) → fields_pass_by items (passes_in (round all 7)) (unwrap_or (option_map declared fields) []) ≡ written_nests items fields
      by None = refl
      by (Some fields) = ap (λ test. list_all (λ f. struct_passes test f.ty) (declared fields)) (sym (fun_ext (λ name. nesting_is 7 name)))

  pub nestings_are : round all 8 ≡ map (may_nest items) items
  nestings_are = gathered_map (structs_pass items) items all (passes_in (round all 7)) gathered ∙ ap (λ test. map test items) (fun_ext (λ i. item_nesting i))
