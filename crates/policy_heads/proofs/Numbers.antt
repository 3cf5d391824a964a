-- The numbers that names mean.
use Rattle.std.proofs.Common.{◌≡◌, ℕ, zero, suc, ◌+◌, ◌<◌, Bool, true, false, not, ◌||◌, if◌then◌else◌, cond, List, [], ◌∷◌, ◌++◌, length, map, take, get_or, find, position, nat_lt, MatchOption, IfSome, refl, subst, ap, sym, ◌∙◌, arith, Option, Some, None, option_map, true≢false, slice_get, ◌==◌}
use Rattle.std.specs.List.{position_or_len}
use Rattle.std.specs.Option.{is_some, option_and_then, option_or}
use Rattle.std.specs.Str.{bytes_eq}
use Rattle.std.proofs.lemmas.Bool.{eq-eqb, eqb-true, lt-ltb, ltb-true}
use Rattle.std.proofs.lemmas.List.{map-append, take_more}
use Rattle.std.proofs.lemmas.List.Elements.{filter_map-append}
use Rattle.std.proofs.lemmas.List.Folds.{list_any-append}
use Rattle.std.proofs.lemmas.Slice.Eq.{bytes_eq-Decides}
use Rattle.policy_ast.specs.declared.item.Item.{Item}
use Rattle.policy_ast.specs.declared.policy.PlacedItem.{PlacedItem}
use Rattle.policy_rules.specs.Names.{is_among, is_named, name_of, names_of, number_named}
use Rattle.policy_rules.specs.Scopes.{let_name, let_names}
use Rattle.policy_rules.specs.WellTyped.{items_of}

by_test : {P : Type 0} (b : Bool) → (b ≡ true → P) → (b ≡ false → P) → P
by_test true holds fails = holds refl
by_test false holds fails = fails refl

turned : (a b : List ℕ) → bytes_eq a b ≡ bytes_eq b a
turned a b =
    by_test (bytes_eq a b)
    (λ yes. yes ∙ sym ((bytes_eq-Decides b a).1 (sym ((bytes_eq-Decides a b).0 yes))))
    (λ no. by_test (bytes_eq b a)
    (λ yes. let yes_too : bytes_eq a b ≡ true = (bytes_eq-Decides a b).1 (sym ((bytes_eq-Decides b a).0 yes)) in absurd (true≢false (sym yes_too ∙ no)))
    (λ no_too. no ∙ sym no_too))

or_none : {A : Type 0} (o : Option A) → o ≡ option_or o None
or_none None = refl
or_none (Some x) = refl

or_some : {A : Type 0} (o p : Option A) → is_some o ≡ true → o ≡ option_or o p
or_some None p is = absurd (true≢false (sym is))
or_some (Some x) p is = refl

-- a number came in under a name that had none
pub number_put : (before : List ℕ → Option ℕ) (name q : List ℕ) (n : ℕ) → before name ≡ None
    → cond (bytes_eq name q) (Some n) (before q) ≡ option_or (before q) (if bytes_eq q name then Some n else None)
number_put before name q n none =
    by_test (bytes_eq q name)
    (λ same. let is : q ≡ name = (bytes_eq-Decides q name).0 same in rw (turned name q, same, is, none) refl)
    (λ other. rw (turned name q, other) (or_none (before q)))

-- the name had a number
pub number_stays : (before : List ℕ → Option ℕ) (name q : List ℕ) (n : ℕ) → is_some (before name) ≡ true
    → before q ≡ option_or (before q) (if bytes_eq q name then Some n else None)
number_stays before name q n some =
    by_test (bytes_eq q name)
    (λ same. let is : q ≡ name = (bytes_eq-Decides q name).0 same in or_some (before q) (if bytes_eq q name then Some n else None) (ap (λ l. is_some (before l)) is ∙ some))
    (λ other. rw other (or_none (before q)))

later_place : (b : Bool) (n : ℕ) → cond b (Some (suc n)) None ≡ option_map (λ n. suc n) (cond b (Some n) None)
later_place true n = refl
later_place false n = refl

below_later : (a b : ℕ) → nat_lt (suc a) (suc b) ≡ nat_lt a b
below_later a b =
    by_test (nat_lt a b)
    (λ below. let lt : a < b = ltb-true a b below in lt-ltb (suc a) (suc b) (omega (arith, lt)) ∙ sym below)
    (λ fails. by_test (nat_lt (suc a) (suc b))
    (λ below. let lt : suc a < suc b = ltb-true (suc a) (suc b) below in let holds : nat_lt a b ≡ true = lt-ltb a b (omega (arith, lt)) in absurd (true≢false (sym holds ∙ fails)))
    (λ other. other ∙ sym fails))

-- the place of the first that passes a test, from the front
pub position_first : {A : Type 0} (test : A → Bool) (x : A) (xs : List A) → position test (x ∷ xs) ≡ cond (test x) (Some 0) (option_map (λ n. suc n) (position test xs))
position_first test x xs =
    by_test (test x)
    (λ yes. rw (yes, lt-ltb 0 (suc (length xs)) (omega arith)) refl)
    (λ other.
    let one : position_or_len test (x ∷ xs) ≡ 1 + position_or_len test xs = rw other refl in
    let first : position_or_len test (x ∷ xs) ≡ suc (position_or_len test xs) = one ∙ omega arith in
    rw (first, other, below_later (position_or_len test xs) (length xs)) (later_place (nat_lt (position_or_len test xs) (length xs)) (position_or_len test xs)))

place_pushed : (b : Bool) (n : ℕ) (o p : Option ℕ) → cond b (Some 0) (option_map (λ n. suc n) (option_or o p)) ≡ option_or (cond b (Some 0) (option_map (λ n. suc n) o)) (option_map (λ n. suc n) p)
place_pushed true n o p = refl
place_pushed false n None p = refl
place_pushed false n (Some k) p = refl

next_place : (b : Bool) (n : ℕ) → option_map (λ n. suc n) (if b then Some n else None) ≡ (if b then Some (suc n) else None)
next_place true n = refl
next_place false n = refl

-- the same in a list with one more
pub position_more : {A : Type 0} (test : A → Bool) (xs : List A) (y : A)
    → position test (xs ++ y ∷ []) ≡ option_or (position test xs) (if test y then Some (length xs) else None)
position_more test [] y = position_first test y []
position_more test (x ∷ xs) y =
    position_first test x (xs ++ y ∷ [])
    ∙ ap (λ o. cond (test x) (Some 0) (option_map (λ n. suc n) o)) (position_more test xs y)
    ∙ place_pushed (test x) 0 (position test xs) (if test y then Some (length xs) else None)
    ∙ ap (λ o. option_or (cond (test x) (Some 0) (option_map (λ n. suc n) (position test xs))) o) (next_place (test y) (length xs))
    ∙ ap (λ o. option_or o (if test y then Some (suc (length xs)) else None)) (sym (position_first test x xs))

-- the element at that place is the first that passes the test
pub position_finds : {A : Type 0} (test : A → Bool) (xs : List A) (o : Option ℕ) → position test xs ≡ o
    → MatchOption o (find test xs ≡ None) (λ n. (n < length xs) × ((d : A) → find test xs ≡ Some (get_or xs n d)))
position_finds {A = A} test [] None is = refl
position_finds {A = A} test [] (Some n) is = absurd (cc)
position_finds {A = A} test (x ∷ xs) o is = by (test x) refl (position test xs) refl (position_finds test xs (position test xs) refl)
  where
    by : (b : Bool) → test x ≡ b → (p : Option ℕ) → position test xs ≡ p → MatchOption p (find test xs ≡ None) (λ n. (n < length xs) × ((d : A) → find test xs ≡ Some (get_or xs n d)))
        → MatchOption o (find test (x ∷ xs) ≡ None) (λ n. (n < length (x ∷ xs)) × ((d : A) → find test (x ∷ xs) ≡ Some (get_or (x ∷ xs) n d)))
    by true passes p place later =
        let now : o ≡ Some 0 = sym is ∙ position_first test x xs ∙ rw passes refl in
        subst (λ o. MatchOption o (find test (x ∷ xs) ≡ None) (λ n. (n < length (x ∷ xs)) × ((d : A) → find test (x ∷ xs) ≡ Some (get_or (x ∷ xs) n d)))) (sym now) (omega arith, λ d. rw passes refl)
    by false other None place later =
        let now : o ≡ None = sym is ∙ position_first test x xs ∙ rw (other, place) refl in
        subst (λ o. MatchOption o (find test (x ∷ xs) ≡ None) (λ n. (n < length (x ∷ xs)) × ((d : A) → find test (x ∷ xs) ≡ Some (get_or (x ∷ xs) n d)))) (sym now) (rw other later)
    by false other (Some n) place later =
        let now : o ≡ Some (suc n) = sym is ∙ position_first test x xs ∙ rw (other, place) refl in
        subst (λ o. MatchOption o (find test (x ∷ xs) ≡ None) (λ n. (n < length (x ∷ xs)) × ((d : A) → find test (x ∷ xs) ≡ Some (get_or (x ∷ xs) n d)))) (sym now)
        (omega (arith, later.0), λ d. rw other (later.1 d))

-- the place is one of the list's
pub place_within : {A : Type 0} (test : A → Bool) (xs : List A) (o : Option ℕ) → o ≡ position test xs → IfSome o (λ n. n < length xs)
place_within test xs None is = tt
place_within test xs (Some n) is = (position_finds test xs (Some n) (sym is)).0

none_from : {A : Type 0} (o : Option A) → is_some o ≡ false → o ≡ None
none_from None is = refl
none_from (Some x) is = absurd (true≢false is)

-- a number came in under the name of an item
pub number_came : (before : List ℕ → Option ℕ) (item : Item) (name q : List ℕ) (n : ℕ) → name_of item ≡ Some name → is_some (before name) ≡ false
    → cond (bytes_eq name q) (Some n) (before q) ≡ option_or (before q) (if is_named q item then Some n else None)
number_came before item name q n is none = number_put before name q n (none_from (before name) none) ∙ rw is refl

-- the item's name had a number
pub number_stood : (before : List ℕ → Option ℕ) (item : Item) (name q : List ℕ) (n : ℕ) → name_of item ≡ Some name → is_some (before name) ≡ true
    → before q ≡ option_or (before q) (if is_named q item then Some n else None)
number_stood before item name q n is some = number_stays before name q n some ∙ rw is refl

front_length : (policy : List PlacedItem) (n : ℕ) → n < length policy → length (items_of (take n policy)) ≡ n
front_length policy n lt = lengths_behind (λ p. p.item) (take n policy) ∙ take_length policy n lt
  where
    lengths_behind : {A B : Type 0} (f : A → B) (xs : List A) → length (map f xs) ≡ length xs
    lengths_behind f [] = refl
    lengths_behind f (x ∷ xs) = ap suc (lengths_behind f xs)

    take_length : {A : Type 0} (xs : List A) (n : ℕ) → n < length xs → length (take n xs) ≡ n
    take_length [] n lt = absurd (omega arith)
    take_length (x ∷ xs) zero lt = refl
    take_length (x ∷ xs) (suc n) lt = ap suc (take_length xs n (omega arith))

-- the numbers of one item more
pub number_more : (policy : List PlacedItem) (n : ℕ) (d : PlacedItem) (q : List ℕ) → n < length policy
    → option_or (number_named (items_of (take n policy)) q) (if is_named q ((get_or policy n d).item) then Some n else None) ≡ number_named (items_of (take (n + 1) policy)) q
number_more policy n d q lt =
    let p = get_or policy n d in
    ap (λ k. option_or (number_named (items_of (take n policy)) q) (if is_named q (p.item) then Some k else None)) (sym (front_length policy n lt))
    ∙ sym (position_more (is_named q) (items_of (take n policy)) (p.item))
    ∙ ap (position (is_named q)) (sym (map-append (λ p. p.item) (take n policy) (p ∷ [])))
    ∙ ap (λ all. number_named (items_of all) q) (sym (take_more policy n d lt))

-- the names of the `let`s of one item more
pub lets_more : (policy : List PlacedItem) (n : ℕ) (p : PlacedItem) (q : List ℕ) → n < length policy → p ≡ get_or policy n p
    → (is_among q (let_names (items_of (take n policy))) || is_among q (let_names (p.item ∷ []))) ≡ is_among q (let_names (items_of (take (n + 1) policy)))
lets_more policy n p q lt is =
    sym (list_any-append (bytes_eq q) (let_names (items_of (take n policy))) (let_names (p.item ∷ [])))
    ∙ ap (is_among q) (sym (filter_map-append let_name (items_of (take n policy)) (p.item ∷ [])))
    ∙ ap (λ items. is_among q (let_names items)) (sym (map-append (λ p. p.item) (take n policy) (p ∷ [])))
    ∙ ap (λ all. is_among q (let_names (items_of all))) (ap (λ p. take n policy ++ p ∷ []) is ∙ sym (take_more policy n p lt))

same_later : (k n : ℕ) → (suc k == suc n) ≡ (k == n)
same_later k n =
    by_test (k == n)
    (λ same. let is : suc k ≡ suc n = ap suc (eqb-true k n same) in eq-eqb (suc k) (suc n) is ∙ sym same)
    (λ other. by_test (suc k == suc n)
    (λ same. let is : suc k ≡ suc n = eqb-true (suc k) (suc n) same in let holds : (k == n) ≡ true = eq-eqb k n (omega (arith, is)) in absurd (true≢false (sym holds ∙ other)))
    (λ apart. apart ∙ sym other))

not_zero : (n : ℕ) → (0 == suc n) ≡ false
not_zero n = by_test (0 == suc n) (λ same. let is : 0 ≡ suc n = eqb-true 0 (suc n) same in absurd (omega (arith, is))) (λ other. other)

-- of an item with a name: whether the first item of that name is this one
pub first_of_name : (items : List Item) (n : ℕ) (name : List ℕ) → option_and_then name_of (slice_get items n) ≡ Some name → (o : Option ℕ) → number_named items name ≡ o
    → MatchOption o ⊥ (λ k. (k == n) ≡ not (is_among name (names_of (take n items))))
first_of_name [] n name has o is = absurd (cc)
first_of_name (x ∷ items) zero name has o is = subst (λ o. MatchOption o ⊥ (λ k. (k == 0) ≡ true)) (sym at_once ∙ is) refl
  where
    own : is_named name x ≡ true
    own = rw has ((bytes_eq-Decides name name).1 refl)

    at_once : number_named (x ∷ items) name ≡ Some 0
    at_once = position_first (is_named name) x items ∙ rw own refl
first_of_name (x ∷ items) (suc n) name has o is = by (is_named name x) refl (number_named items name) refl (first_of_name items n name has (number_named items name) refl)
  where
    among_named : (m : Option (List ℕ)) → name_of x ≡ m → is_named name x ≡ true → is_among name (names_of (x ∷ take n items)) ≡ true
    among_named None at own = let no_name : false ≡ true = rw at at own in absurd (true≢false (sym no_name))
    among_named (Some m) at own = let same : bytes_eq name m ≡ true = rw at at own in rw (at, same) refl

    among_other : (m : Option (List ℕ)) → name_of x ≡ m → is_named name x ≡ false → is_among name (names_of (x ∷ take n items)) ≡ is_among name (names_of (take n items))
    among_other None at other = rw at refl
    among_other (Some m) at other = let differs : bytes_eq name m ≡ false = rw at at other in rw (at, differs) refl

    by : (b : Bool) → is_named name x ≡ b → (p : Option ℕ) → number_named items name ≡ p → MatchOption p ⊥ (λ k. (k == n) ≡ not (is_among name (names_of (take n items))))
        → MatchOption o ⊥ (λ k. (k == suc n) ≡ not (is_among name (names_of (x ∷ take n items))))
    by true own p place later =
        let now : o ≡ Some 0 = sym is ∙ position_first (is_named name) x items ∙ rw own refl in
        subst (λ o. MatchOption o ⊥ (λ k. (k == suc n) ≡ not (is_among name (names_of (x ∷ take n items))))) (sym now) (rw (among_named (name_of x) refl own) (not_zero n))
    by false other None place later = absurd later
    by false other (Some k) place later =
        let now : o ≡ Some (suc k) = sym is ∙ position_first (is_named name) x items ∙ rw (other, place) refl in
        subst (λ o. MatchOption o ⊥ (λ k. (k == suc n) ≡ not (is_among name (names_of (x ∷ take n items))))) (sym now) (rw (among_other (name_of x) refl other) (same_later k n ∙ later))
