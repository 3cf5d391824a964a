-- The first element that passes a test.
use Rattle.std.proofs.Common.{◌≡◌, ℕ, suc, ◌+◌, Bool, true, false, cond, not, ◌||◌, nat_lt, List, [], ◌∷◌, length, refl, ◌∙◌, arith, Some, None}
use Rattle.std.specs.List.{list_any, position, position_or_len}
use Rattle.std.proofs.lemmas.Bool.Decides.{nat_tests}

-- one more in front, which passes or not
any_more : (b : Bool) (found : Bool) (place size : ℕ) → found ≡ nat_lt place size → b || found ≡ nat_lt (cond (not b) (1 + place) 0) (suc size)
any_more true found place size is = grind (arith, nat_tests)
any_more false found place size is = grind (arith, nat_tests, is)

any_is : {A : Type 0} (test : A → Bool) (xs : List A) → list_any test xs ≡ nat_lt (position_or_len test xs) (length xs)
any_is test [] = refl
any_is test (x ∷ xs) = any_more (test x) (list_any test xs) (position_or_len test xs) (length xs) (any_is test xs)

some_of : (b : Bool) (place i : ℕ) → cond b (Some place) None ≡ Some i → (b ≡ true) × (place ≡ i)
some_of true place i is = (refl, cc)
some_of false place i is = absurd (cc)

none_of : (b : Bool) (place : ℕ) → cond b (Some place) None ≡ None → b ≡ false
none_of true place is = absurd (cc)
none_of false place is = refl

-- some element passes where there is a first that does, and its place is this
pub first_found : {A : Type 0} (test : A → Bool) (xs : List A) (i : ℕ) → position test xs ≡ Some i → (list_any test xs ≡ true) × (position_or_len test xs ≡ i)
first_found test xs i is =
    let p = some_of (nat_lt (position_or_len test xs) (length xs)) (position_or_len test xs) i is in
    (any_is test xs ∙ p.0, p.1)

-- and none does where there is none
pub none_found : {A : Type 0} (test : A → Bool) (xs : List A) → position test xs ≡ None → list_any test xs ≡ false
none_found test xs is = any_is test xs ∙ none_of (nat_lt (position_or_len test xs) (length xs)) (position_or_len test xs) is
