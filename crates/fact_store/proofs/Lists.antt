-- Lists that a test takes whole, or not at all.
use Rattle.std.proofs.Common.{◌≡◌, Bool, true, false, not, cond, List, [], ◌∷◌, ◌++◌, filter, refl, sym, ap, ◌∙◌}
use Rattle.std.proofs.lemmas.Bool.{and_from, and_parts, false≢true, not-true}
use Rattle.std.specs.List.{list_all}

pub all_weaker : {X : Type 0} (p q : X → Bool) → ((x : X) → p x ≡ true → q x ≡ true) → (xs : List X) → list_all p xs ≡ true → list_all q xs ≡ true
all_weaker p q weaker [] all = refl
all_weaker p q weaker (x ∷ xs) all = let parts = and_parts (p x) (list_all p xs) all in and_from _ _ (weaker x parts.0) (all_weaker p q weaker xs parts.1)

pub filter_all : {X : Type 0} (p : X → Bool) (xs : List X) → list_all p xs ≡ true → filter p xs ≡ xs
filter_all p [] all = refl
filter_all p (x ∷ xs) all = let parts = and_parts (p x) (list_all p xs) all in rw parts.0 (ap (λ rest. x ∷ rest) (filter_all p xs parts.1))

pub filter_none : {X : Type 0} (p : X → Bool) (xs : List X) → list_all (λ x. not (p x)) xs ≡ true → filter p xs ≡ []
filter_none p [] none = refl
filter_none p (x ∷ xs) none = let parts = and_parts (not (p x)) (list_all (λ x. not (p x)) xs) none in rw (not-true (p x) parts.0) (filter_none p xs parts.1)

pub all-filter : {X : Type 0} (p q : X → Bool) (xs : List X) → list_all q xs ≡ true → list_all q (filter p xs) ≡ true
all-filter p q [] all = refl
all-filter p q (x ∷ xs) all = let parts = and_parts (q x) (list_all q xs) all in by (p x) parts.0 (all-filter p q xs parts.1)
  where
    by : (b : Bool) → q x ≡ true → list_all q (filter p xs) ≡ true → list_all q (cond b (x ∷ filter p xs) (filter p xs)) ≡ true
    by true here more = and_from _ _ here more
    by false here more = more

pub all_pass : {X : Type 0} (p : X → Bool) (xs : List X) → list_all p (filter p xs) ≡ true
all_pass p [] = refl
all_pass p (x ∷ xs) = by (p x) refl (all_pass p xs)
  where
    by : (b : Bool) → p x ≡ b → list_all p (filter p xs) ≡ true → list_all p (cond b (x ∷ filter p xs) (filter p xs)) ≡ true
    by true is more = and_from _ _ is more
    by false is more = more

pub all-append : {X : Type 0} (p : X → Bool) (xs ys : List X) → list_all p xs ≡ true → list_all p ys ≡ true → list_all p (xs ++ ys) ≡ true
all-append p [] ys all are = are
all-append p (x ∷ xs) ys all are = let parts = and_parts (p x) (list_all p xs) all in and_from _ _ parts.0 (all-append p xs ys parts.1 are)

-- a filter by a stronger test is a part of that by a weaker one
pub filter-filter : {X : Type 0} (p q : X → Bool) → ((x : X) → p x ≡ true → q x ≡ true) → (xs : List X) → filter p (filter q xs) ≡ filter p xs
filter-filter p q weaker [] = refl
filter-filter p q weaker (x ∷ xs) = by (p x) (q x) refl refl (filter-filter p q weaker xs)
  where
    by : (a b : Bool) → p x ≡ a → q x ≡ b → filter p (filter q xs) ≡ filter p xs → filter p (cond b (x ∷ filter q xs) (filter q xs)) ≡ cond a (x ∷ filter p xs) (filter p xs)
    by true true is then more = rw is (ap (λ rest. x ∷ rest) more)
    by true false is then more = absurd (false≢true (sym then ∙ weaker x is))
    by false true is then more = rw is more
    by false false is then more = more
