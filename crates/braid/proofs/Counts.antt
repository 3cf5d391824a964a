-- How often a place stands in a list, and sums over lists.
use Rattle.std.proofs.Common.{◌≡◌, ℕ, ◌+◌, ◌<◌, ◌≤◌, ◌⊎◌, inl, inr, Bool, true, false, ◌==◌, cond, not, if◌then◌else◌, List, [], ◌∷◌, ◌++◌, take, drop, slice_get, Option, None, Some, refl, sym, ap, subst, ◌∙◌, arith}
use Rattle.std.specs.List.{Contains, filter_map, sum_by}
use Rattle.std.specs.List.Sorted.{IsPermutation}
use Rattle.std.proofs.lemmas.Bool.{cases_lt}
use Rattle.std.proofs.lemmas.Bool.Decides.{Decides-eqb}
use Rattle.std.proofs.lemmas.List.Sorted.{sum_by-IsPermutation}
use Rattle.std.proofs.lemmas.List.Sums.{sum_by-cons}
use Rattle.command.proofs.ListFacts.{at_head, behind_head, head_cases, none_element}
use Rattle.command.proofs.PlaceFacts.{before_at, cut_at}
use Rattle.braid.specs.working.Links.{sum_of, times}
use Rattle.braid.specs.working.Placing.{struck}
use Rattle.braid.proofs.Places.{struck_was}

-- one place, as a number
abbrev pub once_at : ℕ → ℕ → ℕ
once_at p x = if p == x then 1 else 0

pub same_place : (p x : ℕ) → p ≡ x → (p == x) ≡ true
same_place p x e = (Decides-eqb p x).1 e

pub other_place : (p x : ℕ) → (p ≡ x → ⊥) → (p == x) ≡ false
other_place p x differs = by (p == x) (λ h. differs ((Decides-eqb p x).0 h))
  where
    by : (b : Bool) → (b ≡ true → ⊥) → b ≡ false
    by true h = absurd (h refl)
    by false h = refl

pub known_place : (p x : ℕ) → (p ≡ x) ⊎ (p ≡ x → ⊥)
known_place p x = by (p == x) refl
  where
    by : (b : Bool) → (p == x) ≡ b → (p ≡ x) ⊎ (p ≡ x → ⊥)
    by true h = inl ((Decides-eqb p x).0 h)
    by false h = inr (λ e. let is = same_place p x e in absurd cc)

pub times_here : (p x : ℕ) (xs : List ℕ) → p ≡ x → times p (x ∷ xs) ≡ 1 + times p xs
times_here p x xs e = ap (λ b. (if b then 1 else 0) + times p xs) (same_place p x e)

pub times_later : (p x : ℕ) (xs : List ℕ) → (p ≡ x → ⊥) → times p (x ∷ xs) ≡ times p xs
times_later p x xs differs = ap (λ b. (if b then 1 else 0) + times p xs) (other_place p x differs) ∙ plain (times p xs)
  where
    plain : (n : ℕ) → (if false then 1 else 0) + n ≡ n
    plain n = omega arith

pub times_in : (p : ℕ) (xs : List ℕ) → 0 < times p xs → Contains xs p
times_in p [] h = absurd (omega (arith, h))
times_in p (x ∷ xs) h =
    elim (known_place p x) [
      | inl same ↦ subst (λ q. Contains (x ∷ xs) q) (sym same) (at_head x xs)
      | inr differs ↦ behind_head x xs p (times_in p xs (subst (λ n. 0 < n) (times_later p x xs differs) h))
    ]

pub in_times : (p : ℕ) (xs : List ℕ) → Contains xs p → 0 < times p xs
in_times p [] h = absurd (none_element p h)
in_times p (x ∷ xs) h =
    elim (head_cases x xs p h) [
      | inl same ↦ omega (arith, times_here p x xs (sym same))
      | inr later ↦ let more = in_times p xs later in omega (arith, more)
    ]

pub not_in : (p : ℕ) (xs : List ℕ) → (Contains xs p → ⊥) → times p xs ≡ 0
not_in p xs none = elim (cases_lt 0 (times p xs)) [ inl some ↦ absurd (none (times_in p xs some)) | inr few ↦ omega (arith, few) ]

pub times_append : (p : ℕ) (xs ys : List ℕ) → times p (xs ++ ys) ≡ times p xs + times p ys
times_append p [] ys = omega arith
times_append p (x ∷ xs) ys = let more = times_append p xs ys in omega (arith, more)

times_sum : (p : ℕ) (xs : List ℕ) → times p xs ≡ sum_by (once_at p) xs
times_sum p [] = refl
times_sum p (x ∷ xs) = ap (λ n. once_at p x + n) (times_sum p xs) ∙ sym (sum_by-cons (once_at p) x xs)

pub times_permutation : (p : ℕ) (xs ys : List ℕ) → IsPermutation xs ys → times p xs ≡ times p ys
times_permutation p xs ys h = times_sum p xs ∙ sym (sum_by-IsPermutation (once_at p) xs ys h) ∙ sym (times_sum p ys)

-- places without one
pub struck_none : (p : ℕ) (xs : List ℕ) → times p (struck p xs) ≡ 0
struck_none p xs = not_in p (struck p xs) (λ h. (struck_was p xs p h).1 refl)

pub struck_same : (p q : ℕ) (xs : List ℕ) → (p ≡ q → ⊥) → times p (struck q xs) ≡ times p xs
struck_same p q [] differs = refl
struck_same p q (x ∷ xs) differs = by (x == q) refl (struck_same p q xs differs)
  where
    by : (b : Bool) → (x == q) ≡ b → times p (struck q xs) ≡ times p xs → times p (cond (not b) (x ∷ struck q xs) (struck q xs)) ≡ times p (x ∷ xs)
    by true is more = more ∙ sym (times_later p x xs (λ e. differs (e ∙ (Decides-eqb x q).0 is)))
    by false is more = ap (λ n. once_at p x + n) more

sum_none : (f : ℕ → ℕ) (q : ℕ) (xs : List ℕ) → times q xs ≡ 0 → sum_of f (struck q xs) ≡ sum_of f xs
sum_none f q [] none = refl
sum_none f q (x ∷ xs) none = by (λ k. sum_none f q xs k) (x == q) refl
  where
    differs : q ≡ x → ⊥
    differs e = omega (arith, none, times_here q x xs e)

    by : (times q xs ≡ 0 → sum_of f (struck q xs) ≡ sum_of f xs) → (b : Bool) → (x == q) ≡ b → sum_of f (cond (not b) (x ∷ struck q xs) (struck q xs)) ≡ sum_of f (x ∷ xs)
    by more true is = absurd (differs (sym ((Decides-eqb x q).0 is)))
    by more false is = ap (λ n. f x + n) (more (sym (times_later q x xs differs) ∙ none))

-- a sum without what one place gives
pub sum_struck : (f : ℕ → ℕ) (q : ℕ) (xs : List ℕ) → times q xs ≡ 1 → sum_of f xs ≡ f q + sum_of f (struck q xs)
sum_struck f q [] one = absurd (omega (arith, one))
sum_struck f q (x ∷ xs) one = by (λ k. sum_struck f q xs k) (x == q) refl
  where
    by : (times q xs ≡ 1 → sum_of f xs ≡ f q + sum_of f (struck q xs)) → (b : Bool) → (x == q) ≡ b → sum_of f (x ∷ xs) ≡ f q + sum_of f (cond (not b) (x ∷ struck q xs) (struck q xs))
    by more true is =
        let same = (Decides-eqb x q).0 is in
        let none : times q xs ≡ 0 = omega (arith, one, times_here q x xs (sym same)) in
        ap (λ n. f x + n) (sym (sum_none f q xs none)) ∙ ap (λ y. f y + sum_of f (struck q xs)) same
    by more false is =
        let differs : q ≡ x → ⊥ = λ e. let is_same = same_place x q (sym e) in absurd cc in
        let rest = more (sym (times_later q x xs differs) ∙ one) in
        omega (arith, rest)

pub sum_found : {X : Type 0} (f : X → ℕ) (xs : List X) → 0 < sum_of f xs → (x : X) × Contains xs x × (0 < f x)
sum_found f [] h = absurd (omega (arith, h))
sum_found f (x ∷ xs) h =
    elim (cases_lt 0 (f x)) [
      | inl here ↦ (x, at_head x xs, here)
      | inr none ↦ let found = sum_found f xs (omega (arith, h, none)) in (found.0, behind_head x xs found.0 found.1, found.2)
    ]

pub sum_some : {X : Type 0} (f : X → ℕ) (xs : List X) (x : X) → Contains xs x → 0 < f x → 0 < sum_of f xs
sum_some f [] x h some = absurd (none_element x h)
sum_some f (y ∷ xs) x h some =
    elim (head_cases y xs x h) [
      | inl same ↦ let here = subst (λ z. 0 < f z) (sym same) some in omega (arith, here)
      | inr later ↦ let more = sum_some f xs x later some in omega (arith, more)
    ]

-- what a map to options gives
mapped : {X : Type 0} (f : X → Option ℕ) (x : X) (xs : List X) (p : ℕ) → f x ≡ Some p → filter_map f (x ∷ xs) ≡ p ∷ filter_map f xs
mapped f x xs p is = rw is refl

not_mapped : {X : Type 0} (f : X → Option ℕ) (x : X) (xs : List X) → f x ≡ None → filter_map f (x ∷ xs) ≡ filter_map f xs
not_mapped f x xs is = rw is refl

pub map_found : {X : Type 0} (f : X → Option ℕ) (xs : List X) (p : ℕ) → Contains (filter_map f xs) p → (x : X) × Contains xs x × (f x ≡ Some p)
map_found f [] p h = absurd (none_element p h)
map_found {X} f (x ∷ xs) p h = by (λ k. map_found f xs p k) (f x) refl
  where
    by : (Contains (filter_map f xs) p → (x : X) × Contains xs x × (f x ≡ Some p)) → (o : Option ℕ) → f x ≡ o → (y : X) × Contains (x ∷ xs) y × (f y ≡ Some p)
    by more None is = let r = more (subst (λ l. Contains l p) (not_mapped f x xs is) h) in (r.0, behind_head x xs r.0 r.1, r.2)
    by more (Some q) is =
        elim (head_cases q (filter_map f xs) p (subst (λ l. Contains l p) (mapped f x xs q is) h)) [
          | inl same ↦ (x, at_head x xs, is ∙ ap Some same)
          | inr later ↦ let r = more later in (r.0, behind_head x xs r.0 r.1, r.2)
        ]

pub map_has : {X : Type 0} (f : X → Option ℕ) (xs : List X) (x : X) (p : ℕ) → Contains xs x → f x ≡ Some p → Contains (filter_map f xs) p
map_has f [] x p h is = absurd (none_element x h)
map_has {X} f (y ∷ xs) x p h is =
    elim (head_cases y xs x h) [
      | inl same ↦ subst (λ l. Contains l p) (sym (mapped f y xs p (ap f same ∙ is))) (at_head p (filter_map f xs))
      | inr later ↦ by (map_has f xs x p later is) (f y) refl
    ]
  where
    by : Contains (filter_map f xs) p → (o : Option ℕ) → f y ≡ o → Contains (filter_map f (y ∷ xs)) p
    by more None none = subst (λ l. Contains l p) (sym (not_mapped f y xs none)) more
    by more (Some q) some = subst (λ l. Contains l p) (sym (mapped f y xs q some)) (behind_head q (filter_map f xs) p more)

-- one place under two numbers stands there twice
pub two_times : (xs : List ℕ) (i j x : ℕ) → slice_get xs i ≡ Some x → slice_get xs j ≡ Some x → i < j → 2 ≤ times x xs
two_times xs i j x here there lt =
    let before = in_times x (take j xs) (before_at xs i j x here lt) in
    let behind = in_times x (x ∷ drop (j + 1) xs) (at_head x (drop (j + 1) xs)) in
    let both = times_append x (take j xs) (x ∷ drop (j + 1) xs) in
    subst (λ l. 2 ≤ times x l) (sym (cut_at xs j x there)) (omega (arith, before, behind, both))

pub one_number : (xs : List ℕ) → ((p : ℕ) → times p xs ≤ 1) → (i j x : ℕ) → slice_get xs i ≡ Some x → slice_get xs j ≡ Some x → i ≡ j
one_number xs once i j x here there =
    elim (cases_lt i j) [
      | inl lt ↦ absurd (omega (arith, once x, two_times xs i j x here there lt))
      | inr ge ↦ elim (cases_lt j i) [ inl lt ↦ absurd (omega (arith, once x, two_times xs j i x there here lt)) | inr le ↦ omega (arith, ge, le) ]
    ]
