-- Lists: facts of each element and what stands before it, and inductions from the end.
use Rattle.std.proofs.Common.{◌≡◌, ◌⊎◌, inl, inr, List, [], ◌∷◌, ◌++◌, reverse, refl, sym, ap, subst, append_assoc, append-nil, arith}
use Rattle.std.specs.List.{Contains}
use Rattle.std.proofs.lemmas.List.{reverse-reverse, reverse-append}
use Rattle.std.proofs.lemmas.List.Elements.{Contains-append_left, Contains-append_right, Contains-append_cases, Contains-push, Contains-push_cases}
use Rattle.command.specs.Each.{Each, EachAfter}

-- a fact of each list by adding at its end
pub from_end : {X : Type 0} (P : List X → Type 0) → P [] → ((xs : List X) (x : X) → P xs → P (xs ++ x ∷ [])) → (xs : List X) → P xs
from_end {X} P none more xs = subst P (reverse-reverse xs) (go (reverse xs))
  where
    go : (ys : List X) → P (reverse ys)
    go [] = none
    go (y ∷ ys) = subst P (sym (reverse-append (y ∷ []) ys)) (more (reverse ys) y (go ys))

pub end_cases : {X : Type 0} (xs : List X) → (xs ≡ []) ⊎ ((front : List X) × (x : X) × (xs ≡ front ++ x ∷ []))
end_cases {X} xs = from_end (λ xs. (xs ≡ []) ⊎ ((front : List X) × (x : X) × (xs ≡ front ++ x ∷ []))) (inl refl) (λ ys y h. inr (ys, y, refl)) xs

-- the element of a list of one
pub one_element : {X : Type 0} (x y : X) → Contains (x ∷ []) y → x ≡ y
one_element x y h = elim (Contains-push_cases [] x y h) [ inl none ↦ absurd (omega (arith, none.1)) | inr same ↦ same ]

pub none_element : {X : Type 0} (y : X) → Contains [] y → ⊥
none_element y h = omega (arith, h.1)

-- the first element, or one behind it
pub head_cases : {X : Type 0} (x : X) (xs : List X) (y : X) → Contains (x ∷ xs) y → (x ≡ y) ⊎ Contains xs y
head_cases x xs y h = elim (Contains-append_cases (x ∷ []) xs y h) [ inl here ↦ inl (one_element x y here) | inr later ↦ inr later ]

pub at_head : {X : Type 0} (x : X) (xs : List X) → Contains (x ∷ xs) x
at_head x xs = Contains-append_left (x ∷ []) xs x (Contains-push [] x)

pub behind_head : {X : Type 0} (x : X) (xs : List X) (y : X) → Contains xs y → Contains (x ∷ xs) y
behind_head x xs y h = Contains-append_right (x ∷ []) xs y h

-- where an element stands
pub split_at : {X : Type 0} (xs : List X) (y : X) → Contains xs y → (front : List X) × (behind : List X) × (xs ≡ front ++ y ∷ behind)
split_at [] y h = absurd (none_element y h)
split_at (x ∷ xs) y h =
    elim (head_cases x xs y h) [
      | inl same ↦ ([], xs, ap (λ z. z ∷ xs) same)
      | inr later ↦ let r = split_at xs y later in (x ∷ r.0, r.1, ap (λ l. x ∷ l) r.2)
    ]

pub in_middle : {X : Type 0} (front : List X) (y : X) (behind : List X) → Contains (front ++ y ∷ behind) y
in_middle front y behind = Contains-append_right front (y ∷ behind) y (at_head y behind)

module _ {X : Type 0} (P : List X → X → Type 0) where
  pub each_left : (front xs ys : List X) → EachAfter P front (xs ++ ys) → EachAfter P front xs
  each_left front [] ys h = tt
  each_left front (x ∷ xs) ys h = (h.0, each_left (front ++ x ∷ []) xs ys h.1)

  pub each_right : (front xs ys : List X) → EachAfter P front (xs ++ ys) → EachAfter P (front ++ xs) ys
  each_right front [] ys h = subst (λ f. EachAfter P f ys) (sym (append-nil front)) h
  each_right front (x ∷ xs) ys h = subst (λ f. EachAfter P f ys) (append_assoc front (x ∷ []) xs) (each_right (front ++ x ∷ []) xs ys h.1)

  pub each_join : (front xs ys : List X) → EachAfter P front xs → EachAfter P (front ++ xs) ys → EachAfter P front (xs ++ ys)
  each_join front [] ys h k = subst (λ f. EachAfter P f ys) (append-nil front) k
  each_join front (x ∷ xs) ys h k = (h.0, each_join (front ++ x ∷ []) xs ys h.1 (subst (λ f. EachAfter P f ys) (sym (append_assoc front (x ∷ []) xs)) k))

  -- a list with one more at its end
  pub each_before : (xs : List X) (x : X) → Each P (xs ++ x ∷ []) → Each P xs
  each_before xs x h = each_left [] xs (x ∷ []) h

  pub each_last : (xs : List X) (x : X) → Each P (xs ++ x ∷ []) → P xs x
  each_last xs x h = (each_right [] xs (x ∷ []) h).0

  pub each_more : (xs : List X) (x : X) → Each P xs → P xs x → Each P (xs ++ x ∷ [])
  each_more xs x h p = each_join [] xs (x ∷ []) h (p, tt)

  -- an element in the middle
  pub each_cut : (xs : List X) (x : X) (ys : List X) → Each P (xs ++ x ∷ ys) → P xs x
  each_cut xs x ys h = (each_right [] xs (x ∷ ys) h).0

-- another front, and another fact, where both go on from element to element
pub each_fronts : {X : Type 0} (P Q : List X → X → Type 0) (R : List X → List X → Type 0) → ((f g : List X) (x : X) → R f g → R (f ++ x ∷ []) (g ++ x ∷ [])) →
    ((f g : List X) (x : X) → R f g → P f x → Q g x) → (f g xs : List X) → R f g → EachAfter P f xs → EachAfter Q g xs
each_fronts P Q R more takes f g [] r h = tt
each_fronts P Q R more takes f g (x ∷ xs) r h = (takes f g x r h.0, each_fronts P Q R more takes (f ++ x ∷ []) (g ++ x ∷ []) xs (more f g x r) h.1)
