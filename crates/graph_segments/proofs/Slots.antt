-- Elements of a list at places, where one is added or replaced.
use Rattle.std.proofs.Common.{◌≡◌, ℕ, zero, suc, ◌<◌, ◌⊎◌, inl, inr, List, [], ◌∷◌, ◌++◌, length, set, slice_get, get_or, Some, refl, sym, ap, ◌∙◌, arith}

pub slot_end : {X : Type 0} (xs : List X) (y : X) → slice_get (xs ++ y ∷ []) (length xs) ≡ Some y
slot_end [] y = refl
slot_end (x ∷ xs) y = slot_end xs y

pub slot_left : {X : Type 0} (xs ys : List X) (p : ℕ) (z : X) → slice_get xs p ≡ Some z → slice_get (xs ++ ys) p ≡ Some z
slot_left [] ys p z is = absurd cc
slot_left (x ∷ xs) ys zero z is = is
slot_left (x ∷ xs) ys (suc p) z is = slot_left xs ys p z is

pub slot_cases : {X : Type 0} (xs : List X) (y : X) (p : ℕ) (z : X) → slice_get (xs ++ y ∷ []) p ≡ Some z → ((p < length xs) × (slice_get xs p ≡ Some z)) ⊎ ((p ≡ length xs) × (y ≡ z))
slot_cases [] y zero z is = inr (refl, cc)
slot_cases [] y (suc p) z is = absurd cc
slot_cases (x ∷ xs) y zero z is = inl (omega arith, is)
slot_cases (x ∷ xs) y (suc p) z is = elim (slot_cases xs y p z is) [ inl old ↦ inl (omega (arith, old.0), old.1) | inr new ↦ inr (ap suc new.0, new.1) ]

pub slot_set_same : {X : Type 0} (xs : List X) (i : ℕ) (y z : X) → slice_get xs i ≡ Some y → slice_get (set xs i z) i ≡ Some z
slot_set_same [] i y z is = absurd cc
slot_set_same (x ∷ xs) zero y z is = refl
slot_set_same (x ∷ xs) (suc i) y z is = slot_set_same xs i y z is

pub slot_set_other : {X : Type 0} (xs : List X) (i j : ℕ) (y z : X) → (j ≡ i → ⊥) → slice_get xs j ≡ Some y → slice_get (set xs i z) j ≡ Some y
slot_set_other [] i j y z differ is = absurd cc
slot_set_other (x ∷ xs) zero zero y z differ is = absurd (differ refl)
slot_set_other (x ∷ xs) zero (suc j) y z differ is = is
slot_set_other (x ∷ xs) (suc i) zero y z differ is = is
slot_set_other (x ∷ xs) (suc i) (suc j) y z differ is = slot_set_other xs i j y z (λ same. differ (ap suc same)) is

pub slot_set_cases : {X : Type 0} (xs : List X) (i j : ℕ) (y z : X) → slice_get (set xs i z) j ≡ Some y → ((j ≡ i) × (z ≡ y)) ⊎ ((j ≡ i → ⊥) × (slice_get xs j ≡ Some y))
slot_set_cases [] i j y z is = absurd cc
slot_set_cases (x ∷ xs) zero zero y z is = inl (refl, cc)
slot_set_cases (x ∷ xs) zero (suc j) y z is = inr ((λ same. absurd (omega (arith, same))), is)
slot_set_cases (x ∷ xs) (suc i) zero y z is = inr ((λ same. absurd (omega (arith, same))), is)
slot_set_cases (x ∷ xs) (suc i) (suc j) y z is =
    elim (slot_set_cases xs i j y z is) [
      | inl here ↦ inl (ap suc here.0, here.1)
      | inr there ↦ inr ((λ same. there.0 (omega (arith, same))), there.1)
    ]

pub one_slot : {X : Type 0} (o : List X) (i : ℕ) (y z : X) → slice_get o i ≡ Some y → slice_get o i ≡ Some z → y ≡ z
one_slot o i y z one other = let both : Some y ≡ Some z = sym one ∙ other in cc
