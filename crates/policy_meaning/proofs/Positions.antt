-- Places in a list of items and in the list with their lines are the same.
use Rattle.std.proofs.Common.{◌≡◌, suc, Bool, List, [], ◌∷◌, map, length, refl, ap}
use Rattle.std.specs.Prelude.{position}
use Rattle.std.specs.List.{position_or_len}

module _ {A B : Type 0} (p : B → Bool) (f : A → B) where
  pub places_behind : (xs : List A) → position_or_len p (map f xs) ≡ position_or_len (λ x. p (f x)) xs
  places_behind [] = refl
  places_behind (x ∷ xs) = rw (places_behind xs) refl

  pub lengths_behind : (xs : List A) → length (map f xs) ≡ length xs
  lengths_behind [] = refl
  lengths_behind (x ∷ xs) = ap suc (lengths_behind xs)

  pub position_behind : (xs : List A) → position p (map f xs) ≡ position (λ x. p (f x)) xs
  position_behind xs = rw (places_behind xs, lengths_behind xs) refl
