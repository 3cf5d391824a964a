-- Rows of the definitions, worked out by computing.
use Rattle.std.proofs.Common.{◌≡◌, [], ◌∷◌, Some, None, refl, true}
use Rattle.std.specs.Int.{w8}
use Rattle.base_bytes.specs.Pieces.{counted, listed}
use Rattle.base_bytes.specs.Reading.{counted_at, flag_at, inside, listed_at, number_at}

counted_row : counted w8 (7 ∷ 8 ∷ []) ≡ 2 ∷ 7 ∷ 8 ∷ []
counted_row = refl

listed_row : listed w8 (counted w8) ((7 ∷ []) ∷ [] ∷ []) ≡ 2 ∷ 1 ∷ 7 ∷ 0 ∷ []
listed_row = refl

short_row : counted_at w8 (3 ∷ 7 ∷ 8 ∷ []) ≡ None
short_row = refl

listed_at_row : listed_at w8 2 (counted_at w8) (2 ∷ 1 ∷ 7 ∷ 0 ∷ 9 ∷ []) ≡ Some ((7 ∷ []) ∷ [] ∷ [], 9 ∷ [])
listed_at_row = refl

many_row : listed_at w8 2 (number_at w8) (3 ∷ 1 ∷ 1 ∷ 1 ∷ []) ≡ None
many_row = refl

inside_row : inside (counted_at w8) flag_at (1 ∷ 1 ∷ 9 ∷ []) ≡ Some (true, 9 ∷ [])
inside_row = refl

behind_row : inside (counted_at w8) flag_at (2 ∷ 1 ∷ 9 ∷ []) ≡ None
behind_row = refl
