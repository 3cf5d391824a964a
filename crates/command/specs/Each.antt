-- Facts of each element of a list and of what stands before it.
use Rattle.std.specs.Prelude.{List, [], ◌∷◌, ◌++◌}

-- P of each element and of what stands before it, where `front` stands before them all
abbrev pub EachAfter : {X : Type 0} → (List X → X → Type 0) → List X → List X → Type 0
EachAfter P front [] = Unit {0}
EachAfter P front (x ∷ xs) = P front x × EachAfter P (front ++ x ∷ []) xs

abbrev pub Each : {X : Type 0} → (List X → X → Type 0) → List X → Type 0
Each P xs = EachAfter P [] xs
