-- Ids that are added one by one.
use Rattle.std.proofs.Common.{Bool, true, false, ◌≡◌, ◌||◌, ℕ, List, ◌∷◌, refl, ap, ◌∙◌}
use Rattle.std.specs.List.{list_any}
use Rattle.std.specs.Str.{bytes_eq}
use Rattle.graph_over.specs.working.Ids.{AreAdded, IsAdded}

either_of_three : (a b c : Bool) → ((a || b) || c) ≡ (a || (b || c))
either_of_three true b c = refl
either_of_three false b c = refl

-- the first, and then the rest
pub first_added : (old mid new : List (List ℕ)) (first : List ℕ) (rest : List (List ℕ)) → IsAdded old first mid → AreAdded mid rest new → AreAdded old (first ∷ rest) new
first_added old mid new first rest one others id =
    others id ∙ ap (λ b. b || list_any (bytes_eq id) rest) (one id) ∙ either_of_three (list_any (bytes_eq id) old) (bytes_eq id first) (list_any (bytes_eq id) rest)
