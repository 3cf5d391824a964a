-- A turn behind all that was seen.
use Rattle.std.proofs.Common.{◌≡◌, ℕ, List, [], ◌∷◌, ◌++◌, ap, ◌∙◌}
use Rattle.turn_lock.specs.Turns.{Adds, Continues}

pub adds_of : {X : Type 0} (caller : X → ℕ) (ns : List ℕ) (seen v whole : List X) (x : X) → Continues caller ns seen v → whole ≡ v ++ x ∷ [] → Adds caller ns seen whole x
adds_of caller ns seen v whole x c is = (c.rest, is ∙ ap (λ l. l ++ x ∷ []) c.split, c.apart)
