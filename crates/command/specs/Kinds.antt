-- What a graph sees of a command: its parents, its kind and its priority.
use Rattle.std.specs.Prelude.{ℕ, Bool, true, false, List, [], ◌∷◌, Option}
use Rattle.command.specs.declared.command.Command.{Command}
use Rattle.command.specs.declared.command.Command.TheVariants.{Init, Basic, Finalize, Merge}

-- the cut that it carries: a command of version 2 does
abbrev pub carried : Command → Option ℕ
carried (Init cut digest author name payload tag) = cut
carried (Basic cut priority parent author name payload tag) = cut
carried (Finalize cut parent author name payload tag) = cut
carried (Merge cut left right) = cut

-- the ids of the parents, the left one first
abbrev pub parents_of : Command → List (List ℕ)
parents_of (Init cut digest author name payload tag) = []
parents_of (Basic cut priority parent author name payload tag) = parent ∷ []
parents_of (Finalize cut parent author name payload tag) = parent ∷ []
parents_of (Merge cut left right) = left ∷ right ∷ []

abbrev pub is_init : Command → Bool
is_init (Init cut digest author name payload tag) = true
is_init other = false

abbrev pub is_finalize : Command → Bool
is_finalize (Finalize cut parent author name payload tag) = true
is_finalize other = false

abbrev pub is_merge : Command → Bool
is_merge (Merge cut left right) = true
is_merge other = false

-- that of a basic command; every other has priority 0
abbrev pub priority_of : Command → ℕ
priority_of (Basic cut priority parent author name payload tag) = priority
priority_of other = 0
