-- Cuts: how far a command is from an init, by its longest chain of links.
use Rattle.std.specs.Prelude.{ℕ, ◌+◌, max, List, [], ◌∷◌, ◌++◌, map, get_or, Option, Some, None}
use Rattle.command.specs.declared.command.Command.{Command}
use Rattle.command.specs.Places.{place_of}
use Rattle.command.specs.Kinds.{parents_of}

-- the number at a place, and 0 where there is none
abbrev pub number_at : List ℕ → Option ℕ → ℕ
number_at numbers None = 0
number_at numbers (Some place) = get_or numbers place 0

-- one more than the greatest of these, and 0 where there are none
abbrev pub one_above : List ℕ → ℕ
one_above [] = 0
one_above (n ∷ ns) = max (n + 1) (one_above ns)

-- the cut of the next command, which has these parents, where those of the commands before it are known
abbrev pub next_cut : List Command → List ℕ → List (List ℕ) → ℕ
next_cut front cuts parents = one_above (map (λ id. number_at cuts (place_of front id)) parents)

abbrev pub cuts_from : List Command → List ℕ → List Command → List ℕ
cuts_from front cuts [] = cuts
cuts_from front cuts (c ∷ cs) = cuts_from (front ++ c ∷ []) (cuts ++ next_cut front cuts (parents_of c) ∷ []) cs

-- the cuts of the commands, in stored order: that of an init is 0, that of another one more than the greatest cut of a parent
abbrev pub cuts : List Command → List ℕ
cuts cs = cuts_from [] [] cs

-- the cut of the command with this id
abbrev pub cut_of_id : List Command → List ℕ → ℕ
cut_of_id cs id = number_at (cuts cs) (place_of cs id)

-- the cut of a command behind these
abbrev pub cut_behind : List Command → Command → ℕ
cut_behind front c = one_above (map (cut_of_id front) (parents_of c))
