-- The sample of a graph: the ids of its last commands at doubling distances, and of its first.
use Rattle.std.specs.Prelude.{ℕ, zero, suc, ◌+◌, ◌-◌, if◌then◌else◌, List, [], ◌∷◌, ◌++◌, filter, length, map, nat_eq, nat_le, option_map, slice_get}
use Rattle.std.specs.List.{filter_map, list_any}
use Rattle.command.specs.Wire.{command_id}
use Rattle.command.specs.declared.command.Command.{Command}

-- So many numbers, of which each is double the one before.
abbrev pub doubled : ℕ → ℕ → List ℕ
doubled zero n = []
doubled (suc k) n = n ∷ doubled k (n + n)

-- How far from behind the last command: 1, 2, 4 and so on up to 65,536, as many commands as a graph holds at most.
unfoldable pub distances : List ℕ
distances = doubled 17 1

-- Of a list of so many commands, the places n - 1, n - 2, n - 4, n - 8 and so on.
abbrev pub last_places : ℕ → List ℕ
last_places n = map (λ distance. n - distance) (filter (λ distance. nat_le distance n) distances)

-- These places and the first, once.
abbrev pub with_first : List ℕ → List ℕ
with_first places = if list_any (nat_eq 0) places then places else places ++ 0 ∷ []

-- The places that stand in the sample of so many commands. No commands have an empty sample.
abbrev pub sample_places : ℕ → List ℕ
sample_places n = if nat_eq n 0 then [] else with_first (last_places n)

-- The ids of the commands at these places.
abbrev pub ids_at : List Command → List ℕ → List (List ℕ)
ids_at cs places = filter_map (λ place. option_map command_id (slice_get cs place)) places

-- The sample of a list of commands.
abbrev pub sample : List Command → List (List ℕ)
sample cs = ids_at cs (sample_places (length cs))
