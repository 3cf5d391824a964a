-- The walk that marks what is known: once from the newest command to the oldest, with the ids that are known so far.
use Rattle.std.specs.Prelude.{◌≡◌, ℕ, Bool, if◌then◌else◌, List, [], ◌∷◌, ◌++◌, filter, not, slice_get}
use Rattle.std.specs.List.{filter_map, list_any}
use Rattle.std.specs.Str.{bytes_eq}
use Rattle.command.specs.Kinds.{parents_of}
use Rattle.command.specs.Wire.{command_id}
use Rattle.command.specs.declared.command.Command.{Command}

abbrev pub is_among : List (List ℕ) → List ℕ → Bool
is_among ids id = list_any (bytes_eq id) ids

-- The same ids stand in both.
abbrev pub HaveSame : List (List ℕ) → List (List ℕ) → Type 0
HaveSame one other = (id : List ℕ) → is_among one id ≡ is_among other id

-- With the parents of a command, where it is known.
abbrev pub with_parents : Command → List (List ℕ) → List (List ℕ)
with_parents c ids = if is_among ids (command_id c) then parents_of c ++ ids else ids

abbrev pub walked : List Command → List (List ℕ) → List (List ℕ)
walked [] ids = ids
walked (c ∷ cs) ids = with_parents c (walked cs ids)

-- The commands whose ids aren't among these.
abbrev pub unknown : List Command → List (List ℕ) → List Command
unknown cs ids = filter (λ c. not (is_among ids (command_id c))) cs

abbrev pub commands_at : List Command → List ℕ → List Command
commands_at cs places = filter_map (slice_get cs) places
