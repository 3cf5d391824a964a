-- Heads of the graph below that are still heads.
use Rattle.std.specs.Prelude.{ℕ, Bool, if◌then◌else◌, List, [], ◌∷◌, ◌++◌, slice_get, Option, Some, None}
use Rattle.command.specs.declared.command.Command.{Command}
use Rattle.command.specs.Wire.{command_id}

-- A place, where the id of the command there passes no test.
abbrev pub place_left : (List ℕ → Bool) → ℕ → Option Command → List ℕ
place_left test place None = []
place_left test place (Some c) = if test (command_id c) then [] else place ∷ []

-- Those of the places whose command's id passes no test.
abbrev pub places_left : (List ℕ → Bool) → List Command → List ℕ → List ℕ
places_left test cs [] = []
places_left test cs (place ∷ places) = place_left test place (slice_get cs place) ++ places_left test cs places
