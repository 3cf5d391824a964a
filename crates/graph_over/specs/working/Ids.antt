-- Ids that are gathered.
use Rattle.std.specs.Prelude.{◌≡◌, ℕ, ◌||◌, List}
use Rattle.std.specs.List.{list_any}
use Rattle.std.specs.Str.{bytes_eq}

-- the ids with one more, if it wasn't there
abbrev pub IsAdded : List (List ℕ) → List ℕ → List (List ℕ) → Type 0
IsAdded ids one next = (id : List ℕ) → list_any (bytes_eq id) next ≡ (list_any (bytes_eq id) ids || bytes_eq id one)

-- the ids with others more
abbrev pub AreAdded : List (List ℕ) → List (List ℕ) → List (List ℕ) → Type 0
AreAdded ids others next = (id : List ℕ) → list_any (bytes_eq id) next ≡ (list_any (bytes_eq id) ids || list_any (bytes_eq id) others)
