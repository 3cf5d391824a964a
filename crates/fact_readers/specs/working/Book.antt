-- The rule of the book of all commits, and what its steps tell.
use Rattle.std.specs.Option.{option_to_list}
use Rattle.std.specs.Prelude.{◌≡◌, ℕ, ◌==◌, true, List, [], ◌∷◌, ◌++◌, length, MatchBool, Option, Some, None}
use Rattle.logbook.specs.Pages.{Cell, Step, View, Book, Named}
use Rattle.fact_readers.specs.declared.change.RowChange.{RowChange}

-- The first word counts the commits. A book has two words, of which this one leaves the second at 0.
abbrev pub IsKept : List Cell → List (List RowChange) → Type 0
IsKept cells log = cells ≡ (length log, true) ∷ (0, true) ∷ []

-- The first word of the book.
abbrev pub head_of : Book → Named
head_of b = record { tracked = true; key = 0; book = b }

-- The commit was added to all that had been seen; or the book was longer.
abbrev pub Adds : Step (List RowChange) → View (List RowChange) ℕ → ℕ → View (List RowChange) ℕ → Type 0
Adds s v found w = MatchBool (found == s.old) (w.0 ≡ v.0 ++ s.ask ∷ []) (length w.0 ≡ found)

-- The last element of a list.
abbrev pub last_of : {A : Type 0} → List A → Option A
last_of [] = None
last_of (x ∷ []) = Some x
last_of (x ∷ y ∷ xs) = last_of (y ∷ xs)

-- The book has the commits that are shown, then those of the copies' log, then the one that is held.
abbrev pub IsLaid : List (List RowChange) → List (List RowChange) → List (List RowChange) → Option (List RowChange) → Type 0
IsLaid front shown log held = front ≡ shown ++ (log ++ option_to_list held)
