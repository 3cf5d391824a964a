-- What contracts see of a reader and of what it is told, and which commits a read sees.
use Rattle.std.specs.Prelude.{◌≡◌, Bool, All, IsTrue, List, [], ◌∷◌, ◌++◌}
use mathlib.Core.List.{IsPrefix}
use Rattle.fact_readers.specs.declared.change.RowChange.{RowChange}

-- A list of commits, and whether a `tell_last` told it.
abbrev pub Lesson : Type 0
Lesson = List (List RowChange) × Bool

-- A reader: the commits that it has seen, and what it has learnt since its last read.
pub record Reading : Type 0 where
  pub seen : List (List RowChange)
  pub learnt : List Lesson

-- The list goes on from what was told, and equals it where a `tell_last` told it.
abbrev pub Heeds : List (List RowChange) → Lesson → Type 0
Heeds commits lesson = IsPrefix lesson.0 commits × (IsTrue lesson.1 → commits ≡ lesson.0)

-- A read sees these commits: they begin with all that the reader had seen, and heed all that it had learnt.
pub record Sees (before : Reading) (commits : List (List RowChange)) : Type 0 where
  pub later : IsPrefix before.seen commits
  pub heeds : All (Heeds commits) before.learnt

-- A reader that has learnt nothing since it saw these commits.
abbrev pub seen_only : List (List RowChange) → Reading
seen_only commits = record { seen = commits; learnt = [] }

-- The reader once it has learnt one lesson more.
abbrev pub taught : Reading → Lesson → Reading
taught r lesson = record { seen = r.seen; learnt = r.learnt ++ lesson ∷ [] }
