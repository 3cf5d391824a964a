-- What contracts see of a writer, and what its calls make of it.
use Rattle.std.specs.Prelude.{◌≡◌, Bool, true, false, List, [], ◌∷◌, ◌++◌}
use Rattle.fact_readers.specs.declared.change.RowChange.{RowChange}

-- A writer: the commits that are published, those that are pending, and whether a `tell_last` was made.
pub record Writing : Type 0 where
  pub published : List (List RowChange)
  pub pending : List (List RowChange)
  pub told_last : Bool

-- A writer without commits.
abbrev pub without_commits : Writing
without_commits = record { published = []; pending = []; told_last = false }

-- The writer with one commit more that is pending.
abbrev pub one_more_pending : Writing → List RowChange → Writing
one_more_pending w commit = record { published = w.published; pending = w.pending ++ commit ∷ []; told_last = w.told_last }

-- The writer once all pending commits are published.
abbrev pub all_published : Writing → Writing
all_published w = record { published = w.published ++ w.pending; pending = []; told_last = w.told_last }

-- The writer after a `tell_last`.
abbrev pub told_the_last : Writing → Writing
told_the_last w = record { published = w.published; pending = w.pending; told_last = true }

-- Each of the two copies stands for a list of commits, and absorbing a commit adds it to the list.
abbrev pub IsPlain : (List (List RowChange) → List (List RowChange)) → (List (List RowChange) → List RowChange → List (List RowChange)) → Type 0
IsPlain state applied = ((v : List (List RowChange)) → state v ≡ v) × ((commits : List (List RowChange)) (commit : List RowChange) → applied commits commit ≡ commits ++ commit ∷ [])
