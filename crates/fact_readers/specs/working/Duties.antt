-- What a reader keeps of its lessons, so that its next read heeds them all.
use Rattle.std.specs.Prelude.{◌≤◌, ℕ, All, IsTrue, List, length}
use mathlib.Core.List.{IsPrefix}
use Rattle.fact_readers.specs.declared.change.RowChange.{RowChange}
use Rattle.fact_readers.specs.Readers.{Lesson}

-- The told list begins the longest one; where a `tell_last` told it, its length is within the bounds.
abbrev pub IsWithin : List (List RowChange) → ℕ → ℕ → Lesson → Type 0
IsWithin longest most fewest lesson = IsPrefix lesson.0 longest × (IsTrue lesson.1 → (fewest ≤ length lesson.0) × (length lesson.0 ≤ most))

-- What was seen and each list that was told begin the longest one, and the bounds hold of those that a `tell_last` told.
pub record IsDuty (longest : List (List RowChange)) (most fewest : ℕ) (seen : List (List RowChange)) (learnt : List Lesson) : Type 0 where
  pub seen_begins : IsPrefix seen longest
  pub within : All (IsWithin longest most fewest) learnt
