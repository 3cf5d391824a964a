-- What a write to a sink takes and adds.
use Rattle.std.specs.Prelude.{ℕ, ◌<◌, ◌≤◌, List, length, take, Option, IfOk, Result, Ok, Err}
use Rattle.std.specs.Io.KnownBytes.{append_known}
use Rattle.outside.specs.declared.faults.Failed.{Failed}

-- the number of bytes that were taken: at least one, and no more than there are
abbrev pub TakesSome : Result ℕ Failed → List ℕ → Type 0
TakesSome result piece = IfOk result (λ n. (0 < n) × (n ≤ length piece))

-- what is written after a write of this piece, where it is told: the bytes taken are added, and none at a failure
abbrev pub written_after : Result ℕ Failed → List ℕ → Option (List ℕ) → Option (List ℕ)
written_after (Ok n) piece before = append_known before (take n piece)
written_after (Err e) piece before = before
