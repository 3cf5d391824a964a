-- What the calls do that write a record.
use Rattle.std.specs.Prelude.{◌≡◌, ◌≤◌, ◌⊎◌, ◌+◌, ℕ, Bool, IfErr, List, [], ◌∷◌, length, Option, Some, Result, MatchResult}
use Rattle.outside.specs.Causes.{Rose}
use Rattle.outside.specs.Disk.{Content, FailsWrite, after_sync, after_write}
use Rattle.outside.specs.declared.faults.DiskStep.{DiskStep}

-- a piece that was written and made sure of
abbrev pub through : ℕ → List ℕ → Content → Content
through at piece content = after_sync (after_write at piece content)

-- the write failed, or the sync behind it
abbrev pub FailsThrough : ℕ → List ℕ → Content → Content → Type 0
FailsThrough at piece old new = FailsWrite at (length piece) old new ⊎ (new ≡ after_write at piece old)

-- a write and a sync, both done or not
abbrev pub WritesThrough : {X : Type 0} → ℕ → List ℕ → Content → Content → Result X DiskStep → Type 0
WritesThrough at piece old new result = MatchResult result (λ done. new ≡ through at piece old) (λ step. FailsThrough at piece old new)

-- all that stands behind the gate, and then the gate
abbrev pub WritesRecord : {X : Type 0} → ℕ → List ℕ → Content → Content → Result X DiskStep → Type 0
WritesRecord gate bytes old new result = MatchResult result
    (λ done. new ≡ through gate (1 ∷ []) (through (gate + 1) bytes old))
    (λ step. FailsThrough (gate + 1) bytes old new ⊎ FailsThrough gate (1 ∷ []) (through (gate + 1) bytes old) new)

-- the disk stays honest, or not; its count doesn't fall; and where it failed its count rose, and the step is what it was doing
pub record Writes {D X : Type 0} (honest : D → Bool) (faults : D → ℕ) (last_step : D → Option DiskStep) (old new : D) (result : Result X DiskStep) : Type 0 where
  pub honesty : honest new ≡ honest old
  pub later : faults old ≤ faults new
  pub cause : IfErr result (λ step. Rose (faults old) (faults new) × (last_step new ≡ Some step))
