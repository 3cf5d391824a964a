-- What a call does that reads values off a disk, one behind the other.
use Rattle.std.specs.Prelude.{◌≡◌, ◌≤◌, ◌-◌, ℕ, Bool, IsTrue, List, [], take, drop, Option, Some, None, Result, Ok, Err, ⊤}
use Rattle.outside.specs.Causes.{Rose}
use Rattle.outside.specs.Disk.{Content}
use Rattle.outside.specs.declared.faults.DiskStep.{DiskStep}
use Rattle.journal.specs.declared.span.Span.{Span}
use Rattle.journal.specs.declared.stop.Stop.{Stop}
use Rattle.journal.specs.declared.stop.Stop.TheVariants as stop

-- the bytes that a span has left
abbrev pub left : List ℕ → Span → List ℕ
left reads span = take (span.end - span.place) (drop span.place reads)

-- what a call answered: the value at the front, and the bytes behind it are left, or that none stands there; a call that failed
-- or ran out of memory says nothing
abbrev pub Reads : {X A : Type 0} → (X → A) → Result X Stop → List ℕ → Option (A × List ℕ) → Type 0
Reads view (Ok x) rest found = found ≡ Some (view x, rest)
Reads view (Err stop.Malformed) rest found = found ≡ None
Reads view (Err (stop.Disk step)) rest found = ⊤
Reads view (Err stop.NoMemory) rest found = ⊤

-- the same of a call that reads all of the bytes
abbrev pub ReadsAll : {X : Type 0} → Result X Stop → Option (X × List ℕ) → Type 0
ReadsAll (Ok x) found = found ≡ Some (x, [])
ReadsAll {X} (Err stop.Malformed) found = (x : X) → found ≡ Some (x, []) → ⊥
ReadsAll (Err (stop.Disk step)) found = ⊤
ReadsAll (Err stop.NoMemory) found = ⊤

-- where the disk failed, its count rose, and the step is what it was doing
abbrev pub FailsWith : {X : Type 0} → Result X Stop → ℕ → ℕ → Option DiskStep → Type 0
FailsWith (Ok x) before now last = ⊤
FailsWith (Err stop.Malformed) before now last = ⊤
FailsWith (Err (stop.Disk step)) before now last = Rose before now × (last ≡ Some step)
FailsWith (Err stop.NoMemory) before now last = ⊤

-- the disk didn't fail
abbrev pub FailsNever : {X : Type 0} → Result X Stop → Type 0
FailsNever (Ok x) = ⊤
FailsNever (Err stop.Malformed) = ⊤
FailsNever (Err (stop.Disk step)) = ⊥
FailsNever (Err stop.NoMemory) = ⊤

-- the disk holds what it held
pub record Keeps {D : Type 0} (tells : Bool) (content : D → Content) (honest : D → Bool) (faults : D → ℕ) (old new : D) : Type 0 where
  pub reads : IsTrue tells → (content new).reads ≡ (content old).reads
  pub same : IsTrue tells → IsTrue (honest old) → content new ≡ content old
  pub honesty : honest new ≡ honest old
  pub later : faults old ≤ faults new

-- the disk was looked at alone, and where that failed its count rose
pub record Looks {D X : Type 0} (tells : Bool) (content : D → Content) (honest : D → Bool) (faults : D → ℕ) (last_step : D → Option DiskStep) (old new : D) (result : Result X Stop) : Type 0 where
  pub kept : Keeps tells content honest faults old new
  pub cause : FailsWith result (faults old) (faults new) (last_step new)
