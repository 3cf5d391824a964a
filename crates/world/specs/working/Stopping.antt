-- What a refusal stops a run with, and what a stop tells of.
use Rattle.std.specs.Prelude.{◌≡◌, List, ℕ}
use Rattle.journal.specs.declared.fault.OpenFault.{OpenFault}
use Rattle.replica.specs.declared.refusal.Refusal.{Refusal}
use Rattle.replica.specs.declared.refusal.Refusal.TheVariants as refusal
use Rattle.transaction.specs.declared.fault.ActFault.TheVariants as fault
use Rattle.world.specs.declared.stop.RunStop.{RunStop}
use Rattle.world.specs.declared.stop.RunStop.TheVariants as stop

-- A restart names its journal before it comes to this; no other call refuses one.
abbrev pub IsStopBy : Refusal → RunStop → Type 0
IsStopBy (refusal.Act fault.SealFault) why = why ≡ stop.SealFault
IsStopBy (refusal.Act fault.NoMemory) why = why ≡ stop.NoMemory
IsStopBy (refusal.DiskFault step) why = why ≡ stop.DiskFault
IsStopBy (refusal.Down step) why = why ≡ stop.DiskFault
IsStopBy (refusal.Journal cause) why = why ≡ stop.DiskFault
IsStopBy refusal.NoMemory why = why ≡ stop.NoMemory
IsStopBy other why = ⊥

-- What a refusal tells of that stops a run: a failed seal, or a failed disk. A replica that is up never says that it is down.
abbrev pub IsCausedBy : Type 0 → Type 0 → Refusal → Type 0
IsCausedBy sealed failed (refusal.Act fault.SealFault) = sealed
IsCausedBy sealed failed (refusal.DiskFault step) = failed
IsCausedBy sealed failed (refusal.Down step) = ⊥
IsCausedBy sealed failed (refusal.Journal cause) = ⊥
IsCausedBy sealed failed other = Unit {0}

-- What a stop tells of: a failed seal, a failed disk, or a refused journal.
abbrev pub IsStopFor : Type 0 → Type 0 → (List ℕ → OpenFault → Type 0) → RunStop → Type 0
IsStopFor sealed failed refused stop.DiskFault = failed
IsStopFor sealed failed refused stop.SealFault = sealed
IsStopFor sealed failed refused (stop.Journal name cause) = refused name cause
IsStopFor sealed failed refused stop.NoMemory = Unit {0}

-- No journal is refused.
abbrev pub NoJournal : List ℕ → OpenFault → Type 0
NoJournal name cause = ⊥
