-- How a run ends, by its statuses; and which counts must have risen where it was halted.
use Rattle.std.specs.Prelude.{◌≡◌, ◌≢◌, ◌⊎◌, ℕ, ◌≤◌, Bool, List, Option, Some, None, Result, Ok, Err}
use Rattle.outside.specs.Causes.{Rose}
use Rattle.world.specs.Stops.{AreAsHonest, NoneFell}
use Rattle.aranyad.specs.declared.ending.Ending.{Ending}
use Rattle.aranyad.specs.declared.ending.Ending.TheVariants as ending
use Rattle.aranyad.specs.declared.ending.Halt.{Halt}
use Rattle.aranyad.specs.declared.ending.Halt.TheVariants as halt
use Rattle.aranyad.specs.declared.mode.Mode.{Mode}
use Rattle.aranyad.specs.declared.mode.Mode.TheVariants.{Check, Run}
use Rattle.aranyad.specs.declared.status.Status.{Status}
use Rattle.aranyad.specs.declared.status.Status.TheVariants as status

abbrev pub ending_status : Ending → Status
ending_status ending.Done = status.Done
ending_status ending.PolicyRefused = status.PolicyRefused
ending_status ending.Usage = status.Usage
ending_status ending.ScriptRefused = status.ScriptRefused
ending_status ending.TooLarge = status.TooLarge
ending_status ending.JournalRefused = status.JournalRefused

abbrev pub halt_status : Halt → Status
halt_status halt.Read = status.ReadFault
halt_status halt.Write = status.WriteFault
halt_status halt.Disk = status.DiskFault
halt_status halt.Seal = status.SealFault
halt_status halt.Memory = status.NoMemory

abbrev pub status_of : Result Ending Halt → Status
status_of (Ok end) = ending_status end
status_of (Err why) = halt_status why

-- The counts of faults of the files, of the envelope and of the sink.
pub record Counts : Type 0 where
  pub files : ℕ
  pub seals : ℕ
  pub writes : ℕ

abbrev pub counts : ℕ → ℕ → ℕ → Counts
counts files seals writes = record { files = files; seals = seals; writes = writes }

-- No count fell, a halt by a device needs that its count rose, and the words were of a mode. `disks` says that the count of some disk rose.
pub record HaltsWithCause (disks : Type 0) (old new : Counts) (result : Result Ending Halt) : Type 0 where
  pub later_files : old.files ≤ new.files
  pub later_seals : old.seals ≤ new.seals
  pub later_writes : old.writes ≤ new.writes
  pub read : result ≡ Err halt.Read → Rose old.files new.files
  pub disk : result ≡ Err halt.Disk → disks
  pub seal : result ≡ Err halt.Seal → Rose old.seals new.seals
  pub write : result ≡ Err halt.Write → Rose old.writes new.writes
  pub no_usage : result ≢ Ok ending.Usage

-- The same of a read of the file with this name, which no other device halts.
pub record ReadHalts {T : Type 0} (name : List ℕ) (old new : ℕ) (last : Option (List ℕ)) (result : Result T Halt) : Type 0 where
  pub later : old ≤ new
  pub failed : result ≡ Err halt.Read → Rose old new × (last ≡ Some name)
  pub no_seal : result ≢ Err halt.Seal
  pub no_disk : result ≢ Err halt.Disk
  pub no_write : result ≢ Err halt.Write

-- The same of a write.
pub record WriteHalts {T : Type 0} (old new : ℕ) (result : Result T Halt) : Type 0 where
  pub later : old ≤ new
  pub write : result ≡ Err halt.Write → Rose old new
  pub no_read : result ≢ Err halt.Read
  pub no_disk : result ≢ Err halt.Disk
  pub no_seal : result ≢ Err halt.Seal
  pub no_memory : result ≢ Err halt.Memory

-- The same of a line that is made and written: memory may lack too.
pub record SaysOrLacks (old new : ℕ) (result : Result Ending Halt) : Type 0 where
  pub no_usage : result ≢ Ok ending.Usage
  pub later : old ≤ new
  pub write : result ≡ Err halt.Write → Rose old new
  pub no_read : result ≢ Err halt.Read
  pub no_disk : result ≢ Err halt.Disk
  pub no_seal : result ≢ Err halt.Seal

-- The same of lines that are run: the envelope, the sink and the disks alone may halt them.
pub record LinesHalt (disks : Type 0) (seals_old seals_new writes_old writes_new : ℕ) (result : Result Ending Halt) : Type 0 where
  pub no_usage : result ≢ Ok ending.Usage
  pub later_seals : seals_old ≤ seals_new
  pub later_writes : writes_old ≤ writes_new
  pub no_read : result ≢ Err halt.Read
  pub disk : result ≡ Err halt.Disk → disks
  pub seal : result ≡ Err halt.Seal → Rose seals_old seals_new
  pub write : result ≡ Err halt.Write → Rose writes_old writes_new

-- Of disks in their order no count fell, and each is as honest as it was.
abbrev pub AreLater : {D : Type 0} → (D → ℕ) → (D → Bool) → List D → List D → Type 0
AreLater faults honest old new = NoneFell faults old new × AreAsHonest honest old new

-- The latest failed read is of a file that the words give.
abbrev pub IsGiven : Option Mode → Option (List ℕ) → Type 0
IsGiven None last = ⊥
IsGiven (Some (Check policy)) last = last ≡ Some policy
IsGiven (Some (Run policy script store)) last = (last ≡ Some policy) ⊎ (last ≡ Some script)

-- Scripts are run, and so seals are asked for and disks used.
abbrev pub RunsScripts : Option Mode → Type 0
RunsScripts None = ⊥
RunsScripts (Some (Check policy)) = ⊥
RunsScripts (Some (Run policy script store)) = Unit {0}

-- What each status needs to have happened, whatever the devices tell. `disks` says that the count of one of the eight disks rose.
abbrev pub HasCause : Option Mode → Counts → Counts → Type 0 → Option (List ℕ) → Status → Type 0
HasCause mode old new disks last status.Done = Unit {0}
HasCause mode old new disks last status.PolicyRefused = Unit {0}
HasCause mode old new disks last status.Usage = mode ≡ None
HasCause mode old new disks last status.ScriptRefused = Unit {0}
HasCause mode old new disks last status.ReadFault = Rose old.files new.files × IsGiven mode last
HasCause mode old new disks last status.WriteFault = Rose old.writes new.writes
HasCause mode old new disks last status.DiskFault = disks × RunsScripts mode
HasCause mode old new disks last status.NoMemory = Unit {0}
HasCause mode old new disks last status.TooLarge = Unit {0}
HasCause mode old new disks last status.JournalRefused = RunsScripts mode
HasCause mode old new disks last status.SealFault = Rose old.seals new.seals × RunsScripts mode
