-- What contracts see of the disk in memory.
use Rattle.std.specs.Prelude.{◌≡◌, ◌⊎◌, ◌/◌, ℕ, List, length, take, Option}
use Rattle.outside.specs.Disk.{Content, after_part}
use Rattle.outside.specs.Plan.{Plan}
use Rattle.outside.specs.Schedule.{plan_of}
use Rattle.outside.specs.Tracked.{tracked_content}
use Rattle.outside.specs.declared.faults.DiskStep.{DiskStep}
use Rattle.outside.specs.declared.memory_disk.MemoryDisk.{MemoryDisk}

-- its content
abbrev pub disk_content : MemoryDisk → Content
disk_content disk = tracked_content disk.bytes

-- what the latest call that failed was doing
abbrev pub disk_last_step : MemoryDisk → Option DiskStep
disk_last_step disk = disk.last_step

-- its calls, counted, and those that are to fail
abbrev pub disk_plan : MemoryDisk → Plan
disk_plan disk = plan_of disk.schedule

-- a planned failure of a write: the first half of the piece was written, or nothing where memory for that was refused
abbrev pub TearsHalf : ℕ → List ℕ → Content → Content → Type 0
TearsHalf at piece old new =
    (new ≡ old) ⊎ (new ≡ after_part at (length piece) (take (length piece / 2) piece) old)
