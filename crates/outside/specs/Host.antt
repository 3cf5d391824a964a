-- What contracts see of the adapters over the host: their counts, and the name of the latest failed read. A runtime comes with
-- the types of its files and folders.
use Rattle.std.specs.Prelude.{◌≡◌, ℕ, List, take, Option, IfSome}
use Rattle.outside.specs.Causes.{next_count}
use Rattle.outside.specs.Count.{count_of}
use Rattle.outside.specs.declared.faults.DiskStep.{DiskStep}
use Rattle.outside.specs.declared.file_disk.FileDisk.{FileDisk}
use Rattle.outside.specs.declared.host_files.HostFiles.{HostFiles}
use Rattle.outside.specs.declared.host_sink.HostSink.{HostSink}

-- the name of the latest read that failed
abbrev pub host_files_last : {R File Dir : Type 0} → HostFiles R File Dir → Option (List ℕ)
host_files_last files = files.last

-- how often a read failed
abbrev pub host_files_faults : {R File Dir : Type 0} → HostFiles R File Dir → ℕ
host_files_faults files = count_of files.faults

-- the writer below it
abbrev pub host_sink_writer : {W : Type 0} → HostSink W → W
host_sink_writer sink = sink.writer

-- how often a write failed
abbrev pub host_sink_faults : {W : Type 0} → HostSink W → ℕ
host_sink_faults sink = count_of sink.faults

-- what the latest call of the disk that failed was doing
abbrev pub file_disk_last_step : {R File Dir : Type 0} → FileDisk R File Dir → Option DiskStep
file_disk_last_step disk = disk.last_step

-- how often a call of the disk failed
abbrev pub file_disk_faults : {R File Dir : Type 0} → FileDisk R File Dir → ℕ
file_disk_faults disk = count_of disk.faults

-- no failure was noted
pub record KeepsNotes {R File Dir : Type 0} (old new : FileDisk R File Dir) : Type 0 where
  pub step : file_disk_last_step new ≡ file_disk_last_step old
  pub faults : file_disk_faults new ≡ file_disk_faults old

-- the bytes are the first limit + 1 of those that a reader had left, or all of fewer, where it tells them
abbrev pub ReadsFront : Option (List ℕ) → ℕ → List ℕ → Type 0
ReadsFront left limit bytes = IfSome left (λ all. bytes ≡ take (next_count limit) all)
