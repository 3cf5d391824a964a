-- What a journal of the tests holds.
use Rattle.std.specs.Prelude.{◌≡◌, ℕ, false, List}
use Rattle.outside.specs.MemoryDisk.{disk_content}
use Rattle.outside.specs.declared.memory_disk.MemoryDisk.{MemoryDisk}
use Rattle.journal.specs.Calls.{journal_disk, journal_failed, journal_outline}
use Rattle.journal.specs.Journal.{IsSettled}
use Rattle.journal.specs.declared.commit.Commit.{Commit}
use Rattle.journal.specs.declared.journal.Journal.{Journal}

-- the journal works, and its disk in memory holds these commits
pub record Works (journal : Journal MemoryDisk) (digest : List ℕ) (commits : List Commit) : Type 0 where
  pub works : journal_failed journal ≡ false
  pub settled : IsSettled (disk_content (journal_disk journal)) (journal_outline journal) digest commits
