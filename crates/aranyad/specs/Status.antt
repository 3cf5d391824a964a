-- The numbers of the statuses.
use Rattle.std.specs.Prelude.{ℕ}
use Rattle.aranyad.specs.declared.status.Status.{Status}
use Rattle.aranyad.specs.declared.status.Status.TheVariants.{Done, PolicyRefused, Usage, ScriptRefused, ReadFault, WriteFault, DiskFault, NoMemory, TooLarge, JournalRefused, SealFault}

-- the exit status that stands for each end
abbrev pub number_of : Status → ℕ
number_of Done = 0
number_of PolicyRefused = 1
number_of Usage = 2
number_of ScriptRefused = 3
number_of ReadFault = 4
number_of WriteFault = 5
number_of DiskFault = 6
number_of NoMemory = 7
number_of TooLarge = 8
number_of JournalRefused = 9
number_of SealFault = 10
